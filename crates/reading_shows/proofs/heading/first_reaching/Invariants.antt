use Rattle.std.proofs.Common.{◌≡◌, None, take}
use Rattle.std.specs.List.{find}
use Rattle.reading_shows.specs.Showing.{reaches}
use Rattle.reading_shows.proofs.heading.first_reaching.Given as goal

abbrev pub invariant-loop-row : goal.invariant-loop-row
invariant-loop-row l = find (reaches l.total l.thousandths) (take l.row-index l.rows) ≡ None
