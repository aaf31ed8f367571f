use Rattle.std.proofs.Common.{◌≡◌, None, take}
use Rattle.std.specs.List.{find}
use Rattle.reading_shows.specs.Showing.{has_units}
use Rattle.reading_shows.proofs.heading.least.Given as goal

abbrev pub invariant-loop-row : goal.invariant-loop-row
invariant-loop-row l = find has_units (take l.row-index l.rows) ≡ None
