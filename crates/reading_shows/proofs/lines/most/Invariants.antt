use Rattle.std.proofs.Common.{◌≡◌, take}
use Rattle.reading_shows.specs.Showing.{most_of}
use Rattle.reading_shows.proofs.lines.most.Given as goal

abbrev pub invariant-loop-row : goal.invariant-loop-row
invariant-loop-row l = l.most ≡ most_of (take l.row-index l.rows)
