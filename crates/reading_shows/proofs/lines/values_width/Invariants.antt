use Rattle.std.proofs.Common.{◌≡◌, take}
use Rattle.std.specs.List.{fold}
use Rattle.reading_shows.specs.Showing.{widened}
use Rattle.reading_shows.proofs.lines.values_width.Given as goal

abbrev pub invariant-loop-row : goal.invariant-loop-row
invariant-loop-row l = l.width ≡ fold (widened l.row_names) 6 (take l.row-index l.rows)
