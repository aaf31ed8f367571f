use Rattle.std.proofs.Common.{◌≡◌, ◌++◌}
use Rattle.std.specs.List.{flat_map, range_with_len}
use Rattle.reading_shows.specs.Showing.{line_at}
use Rattle.reading_shows.proofs.lines.put_lines.Given as goal

abbrev pub invariant-loop-i : goal.invariant-loop-i
invariant-loop-i l =
    l.text.items ≡ l.initial.text.items ++ flat_map (line_at l.style l.columns l.frame l.cames l.rows) (range_with_len 0 l.i)
