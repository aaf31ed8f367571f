use Rattle.std.proofs.Common.{◌≡◌, ◌++◌}
use Rattle.std.specs.List.{flat_map, range_with_len}
use Rattle.reading_shows.specs.PageRows.{row_in_page}
use Rattle.reading_shows.proofs.page_rows.put_page_rows.Given as goal

abbrev pub invariant-loop-i : goal.invariant-loop-i
invariant-loop-i l = l.text.items ≡ l.initial.text.items ++ flat_map (row_in_page l.frame l.rows) (range_with_len 0 l.i)
