use Rattle.std.proofs.Common.{◌≡◌, take, map}
use Rattle.std.specs.List.{range_with_len, sum_by}
use Rattle.image_reader.specs.Views.{histogram_view}
use Rattle.reading_texts.specs.Rows.{row_at}
use Rattle.reading_texts.proofs.rows.rows_of.Given as goal

abbrev pub invariant-loop-i : goal.invariant-loop-i
invariant-loop-i l =
    (l.up_to ≡ sum_by (λ count. count.1) (take l.i l.hist.counts.items))
    × (l.rows.items ≡ map (row_at (histogram_view l.hist)) (range_with_len 0 l.i))
