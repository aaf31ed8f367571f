use Rattle.std.proofs.Common.{◌∙◌, ◌/◌, ◌%◌, ◌≤◌, ◌++◌, ap, arith}
use Rattle.reading_texts.proofs.Adding.{written-both}
use Rattle.reading_shows.specs.Bars.{block}
use Rattle.reading_shows.specs.Columns.{times}
use Rattle.reading_shows.proofs.Cells.{times-by, times-first}
use Rattle.reading_shows.proofs.bars.put_full_cells.Goals as goal

pub returns : goal.returns
returns c =
    let first = c.args.text.now.items in
    let count = c.args.count in
    let few : count % 200 ≤ 200 = omega arith in
    let many = rw c.as_flattened.ensures.value at c.in_ok-put_times.ensures in
    let rest = rw (c.as_flattened-2.ensures.value, times-first 200 (count % 200) (block 8) few) at c.in_ok-extend_from_slice.ensures.items in
    written-both first (times (count / 200) (times 200 (block 8))) (times (count % 200) (block 8)) many rest
    ∙ ap (λ s. first ++ s) (times-by 200 count (block 8))
