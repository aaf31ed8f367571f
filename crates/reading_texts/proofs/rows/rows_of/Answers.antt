use Rattle.std.proofs.Common.{◌≡◌, ◌+◌, ◌<◌, length, get_or, pos, take, rules, arith}
use mir.Syntax.{w32, w64}
use mir.Val.{SFits}
use Rattle.std.proofs.lemmas.Int.{to_z-of_z}
use Rattle.std.specs.List.{sum_by}
use Rattle.std.proofs.lemmas.List.Sums.{sum_by_more, sum_by_more_le}
use Rattle.std.proofs.lemmas.List.FromFn.{map-range_with_len_more}
use Rattle.image_reader.specs.Views.{histogram_view}
use Rattle.reading_texts.specs.Rows.{row_at}
use Rattle.reading_texts.proofs.rows.rows_of.Goals as goal

pub overflow_add-up_to : goal.overflow_add-up_to
overflow_add-up_to c =
    let counts = c.args.hist.now.counts.items in
    let within : c.loop-i.i < length counts = omega (arith, c.loop-i-test.true) in
    let more = sum_by_more_le (λ count. count.1) counts c.loop-i.i (pos 0, 0) within in
    rw c.deref-bucket-items.ensures.value (omega (arith, more, c.requires.small, c.loop-i.invariant.0))

pub loop-i-preserved : goal.loop-i-preserved
loop-i-preserved c =
    let hist = histogram_view c.args.hist.now in
    let within : c.loop-i.i < length hist.counts = omega (arith, c.loop-i-test.true) in
    let more = sum_by_more (λ count. count.1) hist.counts c.loop-i.i (pos 0, 0) within in
    let longer = map-range_with_len_more (row_at hist) 0 c.loop-i.i c.loop-i.i (omega arith) in
    let low_fits : SFits w32 (get_or c.deref-bucket-items.result.now c.loop-i.i (pos 0, 0)).0 = search rules in
    let high_fits : SFits w64 c.high-high.result = search rules in
    let pushed = rw (to_z-of_z w32 _ low_fits, to_z-of_z w64 _ high_fits, c.deref-bucket-items.ensures.value, c.high-high.ensures) at c.in_ok-push.ensures.items in
    let total : c.loop-i.up_to + (get_or hist.counts c.loop-i.i (pos 0, 0)).1 ≡ sum_by (λ count. count.1) (take (c.loop-i.i + 1) hist.counts) = omega (arith, more, c.loop-i.invariant.0) in
    (rw c.deref-bucket-items.ensures.value total, cc (pushed, total, c.loop-i.invariant.1, longer))
