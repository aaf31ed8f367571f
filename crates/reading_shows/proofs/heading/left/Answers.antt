use Rattle.std.proofs.Common.{◌≡◌, ◌≤◌, ◌<◌, ◌+◌, ◌-◌, ℕ, length, take, get_or, pos, arith}
use Rattle.std.specs.List.{range_with_len, sum_by}
use Rattle.std.proofs.lemmas.List.Sums.{sum_by_more, sum_by_more_le}
use Rattle.reading_shows.proofs.Steps.{sum-more}
use Rattle.reading_shows.proofs.heading.left.Goals as goal

pub overflow_add-left : goal.overflow_add-left
overflow_add-left c =
    let counts = c.args.hist.now.counts.items in
    let within : c.loop-i.i < length counts = omega (arith, c.loop-i-test.true) in
    let more = sum_by_more_le (λ count. count.1) counts c.loop-i.i (pos 0, 0) within in
    let taken = rw (c.deref-bucket-items.ensures.value, c.as_slice.ensures.value) at c.left_at-left.ensures in
    omega (arith, more, c.requires.small, c.loop-i.invariant.1, taken)

pub loop-i-preserved : goal.loop-i-preserved
loop-i-preserved c =
    let counts = c.args.hist.now.counts.items in
    let marks = c.args.hist.now.marks.items in
    let within : c.loop-i.i < length counts = omega (arith, c.loop-i-test.true) in
    let part : ℕ → ℕ = λ i. (get_or counts i (pos 0, 0)).1 - get_or marks i 0 in
    let summed = sum-more part c.loop-i.i in
    let more = sum_by_more (λ count. count.1) counts c.loop-i.i (pos 0, 0) within in
    let taken = rw (c.deref-bucket-items.ensures.value, c.as_slice.ensures.value) at c.left_at-left.ensures in
    let total : c.loop-i.left + c.left_at-left.result ≡ sum_by part (range_with_len 0 (c.loop-i.i + 1)) = omega (arith, summed, taken, c.loop-i.invariant.0) in
    let below : c.loop-i.left + c.left_at-left.result ≤ sum_by (λ count. count.1) (take (c.loop-i.i + 1) counts) = omega (arith, more, taken, c.loop-i.invariant.1) in
    (total, below)
