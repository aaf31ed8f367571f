use Rattle.std.proofs.Common.{rules, ◌≡◌, ◌∙◌, ◌<◌, ℕ, ℤ, List, length, get_or, arith}
use Rattle.segment_merge.specs.Cut.{kept, kept_of, left_behind}
use Rattle.segment_merge.specs.Marks.{count_at}
use Rattle.segment_merge.specs.Remainder.{marked}
use Rattle.segment_merge.proofs.CutSteps.{kept_all, kept_more}
use Rattle.segment_merge.proofs.noting.cut_back.Goals as goal

pub loop-i-preserved : goal.loop-i-preserved
loop-i-preserved c =
    let counts : List (ℤ × ℕ) = c.loop-i.counts in
    let init : List (ℤ × ℕ) = c.args.counts.now in
    let marks : List ℕ = c.args.marks.now in
    let i : ℕ = c.loop-i.i in
    let left : ℕ = c.loop-i.left in
    let long : length counts ≡ length init = omega (arith, c.loop-i.auto.counts) in
    let near : i < length counts = omega (arith, c.loop-i-test.true, long) in
    let mark : c.unwrap_or-mark.result ≡ get_or marks i 0 = search rules in
    let is : c.kept_next-behind.result ≡ (kept_of left (count_at counts i, get_or marks i 0), left_behind left (count_at counts i, get_or marks i 0)) =
    c.kept_next-behind.ensures ∙ (λ k. (kept_of left (count_at counts i, mark k), left_behind left (count_at counts i, mark k))) in
    let (front, rest) = kept_more init counts marks i left (kept c.args.items (marked init marks)) long c.loop-i.invariant.front
    c.kept_next-behind.result.0 c.kept_next-behind.result.1 near c.loop-i.invariant.rest is in
    record { front = front; rest = rest }

pub returns : goal.returns
returns c =
    let long : length c.loop-i.counts ≡ length c.args.counts.now = omega (arith, c.loop-i.auto.counts) in
    kept_all c.args.counts.now c.loop-i.counts c.args.marks.now c.loop-i.i c.loop-i.left (kept c.args.items (marked c.args.counts.now c.args.marks.now)) long
    c.loop-i.invariant.front (omega (arith, c.loop-i-test.false, long))
