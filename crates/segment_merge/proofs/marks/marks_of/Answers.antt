use Rattle.std.proofs.Common.{◌≡◌, ℕ, ◌+◌, ◌<◌, ℤ, List, [], ◌∷◌, ◌++◌, length, take, drop, inl, inr, sym, ap, subst, arith}
use Rattle.std.specs.Prelude.{◌⊎◌}
use Rattle.std.specs.List.{All, zip}
use Rattle.std.proofs.lemmas.List.{length_push}
use Rattle.segment_machine.specs.Actor.{units_listed}
use Rattle.segment_merge.specs.Marks.{IsGone, IsMark, IsNextNoted, ReachesItsMark, count_at, key_marks}
use Rattle.segment_merge.proofs.FewerUnits.{below_more, gone_fewer, left_fewer}
use Rattle.segment_merge.proofs.MarkSteps.{IsTurned, mark_room, marks_whole, risen_more, turned}
use Rattle.segment_merge.proofs.marks.marks_of.Goals as goal
use Rattle.segment_merge.proofs.marks.marks_of.Goals.{then-mark-gt0, else-mark-gt0}

pub loop-count-preserved : goal.loop-count-preserved
loop-count-preserved c =
    let noted : List (ℤ × ℕ) = c.args.noted.now in
    let counts : List (ℤ × ℕ) = c.args.counts.now in
    let marks : List ℕ = c.loop-count.marks.items in
    let i : ℕ = c.loop-count.count-index in
    let mark : ℕ = c.in-Some.mark in
    let near : i < length counts = omega (arith, c.loop-count-test.true) in
    let many : length marks ≡ i = c.loop-count.invariant.many in
    let is : IsMark noted c.loop-count.next (count_at counts i).0 (count_at counts i).1 mark = c.in-Some.ensures in
    let goes : ((0 < mark) × IsNextNoted noted (c.loop-count.next + 1) c.if-mark-gt0.next) ⊎ ((mark ≡ 0) × (c.if-mark-gt0.next ≡ c.loop-count.next)) =
    elim c.if-mark-gt0.branch [
      | then-mark-gt0 w ↦ inl (
        omega (arith, w.if-mark-gt0.true),
        subst (IsNextNoted noted (c.loop-count.next + 1)) (sym w.next-is) w.next_noted-next-then-mark-gt0.ensures,
      )
      | else-mark-gt0 w ↦ inr (omega (arith, w.if-mark-gt0.false), w.next-is)
    ] in
    let pushed : c.push_reserved.new.self.items ≡ marks ++ mark ∷ [] = c.push_reserved.ensures.items in
    let turns : IsTurned noted counts marks i mark c.if-mark-gt0.next =
    turned noted counts marks i mark c.loop-count.next c.if-mark-gt0.next near many c.loop-count.invariant.within c.loop-count.invariant.some
    c.loop-count.invariant.units is goes in
    let more = length_push marks mark in
    let long = ap length pushed in record {
      many = omega (arith, long, more, many);
      room = omega (arith, c.push_reserved.ensures.capacity, c.loop-count.invariant.room);
      within = turns.within;
      some = turns.some;
      units = subst (λ (list : List ℕ). (key : ℤ) → units_listed (key_marks (take (i + 1) counts) list) key + units_listed (drop c.if-mark-gt0.next noted) key ≡ units_listed noted key)
          (sym pushed) turns.units;
      risen = subst (λ (list : List ℕ). All ReachesItsMark (zip (take (i + 1) counts) list)) (sym pushed)
          (risen_more counts marks i mark near many c.loop-count.invariant.risen (mark_room noted c.loop-count.next (count_at counts i).0 (count_at counts i).1 mark is));
      below = λ ascend there. below_more noted counts i c.loop-count.next ascend mark c.if-mark-gt0.next is goes c.loop-count.invariant.some
          (c.loop-count.invariant.below ascend) there;
    }

pub returns : goal.returns
returns c =
    marks_whole c.args.noted.now c.args.counts.now c.loop-count.marks.items c.loop-count.count-index c.loop-count.next
    (omega (arith, c.loop-count-test.false)) (omega (arith, c.loop-count.auto.count-index-end)) c.loop-count.invariant.many
    (omega (arith, c.if-next-noted.false)) c.loop-count.invariant.units c.loop-count.invariant.risen

pub returns-in_default : goal.returns-in_default
returns-in_default c = λ ascend_noted ascend.
    let noted : List (ℤ × ℕ) = c.args.noted.now in
    let counts : List (ℤ × ℕ) = c.args.counts.now in
    let i : ℕ = c.loop-count.count-index in
    let gone : IsGone noted c.loop-count.next (count_at counts i).0 (count_at counts i).1 = c.in_default.ensures in
    gone_fewer noted counts i c.loop-count.next ascend_noted ascend (omega (arith, c.loop-count-test.true)) gone (c.loop-count.invariant.some gone.0)
    (c.loop-count.invariant.below ascend_noted gone.0)

pub returns-then-next-noted : goal.returns-then-next-noted
returns-then-next-noted c = λ ascend_noted ascend.
    let there : c.loop-count.next < length c.args.noted.now = omega (arith, c.if-next-noted.true) in
    left_fewer c.args.noted.now c.args.counts.now c.loop-count.count-index c.loop-count.next ascend_noted there (c.loop-count.invariant.some there)
    (omega (arith, c.loop-count-test.false)) (c.loop-count.invariant.below ascend_noted there)
