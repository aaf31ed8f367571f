use Rattle.std.proofs.Common.{◌≡◌, ◌*◌, ◌≤◌, ℤ, [], refl, sym, ap, ◌∙◌, subst, w64, of_z, to_z}
use Rattle.std.specs.Prelude.{unsigned_abs}
use Rattle.std.proofs.lemmas.Int.{to_z-of_z}
use Rattle.live_segment.specs.Known.{known_view}
use Rattle.live_segment.specs.Add.Finish.{IsSummed, item_with}
use Rattle.live_segment.proofs.lemmas.Add.Finished.{may_amount, still_same, adds, leaves_out}
use Rattle.live_segment.proofs.segment.Segment.sum_sample.Goals as goal

pub returns-then-amount-eq0-clause-summed : goal.returns-then-amount-eq0-clause-summed
returns-then-amount-eq0-clause-summed c value units is small =
    leaves_out (known_view c.args.histogram.now) value units c.args.amount [] c.args.seat.now.me.0 is.counted
    (sym (to_z-of_z w64 c.args.amount c.ranges.amount) ∙ ap (to_z w64) c.if-amount-eq0.true)

pub add_amount-requires-clause-may : goal.add_amount-requires-clause-may
add_amount-requires-clause-may c =
    let same : to_z w64 (of_z w64 c.args.amount) ≡ c.args.amount = to_z-of_z w64 c.args.amount c.ranges.amount in
    let (value, units, is, small) = c.requires.counted in
    may_amount (known_view c.args.histogram.now) value units _ c.args.seat.now is
    (λ e. c.if-amount-eq0.false (ap (of_z w64) (sym same ∙ e))) _ refl
    (subst (λ (n : ℤ). unsigned_abs n ≤ 2147483648 * units) (sym same) small)

pub returns-clause-same : goal.returns-clause-same
returns-clause-same c =
    let same : to_z w64 (of_z w64 c.args.amount) ≡ c.args.amount = to_z-of_z w64 c.args.amount c.ranges.amount in
    let (value, units, is, small) = c.requires.counted in
    still_same (known_view c.args.histogram.now) value units _ c.args.seat.now is
    (λ e. c.if-amount-eq0.false (ap (of_z w64) (sym same ∙ e))) _ _ c.add_amount.new.seat refl c.add_amount.ensures

pub returns-clause-summed : goal.returns-clause-summed
returns-clause-summed c value units is small =
    let same : to_z w64 (of_z w64 c.args.amount) ≡ c.args.amount = to_z-of_z w64 c.args.amount c.ranges.amount in
    subst (λ (n : ℤ). IsSummed (item_with (known_view c.args.histogram.now) value units n) [] c.args.seat.now.me.0 c.add_amount.new.seat.me.0) same
    (adds (known_view c.args.histogram.now) value units _ c.args.seat.now is
    (λ e. c.if-amount-eq0.false (ap (of_z w64) (sym same ∙ e))) _ _ c.add_amount.new.seat refl c.add_amount.ensures)
