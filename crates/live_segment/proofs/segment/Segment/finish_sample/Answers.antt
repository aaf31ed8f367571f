use Rattle.std.proofs.Common.{◌≡◌, ◌*◌, ◌≤◌, ℤ, ◌∷◌, [], refl, sym, subst, w64, of_z, to_z}
use Rattle.std.specs.Prelude.{unsigned_abs}
use Rattle.std.proofs.lemmas.Int.{to_z-of_z}
use Rattle.std.proofs.lemmas.List.Elements.{All-nil}
use Rattle.live_segment.specs.Known.{known_view}
use Rattle.live_segment.specs.Add.Finish.{HasEnded, item_with}
use Rattle.live_segment.proofs.lemmas.Add.Finished.{may_last, ends_so}
use Rattle.live_segment.proofs.segment.Segment.finish_sample.Goals as goal

pub sum_sample-requires-clause-counted : goal.sum_sample-requires-clause-counted
sum_sample-requires-clause-counted c =
    let same : to_z w64 (of_z w64 c.args.amount) ≡ c.args.amount = to_z-of_z w64 c.args.amount c.ranges.amount in
    let (value, is) = c.requires.counted in
    (value, c.args.units, is, subst (λ (n : ℤ). unsigned_abs n ≤ 2147483648 * c.args.units) (sym same) c.requires.small)

pub finish_entry-requires-clause-may : goal.finish_entry-requires-clause-may
finish_entry-requires-clause-may c =
    let same : to_z w64 (of_z w64 c.args.amount) ≡ c.args.amount = to_z-of_z w64 c.args.amount c.ranges.amount in
    let (value, is) = c.requires.counted in
    let was = is.counted in
    let small = subst (λ (n : ℤ). unsigned_abs n ≤ 2147483648 * c.args.units) (sym same) c.requires.small in
    may_last _ _ (known_view c.args.histogram.now) _ c.sum_sample.new.seat (c.sum_sample.ensures.summed value c.args.units is small)
    was.recorder was.alone refl was.some (All-nil _) _ _ refl (sym c.from.ensures)

pub returns-clause-ended : goal.returns-clause-ended
returns-clause-ended c value is =
    let same : to_z w64 (of_z w64 c.args.amount) ≡ c.args.amount = to_z-of_z w64 c.args.amount c.ranges.amount in
    let was = is.counted in
    let known = known_view c.args.histogram.now in
    let small = subst (λ (n : ℤ). unsigned_abs n ≤ 2147483648 * c.args.units) (sym same) c.requires.small in
    subst (λ (n : ℤ). HasEnded (item_with known value c.args.units n ∷ []) c.args.seat.now.me.0 c.finish_entry.new.seat.me.0) same
    (ends_so _ _ known _ c.sum_sample.new.seat (c.sum_sample.ensures.summed value c.args.units is small)
    was.recorder was.alone refl was.some (All-nil _) _ _ _ _ c.finish_entry.ensures)
