use Rattle.std.proofs.Common.{◌≡◌, ℤ, ◌∷◌, [], refl, rules, sym, ◌∙◌, subst, w32, w64, of_z, to_z}
use Rattle.std.proofs.lemmas.Int.{to_z-of_z}
use Rattle.std.proofs.lemmas.Result.{err_from_is_err_and}
use Rattle.live_segment.specs.Alloc.Claims.{ClaimsFor}
use Rattle.bucket_ranges.specs.Ranges.{boundaries_of}
use Rattle.bucket_ranges.specs.Tally.{amount_of}
use Rattle.live_segment.specs.Add.Finish.{HasEnded, item_of, item_with}
use Rattle.live_segment.specs.Known.{known_view}
use Rattle.live_segment.specs.Add.Refusal.{IsNotCounted}
use Rattle.live_segment.specs.Add.Progress.{CountsAlone, HasCounted}
use Rattle.live_segment.proofs.lemmas.Add.TurnedAway.{turned_rests, turned_refused}
use Rattle.live_segment.proofs.lemmas.Add.Blocks.{claims_kept, keeps_ended}
use Rattle.live_segment.proofs.lemmas.Add.Added.{counts_alone, has_sample, added, added_rests}
use Rattle.live_segment.proofs.lemmas.List.IndexKept.{kept_on}
use Rattle.live_segment.proofs.segment.Segment.add_sample.Goals as goal

pub count_value-requires-clause-may : goal.count_value-requires-clause-may
count_value-requires-clause-may c =
    let known = known_view c.args.histogram.now in
    subst (λ (v : ℤ). CountsAlone c.args.seat.now.me.0 known (item_of known v c.args.units)) (sym (to_z-of_z w32 c.args.value c.ranges.value))
    (counts_alone known (item_of known c.args.value c.args.units) c.args.seat.now.me.0 c.requires.ready.rests c.requires.ready.right.alone refl refl c.requires.units.0 c.requires.units.1)

pub returns-in_err-count_value-clause-rests : goal.returns-in_err-count_value-clause-rests
returns-in_err-count_value-clause-rests c =
    let known = known_view c.args.histogram.now in
    let not = subst (λ (v : ℤ). IsNotCounted c.in_err-count_value.field-0.0 known v c.args.units c.args.seat.now.me.0 c.count_value.new.seat.me.0)
    (to_z-of_z w32 c.args.value c.ranges.value) c.in_err-count_value.ensures.outcome in
    turned_rests (item_of known c.args.value c.args.units) c.args.seat.now.me.0 not.last c.count_value.new.seat.me.0
    c.requires.ready.rests c.requires.units.0 c.requires.units.1 not.looks not.ends not.idle

pub returns-in_err-count_value-clause-outcome : goal.returns-in_err-count_value-clause-outcome
returns-in_err-count_value-clause-outcome c =
    let known = known_view c.args.histogram.now in
    let not = subst (λ (v : ℤ). IsNotCounted c.in_err-count_value.field-0.0 known v c.args.units c.args.seat.now.me.0 c.count_value.new.seat.me.0)
    (to_z-of_z w32 c.args.value c.ranges.value) c.in_err-count_value.ensures.outcome in
    let p = err_from_is_err_and c.from_residual.result c.from_residual.ensures.1 in
    rw (p.1, p.2) (
      turned_refused (item_of known c.args.value c.args.units) c.args.seat.now.me.0 not.last c.count_value.new.seat.me.0
          c.requires.ready.rests c.requires.units.0 c.requires.units.1 not.looks not.ends not.untouched,
      not.lacks,
    )

pub finish_sample-requires-clause-counted : goal.finish_sample-requires-clause-counted
finish_sample-requires-clause-counted c =
    let known = known_view c.args.histogram.now in
    let has = subst (λ (v : ℤ). HasCounted (item_of known v c.args.units) c.args.seat.now.me.0 c.count_value.new.seat.me.0)
    (to_z-of_z w32 c.args.value c.ranges.value) c.in_ok-count_value.ensures.outcome in (
      c.args.value,
      has_sample known c.args.value c.args.units c.args.seat.now.me.0 c.count_value.new.seat.me.0 c.requires.ready.rests c.requires.ready.right.alone
          c.requires.units.0 c.requires.units.1 has,
    )

pub returns-clause-rests : goal.returns-clause-rests
returns-clause-rests c =
    let known = known_view c.args.histogram.now in
    let has = subst (λ (v : ℤ). HasCounted (item_of known v c.args.units) c.args.seat.now.me.0 c.count_value.new.seat.me.0)
    (to_z-of_z w32 c.args.value c.ranges.value) c.in_ok-count_value.ensures.outcome in
    let counted = has_sample known c.args.value c.args.units c.args.seat.now.me.0 c.count_value.new.seat.me.0 c.requires.ready.rests
    c.requires.ready.right.alone c.requires.units.0 c.requires.units.1 has in
    let amount : to_z w64 (of_z w64 c.amount_of-amount.result) ≡ amount_of (boundaries_of c.args.histogram.now.spec) (c.args.value, c.args.units) =
    to_z-of_z w64 c.amount_of-amount.result (search rules) ∙ (c.amount_of-amount.ensures.amount
    ∙ (λ i. amount_of (c.requires.ready.right.ranges i) (to_z-of_z w32 c.args.value c.ranges.value i, c.args.units))) in
    let ended = subst (λ (n : ℤ). HasEnded (item_with known c.args.value c.args.units n ∷ []) c.count_value.new.seat.me.0 c.finish_sample.new.seat.me.0)
    amount (c.finish_sample.ensures.ended c.args.value counted) in
    added_rests known c.args.value c.args.units c.args.seat.now.me.0 c.count_value.new.seat.me.0 c.requires.ready.rests c.requires.ready.right.alone
    c.requires.units.0 c.requires.units.1 has c.finish_sample.new.seat.me.0 ended

pub returns-clause-outcome : goal.returns-clause-outcome
returns-clause-outcome c =
    let known = known_view c.args.histogram.now in
    let has = subst (λ (v : ℤ). HasCounted (item_of known v c.args.units) c.args.seat.now.me.0 c.count_value.new.seat.me.0)
    (to_z-of_z w32 c.args.value c.ranges.value) c.in_ok-count_value.ensures.outcome in
    let counted = has_sample known c.args.value c.args.units c.args.seat.now.me.0 c.count_value.new.seat.me.0 c.requires.ready.rests
    c.requires.ready.right.alone c.requires.units.0 c.requires.units.1 has in
    let amount : to_z w64 (of_z w64 c.amount_of-amount.result) ≡ amount_of (boundaries_of c.args.histogram.now.spec) (c.args.value, c.args.units) =
    to_z-of_z w64 c.amount_of-amount.result (search rules) ∙ (c.amount_of-amount.ensures.amount
    ∙ (λ i. amount_of (c.requires.ready.right.ranges i) (to_z-of_z w32 c.args.value c.ranges.value i, c.args.units))) in
    let ended = subst (λ (n : ℤ). HasEnded (item_with known c.args.value c.args.units n ∷ []) c.count_value.new.seat.me.0 c.finish_sample.new.seat.me.0)
    amount (c.finish_sample.ensures.ended c.args.value counted) in
    added known c.args.value c.args.units c.args.seat.now.me.0 c.count_value.new.seat.me.0 c.requires.ready.rests c.requires.ready.right.alone
    c.requires.units.0 c.requires.units.1 has c.finish_sample.new.seat.me.0 ended

pub returns-clause-claims : goal.returns-clause-claims
returns-clause-claims c =
    let known = known_view c.args.histogram.now in
    let has = subst (λ (v : ℤ). HasCounted (item_of known v c.args.units) c.args.seat.now.me.0 c.count_value.new.seat.me.0)
    (to_z-of_z w32 c.args.value c.ranges.value) c.in_ok-count_value.ensures.outcome in
    let counted = has_sample known c.args.value c.args.units c.args.seat.now.me.0 c.count_value.new.seat.me.0 c.requires.ready.rests
    c.requires.ready.right.alone c.requires.units.0 c.requires.units.1 has in
    let claims = subst (λ (v : ℤ). ClaimsFor known v c.args.seat.now.me.0 c.count_value.new.seat.me.0)
    (to_z-of_z w32 c.args.value c.ranges.value) c.in_ok-count_value.ensures.claims in
    claims_kept known c.args.value c.args.seat.now.me.0 c.count_value.new.seat.me.0 c.finish_sample.new.seat.me.0 claims
    (keeps_ended _ c.count_value.new.seat.me.0 c.finish_sample.new.seat.me.0 (c.finish_sample.ensures.ended c.args.value counted))

pub returns-clause-indexed : goal.returns-clause-indexed
returns-clause-indexed c =
    let known = known_view c.args.histogram.now in
    let has = subst (λ (v : ℤ). HasCounted (item_of known v c.args.units) c.args.seat.now.me.0 c.count_value.new.seat.me.0)
    (to_z-of_z w32 c.args.value c.ranges.value) c.in_ok-count_value.ensures.outcome in
    let counted = has_sample known c.args.value c.args.units c.args.seat.now.me.0 c.count_value.new.seat.me.0 c.requires.ready.rests
    c.requires.ready.right.alone c.requires.units.0 c.requires.units.1 has in
    kept_on c.args.self.now.setting.shape.size c.count_value.new.samples c.count_value.new.seat.me.0 c.finish_sample.new.seat.me.0
    (keeps_ended _ c.count_value.new.seat.me.0 c.finish_sample.new.seat.me.0 (c.finish_sample.ensures.ended c.args.value counted))
    c.in_ok-count_value.ensures.indexed
