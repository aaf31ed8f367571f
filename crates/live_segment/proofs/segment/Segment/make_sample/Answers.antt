use Rattle.std.proofs.Common.{◌≡◌, rules, arith, [], sym, ap, subst, ◌∙◌, w32, w64, ℤ, to_z, of_z, FitsSigned}
use Rattle.std.specs.Prelude.{Some}
use Rattle.std.specs.Int.{cast_unsigned}
use Rattle.std.proofs.lemmas.Int.{to_z-of_z}
use Rattle.std.proofs.lemmas.Result.{err_from_is_err_and}
use Rattle.segment_machine.specs.declared.actor.Made.TheVariants.{Sample}
use Rattle.live_segment.specs.Steps.{Pass}
use Rattle.live_segment.proofs.lemmas.Add.SampleMade.{IsPut, may_store, may_store_value, put_one, put_two, fills, made, refused_sample}
use Rattle.live_segment.proofs.lemmas.Add.SampleWords.{fits_is_value}
use Rattle.live_segment.proofs.segment.Segment.make_sample.Goals as goal
use Rattle.live_segment.proofs.segment.Segment.make_sample.Goals.{then-word-ne0, else-word-ne0}

pub returns-in_err-at-clause-outcome : goal.returns-in_err-at-clause-outcome
returns-in_err-at-clause-outcome c =
    let p = err_from_is_err_and c.from_residual.result c.from_residual.ensures.1 in
    rw (p.1, p.2) (refused_sample c.in_err-at.field-0.0 c.args.seat.now.me.0 c.allocate.new.seat.me.0 c.in_err-at.ensures.outcome)

pub store_payload-requires-clause-may : goal.store_payload-requires-clause-may
store_payload-requires-clause-may c =
    may_store c.args.seat.now.me.0 c.in_ok-at.at c.in_ok-at.ensures.outcome.0 c.allocate.new.seat.me.0.done.raised c.in_ok-at.ensures.outcome.3 c.args.self.now c.allocate.new.seat []
    c.in_ok-at.ensures.outcome.1 (c.in_ok-at.ensures.same.0 ∙ c.requires.seat.table) c.requires.seat.recorder 0 c.args.histogram (omega arith) (omega arith)

pub store_payload-requires-then-word-ne0-clause-may :
    goal.store_payload-requires-then-word-ne0-clause-may
store_payload-requires-then-word-ne0-clause-may c =
    may_store_value c.args.self.now c.args.seat.now c.allocate.new.seat c.store_payload.new.seat c.in_ok-at.at c.in_ok-at.ensures.outcome.0 c.allocate.new.seat.me.0.done.raised c.args.histogram
    c.args.value c.in_ok-at.ensures.outcome.3 c.in_ok-at.ensures.outcome.1 c.store_payload.ensures.apart (c.in_ok-at.ensures.same.0 ∙ c.requires.seat.table)
    c.requires.seat.recorder c.store_payload.ensures.stepped c.cast_unsigned-word.result

pub publish-requires-clause-filled : goal.publish-requires-clause-filled
publish-requires-clause-filled c =
    let wide : FitsSigned w64 c.args.value = search rules in
    let word_is : c.cast_unsigned-word.result ≡ cast_unsigned w64 c.args.value =
    c.cast_unsigned-word.ensures
    ∙ (ap (λ (v : ℤ). of_z w64 (to_z w64 (of_z w64 v))) (c.from.ensures ∙ to_z-of_z w32 c.args.value c.ranges.value)
    ∙ ap (of_z w64) (to_z-of_z w64 c.args.value wide)) in
    let table = c.in_ok-at.ensures.same.0 ∙ c.requires.seat.table in
    let claims = c.in_ok-at.ensures.outcome in
    let put : IsPut c.args.seat.now.me.0 c.in_ok-at.at claims.0 c.allocate.new.seat.me.0.done.raised c.args.histogram c.args.value c.if-word-ne0.seat.me.0 =
    elim c.if-word-ne0.branch [
      | then-word-ne0 w ↦
          subst (λ (s : Pass). IsPut c.args.seat.now.me.0 c.in_ok-at.at claims.0 c.allocate.new.seat.me.0.done.raised c.args.histogram c.args.value s.me.0) (sym w.seat-is)
          (put_two c.args.self.now c.args.seat.now c.allocate.new.seat c.store_payload.new.seat c.in_ok-at.at claims.0 c.allocate.new.seat.me.0.done.raised c.args.histogram c.args.value claims.3
          claims.1 c.store_payload.ensures.apart table c.requires.seat.recorder c.store_payload.ensures.stepped c.cast_unsigned-word.result word_is
          w.store_payload-then-word-ne0.ensures.apart w.store_payload-then-word-ne0.new.seat w.store_payload-then-word-ne0.ensures.stepped)
      | else-word-ne0 w ↦
          subst (λ (s : Pass). IsPut c.args.seat.now.me.0 c.in_ok-at.at claims.0 c.allocate.new.seat.me.0.done.raised c.args.histogram c.args.value s.me.0) (sym w.seat-is)
          (put_one c.args.self.now c.args.seat.now c.allocate.new.seat c.store_payload.new.seat c.in_ok-at.at claims.0 c.allocate.new.seat.me.0.done.raised c.args.histogram c.args.value claims.3
          claims.1 c.store_payload.ensures.apart table c.requires.seat.recorder c.store_payload.ensures.stepped (sym word_is ∙ w.if-word-ne0.false))
    ] in (
      Sample c.args.histogram c.args.value,
      ap (λ (v : ℤ). Some (Sample c.args.histogram v)) (to_z-of_z w32 c.args.value c.ranges.value),
      fills c.args.seat.now.me.0 c.in_ok-at.at claims.0 c.allocate.new.seat.me.0.done.raised c.args.histogram c.args.value c.if-word-ne0.seat.me.0 claims.3 put
          (fits_is_value c.args.value c.ranges.value) c.requires.sparse,
    )

pub returns-clause-outcome : goal.returns-clause-outcome
returns-clause-outcome c =
    let wide : FitsSigned w64 c.args.value = search rules in
    let word_is : c.cast_unsigned-word.result ≡ cast_unsigned w64 c.args.value =
    c.cast_unsigned-word.ensures
    ∙ (ap (λ (v : ℤ). of_z w64 (to_z w64 (of_z w64 v))) (c.from.ensures ∙ to_z-of_z w32 c.args.value c.ranges.value)
    ∙ ap (of_z w64) (to_z-of_z w64 c.args.value wide)) in
    let table = c.in_ok-at.ensures.same.0 ∙ c.requires.seat.table in
    let claims = c.in_ok-at.ensures.outcome in
    let put : IsPut c.args.seat.now.me.0 c.in_ok-at.at claims.0 c.allocate.new.seat.me.0.done.raised c.args.histogram c.args.value c.if-word-ne0.seat.me.0 =
    elim c.if-word-ne0.branch [
      | then-word-ne0 w ↦
          subst (λ (s : Pass). IsPut c.args.seat.now.me.0 c.in_ok-at.at claims.0 c.allocate.new.seat.me.0.done.raised c.args.histogram c.args.value s.me.0) (sym w.seat-is)
          (put_two c.args.self.now c.args.seat.now c.allocate.new.seat c.store_payload.new.seat c.in_ok-at.at claims.0 c.allocate.new.seat.me.0.done.raised c.args.histogram c.args.value claims.3
          claims.1 c.store_payload.ensures.apart table c.requires.seat.recorder c.store_payload.ensures.stepped c.cast_unsigned-word.result word_is
          w.store_payload-then-word-ne0.ensures.apart w.store_payload-then-word-ne0.new.seat w.store_payload-then-word-ne0.ensures.stepped)
      | else-word-ne0 w ↦
          subst (λ (s : Pass). IsPut c.args.seat.now.me.0 c.in_ok-at.at claims.0 c.allocate.new.seat.me.0.done.raised c.args.histogram c.args.value s.me.0) (sym w.seat-is)
          (put_one c.args.self.now c.args.seat.now c.allocate.new.seat c.store_payload.new.seat c.in_ok-at.at claims.0 c.allocate.new.seat.me.0.done.raised c.args.histogram c.args.value claims.3
          claims.1 c.store_payload.ensures.apart table c.requires.seat.recorder c.store_payload.ensures.stepped (sym word_is ∙ w.if-word-ne0.false))
    ] in
    made c.in_ok-at.at c.args.histogram c.args.value c.args.seat.now.me.0 c.allocate.new.seat.me.0 c.if-word-ne0.seat.me.0 c.publish.new.seat.me.0
    c.in_ok-at.ensures.unspoiled claims put
    (c.publish.ensures.published (Sample c.args.histogram c.args.value)
    (ap (λ (v : ℤ). Some (Sample c.args.histogram v)) (to_z-of_z w32 c.args.value c.ranges.value)))
