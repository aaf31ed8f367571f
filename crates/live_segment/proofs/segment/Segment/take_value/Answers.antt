use Rattle.std.proofs.Common.{ℕ, ℤ, w32, FitsSigned, rules, Option, Some, sym, subst}
use Rattle.std.proofs.lemmas.Int.{to_z-of_z}
use Rattle.live_segment.specs.Known.{known_view}
use Rattle.live_segment.specs.List.SampleRecords.{CountsSample}
use Rattle.live_segment.specs.List.Values.{TakesValue}
use Rattle.live_segment.proofs.lemmas.Delta.OneValue.{takes_nothing, may_take, takes_none, takes_some}
use Rattle.live_segment.proofs.segment.Segment.take_value.Goals as goal

pub returns-in_err-value-clause-takes : goal.returns-in_err-value-clause-takes
returns-in_err-value-clause-takes c =
    let known = known_view c.args.histogram.now in
    subst (λ (r : Option (ℤ × ℕ)). TakesValue c.args.self.now known c.args.at r c.args.seat.now c.sample_at.new.seat) (sym c.from_residual.ensures)
    (takes_nothing c.args.at c.requires.takes c.sample_at.ensures.same c.sample_at.ensures.view
    (subst (λ (r : Option (ℤ × ℕ)). CountsSample known.reference c.args.at r c.sample_at.new.seat.me.0) c.in_err-value.was c.sample_at.ensures.counts))

pub take_sample-units-requires-clause-may : goal.take_sample-units-requires-clause-may
take_sample-units-requires-clause-may c =
    let known = known_view c.args.histogram.now in (
      known,
      c.in_ok-value.value,
      may_take c.args.at c.requires.takes c.in_ok-value.ensures.same c.in_ok-value.ensures.view c.in_ok-value.ensures.counts,
    )

pub returns-then-units-eq0-clause-takes : goal.returns-then-units-eq0-clause-takes
returns-then-units-eq0-clause-takes c =
    let known = known_view c.args.histogram.now in
    let has = c.in_ok-value.ensures.counts in
    let may = may_take c.args.at c.requires.takes c.in_ok-value.ensures.same c.in_ok-value.ensures.view has in
    takes_none c.args.at c.requires.takes c.in_ok-value.ensures.same c.in_ok-value.ensures.view has (c.take_sample-units.ensures.taken known c.in_ok-value.value may) c.if-units-eq0.true

pub returns-clause-takes : goal.returns-clause-takes
returns-clause-takes c =
    let known = known_view c.args.histogram.now in
    let fits : FitsSigned w32 c.in_ok-value.value = search rules in
    let has = c.in_ok-value.ensures.counts in
    let may = may_take c.args.at c.requires.takes c.in_ok-value.ensures.same c.in_ok-value.ensures.view has in
    subst (λ (v : ℤ). TakesValue c.args.self.now known c.args.at (Some (v, c.take_sample-units.result)) c.args.seat.now c.take_sample-units.new.seat)
    (sym (to_z-of_z w32 c.in_ok-value.value fits))
    (takes_some c.args.at c.requires.takes c.in_ok-value.ensures.same c.in_ok-value.ensures.view has (c.take_sample-units.ensures.taken known c.in_ok-value.value may) c.if-units-eq0.false)
