use Rattle.std.proofs.Common.{◌≤◌, ℕ, ℤ, subst, w32, arith}
use Rattle.std.proofs.lemmas.Int.{to_z-of_z}
use Rattle.std.proofs.lemmas.Result.{err_from_is_err_and}
use Rattle.segment_machine.specs.declared.actor.Known.{Known}
use Rattle.live_segment.specs.Add.Sample.{IsAdded, IsRefused, LacksBlock}
use Rattle.live_segment.specs.Alloc.Claims.{ClaimsFor}
use Rattle.live_segment.specs.Known.{known_view}
use Rattle.live_segment.proofs.lemmas.Add.Adds.{passes, meant}
use Rattle.live_segment.proofs.Seating.Recorders.{recorder_still, seat_counted}
use Rattle.live_segment.proofs.recorder.state.RecorderState.add.Goals as goal

pub returns-in_err-add_sample-clause-at : goal.returns-in_err-add_sample-clause-at
returns-in_err-add_sample-clause-at c =
    let does = c.in_err-add_sample.ensures in
    let refused = does.outcome.0 in
    let paid = refused.pays.share in
    let counted = c.requires.at.counted in
    recorder_still c.args.segment.now c.args.self.now _ c.args.self.now.units _ c.requires.at
    (seat_counted c.args.segment.now c.args.self.now.seat _ c.requires.at.seated.of does.same refused.onward does.rests) (omega (arith, paid, counted)) does.indexed

pub returns-clause-at : goal.returns-clause-at
returns-clause-at c =
    let does = c.in_ok-add_sample.ensures in
    let paid = does.outcome.pays.share in
    let counted = c.requires.at.counted in
    recorder_still c.args.segment.now c.args.self.now _ _ _ c.requires.at
    (seat_counted c.args.segment.now c.args.self.now.seat _ c.requires.at.seated.of does.same does.outcome.onward does.rests) (omega (arith, paid, counted)) does.indexed

pub returns-in_err-add_sample-clause-answer : goal.returns-in_err-add_sample-clause-answer
returns-in_err-add_sample-clause-answer c =
    let old = c.args.self.now.seat.me.0 in
    let new = c.add_sample.new.seat.me.0 in
    let one = c.index-known.result.now in
    let p = err_from_is_err_and c.from_residual.result c.from_residual.ensures.1 in
    let why = c.in_err-add_sample.field-0.0 in
    let refused = subst (λ (v : ℤ). IsRefused one.name.items old new × LacksBlock why (known_view one) v c.args.count old new)
    (to_z-of_z w32 c.args.value c.ranges.value) c.in_err-add_sample.ensures.outcome in
    passes old c.args.count _ _ c.if-count-eq0.false (subst (λ (n : ℕ). c.args.count ≤ n) c.requires.at.counted c.if-count-self.false) (λ known means.
    rw (p.1, p.2) (subst (λ (k : Known). IsRefused k.name old new × LacksBlock why k c.args.value c.args.count old new)
    (meant c.args.self.now.known.items old.answers.names c.args.histogram.index one known c.requires.at.listed c.index-known.ensures c.requires.knows means) refused))

pub returns-clause-answer : goal.returns-clause-answer
returns-clause-answer c =
    let old = c.args.self.now.seat.me.0 in
    let new = c.add_sample.new.seat.me.0 in
    let one = c.index-known.result.now in
    let added = subst (λ (v : ℤ). IsAdded (known_view one) v c.args.count old new) (to_z-of_z w32 c.args.value c.ranges.value)
    c.in_ok-add_sample.ensures.outcome in
    passes old c.args.count _ _ c.if-count-eq0.false (subst (λ (n : ℕ). c.args.count ≤ n) c.requires.at.counted c.if-count-self.false) (λ known means.
    subst (λ (k : Known). IsAdded k c.args.value c.args.count old new)
    (meant c.args.self.now.known.items old.answers.names c.args.histogram.index one known c.requires.at.listed c.index-known.ensures c.requires.knows means) added)

pub returns-clause-claims : goal.returns-clause-claims
returns-clause-claims c =
    let old = c.args.self.now.seat.me.0 in
    let new = c.add_sample.new.seat.me.0 in
    let one = c.index-known.result.now in
    let claims = subst (λ (v : ℤ). ClaimsFor (known_view one) v old new) (to_z-of_z w32 c.args.value c.ranges.value) c.in_ok-add_sample.ensures.claims in
    λ known means. subst (λ (k : Known). ClaimsFor k c.args.value old new)
    (meant c.args.self.now.known.items old.answers.names c.args.histogram.index one known c.requires.at.listed c.index-known.ensures c.requires.knows means) claims
