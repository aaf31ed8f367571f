use Rattle.std.proofs.Common.{to_z, of_z, ◌≡◌, None, Some, ℤ, refl, sym, subst, w64, arith}
use Rattle.std.proofs.lemmas.Int.{to_z-of_z}
use Rattle.std.proofs.lemmas.List.{length-take-le}
use Rattle.segment_image.specs.Checks.{first_fault}
use Rattle.segment_invariant.proofs.Lists.Elements.{below_length}
use Rattle.segment_machine.specs.declared.actor.Known.{Known}
use Rattle.live_segment.specs.Add.Batch.{batch_checks, IsBatched, IsCutShort}
use Rattle.live_segment.specs.Alloc.Claims.{ClaimsForAll}
use Rattle.live_segment.specs.Known.{known_view}
use Rattle.live_segment.proofs.lemmas.Add.Adds.{meant}
use Rattle.live_segment.proofs.lemmas.Add.Batch.Batches.{passed, passes_all, fails_one}
use Rattle.live_segment.proofs.Seating.Recorders.{recorder_still, seat_counted}
use Rattle.live_segment.proofs.recorder.state.RecorderState.batch.Goals as goal

pub returns-in-Err-clause-answer : goal.returns-in-Err-clause-answer
returns-in-Err-clause-answer c =
    let old = c.args.self.now.seat.me.0 in
    let first = subst (λ (z : ℤ). first_fault (batch_checks old c.args.items.now z) ≡ Some c.in-Err.why) (to_z-of_z w64 c.args.sum c.ranges.sum)
    (c.in-Err.ensures old (sym c.requires.at.counted)) in
    fails_one old c.args.items.now c.args.sum c.in-Err.why _ _ first (refl, refl)

pub count_batch-counted-requires-clause-units : goal.count_batch-counted-requires-clause-units
count_batch-counted-requires-clause-units c =
    let old = c.args.self.now.seat.me.0 in passed old c.args.items.now (to_z w64 (of_z w64 c.args.sum)) (c.in-Ok.ensures old (sym c.requires.at.counted)).1

pub slice_bounds-units_of_items-end : goal.slice_bounds-units_of_items-end
slice_bounds-units_of_items-end c =
    let cut = c.in-Err-counted.ensures.outcome in
    let below = below_length c.args.items.now c.in-Err-counted.refusal.added cut.item cut.there in
    sym (length-take-le c.in-Err-counted.refusal.added c.args.items.now (omega (arith, below)))

pub returns-in-Err-counted-clause-at : goal.returns-in-Err-counted-clause-at
returns-in-Err-counted-clause-at c =
    let cut = c.in-Err-counted.ensures.outcome in
    let does = c.in-Err-counted.ensures in
    let paid = cut.pays.share in
    let counted = c.requires.at.counted in
    let first = c.units_of_items.ensures in
    recorder_still c.args.segment.now c.args.self.now _ _ _ c.requires.at
    (seat_counted c.args.segment.now c.args.self.now.seat _ c.requires.at.seated.of does.same cut.onward does.rests) (omega (arith, paid, counted, first)) does.indexed

pub returns-in-Err-counted-clause-answer : goal.returns-in-Err-counted-clause-answer
returns-in-Err-counted-clause-answer c =
    let old = c.args.self.now.seat.me.0 in
    let new = c.count_batch-counted.new.seat.me.0 in
    let one = c.index-known.result.now in
    let refusal = c.in-Err-counted.refusal in
    let none = subst (λ (z : ℤ). first_fault (batch_checks old c.args.items.now z) ≡ None) (to_z-of_z w64 c.args.sum c.ranges.sum)
    (c.in-Ok.ensures old (sym c.requires.at.counted)).1 in
    passes_all old c.args.items.now c.args.sum _ _ none (λ known means. subst (λ (k : Known). IsCutShort k c.args.items.now refusal old new)
    (meant c.args.self.now.known.items old.answers.names c.args.histogram.index one known c.requires.at.listed c.index-known.ensures c.requires.knows means)
    c.in-Err-counted.ensures.outcome)

pub overflow_sub-self-2 : goal.overflow_sub-self-2
overflow_sub-self-2 c =
    let old = c.args.self.now.seat.me.0 in
    let priced = c.in-Ok.ensures old (sym c.requires.at.counted) in
    let within = (passed old c.args.items.now (to_z w64 (of_z w64 c.args.sum)) priced.1).1 in
    let cost = priced.0 in
    let counted = c.requires.at.counted in omega (arith, within, cost, counted)

pub returns-clause-at : goal.returns-clause-at
returns-clause-at c =
    let does = c.in_default.ensures in
    let paid = does.outcome.pays.share in
    let counted = c.requires.at.counted in
    let cost = (c.in-Ok.ensures c.args.self.now.seat.me.0 (sym counted)).0 in
    recorder_still c.args.segment.now c.args.self.now _ _ _ c.requires.at
    (seat_counted c.args.segment.now c.args.self.now.seat _ c.requires.at.seated.of does.same does.outcome.onward does.rests) (omega (arith, paid, counted, cost)) does.indexed

pub returns-clause-answer : goal.returns-clause-answer
returns-clause-answer c =
    let old = c.args.self.now.seat.me.0 in
    let new = c.count_batch-counted.new.seat.me.0 in
    let one = c.index-known.result.now in
    let none = subst (λ (z : ℤ). first_fault (batch_checks old c.args.items.now z) ≡ None) (to_z-of_z w64 c.args.sum c.ranges.sum)
    (c.in-Ok.ensures old (sym c.requires.at.counted)).1 in
    let done = subst (λ (z : ℤ). IsBatched (known_view one) c.args.items.now z old new) (to_z-of_z w64 c.args.sum c.ranges.sum) c.in_default.ensures.outcome in
    passes_all old c.args.items.now c.args.sum _ _ none (λ known means. subst (λ (k : Known). IsBatched k c.args.items.now c.args.sum old new)
    (meant c.args.self.now.known.items old.answers.names c.args.histogram.index one known c.requires.at.listed c.index-known.ensures c.requires.knows means) done)

pub returns-clause-claims : goal.returns-clause-claims
returns-clause-claims c =
    let old = c.args.self.now.seat.me.0 in
    let new = c.count_batch-counted.new.seat.me.0 in
    let one = c.index-known.result.now in
    λ known means. subst (λ (k : Known). ClaimsForAll k c.args.items.now old new)
    (meant c.args.self.now.known.items old.answers.names c.args.histogram.index one known c.requires.at.listed c.index-known.ensures c.requires.knows means)
    c.in_default.ensures.claims
