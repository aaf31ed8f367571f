use Rattle.std.proofs.Common.{rules, ◌≡◌, ℤ, FitsSigned, w64, to_z, of_z, [], ◌∷◌, sym, ap, ◌∙◌, subst, arith}
use Rattle.std.specs.Prelude.{◌-ℤ◌}
use Rattle.std.specs.Int.{cast_signed}
use Rattle.std.proofs.lemmas.Int.{to_z-of_z, fits_signed_from_abs}
use Rattle.segment_machine.specs.Event.{taking_event}
use Rattle.segment_machine.specs.Note.{has_taken}
use Rattle.segment_machine.specs.Taking.{swap_sum_mark}
use Rattle.segment_machine.specs.declared.actor.Actor.{Actor}
use Rattle.segment_machine.specs.declared.actor.Known.{Known}
use Rattle.live_segment.specs.Delta.Outcome.{HasTakenSum}
use Rattle.live_segment.specs.Known.{known_view}
use Rattle.live_segment.specs.Steps.{Pass}
use Rattle.live_segment.specs.Steps.GhostNotes.{MayDo, Noted}
use Rattle.live_segment.proofs.lemmas.Delta.DeltaEnds.{may_swap, ended}
use Rattle.live_segment.proofs.segment.Segment.take_sum.Goals as goal

-- a seat that is the same has taken the same
taken_still : {known : Known} {sum : ℤ} {a : Actor} (old new : Pass) → new ≡ old → HasTakenSum known sum a old.me.0 → HasTakenSum known sum a new.me.0
taken_still {known} {sum} {a} old new same = subst (λ (seat : Pass). HasTakenSum known sum a seat.me.0) (sym same)

pub swap_sum_mark-requires-clause-may : goal.swap_sum_mark-requires-clause-may
swap_sum_mark-requires-clause-may c =
    let fits : FitsSigned w64 c.cast_signed-sum.result = search rules in
    subst (λ (s : ℤ). MayDo c.load_sum.new.seat [] (taking_event (swap_sum_mark c.args.histogram.now.reference s)) (has_taken ∷ []))
    (sym (to_z-of_z w64 c.cast_signed-sum.result fits ∙ c.cast_signed-sum.ensures))
    (may_swap c.args.self.now (known_view c.args.histogram.now) c.args.seat.now c.requires.may c.load_sum.result c.load_sum.new.seat c.load_sum.ensures.step
    c.load_sum.ensures.behind c.load_sum.ensures.once)

pub returns-clause-taken : goal.returns-clause-taken
returns-clause-taken c =
    let fits : FitsSigned w64 c.cast_signed-sum.result = search rules in
    let fit : FitsSigned w64 c.cast_signed-mark.result = search rules in
    let sum : to_z w64 (of_z w64 c.cast_signed-sum.result) ≡ cast_signed w64 c.load_sum.result = to_z-of_z w64 c.cast_signed-sum.result fits ∙ c.cast_signed-sum.ensures in
    let mark : to_z w64 (of_z w64 c.cast_signed-mark.result) ≡ cast_signed w64 c.swap_sum_mark.result = to_z-of_z w64 c.cast_signed-mark.result fit ∙ c.cast_signed-mark.ensures in
    let swap : Noted c.load_sum.new.seat [] (taking_event (swap_sum_mark c.args.histogram.now.reference (cast_signed w64 c.load_sum.result))) (has_taken ∷ [])
    c.swap_sum_mark.result c.swap_sum_mark.new.seat =
    subst (λ (s : ℤ). Noted c.load_sum.new.seat [] (taking_event (swap_sum_mark c.args.histogram.now.reference s)) (has_taken ∷ []) c.swap_sum_mark.result c.swap_sum_mark.new.seat)
    sum c.swap_sum_mark.ensures in
    let amount : ℤ = cast_signed w64 c.load_sum.result -ℤ cast_signed w64 c.swap_sum_mark.result in
    let small : FitsSigned w64 amount = fits_signed_from_abs w64 amount (let most = swap.learned.2 in omega (arith, most)) in
    taken_still c.swap_sum_mark.new.seat c.stand.new.seat c.stand.ensures.same
    (ended c.args.self.now (known_view c.args.histogram.now) c.args.seat.now c.requires.may c.load_sum.result c.load_sum.new.seat c.load_sum.ensures.step
    c.load_sum.ensures.behind c.load_sum.ensures.once c.swap_sum_mark.result c.swap_sum_mark.new.seat swap _
    (ap (λ (d : ℤ). to_z w64 (of_z w64 d)) (λ i. sum i -ℤ mark i) ∙ to_z-of_z w64 amount small))
