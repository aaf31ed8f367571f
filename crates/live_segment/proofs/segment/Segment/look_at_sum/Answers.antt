use Rattle.std.proofs.Common.{rules, ◌≡◌, ℤ, w64, FitsSigned, to_z, of_z, sym, ap, ◌∙◌}
use Rattle.std.proofs.lemmas.Int.{to_z-of_z}
use Rattle.segment_machine.specs.declared.actor.Actor.{Actor}
use Rattle.segment_machine.specs.Event.{next, taking_event}
use Rattle.segment_machine.specs.Taking.{load_redundant}
use Rattle.live_segment.specs.Snapshot.Outcome.{saw_sum}
use Rattle.live_segment.proofs.segment.Segment.look_at_sum.Goals as goal

pub returns-clause-view : goal.returns-clause-view
returns-clause-view c =
    let fits : FitsSigned w64 c.cast_signed-sum.result = search rules in
    let sum : to_z w64 (of_z w64 c.cast_signed-sum.result) ≡ to_z w64 c.load_sum.result = to_z-of_z w64 c.cast_signed-sum.result fits ∙ c.cast_signed-sum.ensures in
    c.load_redundant-redundant.ensures.view
    ∙ (ap (λ (a : Actor). next a (taking_event (load_redundant c.args.histogram)) c.load_redundant-redundant.result) c.load_sum.ensures.step.view
    ∙ ap (λ (s : ℤ). saw_sum c.args.seat.now.me.0 c.args.histogram s c.load_redundant-redundant.result) (sym sum))
