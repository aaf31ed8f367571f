use Rattle.std.proofs.Common.{rules, sym, subst, refl, ap, ◌∙◌, inl, Result, Some, ℕ}
use Rattle.povundiri_c.specs.declared.joinable_recorder.JoinableRecorder.{JoinableRecorder}
use Rattle.povundiri_c.specs.Joins.{GivesOfSegment, GivesRecorder, IsHanded}
use Rattle.povundiri_c.proofs.exports.segments.povundiri_proved_recorder.Goals as goal

pub returns-in-Ok-call-clause-answer : goal.returns-in-Ok-call-clause-answer
returns-in-Ok-call-clause-answer c _ =
    let calls : GivesOfSegment (GivesRecorder c.args.units) c.args.segment.now.boxed.held c.call.result c.call.new.self.boxed.held = search (c.call.ensures, rules) in
    inl (c.call.result, calls, subst (λ (answer : Result JoinableRecorder ℕ). IsHanded answer 0 c.put.new.self.boxed.held) (sym c.in-Ok-call.is) (refl, c.put.ensures ∙ ap Some c.put_into.ensures))
