use Rattle.std.proofs.Common.{ap, refl, ◌∙◌, Ok, Err}
use Rattle.std.proofs.lemmas.Result.{err_from_is_err_and}
use Rattle.povundiri_c.specs.declared.status.Refused.{Refused}
use Rattle.povundiri_c.specs.Recorders.{TakesSnapshot, refused_with}
use Rattle.povundiri_c.proofs.Calling.{found_no_room, found_with_room}
use Rattle.povundiri_c.proofs.joinable_recorder.JoinableRecorder.snapshot.Goals as goal

pub returns-in_err-histogram-clause-answer : goal.returns-in_err-histogram-clause-answer
returns-in_err-histogram-clause-answer c =
    let p = err_from_is_err_and c.from_residual.result c.from_residual.ensures.1 in
    rw (p.1, p.2)
    (found_no_room c.args.place c.args.room TakesSnapshot c.args.self.now.owned c.in_err-histogram.field-0.0 c.in_err-histogram.ensures.answer)

pub returns-in-Ok-clause-answer : goal.returns-in-Ok-clause-answer
returns-in-Ok-clause-answer c =
    found_with_room c.args.place c.args.room TakesSnapshot c.args.self.now.owned c.snapshot.new.self c.in_ok-histogram.histogram _ c.in_ok-histogram.ensures.answer
    (Ok c.in-Ok.snapshot, refl, (c.in-Ok.ensures.kept, c.in-Ok.ensures.same), c.in-Ok.ensures.answer, c.in-Ok.ensures.owed, c.in-Ok.ensures.most, c.in-Ok.ensures.values, c.in-Ok.ensures.few)

pub returns-in-Err-clause-answer : goal.returns-in-Err-clause-answer
returns-in-Err-clause-answer c =
    found_with_room c.args.place c.args.room TakesSnapshot c.args.self.now.owned c.snapshot.new.self c.in_ok-histogram.histogram _ c.in_ok-histogram.ensures.answer
    (Err c.in-Err.why, ap (λ (it : Refused). Err it) (c.of.ensures ∙ ap refused_with c.of_refusal.ensures), (c.in-Err.ensures.kept, c.in-Err.ensures.same), c.in-Err.ensures.answer, c.in-Err.ensures.owed, c.in-Err.ensures.most, c.in-Err.ensures.values, c.in-Err.ensures.few)
