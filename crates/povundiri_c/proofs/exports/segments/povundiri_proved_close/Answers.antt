use Rattle.std.proofs.Common.{refl, sym, ap, ◌∙◌, length, List, ℕ, Some, Ok}
use Rattle.povundiri_c.specs.declared.contents.Contents.{Contents}
use Rattle.povundiri_c.proofs.Ending.{answers_some}
use Rattle.povundiri_c.proofs.Reporting.{in_front}
use Rattle.povundiri_c.proofs.exports.segments.povundiri_proved_close.Goals as goal

pub returns-in-Ok-close-clause-answer : goal.returns-in-Ok-close-clause-answer
returns-in-Ok-close-clause-answer c = λ _.
    let long = ap (λ (words : List ℕ). length words) c.words-found.ensures in
    answers_some c.args.segment.now.boxed.held c.take.new.self.boxed.held c.deref_mut.result.now (Ok c.in-Ok-close.image) 0 c.args.needed.now _ c.args.words.now _
    (c.in-Ok.ensures.taken.0 ∙ ap (λ (it : Contents). Some it) (sym c.deref_mut.ensures.value)) c.in-Ok-close.ensures.answer
    (refl, long, in_front _ _ _ _ (c.copy_from_slice.ensures.after ∙ c.words-found.ensures) long, c.in-Ok.ensures.taken.1)
