use Rattle.std.proofs.Common.{ℕ, List, ◌≤◌, length, subst}
use Rattle.std.proofs.lemmas.Bool.{ltb-false}
use Rattle.live_segment.proofs.lemmas.Hist.SameLawful.{few_of, same_lawful}
use Rattle.live_segment.proofs.recorder.has_too_many_values.Goals as goal

pub returns-in-Custom-clause-lawful : goal.returns-in-Custom-clause-lawful
returns-in-Custom-clause-lawful c = λ off other lawful same.
    let few = subst (λ (l : List ℕ). length l ≤ 999) c.as_slice.ensures (ltb-false 999 (length c.as_slice.result.now) off) in
    same_lawful other c.args.spec.now lawful same (few_of c.args.spec.now c.in-Custom.values c.in-Custom.is few)

pub returns-in_default-clause-lawful : goal.returns-in_default-clause-lawful
returns-in_default-clause-lawful c = λ _ other lawful same. same_lawful other c.args.spec.now lawful same (λ values is. absurd (c.in_default.not-Custom values is))
