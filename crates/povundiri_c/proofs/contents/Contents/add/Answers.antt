use Rattle.std.proofs.Common.{rules, ℤ, subst, w32, FitsSigned}
use Rattle.std.proofs.lemmas.Int.{to_z-of_z}
use Rattle.povundiri_c.specs.Recorders.{Adds, AtPlace}
use Rattle.povundiri_c.proofs.Calling.{by_recorder}
use Rattle.povundiri_c.proofs.contents.Contents.add.Goals as goal

pub returns-in-Recorder : goal.returns-in-Recorder
returns-in-Recorder c = let fits : FitsSigned w32 c.args.value = search rules in
    by_recorder _ _ _ _ _ _ c.in-Recorder.is c.add.ensures.kept
    (subst (λ (value : ℤ). AtPlace 8 (Adds value c.args.count) c.args.place c.in-Recorder.joinable.owned c.add.result c.add.new.self.owned)
    (to_z-of_z w32 c.args.value fits) c.add.ensures.answer)
