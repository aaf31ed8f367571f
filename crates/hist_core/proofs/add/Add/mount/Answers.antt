use Rattle.segment_invariant.proofs.Prelude.Std.{true, false, ℕ, sym, ap, subst, ◌∙◌, eq-eqb, ne_eqb}
use Rattle.hist_core.specs.declared.add.AddStep.TheVariants.{More}
use Rattle.hist_core.specs.declared.add.AddStage.{AddStage}
use Rattle.hist_core.specs.declared.add.AddStage.TheVariants.{Purging}
use Rattle.hist_core.specs.StepsBy.{StepsBy}
use Rattle.hist_core.specs.Add.{AddGives}
use Rattle.hist_core.specs.Left.{AddLowers}
use Rattle.hist_core.proofs.Left.Adds.{loses_less, mounts_less}
use Rattle.hist_core.proofs.AddCall.Mounts.{mounts_so}
use Rattle.hist_core.proofs.add.Add.mount.Goals.{then-counts-eq0, else-counts-eq0}
use Rattle.hist_core.proofs.add.Add.mount.Goals as goal

pub returns-clause-steps : goal.returns-clause-steps
returns-clause-steps c = λ shape known amid a long is.
    let add = c.args.self.now in
    let gives : AddStage → Type 0 = λ stage. StepsBy shape.size add.version a c.args.words.now c.exchange-counts.new.words (AddGives shape known amid (record add { stage = stage }) More a) in
    elim c.if-counts-eq0.branch [
      | then-counts-eq0 w ↦ subst gives (sym w.self-is)
          (mounts_so shape known amid add a c.args.words.now is c.args.at c.requires.next c.exchange-counts.new.words true
          (eq-eqb _ 0 (sym c.exchange-counts.ensures.found ∙ w.if-counts-eq0.true)) c.exchange-counts.ensures.words)
      | else-counts-eq0 w ↦ subst gives (sym (w.self-is ∙ ap (λ (n : ℕ). Purging c.args.at n) c.exchange-counts.ensures.found))
          (mounts_so shape known amid add a c.args.words.now is c.args.at c.requires.next c.exchange-counts.new.words false
          (ne_eqb _ 0 (λ e. w.if-counts-eq0.false (c.exchange-counts.ensures.found ∙ e))) c.exchange-counts.ensures.words)
    ]

pub returns-clause-less : goal.returns-clause-less
returns-clause-less c =
    let add = c.args.self.now in
    let gives : AddStage → Type 0 = λ stage. AddLowers add c.args.words.now (record add { stage = stage }) c.exchange-counts.new.words More in
    elim c.if-counts-eq0.branch [
      | then-counts-eq0 w ↦ subst gives (sym w.self-is) (mounts_less add c.args.words.now c.exchange-counts.new.words c.args.at c.requires.next)
      | else-counts-eq0 w ↦ subst gives (sym w.self-is) (loses_less add c.args.words.now c.exchange-counts.new.words c.args.at 0 c.requires.next)
    ]
