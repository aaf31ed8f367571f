use Rattle.std.proofs.Common.{◌^◌, sym, ap, subst, ◌∙◌, arith}
use Rattle.std.proofs.lemmas.Bool.{le-leb, lt-leb}
use Rattle.hist_core.specs.declared.add.AddStep.TheVariants.{More}
use Rattle.hist_core.specs.declared.add.AddStage.{AddStage}
use Rattle.hist_core.specs.declared.add.AddStage.TheVariants.{Counting}
use Rattle.hist_core.specs.StepsBy.{StepsBy}
use Rattle.hist_core.specs.Add.{StandsAtStage, AddGives}
use Rattle.hist_core.specs.Left.{AddLowers}
use Rattle.hist_core.proofs.Left.Adds.{off_less, on_less}
use Rattle.hist_core.proofs.AddCall.Moves.{loads_off, loads_on_word}
use Rattle.hist_core.proofs.AddCall.Packs.{small_bucket}
use Rattle.hist_core.proofs.add.Add.load_again.Goals.{then-old-ge-DISABLED_BIT, else-old-ge-DISABLED_BIT}
use Rattle.hist_core.proofs.add.Add.load_again.Goals as goal

pub count_in-requires : goal.count_in-requires
count_in-requires c =
    let small = small_bucket c.args.self.now _ (λ shape known amid a is. (subst (StandsAtStage shape known amid c.args.self.now a) c.requires.next is.stands).0) c.requires.stands in
    omega (arith, small)

pub returns-clause-steps : goal.returns-clause-steps
returns-clause-steps c = λ shape known amid a long is.
    let add = c.args.self.now in
    let gives : AddStage → Type 0 = λ stage. StepsBy shape.size add.version a c.args.words.now c.args.words.now (AddGives shape known amid (record add { stage = stage }) More a) in
    elim c.if-old-ge-DISABLED_BIT.branch [
      | then-old-ge-DISABLED_BIT w ↦ subst gives (sym (w.self-is ∙ ap Counting w.count_in.ensures))
          (loads_off shape known amid add a c.args.words.now is c.args.counts c.requires.next (le-leb (2 ^ 63) _ (let off = w.if-old-ge-DISABLED_BIT.true in omega (arith, off))))
      | else-old-ge-DISABLED_BIT w ↦ subst gives (sym w.self-is)
          (loads_on_word shape known amid add a c.args.words.now is c.args.counts c.requires.next (lt-leb (2 ^ 63) _ (let on = w.if-old-ge-DISABLED_BIT.false in omega (arith, on))))
    ]

pub returns-clause-less : goal.returns-clause-less
returns-clause-less c =
    let add = c.args.self.now in
    let gives : AddStage → Type 0 = λ stage. AddLowers add c.args.words.now (record add { stage = stage }) c.args.words.now More in
    elim c.if-old-ge-DISABLED_BIT.branch [
      | then-old-ge-DISABLED_BIT w ↦ subst gives (sym w.self-is) (off_less add c.args.words.now c.args.counts 0 c.requires.next)
      | else-old-ge-DISABLED_BIT w ↦ subst gives (sym w.self-is) (on_less add c.args.words.now c.args.counts c.requires.next)
    ]
