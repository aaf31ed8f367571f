use Rattle.segment_invariant.proofs.Prelude.Std.{true, false, ◌+◌, ℕ, sym, ap, subst, ◌∙◌, arith, props, ∥∥₁_elim, eq-eqb, ne_eqb}
use Rattle.alloc_core.specs.Event as atomic
use Rattle.hist_core.specs.declared.add.AddStep.TheVariants.{More}
use Rattle.hist_core.specs.declared.add.AddStage.{AddStage}
use Rattle.hist_core.specs.StepsBy.{StepsBy}
use Rattle.hist_core.specs.Add.{StandsAtStage, AddGives}
use Rattle.hist_core.specs.Left.{AddLowers}
use Rattle.hist_core.proofs.Left.Adds.{disables_less, late_less}
use Rattle.hist_core.proofs.AddCall.Moves.{old_on, disables_so}
use Rattle.hist_core.proofs.AddCall.Packs.{small_bucket}
use Rattle.hist_core.proofs.add.Add.disable.Goals.{then-exchange-old, else-exchange-old}
use Rattle.hist_core.proofs.add.Add.disable.Goals as goal

pub off_word-off-requires : goal.off_word-off-requires
off_word-off-requires c = ∥∥₁_elim c.requires.stands (hlevel props) (λ (shape, known, amid, a, long, is).
    record { on = old_on shape known amid c.args.self.now a c.args.words.now is c.args.counts c.args.old c.requires.next })

pub behind_disabling-self-requires : goal.behind_disabling-self-requires
behind_disabling-self-requires c =
    let small = small_bucket c.args.self.now _ (λ shape known amid a is. (subst (StandsAtStage shape known amid c.args.self.now a) c.requires.next is.stands).0) c.requires.stands in
    omega (arith, small)

pub returns-clause-steps : goal.returns-clause-steps
returns-clause-steps c = λ shape known amid a long is.
    let add = c.args.self.now in
    let gives : AddStage → Type 0 = λ stage. StepsBy shape.size add.version a c.args.words.now c.exchange.new.words (AddGives shape known amid (record add { stage = stage }) More a) in
    let are = c.exchange.ensures.words ∙ ap (λ (n : ℕ). atomic.after (atomic.exchange (add.histogram + 9) c.args.old n) c.args.words.now) c.off_word-off.ensures in
    elim c.if-exchange-old.branch [
      | then-exchange-old w ↦ subst gives (sym (w.self-is ∙ w.behind_disabling-self.ensures))
          (disables_so shape known amid add a c.args.words.now is c.args.counts c.args.old c.requires.next c.exchange.new.words true
          (eq-eqb _ c.args.old (sym c.exchange.ensures.found ∙ w.if-exchange-old.true)) are)
      | else-exchange-old w ↦ subst gives (sym w.self-is)
          (disables_so shape known amid add a c.args.words.now is c.args.counts c.args.old c.requires.next c.exchange.new.words false
          (ne_eqb _ c.args.old (λ e. w.if-exchange-old.false (c.exchange.ensures.found ∙ e))) are)
    ]

pub returns-clause-less : goal.returns-clause-less
returns-clause-less c =
    let add = c.args.self.now in
    let gives : AddStage → Type 0 = λ stage. AddLowers add c.args.words.now (record add { stage = stage }) c.exchange.new.words More in
    elim c.if-exchange-old.branch [
      | then-exchange-old w ↦ subst gives (sym (w.self-is ∙ w.behind_disabling-self.ensures))
          (disables_less add c.args.words.now c.exchange.new.words c.args.counts c.args.old c.requires.next)
      | else-exchange-old w ↦ subst gives (sym w.self-is)
          (late_less add c.args.words.now c.exchange.new.words c.args.counts c.args.old c.requires.next
          (ne_eqb _ c.args.old (λ e. w.if-exchange-old.false (c.exchange.ensures.found ∙ e))))
    ]
