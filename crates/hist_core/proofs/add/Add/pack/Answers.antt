use Rattle.segment_invariant.proofs.Prelude.Std.{true, false, subst, sym, ◌∙◌, eq-eqb, ne_eqb}
use Rattle.hist_core.specs.declared.add.Add.{Add}
use Rattle.hist_core.specs.declared.add.AddStep.TheVariants.{More}
use Rattle.hist_core.specs.StepsBy.{StepsBy}
use Rattle.hist_core.specs.Add.{AddGives}
use Rattle.hist_core.specs.Left.{AddLowers}
use Rattle.hist_core.proofs.Left.Adds.{misses_less, packs_less}
use Rattle.hist_core.proofs.AddCall.Packs.{packs_so}
use Rattle.hist_core.proofs.add.Add.pack.Goals as goal

pub returns-then-exchange-old-clause-steps : goal.returns-then-exchange-old-clause-steps
returns-then-exchange-old-clause-steps c = λ shape known amid a long is.
    subst (λ (n : Add). StepsBy shape.size c.args.self.now.version a c.args.words.now c.exchange.new.words (AddGives shape known amid n More a)) (sym c.counted.ensures)
    (packs_so shape known amid c.args.self.now a c.args.words.now is c.args.old c.args.new c.requires.next c.exchange.new.words true
    (eq-eqb _ c.args.old (sym c.exchange.ensures.found ∙ c.if-exchange-old.true)) c.exchange.ensures.words)

pub returns-else-exchange-old-clause-steps : goal.returns-else-exchange-old-clause-steps
returns-else-exchange-old-clause-steps c = λ shape known amid a long is.
    packs_so shape known amid c.args.self.now a c.args.words.now is c.args.old c.args.new c.requires.next c.exchange.new.words false
    (ne_eqb _ c.args.old (λ e. c.if-exchange-old.false (c.exchange.ensures.found ∙ e))) c.exchange.ensures.words

pub returns-then-exchange-old-clause-less : goal.returns-then-exchange-old-clause-less
returns-then-exchange-old-clause-less c =
    subst (λ (n : Add). AddLowers c.args.self.now c.args.words.now n c.exchange.new.words More) (sym c.counted.ensures)
    (packs_less c.args.self.now c.args.words.now c.exchange.new.words c.args.old c.args.new c.requires.next)

pub returns-else-exchange-old-clause-less : goal.returns-else-exchange-old-clause-less
returns-else-exchange-old-clause-less c =
    misses_less c.args.self.now c.args.words.now c.exchange.new.words c.args.old c.args.new c.requires.next
    (ne_eqb _ c.args.old (λ e. c.if-exchange-old.false (c.exchange.ensures.found ∙ e)))
