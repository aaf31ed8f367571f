use Rattle.segment_invariant.proofs.Prelude.Std.{subst, sym, ◌∙◌, ◌+◌, ◌%◌, ◌^◌, ℕ, ap, props, ∥∥₁_elim, slice_set}
use Rattle.segment_invariant.proofs.Prelude.Machine.{word_at}
use Rattle.hist_core.specs.declared.add.Add.{Add}
use Rattle.hist_core.specs.declared.add.AddStep.TheVariants.{More}
use Rattle.hist_core.specs.StepsBy.{StepsBy}
use Rattle.hist_core.specs.Add.{AddGives}
use Rattle.hist_core.specs.Left.{AddLowers}
use Rattle.hist_core.proofs.Left.Adds.{counts_less}
use Rattle.hist_core.proofs.AddCall.Counts.{count_inside, counts_so}
use Rattle.hist_core.proofs.add.Add.count.Goals as goal

pub fetch_add-requires : goal.fetch_add-requires
fetch_add-requires c =
    ∥∥₁_elim c.requires.stands (hlevel props)
    (λ (shape, known, amid, a, long, is). count_inside shape known amid c.args.self.now a c.args.words.now is c.args.at c.requires.next long)

pub returns-clause-steps : goal.returns-clause-steps
returns-clause-steps c = λ shape known amid a long is.
    subst (λ (n : Add). StepsBy shape.size c.args.self.now.version a c.args.words.now c.fetch_add.new.words (AddGives shape known amid n More a)) (sym c.counted.ensures)
    (counts_so shape known amid c.args.self.now a c.args.words.now is c.args.at c.requires.next c.fetch_add.new.words
    (c.fetch_add.ensures ∙ ap (λ (n : ℕ). slice_set c.args.words.now c.args.at ((word_at c.args.words.now c.args.at + n) % 2 ^ 64)) c.from.ensures))

pub returns-clause-less : goal.returns-clause-less
returns-clause-less c =
    subst (λ (n : Add). AddLowers c.args.self.now c.args.words.now n c.fetch_add.new.words More) (sym c.counted.ensures)
    (counts_less c.args.self.now c.args.words.now c.fetch_add.new.words c.args.at c.requires.next)
