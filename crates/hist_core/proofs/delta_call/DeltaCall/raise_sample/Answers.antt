use Rattle.segment_invariant.proofs.Prelude.Std.{◌+◌, arith, max, subst, w32, ℤ, to_z-of_z}
use Rattle.segment_invariant.proofs.Prelude.Machine.{word_at}
use Rattle.hist_core.specs.declared.delta_call.DeltaStage.TheVariants.{Walking}
use Rattle.hist_core.specs.declared.walk.SampleWalk.TheVariants.{LoadingNext}
use Rattle.hist_core.specs.DeltaCall.{TakesUnits}
use Rattle.hist_core.proofs.Left.Deltas.{raises_sample_less}
use Rattle.hist_core.proofs.DeltaCall.Samples.{gives_sample, some_raising}
use Rattle.hist_core.proofs.delta_call.DeltaCall.raise_sample.Goals as goal

pub overflow_add-at : goal.overflow_add-at
overflow_add-at c = let inside = some_raising c.args.self.now c.args.words.now c.args.at c.args.value c.args.count c.requires.next c.requires.stands in omega (arith, inside.0, inside.1)

pub fetch_max-mark-requires : goal.fetch_max-mark-requires
fetch_max-mark-requires c = let inside = some_raising c.args.self.now c.args.words.now c.args.at c.args.value c.args.count c.requires.next c.requires.stands in omega (arith, inside.0)

pub take-requires : goal.take-requires
take-requires c = (some_raising c.args.self.now c.args.words.now c.args.at c.args.value c.args.count c.requires.next c.requires.stands).2

pub returns-clause-steps : goal.returns-clause-steps
returns-clause-steps c = λ shape known earlier a long order is.
    gives_sample shape known earlier c.args.self.now a c.args.words.now is c.args.at c.args.value c.args.count c.requires.next c.take.new.self c.take.result c.fetch_max-mark.result
    (subst (λ (n : ℤ). TakesUnits n c.args.count c.fetch_max-mark.result (record c.args.self.now { stage = Walking (LoadingNext c.args.at) }) c.take.new.self c.take.result)
    (to_z-of_z w32 c.args.value c.ranges.value) c.take.ensures)
    c.fetch_max-mark.ensures.found c.fetch_max-mark.new.words c.fetch_max-mark.ensures.words

pub returns-clause-less : goal.returns-clause-less
returns-clause-less c =
    raises_sample_less c.args.self.now c.args.words.now c.fetch_max-mark.new.words c.args.at c.args.value c.args.count c.args.value
    (max (word_at c.args.words.now (c.args.at + 7)) c.args.count) c.fetch_max-mark.result c.take.new.self c.take.result c.requires.next c.fetch_max-mark.ensures.words
    (subst (λ (n : ℤ). TakesUnits n c.args.count c.fetch_max-mark.result (record c.args.self.now { stage = Walking (LoadingNext c.args.at) }) c.take.new.self c.take.result)
    (to_z-of_z w32 c.args.value c.ranges.value) c.take.ensures)
