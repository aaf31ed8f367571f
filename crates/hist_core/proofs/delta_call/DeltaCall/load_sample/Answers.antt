use Rattle.segment_invariant.proofs.Prelude.Std.{arith, refl, sym, ap, subst, w32, ◌∙◌, ◌+◌, ℤ, to_z-of_z}
use Rattle.segment_invariant.proofs.Prelude.Machine.{word_at}
use Rattle.hist_core.specs.declared.delta_call.DeltaStage.{DeltaStage}
use Rattle.hist_core.specs.declared.delta_call.DeltaCallStep.TheVariants.{More}
use Rattle.hist_core.specs.StepsBy.{StepsBy}
use Rattle.hist_core.specs.DeltaCall.{HasBegun, DeltaCallGives, behind_sample}
use Rattle.hist_core.specs.Left.{DeltaLowers}
use Rattle.hist_core.proofs.Left.Deltas.{samples_less}
use Rattle.hist_core.proofs.DeltaCall.Samples.{begun_sample, loads_sample, some_sample}
use Rattle.hist_core.proofs.delta_call.DeltaCall.load_sample.Goals as goal

pub overflow_add-count : goal.overflow_add-count
overflow_add-count c = let inside = some_sample c.args.self.now c.args.words.now c.args.at c.args.value c.requires.next c.requires.stands in omega (arith, inside.0, inside.1)

pub offset_bounds-words-at : goal.offset_bounds-words-at
offset_bounds-words-at c = let inside = some_sample c.args.self.now c.args.words.now c.args.at c.args.value c.requires.next c.requires.stands in omega (arith, inside.0, inside.1)

pub bounds-words-at : goal.bounds-words-at
bounds-words-at c = let inside = some_sample c.args.self.now c.args.words.now c.args.at c.args.value c.requires.next c.requires.stands in omega (arith, inside.0)

pub returns-clause-steps : goal.returns-clause-steps
returns-clause-steps c = λ shape known earlier a long order is.
    subst (λ (stage : DeltaStage). StepsBy shape.size c.args.self.now.version a c.args.words.now c.args.words.now
    (DeltaCallGives shape known earlier (record c.args.self.now { stage = stage }) More a)) (sym (c.behind_sample-self.ensures
    ∙ ap (λ (n : ℤ). behind_sample c.args.at n (word_at c.args.words.now (c.args.at + 6))) (to_z-of_z w32 c.args.value c.ranges.value)))
    (loads_sample shape known earlier c.args.self.now a c.args.words.now is c.args.at c.args.value c.requires.next order)

pub returns-clause-goes : goal.returns-clause-goes
returns-clause-goes c = record { lists = refl; room = refl; begun = subst HasBegun (sym c.behind_sample-self.ensures) (begun_sample c.args.at _ _); of = refl }

pub returns-clause-less : goal.returns-clause-less
returns-clause-less c =
    subst (λ (stage : DeltaStage). DeltaLowers c.args.self.now c.args.words.now (record c.args.self.now { stage = stage }) c.args.words.now More)
    (sym (c.behind_sample-self.ensures ∙ ap (λ (n : ℤ). behind_sample c.args.at n (word_at c.args.words.now (c.args.at + 6))) (to_z-of_z w32 c.args.value c.ranges.value)))
    (samples_less c.args.self.now c.args.words.now c.args.at c.args.value c.args.value (word_at c.args.words.now (c.args.at + 6)) c.requires.next)
