use Rattle.segment_invariant.proofs.Prelude.Std.{arith, subst, w32, ◌+◌, ℤ, to_z-of_z}
use Rattle.segment_invariant.proofs.Prelude.Machine.{word_at}
use Rattle.hist_core.specs.declared.snapshot_call.SnapshotStage.TheVariants.{Walking}
use Rattle.hist_core.specs.declared.walk.SampleWalk.TheVariants.{LoadingNext}
use Rattle.hist_core.specs.SnapshotCall.{IsValueListed}
use Rattle.hist_core.proofs.Left.Snapshots.{samples_less}
use Rattle.hist_core.proofs.SnapshotCall.ValuesSeen.{loads_sample, some_sample}
use Rattle.hist_core.proofs.snapshot_call.SnapshotCall.load_sample.Goals as goal

pub overflow_add-count : goal.overflow_add-count
overflow_add-count c = let inside = some_sample c.args.self.now c.args.words.now c.args.at c.args.value c.requires.next c.requires.stands in omega (arith, inside.0, inside.1)

pub offset_bounds-words-at : goal.offset_bounds-words-at
offset_bounds-words-at c = let inside = some_sample c.args.self.now c.args.words.now c.args.at c.args.value c.requires.next c.requires.stands in omega (arith, inside.0, inside.1)

pub bounds-words-at : goal.bounds-words-at
bounds-words-at c = let inside = some_sample c.args.self.now c.args.words.now c.args.at c.args.value c.requires.next c.requires.stands in omega (arith, inside.0)

pub list-requires : goal.list-requires
list-requires c = (some_sample c.args.self.now c.args.words.now c.args.at c.args.value c.requires.next c.requires.stands).2

pub returns-clause-steps : goal.returns-clause-steps
returns-clause-steps c = λ shape known a long order is.
    loads_sample shape known c.args.self.now a c.args.words.now is c.args.at c.args.value c.requires.next c.list.new.self
    (subst (λ (n : ℤ). IsValueListed n (word_at c.args.words.now (c.args.at + 6)) (record c.args.self.now { stage = Walking (LoadingNext c.args.at) }) c.list.new.self)
    (to_z-of_z w32 c.args.value c.ranges.value) c.list.ensures) order

pub returns-clause-less : goal.returns-clause-less
returns-clause-less c = samples_less c.args.self.now c.args.words.now c.args.at c.args.value _ _ c.list.new.self c.requires.next c.list.ensures
