use Rattle.std.proofs.Common.{refl, sym, subst}
use Rattle.hist_core.specs.declared.delta_call.DeltaStage.{DeltaStage}
use Rattle.hist_core.specs.declared.delta_call.DeltaCallStep.TheVariants.{More}
use Rattle.hist_core.specs.StepsBy.{StepsBy}
use Rattle.hist_core.specs.DeltaCall.{HasBegun, DeltaCallGives}
use Rattle.hist_core.specs.Left.{DeltaLowers}
use Rattle.hist_core.proofs.Left.Deltas.{walks_less}
use Rattle.hist_core.proofs.DeltaCall.Samples.{begun_behind, some_walk, walks_further}
use Rattle.hist_core.proofs.delta_call.DeltaCall.walk_on.Goals as goal

pub step-met-requires : goal.step-met-requires
step-met-requires c = let inside = some_walk c.args.self.now c.args.words.now c.args.walk c.requires.next c.requires.stands in record { within = inside.0; few = inside.1 }

pub returns-clause-steps : goal.returns-clause-steps
returns-clause-steps c = λ shape known earlier a long order is.
    subst (λ (stage : DeltaStage). StepsBy shape.size c.args.self.now.version a c.args.words.now c.args.words.now
    (DeltaCallGives shape known earlier (record c.args.self.now { stage = stage }) More a)) (sym c.behind_walk-self.ensures)
    (walks_further shape known earlier c.args.self.now a c.args.words.now is c.step-met.result c.args.walk c.requires.next c.step-met.ensures)

pub returns-clause-goes : goal.returns-clause-goes
returns-clause-goes c = record { lists = refl; room = refl; begun = subst HasBegun (sym c.behind_walk-self.ensures) (begun_behind c.args.walk c.args.self.now.histogram _ c.step-met.result c.step-met.ensures); of = refl }

pub returns-clause-less : goal.returns-clause-less
returns-clause-less c =
    subst (λ (stage : DeltaStage). DeltaLowers c.args.self.now c.args.words.now (record c.args.self.now { stage = stage }) c.args.words.now More)
    (sym c.behind_walk-self.ensures) (walks_less c.args.self.now c.args.words.now c.args.walk c.step-met.result c.requires.next c.step-met.ensures)
