use Rattle.std.proofs.Common.{sym, subst}
use Rattle.segment_image.specs.Checks.{first_fault}
use Rattle.hist_core.specs.declared.call.Move.{Move}
use Rattle.hist_core.specs.Moves.{Makes}
use Rattle.hist_core.specs.World.{step_checks}
use Rattle.hist_core.proofs.Worlds.Scheduling.{no_fault}
use Rattle.hist_core.proofs.world.World.make.Goals as goal

pub returns-in_ok-step-in-Step-clause-makes : goal.returns-in_ok-step-in-Step-clause-makes
returns-in_ok-step-in-Step-clause-makes c =
    let its = c.in_ok-step-in-Step.ensures in
    subst (λ (move : Move). Makes move c.args.self.now.world_state c.step.new.self.world_state) (sym c.in-Step.is) (
      c.in_ok-step-in-Step.field-0,
      record {
        lawful = no_fault (first_fault (step_checks c.args.self.now.world_state c.in-Step.actor)) c.in_ok-step-in-Step.field-0 _ its.faults;
        others = its.others;
        says = its.says;
        leads = its.steps;
      },
    )
