use Rattle.hist_core.specs.declared.world.World.{World}
use Rattle.hist_core.specs.WorldState.{IsReachedFromImage}
use Rattle.hist_core.proofs.Worlds.Scheduling.{ok_still}
use Rattle.hist_core.proofs.world.World.adopt.Goals as goal

pub returns-clause-starts : goal.returns-clause-starts
returns-clause-starts c =
    ok_still (λ (world : World). ∥ IsReachedFromImage c.args.words.now world.world_state ∥₁) c.open_image.result c.map_err.result _ c.open_image.ensures.starts
    c.map_err.ensures.cases c.map_err.ensures.variant
