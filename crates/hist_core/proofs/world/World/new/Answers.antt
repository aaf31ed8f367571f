use Rattle.std.proofs.Common.{◌≡◌, IfOk, subst, sym}
use Rattle.segment_image.specs.Shape.{Dimensions, shape_checks}
use Rattle.image_reader.proofs.Headers.{checked_ok}
use Rattle.hist_core.specs.declared.world.World.{World}
use Rattle.hist_core.specs.WorldState.{IsReachedFromNew}
use Rattle.hist_core.proofs.Worlds.Scheduling.{ok_still}
use Rattle.hist_core.proofs.world.World.new.Goals as goal

pub returns-clause-starts : goal.returns-clause-starts
returns-clause-starts c =
    let shape : Dimensions = record { size = c.args.size; page = c.args.page } in
    let shaped : shape ≡ c.in-Ok.shape = (checked_ok (shape_checks c.args.size c.args.page) shape c.in-Ok.shape (sym c.in-Ok.ensures)).1 in
    ok_still (λ (world : World). ∥ IsReachedFromNew shape c.args.version c.args.id world.world_state ∥₁) c.open.result c.map_err.result _
    (subst (λ (s : Dimensions). IfOk c.open.result (λ (world : World). ∥ IsReachedFromNew s c.args.version c.args.id world.world_state ∥₁)) (sym shaped) c.open.ensures.starts)
    c.map_err.ensures.cases c.map_err.ensures.variant
