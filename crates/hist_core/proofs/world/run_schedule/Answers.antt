use Rattle.std.proofs.Common.{inr}
use Rattle.std.proofs.lemmas.Result.{err_from_is_err_and}
use Rattle.segment_image.specs.Checks.{first_fault}
use Rattle.hist_core.specs.World.{world_checks}
use Rattle.hist_core.proofs.Worlds.Scheduling.{no_fault, is_fine, stops_behind}
use Rattle.hist_core.proofs.world.run_schedule.Goals as goal

pub returns-in_err-make_all-clause-fault : goal.returns-in_err-make_all-clause-fault
returns-in_err-make_all-clause-fault c =
    let first = c.in_ok-world.world in
    let p = err_from_is_err_and c.from_residual-in_err-make_all.result c.from_residual-in_err-make_all.ensures.1 in
    let checks = first_fault (world_checks c.args.size c.args.page c.args.actors c.args.version) in
    rw (p.1, p.2)
    (stops_behind checks c.in_err-make_all.field-0.0 _ (no_fault checks first _ c.in_ok-world.ensures.world)
    (inr (first.world_state, is_fine checks first _ c.in_ok-world.ensures.world, c.in_err-make_all.ensures.stops)))

pub returns-clause-world : goal.returns-clause-world
returns-clause-world c =
    let first = c.in_ok-world.world in
    let checks = first_fault (world_checks c.args.size c.args.page c.args.actors c.args.version) in
    (no_fault checks first _ c.in_ok-world.ensures.world, (first.world_state, is_fine checks first _ c.in_ok-world.ensures.world, c.in_ok-make_all.ensures.makes))
