use Rattle.std.proofs.Common.{◌≡◌, subst, sym}
use Rattle.std.specs.Prelude.{Result, Err, MatchOption, MatchResult}
use Rattle.segment_image.specs.Checks.{first_fault}
use Rattle.hist_core.specs.declared.fault.WorldFault.{WorldFault}
use Rattle.hist_core.specs.declared.fault.WorldFault.TheVariants.{NoMemory}
use Rattle.hist_core.specs.declared.world.World.{World}
use Rattle.hist_core.specs.WorldState.{IsNewWorldState}
use Rattle.hist_core.specs.World.{world_checks}
use Rattle.hist_core.proofs.Worlds.Scheduling.{is_fine}
use Rattle.stepped.specs.declared.fault.ReplayFault.{ReplayFault}
use Rattle.stepped.proofs.Shown.{same_ok}
use Rattle.stepped.proofs.replay.Replay.new.Goals as goal

pub returns-clause-world : goal.returns-clause-world
returns-clause-world c =
    let opening = c.args.opening in let world = c.in_ok-world.world in
    let checks = first_fault (world_checks opening.size opening.page opening.actors opening.version) in
    let is_new = λ (world : World). IsNewWorldState (record { size = opening.size; page = opening.page }) opening.version opening.id opening.actors world.world_state in
    subst is_new (sym c.in_ok-of.ensures.0)
    (is_fine checks world _ (subst (λ (made : Result World WorldFault). MatchOption checks (MatchResult made is_new (λ fault. fault ≡ NoMemory)) (λ fault. made ≡ Err fault))
    (same_ok ReplayFault c.new.result world c.in_ok-world.ensures.cases) c.new.ensures.world))
