use Rattle.std.proofs.Common.{◌≡◌, subst, sym, rules}
use Rattle.std.specs.Prelude.{Option, Some, None, Result, Ok, Err, IfErr, MatchOption, MatchResult}
use Rattle.segment_image.specs.Checks.{first_fault}
use Rattle.hist_core.specs.declared.fault.WorldFault.{WorldFault}
use Rattle.hist_core.specs.declared.fault.WorldFault.TheVariants.{NoMemory}
use Rattle.hist_core.specs.declared.world.World.{World}
use Rattle.hist_core.specs.WorldState.{IsAdoptedWorldState}
use Rattle.hist_core.specs.World.{actor_checks, IsAdoptFault}
use Rattle.hist_core.proofs.Worlds.Scheduling.{is_fine}
use Rattle.stepped.specs.Fault.{fault_of_world}
use Rattle.stepped.specs.declared.fault.ReplayFault.{ReplayFault}
use Rattle.stepped.specs.declared.fault.ReplayFault.TheVariants as replay
use Rattle.stepped.proofs.Shown.{same_ok}
use Rattle.stepped.proofs.replay.Replay.adopt.Goals as goal

pub returns-clause-world : goal.returns-clause-world
returns-clause-world c =
    let words = c.args.words.now in let world = c.in_ok-world.world in
    let checks = first_fault (actor_checks c.args.actors) in
    let goes_on = λ (world : World). IsAdoptedWorldState words c.args.actors world.world_state in
    subst goes_on (sym c.in_ok-of.ensures.0)
    (is_fine checks world _ (subst (λ (made : Result World WorldFault). MatchOption checks (MatchResult made goes_on (IsAdoptFault words)) (λ fault. made ≡ Err fault))
    (same_ok ReplayFault c.adopt.result world c.in_ok-world.ensures.cases) c.adopt.ensures.world))

-- what stops after a world was made
stops_later : {A : Type 0} (first : Option WorldFault) (a : A) (Fine Stops : Type 0) (Bad : WorldFault → Type 0)
    → MatchOption first Fine (λ fault. Ok a ≡ Err fault) → Stops → MatchOption first Stops Bad
stops_later None a Fine Stops Bad fine stops = stops
stops_later (Some fault) a Fine Stops Bad fine stops = absurd (cc fine)

-- the same promise of a fault, in other words
told_else : {X E : Type 0} (made : Result X E) (Is Told : E → Type 0) → ((fault : E) → Is fault → Told fault) → IfErr made Is → IfErr made Told
told_else (Ok x) Is Told f is = tt
told_else (Err fault) Is Told f is = f fault is

pub returns-in_err-of-clause-faults : goal.returns-in_err-of-clause-faults
returns-in_err-of-clause-faults c =
    let words = c.args.words.now in let world = c.in_ok-world.world in
    let checks = first_fault (actor_checks c.args.actors) in
    let goes_on = λ (world : World). IsAdoptedWorldState words c.args.actors world.world_state in
    let told : IfErr c.from_residual-in_err-of.result (λ fault. fault ≡ replay.NoMemory) = search rules in
    stops_later checks world _ _ _
    (subst (λ (made : Result World WorldFault). MatchOption checks (MatchResult made goes_on (IsAdoptFault words)) (λ fault. made ≡ Err fault))
    (same_ok ReplayFault c.adopt.result world c.in_ok-world.ensures.cases) c.adopt.ensures.world)
    (told_else c.from_residual-in_err-of.result (λ fault. fault ≡ replay.NoMemory)
    (λ fault. (why : WorldFault) × IsAdoptFault words why × (fault ≡ fault_of_world 1 why)) (λ fault is. (NoMemory, tt, is)) told)
