use Rattle.std.proofs.Common.{◌≡◌, All, vec_len}
use Rattle.hist_core.specs.ActorRun.{IsFreshRun}
use Rattle.hist_core.proofs.world_state.new_actor_runs.Given as goal

abbrev pub invariant-loop : goal.invariant-loop
invariant-loop l = (vec_len l.actor_runs ≡ l.counter) × All IsFreshRun l.actor_runs.items
