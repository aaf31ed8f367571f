use Rattle.std.proofs.Common.{vec_len, arith}
use Rattle.hist_core.proofs.Worlds.WorldStates.{is_there}
use Rattle.hist_core.proofs.world_state.WorldState.run.Goals as goal

pub returns-clause-there : goal.returns-clause-there
returns-clause-there c =
    let actor_runs = c.args.self.now.actor_runs in record {
      near = omega (arith, c.if-actor-len.false, c.len.ensures);
      at = is_there actor_runs.items (vec_len actor_runs) c.args.actor c.index.result.now actor_runs.ok.0 (omega (arith, c.if-actor-len.false, c.len.ensures)) c.index.ensures;
    }
