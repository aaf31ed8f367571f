use Rattle.segment_invariant.proofs.Prelude.Std.{◌≡◌, ◌∙◌, ap, arith, rules, sym, None}
use Rattle.hist_core.specs.Loading.{run_load}
use Rattle.hist_core.proofs.Exchanging.{beyond}
use Rattle.hist_core.proofs.world.World.next_load.Goals as goal

pub returns : goal.returns
returns c = c.next_load.ensures ∙ ap run_load (sym c.in_ok-run.ensures.there.at)

pub returns-in_err-run : goal.returns-in_err-run
returns-in_err-run c =
    let none : c.from_residual.result ≡ None = search rules in let actor_runs = c.args.self.now.world_state.actor_runs in let far = c.in_err-run.ensures.none in
    none ∙ beyond run_load actor_runs.items c.args.actor (let long = actor_runs.ok.0 in omega (arith, far, long))
