use Rattle.segment_invariant.proofs.Prelude.Std.{◌≡◌, ◌∙◌, ap, arith, rules, sym, None}
use Rattle.hist_core.specs.Exchanging.{run_attempt}
use Rattle.hist_core.proofs.Exchanging.{beyond}
use Rattle.hist_core.proofs.world.World.next_exchange.Goals as goal

pub returns : goal.returns
returns c = c.next_exchange.ensures ∙ ap run_attempt (sym c.in_ok-run.ensures.there.at)

pub returns-in_err-run : goal.returns-in_err-run
returns-in_err-run c =
    let none : c.from_residual.result ≡ None = search rules in let actor_runs = c.args.self.now.world_state.actor_runs in let far = c.in_err-run.ensures.none in
    none ∙ beyond run_attempt actor_runs.items c.args.actor (let long = actor_runs.ok.0 in omega (arith, far, long))
