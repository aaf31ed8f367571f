use Rattle.std.proofs.Common.{◌∙◌, ap, sym, take, length, subst, ◌≤◌, arith, List}
use Rattle.hist_core.specs.declared.entry.Entry.{Entry}
use Rattle.hist_core.specs.ActorRun.{ended_by}
use Rattle.hist_core.proofs.Worlds.WorldStates.{within, front_is, shown_is}
use Rattle.hist_core.proofs.Worlds.Faults.{shows_nothing}
use Rattle.hist_core.proofs.world.World.ended.Goals as goal

pub slice_bounds-result-end-2 : goal.slice_bounds-result-end-2
slice_bounds-result-end-2 c =
    let r = c.in-Some.actor_run.now in
    let inside = within c.args.self.now.world_state c.args.self.now.reached c.args.actor r c.in-Some.ensures.there.at in
    front_is r.ended c.deref.result.now (subst (λ (l : List Entry). r.ended ≤ length l) (sym c.deref.ensures.value) (omega (arith, inside.0, inside.1)))

pub returns : goal.returns
returns c =
    let r = c.in-Some.actor_run.now in
    ap (take r.ended) c.deref.ensures.value ∙ shown_is ended_by c.args.self.now.world_state c.args.actor r c.in-Some.ensures.there.at

pub returns-in_default : goal.returns-in_default
returns-in_default c = shows_nothing ended_by c.args.self.now.world_state c.args.actor c.in_default.ensures.none
