use Rattle.segment_invariant.proofs.Prelude.Std.{◌≡◌, ◌+◌, ℕ, List, length, refl, sym, ap, subst, ◌∙◌, arith, vec_len, some-injective, set_else, set_here}
use Rattle.std.proofs.lemmas.List.{with_items_is}
use Rattle.hist_core.specs.declared.actor_run.ActorRun.{ActorRun}
use Rattle.hist_core.specs.ActorRun.{Advances, Answers, held_by, returned_by}
use Rattle.hist_core.specs.Left.{GoesDown, RunningLowers}
use Rattle.hist_core.proofs.Left.Places.{goes_down}
use Rattle.hist_core.proofs.Worlds.WorldStates.{steps, is_there, is_long, some_run, pool_fits}
use Rattle.hist_core.proofs.world_state.WorldState.step.Goals as goal

pub advance-said-requires-clause-runs : goal.advance-said-requires-clause-runs
advance-said-requires-clause-runs c =
    let actor_runs = c.args.self.now.actor_runs in let r = c.index_mut-actor_run.result.now in
    c.requires.busy r (is_there actor_runs.items (vec_len actor_runs) c.args.actor r actor_runs.ok.0 c.requires.near c.index_mut-actor_run.ensures.value)

pub advance-said-requires-clause-stands : goal.advance-said-requires-clause-stands
advance-said-requires-clause-stands c =
    let old = c.args.self.now in let r = c.index_mut-actor_run.result.now in
    some_run old c.requires.reached c.args.actor r (is_there old.actor_runs.items (vec_len old.actor_runs) c.args.actor r old.actor_runs.ok.0 c.requires.near c.index_mut-actor_run.ensures.value)
    _ (ap length c.deref_mut.ensures.value)

pub returns-clause-steps : goal.returns-clause-steps
returns-clause-steps c = λ start state reach.
    let old = c.args.self.now in let r = c.index_mut-actor_run.result.now in
    let at = is_there old.actor_runs.items (vec_len old.actor_runs) c.args.actor r old.actor_runs.ok.0 c.requires.near c.index_mut-actor_run.ensures.value in
    let stored = with_items_is old.words c.advance-said.new.words (c.advance-said.auto.words ∙ c.deref_mut.ensures.len) in
    let size = is_long old c.requires.reached in
    let pool : old.units + c.returned.result ≡ old.units + returned_by c.advance-said.result (held_by r.running) =
    ap (λ n. old.units + n) (c.returned.ensures.units ∙ ap (returned_by c.advance-said.result) c.held-held.ensures.units) in
    steps start old state reach size c.args.actor r c.advance-said.new.self _ at refl refl refl c.advance-said.result
    (λ a order run. subst (λ (w : List ℕ × List ℕ). Advances old.shape old.version r w.0 c.advance-said.new.self w.1 c.advance-said.result a) (λ i. (c.deref_mut.ensures.value i, sym stored i))
    (c.advance-said.ensures.advances old.shape old.version a (sym (ap length c.deref_mut.ensures.value ∙ size)) order run))
    pool

pub returns-clause-others : goal.returns-clause-others
returns-clause-others c =
    record { shape = refl; version = refl; count = refl; others = λ other apart. set_else c.args.self.now.actor_runs.items c.args.actor other c.advance-said.new.self apart }

pub returns-clause-says : goal.returns-clause-says
returns-clause-says c = λ before behind was is.
    let old = c.args.self.now in let r = c.index_mut-actor_run.result.now in
    let at = is_there old.actor_runs.items (vec_len old.actor_runs) c.args.actor r old.actor_runs.ok.0 c.requires.near c.index_mut-actor_run.ensures.value in
    let stored = with_items_is old.words c.advance-said.new.words (c.advance-said.auto.words ∙ c.deref_mut.ensures.len) in
    let first = some-injective r before (sym at ∙ was) in
    let then_is = some-injective c.advance-said.new.self behind (sym (set_here old.actor_runs.items c.args.actor c.advance-said.new.self (let ok = old.actor_runs.ok.0 in omega (arith, ok, c.requires.near))) ∙ is) in
    subst (λ (w : ActorRun × List ℕ × ActorRun × List ℕ). Answers w.0 w.1 w.2 w.3 c.advance-said.result) (λ i. (first i, c.deref_mut.ensures.value i, then_is i, sym stored i))
    c.advance-said.ensures.answers

pub overflow_add-self : goal.overflow_add-self
overflow_add-self c =
    let few = c.held-held.ensures.few in let some = c.returned.ensures.few in let pool = pool_fits c.args.self.now c.requires.reached in omega (arith, few, some, pool)

pub returns-clause-less : goal.returns-clause-less
returns-clause-less c = λ before behind was is.
    let old = c.args.self.now in let r = c.index_mut-actor_run.result.now in
    let at = is_there old.actor_runs.items (vec_len old.actor_runs) c.args.actor r old.actor_runs.ok.0 c.requires.near c.index_mut-actor_run.ensures.value in
    let stored = with_items_is old.words c.advance-said.new.words (c.advance-said.auto.words ∙ c.deref_mut.ensures.len) in
    let first = some-injective r before (sym at ∙ was) in
    let then_is = some-injective c.advance-said.new.self behind (sym (set_here old.actor_runs.items c.args.actor c.advance-said.new.self (let ok = old.actor_runs.ok.0 in omega (arith, ok, c.requires.near))) ∙ is) in
    let lowers = subst (λ (l : List ℕ). RunningLowers r.running l c.advance-said.new.self.running c.advance-said.new.words c.advance-said.result) c.deref_mut.ensures.value
    c.advance-said.ensures.less in
    subst (λ (w : ActorRun × ActorRun × List ℕ). GoesDown w.0.running old.words.items w.1.running w.2 c.advance-said.result) (λ i. (first i, then_is i, sym stored i))
    (goes_down old c.requires.reached c.args.actor r at c.advance-said.new.self.running c.advance-said.new.words c.advance-said.result lowers)
