use Rattle.segment_invariant.proofs.Prelude.Std.{◌≡◌, ℤ, List, sym, ap, subst, ◌∙◌, refl, arith, w32, w64, to_z, of_z, rules, Some, None}
use Rattle.hist_core.specs.declared.call.Stepped.TheVariants as stepped
use Rattle.hist_core.specs.declared.entry.Taken.{Taken}
use Rattle.hist_core.specs.declared.actor_run.Running.{Running}
use Rattle.hist_core.specs.declared.actor_run.Running.TheVariants.{Delta}
use Rattle.hist_core.specs.declared.actor_run.ActorRun.{ActorRun}
use Rattle.hist_core.specs.declared.delta_call.DeltaCallStep.{DeltaCallStep}
use Rattle.hist_core.specs.declared.delta_call.DeltaCallStep.TheVariants.{Took, Done}
use Rattle.hist_core.specs.ActorRun.{HasEndedDelta, HasDraftRoom, IsDeltaAnnounced, LastBecomes, TakesOfOne}
use Rattle.hist_core.proofs.DeltaCall.Deltas.{last_fits, last_split, placed}
use Rattle.hist_core.proofs.actor_run.ActorRun.after_delta.Goals as goal

pub draw-requires-clause-some : goal.draw-requires-clause-some
draw-requires-clause-some c =
    let (delta_call, fresh, was) = placed c.args.said c.args.self.now.running c.args.self.now.taken c.requires.place in
    let shown = c.show.ensures delta_call fresh was in
    let fits = last_fits c.args.said delta_call fresh c.args.self.now.taken c.show.new.self.taken.items
    (subst (λ running. HasDraftRoom c.args.said running c.args.self.now.taken) was c.requires.place) shown.1 in
    let some = fits.0 in let ok = c.show.new.self.taken.ok in omega (arith, some, ok)

pub draw-requires-clause-room : goal.draw-requires-clause-room
draw-requires-clause-room c =
    let (delta_call, fresh, was) = placed c.args.said c.args.self.now.running c.args.self.now.taken c.requires.place in
    let shown = c.show.ensures delta_call fresh was in
    let said_so = subst (λ (p : DeltaCallStep × Running). HasDraftRoom p.0 (Some p.1) c.args.self.now.taken) (λ i. (c.in-Took.is i, Delta delta_call fresh))
    (subst (λ running. HasDraftRoom c.args.said running c.args.self.now.taken) was c.requires.place) in
    (last_fits (Took c.in-Took.key c.in-Took.units) delta_call fresh c.args.self.now.taken c.show.new.self.taken.items said_so shown.1).1

pub end_delta-requires-clause-takes : goal.end_delta-requires-clause-takes
end_delta-requires-clause-takes c =
    let (delta_call, fresh, was) = placed c.args.said c.args.self.now.running c.args.self.now.taken c.requires.place in
    let shown = c.show.ensures delta_call fresh was in
    subst TakesOfOne (sym (ap (λ (r : ActorRun). r.running) shown.0)) tt

pub end_delta-requires-clause-some : goal.end_delta-requires-clause-some
end_delta-requires-clause-some c =
    let (delta_call, fresh, was) = placed c.args.said c.args.self.now.running c.args.self.now.taken c.requires.place in
    let shown = c.show.ensures delta_call fresh was in
    let fits = last_fits c.args.said delta_call fresh c.args.self.now.taken c.show.new.self.taken.items
    (subst (λ running. HasDraftRoom c.args.said running c.args.self.now.taken) was c.requires.place) shown.1 in
    let some = fits.0 in let ok = c.show.new.self.taken.ok in omega (arith, some, ok)

pub returns-in-More : goal.returns-in-More
returns-in-More c = λ delta_call fresh was.
    let shown = c.show.ensures delta_call fresh was in
    let fits = last_fits c.args.said delta_call fresh c.args.self.now.taken c.show.new.self.taken.items
    (subst (λ running. HasDraftRoom c.args.said running c.args.self.now.taken) was c.requires.place) shown.1 in
    let (before, last, is) = last_split c.show.new.self.taken.items fits.0 in
    subst (λ said. IsDeltaAnnounced delta_call fresh c.args.self.now said c.show.new.self stepped.More) (sym c.in-More.is)
    ((before, last, last, sym shown.1 ∙ is, is, refl), shown.0, refl)

pub returns-in-Took : goal.returns-in-Took
returns-in-Took c = λ delta_call fresh was.
    let shown = c.show.ensures delta_call fresh was in
    let new : ActorRun = record c.show.new.self { taken = c.draw.new.taken } in
    let whole : to_z w32 (of_z w32 c.in-Took.key) ≡ c.in-Took.key = search rules in
    subst (λ said. IsDeltaAnnounced delta_call fresh c.args.self.now said new stepped.More) (sym c.in-Took.is) (
      subst (λ (p : ℤ × List Taken). LastBecomes (Took p.0 c.in-Took.units) p.1 c.draw.new.taken.items) (λ i. (whole i, shown.1 i)) c.draw.ensures,
      ap (λ (r : ActorRun). record r { taken = c.draw.new.taken }) shown.0,
      refl,
    )

pub returns-in-Done : goal.returns-in-Done
returns-in-Done c = λ delta_call fresh was.
    let shown = c.show.ensures delta_call fresh was in
    let whole : to_z w64 (of_z w64 c.in-Done.sum) ≡ c.in-Done.sum = search rules in
    let ended = subst (λ (z : ℤ). HasEndedDelta delta_call z c.show.new.self c.end_delta.new.self c.end_delta.result) whole
    (c.end_delta.ensures delta_call None (ap (λ (r : ActorRun). r.running) shown.0)) in
    subst (λ said. IsDeltaAnnounced delta_call fresh c.args.self.now said c.end_delta.new.self c.end_delta.result) (sym c.in-Done.is) (
      subst (λ (l : List Taken). LastBecomes (Done c.in-Done.sum) l c.end_delta.new.self.taken.items) shown.1 ended.0,
      ended.1 ∙ ap (λ (r : ActorRun). record r { taken = c.end_delta.new.self.taken; running = None }) shown.0,
      ended.2,
    )
