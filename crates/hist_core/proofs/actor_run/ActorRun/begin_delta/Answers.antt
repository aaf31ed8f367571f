use Rattle.segment_invariant.proofs.Prelude.Std.{◌≡◌, pos, refl, sym, ap, subst, ◌∙◌, arith, some-injective}
use Rattle.hist_core.specs.declared.hist.KnownHist.{KnownHist}
use Rattle.hist_core.specs.DeltaCall.{IsStarted}
use Rattle.hist_core.specs.ActorRun.{known_of}
use Rattle.hist_core.proofs.actor_run.ActorRun.begin_delta.Goals as goal

pub returns-clause-begins : goal.returns-clause-begins
returns-clause-begins c = λ known at.
    let here = c.known_at-known.result.now in
    let same : here ≡ known = some-injective here known (sym c.known_at-known.ensures.at ∙ at) in
    let delta_call = c.in_ok-delta_call.delta_call in
    let started : IsStarted c.args.shape c.args.version (known_of known) delta_call = subst (λ (k : KnownHist). IsStarted c.args.shape c.args.version (known_of k) delta_call) same c.in_ok-delta_call.ensures in
    record {
      delta_call = delta_call;
      fresh = record { name = c.in_ok-from_slice.field-0; counts = c.in_ok-with_capacity.field-0; sum = pos 0 };
      started = started;
      named = c.in_ok-from_slice.ensures.items ∙ (c.deref.ensures.value ∙ ap (λ (k : KnownHist). k.name.items) same);
      draft = (c.in_ok-with_capacity.ensures.items ∙ sym started.none, c.in_ok-with_capacity.ensures.exact ∙ c.capacity.ensures, refl);
      taken = c.reserve.ensures.items;
      room = (let room = c.in_ok-reserve.ensures.ok in omega (arith, room));
      is = refl;
    }
