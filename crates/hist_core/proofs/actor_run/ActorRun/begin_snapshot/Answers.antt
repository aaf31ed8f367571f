use Rattle.segment_invariant.proofs.Prelude.Std.{◌≡◌, refl, sym, subst, ◌∙◌, some-injective}
use Rattle.hist_core.specs.declared.hist.KnownHist.{KnownHist}
use Rattle.hist_core.specs.SnapshotCall.{IsStarted}
use Rattle.hist_core.specs.ActorRun.{known_of}
use Rattle.hist_core.proofs.actor_run.ActorRun.begin_snapshot.Goals as goal

pub returns-clause-begins : goal.returns-clause-begins
returns-clause-begins c = λ known at.
    let here = c.known_at.result.now in
    let same : here ≡ known = some-injective here known (sym c.known_at.ensures.at ∙ at) in
    (c.in_ok-snapshot_call.snapshot_call, subst (λ (k : KnownHist). IsStarted c.args.shape c.args.version (known_of k) c.in_ok-snapshot_call.snapshot_call) same c.in_ok-snapshot_call.ensures, refl)
