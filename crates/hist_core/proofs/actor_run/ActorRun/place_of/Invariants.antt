use Rattle.segment_invariant.proofs.Prelude.Std.{◌≡◌, ◌≢◌, ◌<◌, ℕ, some, get_elem?}
use Rattle.hist_core.specs.declared.hist.KnownHist.{KnownHist}
use Rattle.hist_core.proofs.actor_run.ActorRun.place_of.Given as goal

abbrev pub invariant-loop-i : goal.invariant-loop-i
invariant-loop-i l = (j : ℕ) (known : KnownHist) → j < l.i → get_elem? l.self.known.items j ≡ some known → known.name.items ≢ l.name
