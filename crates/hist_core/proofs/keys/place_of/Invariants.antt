use Rattle.std.proofs.Common.{◌≡◌, ◌+◌, drop}
use Rattle.hist_core.specs.DeltaCall.{place_of}
use Rattle.hist_core.proofs.keys.place_of.Given as goal

abbrev pub invariant-loop-place : goal.invariant-loop-place
invariant-loop-place l = place_of l.key l.counts ≡ l.place + place_of l.key (drop l.place l.counts)
