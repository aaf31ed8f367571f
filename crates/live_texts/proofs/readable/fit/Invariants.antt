use Rattle.std.proofs.Common.{◌≡◌, ◌<◌, ◌^◌, take}
use Rattle.std.specs.List.{sum_by}
use Rattle.live_texts.proofs.readable.fit.Given as goal

abbrev pub invariant-loop-units : goal.invariant-loop-units
invariant-loop-units l = record {
  is : l.sum ≡ sum_by (λ count. count.1) (take l.units-index l.counts);
  small : l.sum < 2 ^ 64;
}
