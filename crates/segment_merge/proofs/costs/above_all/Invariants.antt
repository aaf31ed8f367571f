use Rattle.std.proofs.Common.{◌≡◌, min, take}
use Rattle.std.specs.Prelude.{sum_by}
use Rattle.image_reader.specs.Views.{histogram_view}
use Rattle.segment_merge.specs.Merge.{cost_left, units_left}
use Rattle.segment_merge.proofs.costs.above_all.Given as goal

-- what the first histograms have
abbrev pub invariant-loop-hist : goal.invariant-loop-hist
invariant-loop-hist l = record {
  units : l.units ≡ min (sum_by (λ h. units_left (histogram_view h)) (take l.hist-index l.hists)) 18446744073709551615;
  cost : l.cost ≡ min (sum_by (λ h. cost_left (histogram_view h)) (take l.hist-index l.hists)) 18446744073709551615;
}
