use Rattle.std.proofs.Common.{◌≡◌, min, take}
use Rattle.std.specs.Prelude.{sum_by}
use Rattle.image_reader.specs.Views.{histogram_view}
use Rattle.image_rules.specs.Adoption.{used_by}
use Rattle.povundiri_c.proofs.image_units.unspent.Given as goal

-- the units that the first histograms have used
abbrev pub invariant-loop-hist : goal.invariant-loop-hist
invariant-loop-hist l = l.used ≡ min (sum_by (λ h. used_by (histogram_view h)) (take l.hist-index l.hists)) 18446744073709551615
