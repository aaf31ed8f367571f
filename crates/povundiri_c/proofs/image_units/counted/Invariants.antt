use Rattle.std.proofs.Common.{◌≡◌, min, take}
use Rattle.std.specs.Prelude.{sum_by}
use Rattle.povundiri_c.proofs.image_units.counted.Given as goal

-- the units of the first keys
abbrev pub invariant-loop-count : goal.invariant-loop-count
invariant-loop-count l = l.units ≡ min (sum_by (λ count. count.1) (take l.count-index l.hist.counts.items)) 18446744073709551615
