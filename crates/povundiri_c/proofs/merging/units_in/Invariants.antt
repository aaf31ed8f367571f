use Rattle.std.proofs.Common.{◌≡◌, min, take}
use Rattle.std.specs.Prelude.{sum_by}
use Rattle.povundiri_c.proofs.merging.units_in.Given as goal

-- the units of the first lines
abbrev pub invariant-loop-line : goal.invariant-loop-line
invariant-loop-line l = l.units ≡ min (sum_by (λ line. line.1) (take l.line-index l.lines)) 18446744073709551615
