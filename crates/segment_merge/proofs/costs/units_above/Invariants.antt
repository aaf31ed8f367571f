use Rattle.std.proofs.Common.{◌≡◌, min}
use Rattle.bucket_ranges.specs.Tally.{units_of}
use Rattle.segment_merge.proofs.Items.{items_before}
use Rattle.segment_merge.proofs.costs.units_above.Given as goal

-- the units of the first keys
abbrev pub invariant-loop-i : goal.invariant-loop-i
invariant-loop-i l = l.units ≡ min (units_of (items_before l.hist.counts.items l.hist.marks.items l.i)) 18446744073709551615
