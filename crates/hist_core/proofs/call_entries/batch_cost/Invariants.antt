use Rattle.std.proofs.Common.{◌≡◌, take, min}
use Rattle.bucket_ranges.specs.Tally.{units_of}
use Rattle.hist_core.proofs.call_entries.batch_cost.Given as goal

abbrev pub invariant-loop-item : goal.invariant-loop-item
invariant-loop-item l = l.units ≡ min (units_of (take l.item-index l.items)) 18446744073709551615
