use Rattle.std.proofs.Common.{◌≡◌, min, take}
use Rattle.bucket_ranges.specs.Tally.{units_of}
use Rattle.live_segment.proofs.add.cost.units_of_items.Given as goal

abbrev pub invariant-loop-item : goal.invariant-loop-item
invariant-loop-item l = l.units ≡ min (units_of (take l.item-index l.items)) 18446744073709551615
