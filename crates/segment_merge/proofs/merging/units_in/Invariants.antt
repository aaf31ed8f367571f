use Rattle.std.proofs.Common.{◌≡◌, take}
use Rattle.bucket_ranges.specs.Tally.{units_of}
use Rattle.segment_merge.proofs.merging.units_in.Given as goal

abbrev pub invariant-loop-item : goal.invariant-loop-item
invariant-loop-item l = l.units ≡ units_of (take l.item-index l.items)
