use Rattle.std.proofs.Common.{sym, subst}
use Rattle.bucket_ranges.specs.Ranges.{AreBoundaries}
use Rattle.bucket_ranges.proofs.Customs.{sorted_once, custom_boundaries-are}
use Rattle.bucket_ranges.proofs.ranges.custom.Goals as goal

-- The values lie between both ends before they are sorted.
pub returns : goal.returns
returns c = record {
  boundaries = sorted_once c.args.values.now c.in_ok-boundaries.boundaries.items c.sort_unstable.new.self.items
      c.dedup.new.self.items c.requires c.in_ok-boundaries.ensures c.sort_unstable.ensures.permutation
      c.sort_unstable.ensures.sorted c.dedup.ensures.filtered;
}

pub invariant_of-result : goal.invariant_of-result
invariant_of-result c =
    subst AreBoundaries (sym (sorted_once c.args.values.now c.in_ok-boundaries.boundaries.items c.sort_unstable.new.self.items
    c.dedup.new.self.items c.requires c.in_ok-boundaries.ensures c.sort_unstable.ensures.permutation c.sort_unstable.ensures.sorted
    c.dedup.ensures.filtered))
    (custom_boundaries-are c.args.values.now c.requires)
