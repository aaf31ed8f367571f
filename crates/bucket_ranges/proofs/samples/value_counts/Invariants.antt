use Rattle.std.proofs.Common.{◌≡◌, ℤ, take}
use Rattle.std.specs.Ordering.{int_cmp}
use Rattle.std.specs.Map.{count_at}
use Rattle.std.specs.BTreeMap.{get, IsOrdered}
use Rattle.bucket_ranges.specs.Tally.{units_at, HaveUnits}
use Rattle.bucket_ranges.proofs.samples.value_counts.Given as goal

-- Each value has its units of the samples so far, and those that have none are left out.
abbrev pub invariant-loop-value : goal.invariant-loop-value
invariant-loop-value l = record {
  counted : (q : ℤ) → count_at (get int_cmp l.counts) q ≡ units_at (take l.value-index l.samples) q;
  some : HaveUnits l.counts;
  ordered : IsOrdered int_cmp l.counts;
}
