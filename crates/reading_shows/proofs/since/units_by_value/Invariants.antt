use Rattle.std.proofs.Common.{◌≡◌, ℤ, take}
use Rattle.std.specs.Ordering.{int_cmp}
use Rattle.std.specs.Map.{count_at}
use Rattle.std.specs.BTreeMap.{get}
use Rattle.reading_shows.specs.Since.{units_at}
use Rattle.reading_shows.proofs.since.units_by_value.Given as goal

abbrev pub invariant-loop-value : goal.invariant-loop-value
invariant-loop-value l = (q : ℤ) → count_at (get int_cmp l.units) q ≡ units_at (take l.value-index l.counts) q
