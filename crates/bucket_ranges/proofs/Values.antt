-- The counts of single values, in a map.
use Rattle.std.proofs.Common.{◌≡◌, ℕ, ◌+◌, ◌<◌, ◌≤◌, ℤ, List, length, take, get_or, Option, Some, None, unwrap_or, if◌then◌else◌, refl, ap, ◌∙◌, arith}
use Rattle.std.specs.Ordering.{int_cmp, int_eq}
use Rattle.std.specs.List.{Contains}
use Rattle.std.specs.Map.{count_at}
use Rattle.std.specs.BTreeMap.{BTreeMap, get, IsOrdered}
use Rattle.std.proofs.lemmas.Bool.Decides.{Decides-int_eq}
use Rattle.std.proofs.lemmas.Cmp.{int_cmp_total}
use Rattle.std.proofs.lemmas.Map.Views.{All-found, Contains-from_lookup}
use Rattle.bucket_ranges.specs.Tally.{units_of, units_at, AreValueCounts, HaveUnits}
use Rattle.bucket_ranges.proofs.Sums.{units_where-more, units_where-le, units-bound}

-- each value has its units in the map
abbrev pub Counts : BTreeMap ℤ ℕ → List (ℤ × ℕ) → Type 0
Counts counts samples = (q : ℤ) → count_at (get int_cmp counts) q ≡ units_at samples q

-- the units of a value so far, and those of the next sample, are no more than all
pub value-bound : (counts : BTreeMap ℤ ℕ) (samples : List (ℤ × ℕ)) (i : ℕ) (d : ℤ × ℕ) (value : ℤ) (most : ℕ) → i < length samples
    → units_of samples ≤ most → Counts counts (take i samples) → count_at (get int_cmp counts) value + (get_or samples i d).1 ≤ most
value-bound counts samples i d value most within le counted =
    omega (arith, counted value, units_where-le (int_eq value) (take i samples), units-bound samples i d most within le)

-- one sample more
pub counts-more : (before after : BTreeMap ℤ ℕ) (samples : List (ℤ × ℕ)) (i : ℕ) (d : ℤ × ℕ) (value : ℤ) → i < length samples
    → value ≡ (get_or samples i d).0
    → ((q : ℤ) → count_at (get int_cmp after) q ≡ count_at (get int_cmp before) q + (if int_eq q value then (get_or samples i d).1 else 0))
    → Counts before (take i samples) → Counts after (take (i + 1) samples)
counts-more before after samples i d value within is added counted = λ q.
    let more = units_where-more (int_eq q) samples i d within in
    let here = rw is at (added q) in
    omega (arith, here, counted q, more)

every-by : (counts : BTreeMap ℤ ℕ) (samples : List (ℤ × ℕ)) (value : ℤ) (found : Option ℕ) → get int_cmp counts value ≡ found
    → unwrap_or found 0 ≡ units_at samples value → 0 < units_at samples value → Contains counts.entries (value, units_at samples value)
every-by counts samples value None is units above = absurd (omega (arith, units, above))
every-by counts samples value (Some count) is units above =
    Contains-from_lookup (λ x y e. (Decides-int_eq x y).0 e) value (units_at samples value) counts.entries (is ∙ ap Some units)

-- the map's entries are the counts
pub value_counts-are : (counts : BTreeMap ℤ ℕ) (samples : List (ℤ × ℕ)) → IsOrdered int_cmp counts → Counts counts samples → HaveUnits counts
    → AreValueCounts samples counts.entries
value_counts-are counts samples ordered counted some = record {
  ascending = ordered;
  each = λ k d lt.
      let entry : ℤ × ℕ = get_or counts.entries k d in
      let found : get int_cmp counts entry.0 ≡ Some entry.1 = All-found int_cmp_total counts ordered k d lt in
      let units = counted entry.0 in
      let above = some entry.0 in
      (rw found at above, rw found at units);
  every = λ value above. every-by counts samples value (get int_cmp counts value) refl (counted value) above;
}
