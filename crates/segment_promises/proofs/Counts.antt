-- The tally of the entries of samples is what the samples add up to.
use Rattle.segment_invariant.proofs.Prelude.Std.{◌≡◌, ◌≢◌, ◌⊎◌, ℕ, zero, suc, ◌+◌, ◌-◌, ◌<◌, ◌≤◌, max, Bool, true, false, true≢false, ◌&&◌, nat_lt, nat_le, ℤ, pos, ◌+ℤ◌, List, [], ◌∷◌, map, length, inl, inr, refl, sym, ap, ◌∙◌, subst, arith, dite, ℕ_discrete, if◌then◌else◌, slice_index, fold, sum_by, filter, range_with_len, Contains, AllByRecursion, int_eq, bytes_eq, and_parts, cases_order, le-leb, lt-ltb, leb-true, ltb-true, Decides-int_eq, bytes_eq-Decides, All-contains, Contains-append_right, sum_by-cons}
use Rattle.segment_invariant.proofs.Prelude.Machine.{Entry, key_of, is_of, tally_units, tally_noted, units_listed}
use Rattle.std.proofs.Common.{negsuc}
use native.Mathlib.Decide.{dec_le}
use Rattle.std.specs.List.Sorted.{IsStrictlySortedBy}
use Rattle.std.specs.declared.cmp.Ordering.TheVariants.{Less}
use Rattle.std.specs.Ordering.{int_cmp, is_eq}
use Rattle.std.specs.Bool.{MatchBool}
use Rattle.std.proofs.lemmas.List.{get_or_past}
use Rattle.bucket_ranges.specs.Ranges.{clamped, AreBoundaries, IsBucketOf}
use Rattle.bucket_ranges.specs.Tally.{AreValueCounts, is_in_bucket, bucket_counts, units_where, units_at, amount_of}
use Rattle.bucket_ranges.proofs.Buckets.{one_bucket}
use Rattle.segment_machine.specs.Entry.{sample_entry}
use Rattle.segment_machine.proofs.Keys.{keys_are_least}
use Rattle.list_lemmas.proofs.Sums.{numbers}
use Rattle.segment_promises.specs.Tallies.{TalliesAreCounts}
use Rattle.segment_promises.proofs.Parts.{total, total_same, total_both, total_nothing, alone, is_alone, not_alone, in_row, zero_left, total_of_numbers}

-- ---- numbers added up

abbrev add_up : {X : Type 0} → (X → ℕ) → List X → ℕ
add_up f xs = total 0 ◌+◌ numbers zero_left f xs

pub sum_of_map : {X Y : Type 0} (f : Y → ℕ) (g : X → Y) (xs : List X) → sum_by f (map g xs) ≡ sum_by (λ x. f (g x)) xs
sum_of_map f g [] = refl
sum_of_map f g (x ∷ xs) = sum_by-cons f (g x) (map g xs) ∙ (ap (λ (n : ℕ). f (g x) + n) (sum_of_map f g xs) ∙ sym (sum_by-cons (λ x. f (g x)) x xs))

if_sum : (b : Bool) (m n : ℕ) → (if b then m + n else 0) ≡ (if b then m else 0) + (if b then n else 0)
if_sum true m n = refl
if_sum false m n = refl

if_same : (b : Bool) (n : ℕ) → (if b then n else n) ≡ n
if_same true n = refl
if_same false n = refl

-- ---- the entries of samples

module _ (name boundaries : List ℕ) where
  abbrev entry : ℤ × ℕ → Entry
  entry s = sample_entry name boundaries s

  mine : bytes_eq name name ≡ true
  mine = (bytes_eq-Decides name name).1 refl

  -- all are of the name
  abbrev keyed : ℤ → ℤ × ℕ → ℕ
  keyed key s = if int_eq (key_of boundaries s.0) key then s.1 else 0

  units_are : (samples : List (ℤ × ℕ)) (key : ℤ) → tally_units (map entry samples) name key ≡ add_up (keyed key) samples
  units_are samples key =
      sum_of_map _ entry samples
      ∙ (total_of_numbers _ samples
      ∙ total_same 0 ◌+◌ numbers zero_left _ (keyed key) (λ s. (λ i. if mine i && int_eq (key_of boundaries s.0) key then s.1 else 0)) samples)

  noted_are : (samples : List (ℤ × ℕ)) → tally_noted (map entry samples) name ≡ sum_by (λ (s : ℤ × ℕ). s.1) samples
  noted_are samples =
      sum_of_map _ entry samples
      ∙ (total_of_numbers _ samples
      ∙ (total_same 0 ◌+◌ numbers zero_left _ (λ (s : ℤ × ℕ). s.1) (λ s. (λ i. if mine i then s.1 else 0)) samples
      ∙ sym (total_of_numbers (λ (s : ℤ × ℕ). s.1) samples)))

  amounts_along : (samples : List (ℤ × ℕ))
      → map (λ (e : Entry). if is_of name e then e.amount else pos 0) (map entry samples) ≡ map (amount_of boundaries) samples
  amounts_along [] = refl
  amounts_along (s ∷ rest) = λ i. (if mine i then amount_of boundaries s else pos 0) ∷ amounts_along rest i

-- ---- with buckets

module _ (boundaries : List ℕ) (are : AreBoundaries boundaries) (some : 1 < length boundaries) where
  clamped_below : (value : ℤ) → clamped value < 2147483647
  clamped_below (pos n) = omega arith
  clamped_below (negsuc n) = omega arith

  -- a value that is not below a boundary is below the next, or not
  here_or_on : (value i : ℕ) → i + 1 < length boundaries → slice_index boundaries i ≤ value
      → (slice_index boundaries (i + 1) ≤ value → (bucket : ℕ) × IsBucketOf boundaries value bucket)
      → (value ≡ slice_index boundaries (i + 1)) ⊎ ((value < slice_index boundaries (i + 1)) ⊎ (slice_index boundaries (i + 1) < value))
      → (bucket : ℕ) × IsBucketOf boundaries value bucket
  here_or_on value i within le onward (inl same) = onward (omega (arith, same))
  here_or_on value i within le onward (inr (inl less)) = (i, record { within = within; low = le; high = less })
  here_or_on value i within le onward (inr (inr more)) = onward (omega (arith, more))

  -- from a boundary that is not above a value on, there is its bucket
  search_bucket : (value fuel i : ℕ) → value < 2147483647 → i + fuel + 1 ≡ length boundaries → slice_index boundaries i ≤ value
      → (bucket : ℕ) × IsBucketOf boundaries value bucket
  search_bucket value zero i low all le =
      let last = (are.ends (omega (arith, some))).1 in
      let place : length boundaries - 1 ≡ i = omega (arith, all) in
      let same = ap (slice_index boundaries) place in
      absurd (omega (arith, low, le, last, same))
  search_bucket value (suc fuel) i low all le =
      here_or_on value i (omega (arith, all)) le (λ more. search_bucket value fuel (i + 1) low (omega (arith, all)) more)
      (cases_order value (slice_index boundaries (i + 1)))

  bucket_of : (value : ℤ) → (bucket : ℕ) × IsBucketOf boundaries (clamped value) bucket
  bucket_of value =
      let first = (are.ends (omega (arith, some))).0 in
      search_bucket (clamped value) (length boundaries - 1) 0 (clamped_below value) (omega (arith, some)) (omega (arith, first))

  module _ (value : ℤ) (bucket : ℕ) (is : IsBucketOf boundaries (clamped value) bucket) where
    in_this : is_in_bucket boundaries bucket value ≡ true
    in_this =
        let low = le-leb (slice_index boundaries bucket) (clamped value) is.low in
        let high = lt-ltb (clamped value) (slice_index boundaries (bucket + 1)) is.high in
        λ i. low i && high i

    in_another : (i : ℕ) → bucket ≢ i → (found : Bool) → is_in_bucket boundaries i value ≡ found → is_in_bucket boundaries i value ≡ false
    in_another i ne false e = e
    in_another i ne true e =
        let parts = and_parts _ _ e in
        let high = ltb-true (clamped value) (slice_index boundaries (i + 1)) parts.1 in
        dite (within (i + 1))
        (λ inside. absurd (ne (one_bucket boundaries (clamped value) bucket i are.ascending is record {
          within = inside;
          low = leb-true (slice_index boundaries i) (clamped value) parts.0;
          high = high;
        })))
        (λ outside. let none = get_or_past boundaries (i + 1) 0 (omega (arith, outside)) in absurd (omega (arith, high, none)))
      where
        within : (n : ℕ) → Dec (n < length boundaries)
        within n = dec_le (suc n) (length boundaries)

    -- over all buckets, the units of one sample that are in a bucket of a key
    abbrev of_bucket : ℤ → ℕ → ℕ → ℕ
    of_bucket key units i = if int_eq (pos (slice_index boundaries i)) key then (if is_in_bucket boundaries i value then units else 0) else 0

    one_sample : (key : ℤ) (units : ℕ)
        → add_up (of_bucket key units) (range_with_len 0 (length boundaries - 1)) ≡ (if int_eq (key_of boundaries value) key then units else 0)
    one_sample key units =
        let whole : ℕ = if int_eq (pos (slice_index boundaries bucket)) key then units else 0 in
        total_same 0 ◌+◌ numbers zero_left (of_bucket key units) (alone 0 ◌+◌ numbers zero_left bucket whole) (λ i. dite (ℕ_discrete bucket i)
        (λ e. ap (of_bucket key units) (sym e) ∙ ((λ k. if int_eq (pos (slice_index boundaries bucket)) key then (if in_this k then units else 0) else 0)
        ∙ sym (is_alone 0 ◌+◌ numbers zero_left bucket i whole e)))
        (λ ne. (λ k. if int_eq (pos (slice_index boundaries i)) key then (if in_another i ne (is_in_bucket boundaries i value) refl k then units else 0) else 0)
        ∙ (if_same (int_eq (pos (slice_index boundaries i)) key) 0 ∙ sym (not_alone 0 ◌+◌ numbers zero_left bucket i whole ne))))
        (range_with_len 0 (length boundaries - 1))
        ∙ (in_row 0 ◌+◌ numbers zero_left bucket 0 (length boundaries - 1) whole (omega arith) (let w = is.within in omega (arith, w))
        ∙ ap (λ (k : ℤ). if int_eq k key then units else 0) (sym (keys_are_least boundaries value bucket are is)))

  -- over all buckets, the units of samples that are in a bucket of a key
  abbrev of_buckets : ℤ → List (ℤ × ℕ) → ℕ → ℕ
  of_buckets key samples i = if int_eq (pos (slice_index boundaries i)) key then units_where (is_in_bucket boundaries i) samples else 0

  abbrev row : List ℕ
  row = range_with_len 0 (length boundaries - 1)

  all_samples : (name : List ℕ) (key : ℤ) (samples : List (ℤ × ℕ)) → add_up (of_buckets key samples) row ≡ add_up (keyed name boundaries key) samples
  all_samples name key [] =
      total_same 0 ◌+◌ numbers zero_left (of_buckets key []) (λ i. 0) (λ i. if_same (int_eq (pos (slice_index boundaries i)) key) 0) row
      ∙ total_nothing 0 ◌+◌ numbers zero_left row
  all_samples name key (s ∷ rest) =
      let (bucket, is) = bucket_of s.0 in
      total_same 0 ◌+◌ numbers zero_left (of_buckets key (s ∷ rest)) (λ i. of_bucket s.0 bucket is key s.1 i + of_buckets key rest i)
      (λ i. ap (λ (n : ℕ). if int_eq (pos (slice_index boundaries i)) key then n else 0)
      (sum_by-cons (λ (sample : ℤ × ℕ). if is_in_bucket boundaries i sample.0 then sample.1 else 0) s rest)
      ∙ if_sum (int_eq (pos (slice_index boundaries i)) key) _ _) row
      ∙ (total_both 0 ◌+◌ numbers zero_left (of_bucket s.0 bucket is key s.1) (of_buckets key rest) row
      ∙ (λ k. one_sample s.0 bucket is key s.1 k + all_samples name key rest k))

  by_buckets : (name : List ℕ) (samples : List (ℤ × ℕ)) (key : ℤ)
      → units_listed (bucket_counts boundaries samples) key ≡ tally_units (map (sample_entry name boundaries) samples) name key
  by_buckets name samples key =
      sum_of_map _ _ row ∙ (total_of_numbers _ row ∙ (all_samples name key samples ∙ sym (units_are name boundaries samples key)))

-- ---- without

-- a test finds that two numbers differ
differ : (x y : ℤ) → x ≢ y → (b : Bool) → int_eq x y ≡ b → int_eq x y ≡ false
differ x y ne true e = absurd (ne ((Decides-int_eq x y).0 e))
differ x y ne false e = e

-- whichever way round they are asked
turned : (x y : ℤ) (b : Bool) → int_eq x y ≡ b → int_eq x y ≡ int_eq y x
turned x y true e = e ∙ sym ((Decides-int_eq y x).1 (sym ((Decides-int_eq x y).0 e)))
turned x y false e = e ∙ sym (differ y x (λ same. absurd (true≢false (sym ((Decides-int_eq x y).1 (sym same)) ∙ e))) (int_eq y x) refl)

-- a number that is below another is not the same
pub less_differs : (x y : ℤ) → int_cmp x y ≡ Less → x ≢ y
less_differs x y less same = true≢false (sym ((Decides-int_eq x y).1 same) ∙ ap is_eq less)

-- a key that none has has no units
none_listed : (counts : List (ℤ × ℕ)) (key : ℤ) → ((count : ℤ × ℕ) → Contains counts count → count.0 ≢ key) → units_listed counts key ≡ 0
none_listed [] key none = refl
none_listed (c ∷ rest) key none =
    sum_by-cons _ c rest
    ∙ (λ i. (if differ c.0 key (none c (0, omega arith, refl)) (int_eq c.0 key) refl i then c.1 else 0)
    + none_listed rest key (λ d among. none d (Contains-append_right (c ∷ []) rest d among)) i)

-- what holds of all of a row holds of each
each_of : (P : ℤ → Type 0) (counts : List (ℤ × ℕ)) → AllByRecursion P (map (λ count. count.0) counts) → (count : ℤ × ℕ) → Contains counts count → P count.0
each_of P [] all count (k, below, is) = absurd (omega (arith, below))
each_of P (c ∷ rest) all count (zero, below, is) = subst (λ (d : ℤ × ℕ). P d.0) is all.0
each_of P (c ∷ rest) all count (suc k, below, is) = each_of P rest all.1 count (k, omega (arith, below), is)

-- of ascending keys one that is there has its units
once_listed : (counts : List (ℤ × ℕ)) (key : ℤ) (units : ℕ) → IsStrictlySortedBy int_cmp (map (λ count. count.0) counts) → Contains counts (key, units)
    → units_listed counts key ≡ units
unfolding IsStrictlySortedBy
once_listed [] key units sorted (k, below, is) = absurd (omega (arith, below))
once_listed (c ∷ rest) key units sorted (zero, below, is) =
    let this : c ≡ (key, units) = is in
    let same : c.0 ≡ key = ap (λ (d : ℤ × ℕ). d.0) this in
    let more : units_listed rest key ≡ 0 = none_listed rest key (λ d among e. less_differs c.0 d.0 (each_of (λ y. int_cmp c.0 y ≡ Less) rest sorted.0 d among) (same ∙ sym e)) in
    let first = (Decides-int_eq c.0 key).1 same in
    let its : (if int_eq c.0 key then c.1 else 0) ≡ c.1 = (λ i. if first i then c.1 else 0) in
    let whole = sum_by-cons (λ (count : ℤ × ℕ). if int_eq count.0 key then count.1 else 0) c rest in
    let units_is : c.1 ≡ units = ap (λ (d : ℤ × ℕ). d.1) this in
    omega (arith, whole, its, more, units_is)
once_listed (c ∷ rest) key units sorted (suc k, below, is) =
    let among : Contains rest (key, units) = (k, omega (arith, below), is) in
    let apart = less_differs c.0 key (each_of (λ y. int_cmp c.0 y ≡ Less) rest sorted.0 (key, units) among) in
    let its : (if int_eq c.0 key then c.1 else 0) ≡ 0 = (λ i. if differ c.0 key apart (int_eq c.0 key) refl i then c.1 else 0) in
    let whole = sum_by-cons (λ (count : ℤ × ℕ). if int_eq count.0 key then count.1 else 0) c rest in
    let others = once_listed rest key units sorted.1 among in
    omega (arith, whole, its, others)

module _ (name boundaries : List ℕ) (few : nat_lt 1 (length boundaries) ≡ false) (samples counts : List (ℤ × ℕ)) (are : AreValueCounts samples counts) where
  -- the entries are keyed by their values
  values_keyed : (key : ℤ) → tally_units (map (sample_entry name boundaries) samples) name key ≡ units_at samples key
  values_keyed key =
      units_are name boundaries samples key
      ∙ (total_same 0 ◌+◌ numbers zero_left (keyed name boundaries key) (λ (s : ℤ × ℕ). if int_eq key s.0 then s.1 else 0)
      (λ s. ap (λ (b : Bool). if b then s.1 else 0)
      (ap (λ (k : ℤ). int_eq k key) (unkeyed s.0) ∙ turned s.0 key (int_eq s.0 key) refl)) samples
      ∙ sym (total_of_numbers (λ (s : ℤ × ℕ). if int_eq key s.0 then s.1 else 0) samples))
    where
      unkeyed : (value : ℤ) → key_of boundaries value ≡ value
      unkeyed value = λ i. if few i then pos (fold max 0 (filter (λ boundary. nat_le boundary (clamped value)) boundaries)) else value

  by_values : (key : ℤ) → units_listed counts key ≡ tally_units (map (sample_entry name boundaries) samples) name key
  by_values key = dite (dec_le 1 (units_at samples key))
      (λ some. once_listed counts key (units_at samples key) are.ascending (are.every key some) ∙ sym (values_keyed key))
      (λ none.
      none_listed counts key (λ count among same.
      let has = All-contains (λ (count : ℤ × ℕ). (0 < count.1) × (count.1 ≡ units_at samples count.0)) counts count are.each among in
      let some = has.0 in
      let units = has.1 ∙ ap (units_at samples) same in
      none (omega (arith, some, units)))
      ∙ (let zero_units : 0 ≡ units_at samples key = omega (arith, none) in zero_units ∙ sym (values_keyed key)))

-- ---- both

pub tallies_are_counts : TalliesAreCounts
tallies_are_counts name boundaries samples counts are is = (
  by_kind (nat_lt 1 (length boundaries)) refl is,
  ap (fold ◌+ℤ◌ (pos 0)) (amounts_along name boundaries samples),
  noted_are name boundaries samples,
)
  where
    by_kind : (b : Bool) → nat_lt 1 (length boundaries) ≡ b → MatchBool b (counts ≡ bucket_counts boundaries samples) (AreValueCounts samples counts)
        → (key : ℤ) → units_listed counts key ≡ tally_units (map (sample_entry name boundaries) samples) name key
    by_kind true some same key =
        ap (λ (list : List (ℤ × ℕ)). units_listed list key) same ∙ by_buckets boundaries are (ltb-true 1 (length boundaries) some) name samples key
    by_kind false few values key = by_values name boundaries few samples counts values key
