-- What deltas took of a histogram is what is noted of it when nothing of it is added, and no more than it has.
use Rattle.std.proofs.Common.{◌≡◌, ◌∙◌, ◌≤◌, ℕ, ℤ, Bool, true, false, if◌then◌else◌, List, [], ◌∷◌, ◌++◌, map, min, length, replicate, inl, inr, refl, sym, ap, subst, arith}
use Rattle.std.specs.Prelude.{IsPermutation, nat_lt, ◌&&◌, ◌==◌, ◌-◌}
use Rattle.std.specs.List.{Contains, zip}
use Rattle.std.specs.Ordering.{int_eq}
use Rattle.std.proofs.lemmas.Bool.{cases_lt, le-ltb, lt-ltb}
use Rattle.std.proofs.lemmas.List.{length-append, length-replicate}
use Rattle.std.proofs.lemmas.List.Sorted.{Contains-permutation, IsPermutation-sym}
use Rattle.std.proofs.lemmas.List.Sums.{sum_by-cons}
use Rattle.bucket_ranges.specs.Reading.{Histogram}
use Rattle.bucket_ranges.specs.Spec.{SameSpec}
use Rattle.list_lemmas.proofs.Elements.{at_from, contains_at, from_map}
use Rattle.segment_machine.specs.Actor.{units_listed}
use Rattle.segment_promises.specs.Reads.{units_read}
use Rattle.segment_merge.specs.Cut.{cut_at, kept}
use Rattle.segment_merge.specs.Noted.{HasAll}
use Rattle.segment_merge.specs.Remainder.{marked}
use Rattle.segment_merge.specs.Taken.{taken, taken_key}

-- with no item left, what is noted of keys is what deltas took of them
kept_taken : (pairs : List ((ℤ × ℕ) × ℕ)) → kept 0 pairs ≡ map taken_key pairs
kept_taken [] = refl
kept_taken (((key, units), mark) ∷ rest) = elim (cases_lt mark units) [
  | inl less ↦
      let more : nat_lt mark units ≡ true = lt-ltb mark units less in
      let least : min units mark ≡ mark = omega (arith, less) in
      (λ i. (key, if more i && (0 == 0) then mark else units) ∷ kept (if more i then 0 - 1 else 0) rest)
      ∙ (λ i. (key, sym least i) ∷ kept_taken rest i)
  | inr past ↦
      let no_more : nat_lt mark units ≡ false = le-ltb mark units past in
      let least : min units mark ≡ units = omega (arith, past) in
      (λ i. (key, if no_more i && (0 == 0) then mark else units) ∷ kept (if no_more i then 0 - 1 else 0) rest)
      ∙ (λ i. (key, sym least i) ∷ kept_taken rest i)
]

-- so it is of histograms
pub cut_taken : (hists : List Histogram) → map (cut_at 0) hists ≡ map taken hists
cut_taken [] = refl
cut_taken (h ∷ hists) = (λ i. (record h { counts = kept_taken (marked h.counts h.marks) i; sum = h.sum_mark }) ∷ cut_taken hists i)

-- ---- no more than there is

-- keys beside marks are those keys
firsts : (counts : List (ℤ × ℕ)) (marks : List ℕ) → length counts ≤ length marks → map (λ (each : (ℤ × ℕ) × ℕ). each.0) (zip counts marks) ≡ counts
firsts [] marks long = refl
firsts (count ∷ counts) [] long = absurd (omega (arith, long))
firsts (count ∷ counts) (mark ∷ marks) long = ap (λ (rest : List (ℤ × ℕ)). count ∷ rest) (firsts counts marks (omega (arith, long)))

-- the less of two, if it is of a key
less_of : (b : Bool) (units mark : ℕ) → (if b then min units mark else 0) ≤ (if b then units else 0)
less_of true units mark = omega arith
less_of false units mark = omega arith

keys_within : (key : ℤ) (pairs : List ((ℤ × ℕ) × ℕ))
    → units_listed (map taken_key pairs) key ≤ units_listed (map (λ (each : (ℤ × ℕ) × ℕ). each.0) pairs) key
keys_within key [] = omega arith
keys_within key (((k, units), mark) ∷ rest) =
    let one = sum_by-cons (λ (count : ℤ × ℕ). if int_eq count.0 key then count.1 else 0) (k, min units mark) (map taken_key rest) in
    let other = sum_by-cons (λ (count : ℤ × ℕ). if int_eq count.0 key then count.1 else 0) (k, units) (map (λ (each : (ℤ × ℕ) × ℕ). each.0) rest) in
    let first = less_of (int_eq k key) units mark in
    let behind = keys_within key rest in
    omega (arith, one, other, first, behind)

taken_units : (h : Histogram) (key : ℤ) → units_read (taken h) key ≤ units_read h key
taken_units h key =
    let long = length-append h.marks (replicate (length h.counts) 0) in
    let many : length (replicate {A = ℕ} (length h.counts) 0) ≡ length h.counts = length-replicate (length h.counts) 0 in
    let same = ap (λ (counts : List (ℤ × ℕ)). units_listed counts key) (firsts h.counts (h.marks ++ replicate (length h.counts) 0) (omega (arith, long, many))) in
    let within = keys_within key (marked h.counts h.marks) in
    omega (arith, same, within)

-- a reading has all that deltas took of it
pub taken_within : (hists notes : List Histogram) → IsPermutation (map taken hists) notes → HasAll notes hists
taken_within hists notes moved note there =
    let back : Contains (map taken hists) note = Contains-permutation notes (map taken hists) note (IsPermutation-sym (map taken hists) notes moved) there in
    let (i, at_i) = at_from (map taken hists) note back in
    let (h, at_h, is) = from_map taken hists i note at_i in (
      h,
      contains_at hists i h at_h,
      ap (λ (one : Histogram). one.name) is,
      subst (λ (one : Histogram). SameSpec one.spec h.spec) is (refl, refl),
      λ key. subst (λ (one : Histogram). units_read one key ≤ units_read h key) is (taken_units h key),
    )
