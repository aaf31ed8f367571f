-- What the first entries of an image add up to, what deltas had taken of it, and what it has used: for each name what its histogram has.
use Rattle.segment_invariant.proofs.Prelude.Std.{◌≡◌, ◌≢◌, ℕ, ◌+◌, ◌≤◌, ℤ, pos, ◌+ℤ◌, Bool, true, false, not, ◌&&◌, ◌==◌, cond, if◌then◌else◌, List, [], ◌∷◌, map, filter, flat_map, fold, sum_by, Contains, refl, sym, ap, ◌∙◌, arith, eqb-true, +ℤ_idl, +ℤ_idr, max, bytes_eq, int_eq, Decides-int_eq, bytes_eq-Decides, sum_by-cons, some, get_elem?, at_from, contains_at, IsTotal}
use Rattle.segment_invariant.proofs.Prelude.Machine.{Histogram, Cost, Portion, Entry, is_of, tally_units, tally_sum, tally_noted, units_listed, taken_units, taken_sum, cost_of}
use mathlib.Core.List.{map-map}
use Rattle.std.proofs.lemmas.List.Sums.{sum_by-le-sum_by}
use Rattle.segment_machine.specs.Entry.{sum_entry}
use Rattle.segment_invariant.proofs.Lists.FewTerms.{if_nothing, sum_none, sum_one}
use Rattle.list_lemmas.proofs.Sums.{amounts_total}
use Rattle.segment_invariant.proofs.Lists.Countings.{units_total, sum_total, noted_total, no_units, no_amount}
use Rattle.segment_promises.specs.Adoption.{used_by, first_entries, first_portion}
use Rattle.segment_promises.specs.Reads.{units_read, mark_read}
use Rattle.segment_promises.proofs.Counts.{sum_of_map}

-- ---- tests

both_tests : (b c : Bool) (n : ℕ) → (if b && c then n else 0) ≡ (if b then (if c then n else 0) else 0)
both_tests true c n = refl
both_tests false c n = refl

test_sum : (b : Bool) (m n : ℕ) → (if b then m + n else 0) ≡ (if b then m else 0) + (if b then n else 0)
test_sum true m n = refl
test_sum false m n = refl

-- ---- the entries of one histogram

module _ (h : Histogram) (name : List ℕ) where
  abbrev is_its : Bool
  is_its = bytes_eq h.name name

  -- the entry of a key, and those of all keys that have units
  abbrev entry_of : ℤ × ℕ → Entry
  entry_of count = record { name = h.name; key = count.0; units = count.1; amount = pos 0 }

  abbrev entries_of : List (ℤ × ℕ) → List Entry
  entries_of counts = map entry_of (filter (λ count. not (count.1 == 0)) counts)

  -- what goes by the units of entries of the name goes by those of the counts, since a count of 0 adds nothing
  module _ (weight : ℤ × ℕ → ℕ) (nothing : (count : ℤ × ℕ) → count.1 ≡ 0 → weight count ≡ 0) (value : Entry → ℕ)
      (same : (count : ℤ × ℕ) → value (entry_of count) ≡ (if is_its then weight count else 0)) where
    counted : (counts : List (ℤ × ℕ)) → sum_by value (entries_of counts) ≡ (if is_its then sum_by weight counts else 0)
    counted [] = sym (if_nothing is_its 0 0 refl)
    counted (count ∷ rest) =
        let whole = ap (λ (n : ℕ). if is_its then n else 0) (sum_by-cons weight count rest) ∙ test_sum is_its (weight count) (sum_by weight rest) in
        by_test (count.1 == 0) (eqb-true count.1 0) whole (counted rest)
      where
        by_test : (b : Bool) → (b ≡ true → count.1 ≡ 0)
            → (if is_its then sum_by weight (count ∷ rest) else 0) ≡ (if is_its then weight count else 0) + (if is_its then sum_by weight rest else 0)
            → sum_by value (entries_of rest) ≡ (if is_its then sum_by weight rest else 0)
            → sum_by value (map entry_of (cond (not b) (count ∷ filter (λ count. not (count.1 == 0)) rest) (filter (λ count. not (count.1 == 0)) rest)))
            ≡ (if is_its then sum_by weight (count ∷ rest) else 0)
        by_test true zero_is whole behind =
            let none = if_nothing is_its (weight count) 0 (nothing count (zero_is refl)) in
            omega (arith, whole, behind, none)
        by_test false zero_is whole behind =
            let one = sum_by-cons value (entry_of count) (entries_of rest) in
            let it = same count in
            omega (arith, whole, behind, one, it)

  -- the entry of the sum has no units
  abbrev sum_entries : List Entry
  sum_entries = if int_eq h.sum (pos 0) then [] else sum_entry h.name h.sum ∷ []

  no_sum_units : (key : ℤ) → tally_units sum_entries name key ≡ 0
  no_sum_units key = by_test (int_eq h.sum (pos 0))
    where
      by_test : (b : Bool) → tally_units (if b then [] else sum_entry h.name h.sum ∷ []) name key ≡ 0
      by_test true = refl
      by_test false = no_units name key (sum_entry h.name h.sum) refl

  no_sum_noted : tally_noted sum_entries name ≡ 0
  no_sum_noted = by_test (int_eq h.sum (pos 0))
    where
      by_test : (b : Bool) → tally_noted (if b then [] else sum_entry h.name h.sum ∷ []) name ≡ 0
      by_test true = refl
      by_test false = let none = if_nothing {X = ℕ} is_its 0 0 refl in omega (arith, none)

  one_units : (key : ℤ) → tally_units (first_entries h) name key ≡ (if is_its then units_read h key else 0)
  one_units key =
      let both = units_total name key (entries_of h.counts) sum_entries in
      let first = counted (λ count. if int_eq count.0 key then count.1 else 0) (λ count is. if_nothing (int_eq count.0 key) count.1 0 is)
      (λ entry. if is_of name entry && int_eq entry.key key then entry.units else 0) (λ count. both_tests is_its (int_eq count.0 key) count.1) h.counts in
      let second = no_sum_units key in
      omega (arith, both, first, second)

  one_noted : tally_noted (first_entries h) name ≡ (if is_its then sum_by (λ count. count.1) h.counts else 0)
  one_noted =
      let both = noted_total name (entries_of h.counts) sum_entries in
      let first = counted (λ count. count.1) (λ count is. is) (λ entry. if is_of name entry then entry.units else 0) (λ count. refl) h.counts in
      let second = no_sum_noted in
      omega (arith, both, first, second)

  -- those of the keys have no amounts
  no_amounts : (counts : List (ℤ × ℕ)) → tally_sum (entries_of counts) name ≡ pos 0
  no_amounts [] = refl
  no_amounts (count ∷ rest) = by_test (count.1 == 0) (no_amounts rest)
    where
      by_test : (b : Bool) → tally_sum (entries_of rest) name ≡ pos 0
          → tally_sum (map entry_of (cond (not b) (count ∷ filter (λ count. not (count.1 == 0)) rest) (filter (λ count. not (count.1 == 0)) rest))) name ≡ pos 0
      by_test true behind = behind
      by_test false behind =
          sum_total name (entry_of count ∷ []) (entries_of rest)
          ∙ ((λ i. no_amount name (entry_of count) refl i +ℤ behind i) ∙ +ℤ_idr (pos 0))

  one_sum : tally_sum (first_entries h) name ≡ (if is_its then h.sum else pos 0)
  one_sum =
      sum_total name (entries_of h.counts) sum_entries
      ∙ (ap (λ (z : ℤ). z +ℤ tally_sum sum_entries name) (no_amounts h.counts) ∙ (+ℤ_idl (tally_sum sum_entries name) ∙ by_test (int_eq h.sum (pos 0)) refl))
    where
      by_test : (b : Bool) → int_eq h.sum (pos 0) ≡ b → tally_sum (if b then [] else sum_entry h.name h.sum ∷ []) name ≡ (if is_its then h.sum else pos 0)
      by_test true is = sym (if_nothing is_its (pos 0) (pos 0) refl) ∙ ap (λ (z : ℤ). if is_its then z else pos 0) (sym ((Decides-int_eq h.sum (pos 0)).0 is))
      by_test false is = +ℤ_idl (if is_its then h.sum else pos 0)

-- ---- all of them

-- what histograms of a name have
abbrev pub of_name : (Histogram → ℕ) → List Histogram → List ℕ → ℕ
of_name f hists name = sum_by (λ h. if bytes_eq h.name name then f h else 0) hists

over_all : (total : List Entry → ℕ) → IsTotal ◌+◌ total → total [] ≡ 0 → (f : Histogram → ℕ) → ((h : Histogram) → total (first_entries h) ≡ f h)
    → (hists : List Histogram) → total (flat_map first_entries hists) ≡ sum_by f hists
over_all total adds none f each [] = none
over_all total adds none f each (h ∷ rest) =
    let both = adds (first_entries h) (flat_map first_entries rest) in
    let one = each h in
    let behind = over_all total adds none f each rest in
    let whole = sum_by-cons f h rest in
    omega (arith, both, one, behind, whole)

module _ (hists : List Histogram) (name : List ℕ) where
  -- the first entries have the units of a key that its histogram has
  pub first_units : (key : ℤ) → tally_units (flat_map first_entries hists) name key ≡ of_name (λ h. units_read h key) hists name
  first_units key = over_all (λ entries. tally_units entries name key) (units_total name key) refl (λ h. if bytes_eq h.name name then units_read h key else 0)
      (λ h. one_units h name key) hists

  -- all its units
  pub first_noted : tally_noted (flat_map first_entries hists) name ≡ of_name (λ h. sum_by (λ count. count.1) h.counts) hists name
  first_noted = over_all (λ entries. tally_noted entries name) (noted_total name) refl
      (λ h. if bytes_eq h.name name then sum_by (λ count. count.1) h.counts else 0) (λ h. one_noted h name) hists

-- and its sum
pub first_sum : (hists : List Histogram) (name : List ℕ)
    → tally_sum (flat_map first_entries hists) name ≡ fold ◌+ℤ◌ (pos 0) (map (λ h. if bytes_eq h.name name then h.sum else pos 0) hists)
first_sum [] name = refl
first_sum (h ∷ rest) name =
    let its = λ (h : Histogram). if bytes_eq h.name name then h.sum else pos 0 in
    sum_total name (first_entries h) (flat_map first_entries rest)
    ∙ ((λ i. one_sum h name i +ℤ first_sum rest name i)
    ∙ (ap (λ (z : ℤ). z +ℤ fold ◌+ℤ◌ (pos 0) (map its rest)) (sym (+ℤ_idl (its h))) ∙ sym (amounts_total its (h ∷ []) rest)))

-- ---- what deltas had taken, and what was used

module _ (hists : List Histogram) (name : List ℕ) where
  pub portions_units : (key : ℤ) → taken_units (map first_portion hists) name key ≡ of_name (λ h. mark_read h key) hists name
  portions_units key = sum_of_map (λ (t : Portion). if bytes_eq t.name name then units_listed t.counts key else 0) first_portion hists

  pub portions_sum : taken_sum (map first_portion hists) name ≡ fold ◌+ℤ◌ (pos 0) (map (λ h. if bytes_eq h.name name then h.sum_mark else pos 0) hists)
  portions_sum = ap (fold ◌+ℤ◌ (pos 0)) (map-map (λ (t : Portion). if bytes_eq t.name name then t.sum else pos 0) first_portion hists)

  -- costs that are a number of each histogram
  pub costs_are : (f : Histogram → ℕ) → cost_of (map (λ (h : Histogram). record { name = h.name; units = f h }) hists) name ≡ of_name f hists name
  costs_are f = sum_of_map (λ (cost : Cost). if bytes_eq cost.name name then cost.units else 0) (λ (h : Histogram). record { name = h.name; units = f h }) hists

  -- if one number is at least another for each, it is so for all
  most_of_name : (f g : Histogram → ℕ) → ((h : Histogram) → f h ≤ g h) → of_name f hists name ≤ of_name g hists name
  most_of_name f g less = sum_by-le-sum_by (λ h. if bytes_eq h.name name then f h else 0) (λ h. if bytes_eq h.name name then g h else 0) hists
      (λ h. by_test (bytes_eq h.name name) (f h) (g h) (less h))
    where
      by_test : (b : Bool) (m n : ℕ) → m ≤ n → (if b then m else 0) ≤ (if b then n else 0)
      by_test true m n less = less
      by_test false m n less = omega arith

  -- the units of the first entries, and the redundant counts, are used
  pub used_covers : max (tally_noted (flat_map first_entries hists) name) (cost_of (map (λ (h : Histogram). record { name = h.name; units = h.redundant }) hists) name)
      ≤ cost_of (map (λ (h : Histogram). record { name = h.name; units = used_by h }) hists) name
  used_covers =
      let entries = first_noted hists name in
      let redundant = costs_are (λ h. h.redundant) in
      let used = costs_are used_by in
      let units_used = most_of_name (λ h. sum_by (λ count. count.1) h.counts) used_by (λ h. omega arith) in
      let redundant_used = most_of_name (λ h. h.redundant) used_by (λ h. omega arith) in
      omega (arith, entries, redundant, used, units_used, redundant_used)

-- ---- if no two have the same name

module _ (hists : List Histogram)
    (once : (i j : ℕ) (g h : Histogram) → get_elem? hists i ≡ some g → get_elem? hists j ≡ some h → g.name ≡ h.name → i ≡ j) where
  other_name : (h : Histogram) (name : List ℕ) → h.name ≢ name → bytes_eq h.name name ≡ false
  other_name h name ne = by_test (bytes_eq h.name name) refl
    where
      by_test : (b : Bool) → bytes_eq h.name name ≡ b → b ≡ false
      by_test true is = absurd (ne ((bytes_eq-Decides h.name name).0 is))
      by_test false is = refl

  -- the number of a name is that of its histogram
  pub of_its_name : (f : Histogram → ℕ) (h : Histogram) → Contains hists h → of_name f hists h.name ≡ f h
  of_its_name f h there =
      let (i, here) = at_from hists h there in
      sum_one (λ g. if bytes_eq g.name h.name then f g else 0) hists i h here
      (λ j g other ne. ap (λ (b : Bool). if b then f g else 0) (other_name g h.name (λ same. ne (once j i g h other here same))))
      ∙ ap (λ (b : Bool). if b then f h else 0) ((bytes_eq-Decides h.name h.name).1 refl)

  -- and nothing of a name that none has
  pub of_no_name : (f : Histogram → ℕ) (name : List ℕ) → ((h : Histogram) → Contains hists h → h.name ≢ name) → of_name f hists name ≡ 0
  of_no_name f name none =
      sum_none (λ h. if bytes_eq h.name name then f h else 0) hists
      (λ j h there _. ap (λ (b : Bool). if b then f h else 0) (other_name h name (none h (contains_at hists j h there))))
