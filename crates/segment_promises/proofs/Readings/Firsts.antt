-- Which records of a list are read, by the words: if no histogram on it has a fault, the first of each name.
use Rattle.segment_invariant.proofs.Prelude.Std.{◌≡◌, Bool, true, false, cond, ℕ, zero, suc, ◌<◌, List, [], ◌∷◌, ◌++◌, inl, inr, refl, sym, ap, subst, ◌∙◌, arith, None, not, All, Contains, filter, eqb-true, eq-eqb, cases_order, All-nil, All-cons, All-head, All-tail, All-weaker, Contains-append_right, bytes_eq-Decides, some, get_elem?, none_in, all_of, below_length, index_at, contains_filter}
use Rattle.segment_invariant.proofs.Prelude.Machine.{field_at, is_of_type, name_of, record_fault}
use Rattle.segment_invariant.proofs.Prelude.Invariant.{IsHistogram}
use Rattle.std.specs.Prelude.{is_none}
use Rattle.std.specs.List.{AllPairs}
use Rattle.std.proofs.lemmas.Bool.{not-true}
use Rattle.std.proofs.lemmas.List.Elements.{filter_passes}
use Rattle.std.proofs.lemmas.List.Kept.{AllPairs-cons, AllPairs-filter}
use Rattle.segment_image.specs.declared.head.SegmentHead.{SegmentHead}
use Rattle.bucket_ranges.specs.Reading.{same_name, first_of_each, histogram_records, lawful_records, read_records}
use Rattle.segment_invariant.specs.Consistent.{HasName}
use Rattle.segment_promises.proofs.Filters.{filtered, all_kept}

-- ---- lists

-- The first of each group of equals among those that pass a test.
module _ {X : Type 0} (same : X → X → Bool) (p : X → Bool) where
  -- no other before it that passes is the same
  abbrev pub IsFirstAmong : List X → X → Type 0
  IsFirstAmong l y = (front behind : List X) × (l ≡ front ++ y ∷ behind) × All (λ x. p x ≡ true → same x y ≡ false) front × (p y ≡ true)

  first_from : (l : List X) (y : X) → Contains (first_of_each same (filter p l)) y → IsFirstAmong l y
  first_from [] y there = absurd (none_in y there)
  first_from (x ∷ rest) y there = by_test (p x) refl there (first_from rest y)
    where
      further : (p x ≡ true → same x y ≡ false) → IsFirstAmong rest y → IsFirstAmong (x ∷ rest) y
      further apart (front, behind, is, none_before, passes) =
          (x ∷ front, behind, ap (λ (l : List X). x ∷ l) is, All-cons (λ x. p x ≡ true → same x y ≡ false) x front apart none_before, passes)

      by_test : (b : Bool) → p x ≡ b → Contains (first_of_each same (cond b (x ∷ filter p rest) (filter p rest))) y
          → (Contains (first_of_each same (filter p rest)) y → IsFirstAmong rest y) → IsFirstAmong (x ∷ rest) y
      by_test true passes (zero, below, is) later = ([], rest, ap (λ (z : X). z ∷ rest) is, All-nil _, subst (λ (z : X). p z ≡ true) is passes)
      by_test true passes (suc k, below, is) later =
          let among = filtered (λ z. not (same x z)) (first_of_each same (filter p rest)) y (k, omega (arith, below), is) in
          further (λ _. not-true (same x y) among.1) (later among.0)
      by_test false fails there later = further (λ passes. cc (passes, fails)) (later there)

  first_to : (front behind : List X) (y : X) → All (λ x. p x ≡ true → same x y ≡ false) front → p y ≡ true
      → Contains (first_of_each same (filter p (front ++ y ∷ behind))) y
  first_to [] behind y none_before passes =
      subst (λ (b : Bool). Contains (first_of_each same (cond b (y ∷ filter p behind) (filter p behind))) y) (sym passes) (0, omega arith, refl)
  first_to (x ∷ front) behind y none_before passes =
      by_test (p x) refl (first_to front behind y (All-tail (λ x. p x ≡ true → same x y ≡ false) x front none_before) passes)
    where
      rest : List X
      rest = filter p (front ++ y ∷ behind)

      by_test : (b : Bool) → p x ≡ b → Contains (first_of_each same rest) y → Contains (first_of_each same (cond b (x ∷ rest) rest)) y
      by_test true first there =
          Contains-append_right (x ∷ []) (filter (λ z. not (same x z)) (first_of_each same rest)) y
          (contains_filter (λ z. not (same x z)) (first_of_each same rest) y there
          (ap not (All-head (λ x. p x ≡ true → same x y ≡ false) x front none_before first)))
      by_test false fails there = there

-- no two of them are the same
first_apart : {X : Type 0} (same : X → X → Bool) (l : List X) → AllPairs (λ x y. same x y ≡ false) (first_of_each same l)
first_apart same [] = λ i j d before below. absurd (omega (arith, below))
first_apart same (x ∷ rest) =
    let later = filter (λ z. not (same x z)) (first_of_each same rest) in
    AllPairs-cons (λ x y. same x y ≡ false) x later
    (All-weaker (λ z. not (same x z) ≡ true) (λ z. same x z ≡ false) (λ z. not-true (same x z)) later (filter_passes (λ z. not (same x z)) (first_of_each same rest)))
    (AllPairs-filter (λ x y. same x y ≡ false) (λ z. not (same x z)) (first_of_each same rest) (first_apart same rest))

-- ---- records

module _ (words : List ℕ) (head : SegmentHead) (references : List ℕ)
    (lawful : (at : ℕ) → Contains references at → field_at words at 2 ≡ 1 → record_fault words head at ≡ None) where
  -- all histograms are valid
  all_lawful : lawful_records words head references ≡ histogram_records words references
  all_lawful =
      all_kept (λ reference. is_none (record_fault words head reference)) (histogram_records words references)
      (all_of (λ at. is_none (record_fault words head at) ≡ true) (histogram_records words references) (λ at there.
      let among = filtered (is_of_type words 1) references at there in
      ap is_none (lawful at among.0 (eqb-true (field_at words at 2) 1 among.1))))

  reads : read_records words head references ≡ first_of_each (same_name words) (filter (is_of_type words 1) references)
  reads = ap (first_of_each (same_name words)) all_lawful

  -- what is read is the first of its name
  pub read_from : (at : ℕ) → Contains (read_records words head references) at → IsHistogram words references (name_of words at) at
  read_from at there =
      let (front, behind, is, none_before, one) = first_from (same_name words) (is_of_type words 1) references at
      (subst (λ (l : List ℕ). Contains l at) reads there) in (
        front,
        behind,
        is,
        All-weaker (λ x. is_of_type words 1 x ≡ true → same_name words x at ≡ false) (λ x. ¬ (HasName words (name_of words at) x))
            (λ x apart (type, named).
            let differs = apart (eq-eqb (field_at words x 2) 1 type) in
            let equal = (bytes_eq-Decides (name_of words at) (name_of words x)).1 (sym named) in
            cc (differs, equal)) front none_before,
        (eqb-true (field_at words at 2) 1 one, refl),
      )

  -- and the first of a name is read
  pub read_to : (name : List ℕ) (at : ℕ) → IsHistogram words references name at → Contains (read_records words head references) at
  read_to name at (front, behind, stands, first, its) =
      subst (λ (l : List ℕ). Contains l at) (sym reads)
      (subst (λ (l : List ℕ). Contains (first_of_each (same_name words) (filter (is_of_type words 1) l)) at) (sym stands)
      (first_to (same_name words) (is_of_type words 1) front behind at
      (All-weaker (λ x. ¬ (HasName words name x)) (λ x. is_of_type words 1 x ≡ true → same_name words x at ≡ false)
      (λ x other type. apart x other type (same_name words x at) refl) front first)
      (eq-eqb (field_at words at 2) 1 its.0)))
    where
      apart : (x : ℕ) → ¬ (HasName words name x) → is_of_type words 1 x ≡ true → (b : Bool) → same_name words x at ≡ b → same_name words x at ≡ false
      apart x other type true same =
          absurd (other (eqb-true (field_at words x 2) 1 type, sym ((bytes_eq-Decides (name_of words at) (name_of words x)).0 same) ∙ its.1))
      apart x other type false differs = differs

  -- each name once
  pub read_once : (i j x y : ℕ) → get_elem? (read_records words head references) i ≡ some x → get_elem? (read_records words head references) j ≡ some y
      → name_of words x ≡ name_of words y → i ≡ j
  read_once i j x y here there same = elim (cases_order i j) [
    | inl equal ↦ equal
    | inr other ↦ elim other [
      | inl before ↦ absurd (never i j x y before here there same)
      | inr behind ↦ absurd (never j i y x behind there here (sym same))
    ]
  ]
    where
      never : (i j x y : ℕ) → i < j → get_elem? (read_records words head references) i ≡ some x → get_elem? (read_records words head references) j ≡ some y
          → name_of words x ≡ name_of words y → ⊥
      never i j x y before here there same =
          let list : List ℕ = read_records words head references in
          let differs = first_apart (same_name words) (lawful_records words head references) i j 0 before (below_length list j y there) in
          let equal = (bytes_eq-Decides (name_of words y) (name_of words x)).1 (sym same) in
          cc (equal, sym ((λ k. same_name words (index_at list i x 0 here k) (index_at list j y 0 there k))) ∙ differs)
