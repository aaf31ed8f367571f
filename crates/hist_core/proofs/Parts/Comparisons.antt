-- The words of a record that a `hist` compares, and what each of them shows.
use Rattle.segment_invariant.proofs.Prelude.Std.{◌≡◌, ◌≢◌, ◌⊎◌, ℕ, ◌+◌, ◌-◌, ◌<◌, ◌≤◌, ◌==◌, Bool, true, false, List, [], ◌∷◌, ◌++◌, length, inl, inr, refl, sym, ap, ◌∙◌, arith, length-append, eqb-true, ne_eqb, ◌^◌, if◌then◌else◌, slice_index, nat_lt, w64, eqb-false, lt-ltb, le-ltb, ltb-true, ltb-false, get_or_append_left}
use Rattle.segment_invariant.proofs.Prelude.Machine.{Dimensions, Spec, Linear, Boolean, Custom, Sparse, spec_fields, spec_ranges}
use Rattle.std.specs.Int.{from_le_bytes}
use Rattle.std.proofs.lemmas.List.{get_or-append-add}
use Rattle.std.proofs.lemmas.Nat.{from_le_bytes-to_le_bytes_8}
use Rattle.segment_image.specs.Words.{bytes_of_words}
use Rattle.hist_core.specs.declared.hist.Hist.{Hist}
use Rattle.segment_calls.specs.Asked.{payload_words}
use Rattle.hist_core.specs.Hist.{IsAsking, compared_place, compared_index, compared_word, comparisons}

-- ---- words and their bytes

-- words of 64 bits that differ have other bytes
pub words_apart : (x y : ℕ) → x < 2 ^ 64 → y < 2 ^ 64 → x ≢ y → bytes_of_words (x ∷ []) ≢ bytes_of_words (y ∷ [])
words_apart x y low below apart same =
    apart (sym (from_le_bytes-to_le_bytes_8 x low) ∙ (ap (from_le_bytes w64) same ∙ from_le_bytes-to_le_bytes_8 y below))

-- ---- where they are

first_of : {A : Type 0} (b : Bool) (x y : A) → b ≡ true → (if b then x else y) ≡ x
first_of true x y is = refl
first_of false x y is = absurd (cc is)

second_of : {A : Type 0} (b : Bool) (x y : A) → b ≡ false → (if b then x else y) ≡ y
second_of true x y is = absurd (cc is)
second_of false x y is = refl

module _ (letters k : ℕ) where
  place_of_letter : 2 ≤ k → k < letters + 2 → compared_place letters k ≡ k + 9
  place_of_letter from to =
      second_of (k == 1) 10 _ (ne_eqb k 1 (λ e. omega (arith, e, from)))
      ∙ first_of (nat_lt k (letters + 2)) (k + 9) _ (lt-ltb k (letters + 2) to)

  place_of_field : letters + 2 ≤ k → k < letters + 6 → 2 ≤ k → compared_place letters k ≡ k - letters - 2
  place_of_field from to some =
      second_of (k == 1) 10 _ (ne_eqb k 1 (λ e. omega (arith, e, some)))
      ∙ (second_of (nat_lt k (letters + 2)) (k + 9) _ (le-ltb k (letters + 2) from)
      ∙ first_of (nat_lt k (letters + 6)) (k - letters - 2) _ (lt-ltb k (letters + 6) to))

  place_of_range : letters + 6 ≤ k → compared_place letters k ≡ k + 5
  place_of_range from =
      second_of (k == 1) 10 _ (ne_eqb k 1 (λ e. omega (arith, e, from)))
      ∙ (second_of (nat_lt k (letters + 2)) (k + 9) _ (le-ltb k (letters + 2) (omega (arith, from)))
      ∙ second_of (nat_lt k (letters + 6)) (k - letters - 2) _ (le-ltb k (letters + 6) from))

  pub index_of_rest : 1 ≤ k → compared_index letters k ≡ 4 + compared_place letters k
  index_of_rest some = second_of (k == 0) 2 _ (ne_eqb k 0 (λ e. omega (arith, e, some)))

-- ---- what they are

-- a spec has four fields
pub fields_long : (s : Spec) → length (spec_fields s) ≡ 4
fields_long (Linear low high n) = refl
fields_long Boolean = refl
fields_long (Custom values) = refl
fields_long Sparse = refl

-- it has ranges after its name if it is a custom one, whose last field is one more than their number
pub ranges_if_custom : (s : Spec) → (length (spec_ranges s) ≡ 0)
    ⊎ ((slice_index (spec_fields s) 0 ≡ 3) × (length (spec_ranges s) ≡ slice_index (spec_fields s) 3 - 1))
ranges_if_custom (Linear low high n) = inl refl
ranges_if_custom Boolean = inl refl
ranges_if_custom (Custom values) = inr (refl, omega arith)
ranges_if_custom Sparse = inl refl

module _ (shape : Dimensions) (h : Hist) (asking : IsAsking shape h) where
  abbrev letters : List ℕ
  letters = asking.letters

  abbrev fields : List ℕ
  fields = spec_fields h.asked.spec

  abbrev ranges : List ℕ
  ranges = spec_ranges h.asked.spec

  abbrev middle : List ℕ
  middle = 0 ∷ 0 ∷ 0 ∷ 0 ∷ 0 ∷ 0 ∷ length h.asked.name.items ∷ []

  abbrev kept : List ℕ
  kept = h.payload.items

  -- how many words it has
  pub payload_long : length kept ≡ 11 + (h.letters + length ranges)
  payload_long =
      let whole = ap length asking.payload in
      let front = length-append fields (0 ∷ 0 ∷ 0 ∷ 0 ∷ 0 ∷ 0 ∷ length h.asked.name.items ∷ (letters ++ ranges)) in
      let behind = length-append letters ranges in
      let four = fields_long h.asked.spec in
      let count = asking.count in
      omega (arith, whole, front, behind, four, count)

  pub compared_all : comparisons h ≡ h.letters + (6 + length ranges)
  compared_all = let long = payload_long in omega (arith, long)

  field_at : (i : ℕ) → i < 4 → slice_index kept i ≡ slice_index fields i
  field_at i below =
      ap (λ (l : List ℕ). slice_index l i) asking.payload
      ∙ get_or_append_left fields _ 0 i (let four = fields_long h.asked.spec in omega (arith, four, below))

  behind_fields : (i : ℕ) → slice_index kept (4 + i) ≡ slice_index (middle ++ (letters ++ ranges)) i
  behind_fields i =
      ap (λ (l : List ℕ). slice_index l (4 + i)) asking.payload
      ∙ (ap (λ (n : ℕ). slice_index (payload_words h.asked.name.items h.asked.spec letters) (n + i)) (sym (fields_long h.asked.spec))
      ∙ get_or-append-add fields (middle ++ (letters ++ ranges)) i 0)

  behind_middle : (i : ℕ) → slice_index kept (11 + i) ≡ slice_index (letters ++ ranges) i
  behind_middle i =
      let place : 11 + i ≡ 4 + (7 + i) = omega arith in
      ap (slice_index kept) place ∙ (behind_fields (7 + i) ∙ get_or-append-add middle (letters ++ ranges) i 0)

  -- ---- the k-th of them

  pub then_length : (compared_index h.letters 1 ≡ 14) × (compared_word h 1 ≡ length h.asked.name.items)
  then_length = (refl, behind_fields 6)

  word_of_rest : (k : ℕ) → 1 ≤ k → compared_word h k ≡ slice_index kept (compared_place h.letters k)
  word_of_rest k some = second_of (k == 0) 1 _ (ne_eqb k 0 (λ e. omega (arith, e, some)))

  pub letter_word : (i : ℕ) → i < length letters → (compared_index h.letters (i + 2) ≡ 15 + i) × (compared_word h (i + 2) ≡ slice_index letters i)
  letter_word i below =
      let count = asking.count in
      let some : 2 ≤ i + 2 = omega arith in
      let near : i + 2 < h.letters + 2 = omega (arith, count, below) in
      let one : 1 ≤ i + 2 = omega arith in
      let place = place_of_letter h.letters (i + 2) some near in
      let there : i + 2 + 9 ≡ 11 + i = omega arith in
      let index : 4 + (i + 2 + 9) ≡ 15 + i = omega arith in (
        index_of_rest h.letters (i + 2) one ∙ (ap (λ (n : ℕ). 4 + n) place ∙ index),
        word_of_rest (i + 2) one ∙ (ap (slice_index kept) (place ∙ there) ∙ (behind_middle i ∙ get_or_append_left letters ranges 0 i below)),
      )

  pub field_word : (i : ℕ) → i < 4
      → (compared_index h.letters (i + (h.letters + 2)) ≡ 4 + i) × (compared_word h (i + (h.letters + 2)) ≡ slice_index fields i)
  field_word i below =
      let k : ℕ = i + (h.letters + 2) in
      let from : h.letters + 2 ≤ k = omega arith in
      let to : k < h.letters + 6 = omega (arith, below) in
      let some : 2 ≤ k = omega arith in
      let one : 1 ≤ k = omega arith in
      let there : k - h.letters - 2 ≡ i = omega arith in
      let place = place_of_field h.letters k from to some ∙ there in (
        index_of_rest h.letters k one ∙ ap (λ (n : ℕ). 4 + n) place,
        word_of_rest k one ∙ (ap (slice_index kept) place ∙ field_at i below),
      )

  pub range_word : (i : ℕ) → (compared_index h.letters (i + (h.letters + 6)) ≡ 15 + (h.letters + i))
      × (compared_word h (i + (h.letters + 6)) ≡ slice_index ranges i)
  range_word i =
      let k : ℕ = i + (h.letters + 6) in
      let from : h.letters + 6 ≤ k = omega arith in
      let one : 1 ≤ k = omega arith in
      let place = place_of_range h.letters k from in
      let there : k + 5 ≡ 11 + (h.letters + i) = omega arith in
      let index : 4 + (k + 5) ≡ 15 + (h.letters + i) = omega arith in (
        index_of_rest h.letters k one ∙ (ap (λ (n : ℕ). 4 + n) place ∙ index),
        word_of_rest k one
            ∙ (ap (slice_index kept) (place ∙ there)
            ∙ (behind_middle (h.letters + i) ∙ (ap (λ (n : ℕ). slice_index (letters ++ ranges) (n + i)) asking.count ∙ get_or-append-add letters ranges i 0))),
      )

  -- each is the type, the length of the name, a word of the name, a field or a range
  abbrev pub Part : ℕ → Type 0
  Part k =
      (k ≡ 0) ⊎ (k ≡ 1) ⊎ ((i : ℕ) × (k ≡ i + 2) × (i < length letters)) ⊎ ((i : ℕ) × (k ≡ i + (h.letters + 2)) × (i < 4))
      ⊎ ((i : ℕ) × (k ≡ i + (h.letters + 6)) × (i < length ranges))

  pub part_of : (k : ℕ) → k < comparisons h → Part k
  part_of k below = by_type (k == 0) refl
    where
      by_range : h.letters + 6 ≤ k → Part k
      by_range from =
          let all = compared_all in
          inr (inr (inr (inr (k - (h.letters + 6), omega (arith, from), omega (arith, from, all, below)))))

      by_field : (b : Bool) → nat_lt k (h.letters + 6) ≡ b → h.letters + 2 ≤ k → Part k
      by_field true e from = let to = ltb-true k (h.letters + 6) e in inr (inr (inr (inl (k - (h.letters + 2), omega (arith, from), omega (arith, from, to)))))
      by_field false e from = by_range (ltb-false k (h.letters + 6) e)

      by_letter : (b : Bool) → nat_lt k (h.letters + 2) ≡ b → 2 ≤ k → Part k
      by_letter true e some =
          let to = ltb-true k (h.letters + 2) e in let count = asking.count in inr (inr (inl (k - 2, omega (arith, some), omega (arith, some, to, count))))
      by_letter false e some = by_field (nat_lt k (h.letters + 6)) refl (ltb-false k (h.letters + 2) e)

      by_length : (b : Bool) → (k == 1) ≡ b → k ≢ 0 → Part k
      by_length true e some = inr (inl (eqb-true k 1 e))
      by_length false e some = let apart = eqb-false k 1 e in by_letter (nat_lt k (h.letters + 2)) refl (omega (arith, some, apart))

      by_type : (b : Bool) → (k == 0) ≡ b → Part k
      by_type true e = inl (eqb-true k 0 e)
      by_type false e = by_length (k == 1) refl (eqb-false k 0 e)
