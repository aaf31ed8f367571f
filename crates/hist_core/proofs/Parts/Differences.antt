-- What the words of a record that a `hist` compared show: that it has the name and the spec, or another name, or another spec.
use Rattle.segment_invariant.proofs.Prelude.Std.{◌≡◌, ◌≢◌, ℕ, ◌+◌, ◌<◌, ◌≤◌, ◌^◌, List, [], ◌∷◌, ◌++◌, length, inl, inr, refl, sym, ap, subst, ◌∙◌, arith, append_assoc, Some, slice_index, All}
use Rattle.segment_invariant.proofs.Prelude.Machine.{Dimensions, spec_fields, spec_ranges, IsPrefix, Seen, word_seen}
use Rattle.segment_machine.specs.Made.{IsFirstNamed, SawName, SawOtherName, SawSpec, SawOtherSpec}
use Rattle.hist_core.specs.declared.hist.Hist.{Hist}
use Rattle.hist_core.specs.Hist.{IsAsking, AreSame, compared_index, compared_word, comparisons}
use Rattle.hist_core.proofs.Parts.Comparisons.{Part, part_of, then_length, letter_word, field_word, range_word, compared_all, words_apart}

-- ---- what the words that were the same show

module _ (shape : Dimensions) (h : Hist) (asking : IsAsking shape h) (seen : Seen) (n : ℕ) (same : AreSame seen h n) where
  -- a word that was the same, by its place in the record
  pub saw_word : (j : ℕ) → j < n → (index word : ℕ) → compared_index h.letters j ≡ index → compared_word h j ≡ word
      → word_seen seen.words (h.reference + index) ≡ Some word
  saw_word j below index word there is = ap (λ (m : ℕ). word_seen seen.words (h.reference + m)) (sym there) ∙ (same j below ∙ ap Some is)

  -- the record has the name
  pub saw_name : h.letters + 2 ≤ n → SawName seen h.asked.name.items h.reference
  saw_name enough = (
    saw_word 0 (omega (arith, enough)) 2 1 refl refl,
    saw_word 1 (omega (arith, enough)) 14 (length h.asked.name.items) refl (then_length shape h asking).1,
    asking.letters,
    asking.spells,
    λ i below.
        let count = asking.count in
        let there : h.reference + 15 + i ≡ h.reference + (15 + i) = omega arith in
        let is = letter_word shape h asking i below in
        ap (word_seen seen.words) there ∙ saw_word (i + 2) (omega (arith, enough, count, below)) (15 + i) (slice_index asking.letters i) is.0 is.1,
  )

  -- and the spec
  pub saw_spec : comparisons h ≤ n → SawSpec seen h.asked.spec (length asking.letters) h.reference
  saw_spec all = (
    λ i below.
        let there : h.reference + 4 + i ≡ h.reference + (4 + i) = omega arith in
        let is = field_word shape h asking i below in
        let many = compared_all shape h asking in
        ap (word_seen seen.words) there ∙ saw_word (i + (h.letters + 2)) (omega (arith, all, many, below)) (4 + i) (slice_index (spec_fields h.asked.spec) i) is.0 is.1,
    λ i below.
        let count = asking.count in
        let there : h.reference + 15 + length asking.letters + i ≡ h.reference + (15 + (h.letters + i)) = omega (arith, count) in
        let is = range_word shape h asking i in
        let many = compared_all shape h asking in
        ap (word_seen seen.words) there
        ∙ saw_word (i + (h.letters + 6)) (omega (arith, all, many, below)) (15 + (h.letters + i)) (slice_index (spec_ranges h.asked.spec) i) is.0 is.1,
  )

  -- it is the first of the name, if none before it has the name
  pub first_named : (front given : List ℕ) → given ≡ front ++ h.reference ∷ [] → IsPrefix given seen.chain → All (SawOtherName seen h.asked.name.items) front
      → h.letters + 2 ≤ n → IsFirstNamed seen h.asked.name.items h.reference
  first_named front given is (rest, chain) others enough = (
    front,
    rest,
    chain ∙ (ap (λ (l : List ℕ). l ++ rest) is ∙ append_assoc front (h.reference ∷ []) rest),
    others,
    saw_name enough,
  )

-- a word that differs shows that the record has another name or another spec
module _ (shape : Dimensions) (h : Hist) (asking : IsAsking shape h) (seen : Seen) (k found : ℕ) (inside : k < comparisons h)
    (saw : word_seen seen.words (h.reference + compared_index h.letters k) ≡ Some found) (other : found ≢ compared_word h k) where
  -- the word, by its place in the record
  saw_other : (at word : ℕ) → h.reference + compared_index h.letters k ≡ at → compared_word h k ≡ word
      → (word_seen seen.words at ≡ Some found) × (found ≢ word)
  saw_other at word there is = (ap (word_seen seen.words) (sym there) ∙ saw, λ same. other (same ∙ sym is))

  pub saw_other_name : k < h.letters + 2 → found < 2 ^ 64 → compared_word h k < 2 ^ 64 → SawOtherName seen h.asked.name.items h.reference
  saw_other_name early small small_own = by (part_of shape h asking k inside)
    where
      by : Part shape h asking k → SawOtherName seen h.asked.name.items h.reference
      by (inl e) =
          let saw = saw_other (h.reference + 2) 1 (ap (λ (j : ℕ). h.reference + compared_index h.letters j) e) (ap (compared_word h) e) in
          inl (found, saw.0, saw.1)
      by (inr (inl e)) =
          let saw = saw_other (h.reference + 14) (length h.asked.name.items) (ap (λ (j : ℕ). h.reference + compared_index h.letters j) e)
          (ap (compared_word h) e ∙ (then_length shape h asking).1) in
          inr (inl (found, saw.0, saw.1))
      by (inr (inr (inl (i, e, below)))) =
          let word = letter_word shape h asking i below in
          let index = ap (compared_index h.letters) e ∙ word.0 in
          let is = ap (compared_word h) e ∙ word.1 in
          let there : h.reference + compared_index h.letters k ≡ h.reference + 15 + i = omega (arith, index) in
          let saw = saw_other (h.reference + 15 + i) (slice_index asking.letters i) there is in
          inr (inr (
            asking.letters,
            i,
            found,
            asking.spells,
            below,
            saw.0,
            words_apart found (slice_index asking.letters i) small (subst (λ (w : ℕ). w < 2 ^ 64) is small_own) saw.1,
          ))
      by (inr (inr (inr (inl (i, e, below))))) = absurd (omega (arith, e, early))
      by (inr (inr (inr (inr (i, e, below))))) = absurd (omega (arith, e, early))

  pub saw_other_spec : h.letters + 2 ≤ k → SawOtherSpec seen h.asked.spec (length asking.letters) h.reference
  saw_other_spec late = by (part_of shape h asking k inside)
    where
      by : Part shape h asking k → SawOtherSpec seen h.asked.spec (length asking.letters) h.reference
      by (inl e) = absurd (omega (arith, e, late))
      by (inr (inl e)) = absurd (omega (arith, e, late))
      by (inr (inr (inl (i, e, below)))) = let count = asking.count in absurd (omega (arith, e, late, below, count))
      by (inr (inr (inr (inl (i, e, below))))) =
          let word = field_word shape h asking i below in
          let index = ap (compared_index h.letters) e ∙ word.0 in
          let there : h.reference + compared_index h.letters k ≡ h.reference + 4 + i = omega (arith, index) in
          let saw = saw_other (h.reference + 4 + i) (slice_index (spec_fields h.asked.spec) i) there (ap (compared_word h) e ∙ word.1) in
          inl (i, found, below, saw.0, saw.1)
      by (inr (inr (inr (inr (i, e, below))))) =
          let word = range_word shape h asking i in
          let index = ap (compared_index h.letters) e ∙ word.0 in
          let count = asking.count in
          let there : h.reference + compared_index h.letters k ≡ h.reference + 15 + length asking.letters + i = omega (arith, index, count) in
          let saw = saw_other (h.reference + 15 + length asking.letters + i) (slice_index (spec_ranges h.asked.spec) i) there (ap (compared_word h) e ∙ word.1) in
          inr (i, found, below, saw.0, saw.1)
