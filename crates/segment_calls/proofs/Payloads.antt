-- The words that a histogram's record is to have.
use Rattle.std.proofs.Common.{◌≡◌, ◌≢◌, ℕ, zero, suc, ◌+◌, ◌-◌, ◌*◌, ◌<◌, ◌≤◌, List, [], ◌∷◌, ◌++◌, length, take, drop, refl, sym, ap, ◌∙◌, subst, arith, append_assoc, length-append, true, inl, inr, ◌⊎◌}
use Rattle.std.specs.Prelude.{slice_index, Option, None, Some, MatchOption, Ok, Err}
use Rattle.std.proofs.Math.Seq.{take-suc, take-append_seam}
use Rattle.std.proofs.lemmas.Grind.{get_or_after_one}
use Rattle.std.proofs.lemmas.List.{append-nil, get_or_append_left, get_or-append-add, length-drop}
use Rattle.bucket_ranges.specs.declared.spec.Spec.{Spec}
use Rattle.bucket_ranges.specs.declared.spec.Spec.TheVariants.{Linear, Boolean, Custom, Sparse}
use Rattle.bucket_ranges.specs.Ranges.{custom_boundaries}
use Rattle.bucket_ranges.specs.Spec.{spec_fault, spec_fields, spec_ranges, distinct_values, buckets_of}
use Rattle.bucket_ranges.specs.declared.spec.SpecFault.{SpecFault}
use Rattle.bucket_ranges.specs.Reading.{is_name}
use Rattle.segment_calls.specs.Asked.{AreNameWords, payload_words, IsPayloadFor, IsTooLarge}
use Rattle.segment_calls.proofs.Letters.{last_letter, letters_long, some_letter}
use Rattle.bucket_ranges.proofs.Distinct.{Member, distinct-member}
use Rattle.bucket_ranges.proofs.Customs.{is_custom-from_checks, some_distinct, length-custom_boundaries}

-- ---- the ranges of a custom spec

-- one range more
pub one_range : (ranges front : List ℕ) (i : ℕ) → 1 ≤ i → i + 1 < length ranges
    → (front ++ take (i - 1) (drop 1 ranges)) ++ slice_index ranges i ∷ [] ≡ front ++ take (i + 1 - 1) (drop 1 ranges)
one_range ranges front zero from below = absurd (omega (arith, from))
one_range ranges front (suc j) from below =
    let long = length-drop 1 ranges in
    let next : suc j + 1 - 1 ≡ suc j = omega arith in
    let last : suc j - 1 ≡ j = omega arith in
    let one_more : 1 + j ≡ suc j = omega arith in
    ap (λ (n : ℕ). (front ++ take n (drop 1 ranges)) ++ slice_index ranges (suc j) ∷ []) last
    ∙ (append_assoc front (take j (drop 1 ranges)) (slice_index ranges (suc j) ∷ [])
    ∙ ap (λ (l : List ℕ). front ++ l)
    (ap (λ (n : ℕ). take j (drop 1 ranges) ++ n ∷ []) (ap (slice_index ranges) (sym one_more) ∙ sym (get_or_after_one ranges j 0))
    ∙ (sym (take-suc (drop 1 ranges) j 0 (omega (arith, long, below))) ∙ ap (λ (n : ℕ). take n (drop 1 ranges)) (sym next))))

module _ (values : List ℕ) (lawful : spec_fault (Custom values) ≡ None) where
  abbrev inner : List ℕ
  inner = distinct_values values

  abbrev ranges : List ℕ
  ranges = custom_boundaries values

  some : 0 < length inner
  some = some_distinct values (is_custom-from_checks values lawful)

  long : length ranges ≡ length inner + 2
  long = length-custom_boundaries values

  pub three_at_least : 3 ≤ length ranges
  three_at_least = let a = some in let b = long in omega (arith, a, b)

  at_last : (n : ℕ) → n ≡ length inner → slice_index ranges n ≡ slice_index inner (length inner - 1)
  at_last zero is = let a = some in absurd (omega (arith, is, a))
  at_last (suc n) is =
      let before : n ≡ length inner - 1 = omega (arith, is) in
      get_or_append_left inner (2147483647 ∷ []) 0 n (omega (arith, is)) ∙ ap (slice_index inner) before

  pub fields_are : (3 ∷ slice_index ranges 1 ∷ slice_index ranges (length ranges - 2) ∷ (length ranges - 1) ∷ []) ≡ spec_fields (Custom values)
  fields_are =
      let b = long in
      let first : slice_index ranges 1 ≡ slice_index inner 0 = get_or_append_left inner (2147483647 ∷ []) 0 0 some in
      let last : slice_index ranges (length ranges - 2) ≡ slice_index inner (length inner - 1) = at_last (length ranges - 2) (omega (arith, b)) in
      let count : length ranges - 1 ≡ length inner + 1 = omega (arith, b) in
      λ i. 3 ∷ first i ∷ last i ∷ count i ∷ []

  pub inner_are : take (length ranges - 2) (drop 1 ranges) ≡ inner
  inner_are = let b = long in let n : length ranges - 2 ≡ length inner = omega (arith, b) in
      ap (λ (k : ℕ). take k (inner ++ 2147483647 ∷ [])) n ∙ take-append_seam inner (2147483647 ∷ [])

-- ---- the payload

-- there is a word for each number and each letter
pub payload_long : (name : List ℕ) (spec : Spec) (letters : List ℕ) → length (payload_words name spec letters) ≡ 11 + (length letters + length (spec_ranges spec))
payload_long name (Linear min max n) letters = let e = length-append letters [] in omega (arith, e)
payload_long name Boolean letters = let e = length-append letters [] in omega (arith, e)
payload_long name (Custom values) letters = let e = length-append letters (distinct_values values) in omega (arith, e)
payload_long name Sparse letters = let e = length-append letters [] in omega (arith, e)

-- the last of two lists is that of the second
ends_with : (xs ys : List ℕ) → 0 < length ys → slice_index (xs ++ ys) (length (xs ++ ys) - 1) ≡ slice_index ys (length ys - 1)
ends_with xs ys some =
    let e = length-append xs ys in
    let at : length (xs ++ ys) - 1 ≡ length xs + (length ys - 1) = omega (arith, e, some) in
    ap (slice_index (xs ++ ys)) at ∙ get_or-append-add xs ys (length ys - 1) 0

-- the last is one of them
last_member : (l : List ℕ) → 0 < length l → Member (slice_index l (length l - 1)) l
last_member [] some = absurd (omega (arith, some))
last_member (x ∷ []) some = inl refl
last_member (x ∷ y ∷ rest) some =
    let at : length (x ∷ y ∷ rest) - 1 ≡ suc (length (y ∷ rest) - 1) = omega arith in
    inr (subst (λ (n : ℕ). Member n (y ∷ rest)) (sym (ap (slice_index (x ∷ y ∷ rest)) at)) (last_member (y ∷ rest) (omega arith)))

module _ (name letters : List ℕ) (lawful : is_name name ≡ true) (spells : AreNameWords name letters) where
  -- it ends with the name, or with the ranges
  ends_with_name : (front : List ℕ) → slice_index (front ++ (letters ++ [])) (length (front ++ (letters ++ [])) - 1) ≢ 0
  ends_with_name front none =
      let same = append-nil letters in
      last_letter name letters lawful spells
      (sym (ends_with front letters (some_letter name letters lawful spells)) ∙ (ap (λ (l : List ℕ). slice_index (front ++ l) (length (front ++ l) - 1)) (sym same) ∙ none))

  ends_with_ranges : (front ranges : List ℕ) → 0 < length ranges → slice_index ranges (length ranges - 1) ≢ 0
      → slice_index (front ++ (letters ++ ranges)) (length (front ++ (letters ++ ranges)) - 1) ≢ 0
  ends_with_ranges front ranges some last none =
      let long = length-append letters ranges in
      last (sym (ends_with letters ranges some) ∙ (sym (ends_with front (letters ++ ranges) (omega (arith, long, some))) ∙ none))

  last_inner : (values : List ℕ) → 0 < length (distinct_values values) → slice_index (distinct_values values) (length (distinct_values values) - 1) ≢ 0
  last_inner values some none = let m = distinct-member values _ (last_member (distinct_values values) some) in let above = m.1 in absurd (omega (arith, above, none))

  pub last_word : (spec : Spec) → spec_fault spec ≡ None
      → slice_index (payload_words name spec letters) (length (payload_words name spec letters) - 1) ≢ 0
  last_word (Linear min max n) fine = ends_with_name (1 ∷ min ∷ max ∷ n ∷ 0 ∷ 0 ∷ 0 ∷ 0 ∷ 0 ∷ 0 ∷ length name ∷ [])
  last_word Boolean fine = ends_with_name (2 ∷ 1 ∷ 2 ∷ 3 ∷ 0 ∷ 0 ∷ 0 ∷ 0 ∷ 0 ∷ 0 ∷ length name ∷ [])
  last_word (Custom values) fine =
      let inner = distinct_values values in let some = some_distinct values (is_custom-from_checks values fine) in
      ends_with_ranges (3 ∷ slice_index inner 0 ∷ slice_index inner (length inner - 1) ∷ (length inner + 1) ∷ 0 ∷ 0 ∷ 0 ∷ 0 ∷ 0 ∷ 0 ∷ length name ∷ []) inner some (last_inner values some)
  last_word Sparse fine = ends_with_name (4 ∷ 0 ∷ 0 ∷ 0 ∷ 0 ∷ 0 ∷ 0 ∷ 0 ∷ 0 ∷ 0 ∷ length name ∷ [])

-- ---- what asks

-- if there are ranges, the spec has no fault
pub of_ranges : {P : Type 0} (o : Option SpecFault) (r : List ℕ) → MatchOption o P (λ fault. Ok r ≡ Err fault) → (o ≡ None) × P
of_ranges None r is = (refl, is)
of_ranges (Some fault) r is = absurd (cc is)

-- a record or counts that are larger than a page
pub too_large : (page : ℕ) (name : List ℕ) (spec : Spec) (payload : List ℕ) (count : ℕ) (ranges : List ℕ) → IsPayloadFor name spec payload count
    → length ranges - 1 ≡ buckets_of spec → (n : ℕ) → n ≡ page
    → (n < 4 + length payload) ⊎ (n < 4 + 2 * (length ranges - 1)) → IsTooLarge page name spec
too_large page name spec payload count ranges made buckets n is (inl large) =
    let long = ap length made.words ∙ payload_long name spec made.letters in
    let letters = letters_long name made.letters made.spells in
    inl (omega (arith, large, is, long, letters))
too_large page name spec payload count ranges made buckets n is (inr large) = inr (omega (arith, large, is, buckets))
