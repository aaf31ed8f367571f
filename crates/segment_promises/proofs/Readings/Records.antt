-- The record of a histogram among words: the checks of its kind, name, spec, single word and sums find nothing.
use Rattle.segment_invariant.proofs.Prelude.Std.{◌≡◌, ◌≢◌, ◌||◌, Bool, true, false, if◌then◌else◌, ℕ, ◌+◌, ◌-◌, ◌*◌, ◌^◌, ◌<◌, ℤ, pos, inl, inr, refl, ap, subst, ◌∙◌, arith, Option, Some, None, List, [], not, ◌==◌, nat_lt, slice_index, unsigned_abs, ◌-ℤ◌, w64, cast_signed, +ℤ_idr, le-ltb, le-leb, ltb-false, ne_eqb}
use Rattle.segment_invariant.proofs.Prelude.Machine.{Dimensions, head_of, field_at, SingleWord, Empty, Packed, Disabled, FrozenEmpty, Frozen, single_of, is_packed_word, buckets_of, record_buckets, State, is_off, units_of, IsShown}
use Rattle.segment_invariant.proofs.Prelude.Invariant.{Record, record_words, Anatomy, layout_of, form_at, HasRecord, summed_cost, IsSumOf, IsLawfulRecord, Invariant}
use Rattle.std.proofs.lemmas.Bool.{or_from}
use Rattle.std.proofs.lemmas.List.Sums.{sum_by-le-sum_by}
use Rattle.bucket_ranges.specs.Single.{packed_of, frozen_of, disabled_of, is_disabled}
use Rattle.bucket_ranges.specs.Reading.{is_bad_kind, has_name, is_bad_spec, is_bad_single, is_bad_record_single, is_beyond, is_bad_sum, is_bad_record_sum}
use Rattle.segment_invariant.specs.Words.{WordsAreKept}
use Rattle.segment_invariant.proofs.Counting.Learned.{summed_least}
use Rattle.segment_invariant.proofs.Consistency.Records.{record_word}
use Rattle.segment_invariant.proofs.Consistency.Specs.{form_is}
use Rattle.segment_invariant.proofs.Consistency.Made.{record_holds}

-- ---- a single word

-- a word whose form is disabled or frozen is off
packed_on : (b : Bool) (bucket units : ℕ) → is_disabled (if b then Some (Packed bucket units) else None) ≢ true
packed_on true bucket units is = cc is
packed_on false bucket units is = cc is

not_low : (n word : ℕ) (empty low : Bool) (high : Option SingleWord)
    → is_disabled (if empty then Some Empty else (if low then packed_of n word else high)) ≡ true → low ≡ false
not_low n word true low high is = cc is
not_low n word false true high is = absurd (packed_on (is_packed_word n word) _ _ is)
not_low n word false false high is = refl

disabled_off : (version n word : ℕ) → is_disabled (single_of version n word) ≡ true → is_off word ≡ true
disabled_off version n word is =
    le-leb (2 ^ 63) word (ltb-false word (2 ^ 63)
    (not_low n word (word == 0) (nat_lt word (2 ^ 63)) (if version == 2 then frozen_of n (word - 2 ^ 63) else disabled_of n (word - 2 ^ 63)) is))

-- a form that is there is not bad, if its counts are there once it is disabled
single_lawful : (form : Option SingleWord) (counts : ℕ) → form ≢ None → (is_disabled form ≡ true → counts ≢ 0) → is_bad_single form counts ≡ false
single_lawful (Some Empty) counts formed used = refl
single_lawful (Some (Packed bucket units)) counts formed used = refl
single_lawful (Some (Disabled packed)) counts formed used = ne_eqb counts 0 (used refl)
single_lawful (Some FrozenEmpty) counts formed used = ne_eqb counts 0 (used refl)
single_lawful (Some (Frozen bucket units)) counts formed used = ne_eqb counts 0 (used refl)
single_lawful None counts formed used = absurd (formed refl)

-- ---- a record among the words

module _ (shape : Dimensions) (words : List ℕ) (anatomy : Anatomy) (shown : IsShown shape words (layout_of anatomy)) (version at : ℕ) (r : Record)
    (has : HasRecord anatomy.pieces at r) (right : IsLawfulRecord version shape.page r) where
  word : (j : ℕ) → j < 15 → field_at words at j ≡ slice_index (record_words r) j
  word j below = record_word shape words anatomy shown at r j has below

  pub kind_is_right : is_bad_kind words at ≡ false
  kind_is_right =
      let (tag, named, its_name, kind, specified, same, fits, letters) = record_holds shape words anatomy shown version [] at r has right in
      let size = word 0 (omega arith) in
      let least = right.least in
      or_from _ _ (le-ltb (field_at words at 0) 16 (omega (arith, size, least))) (ap not kind)

  pub name_is_right : not (has_name words at) ≡ false
  name_is_right =
      let (tag, named, its_name, kind, specified, same, fits, letters) = record_holds shape words anatomy shown version [] at r has right in ap not named

  pub spec_is_right : is_bad_spec words (head_of words).shape.page at ≡ false
  spec_is_right =
      let (tag, named, its_name, kind, specified, same, fits, letters) = record_holds shape words anatomy shown version [] at r has right in
      or_from _ _ (ap not specified) (le-ltb (head_of words).shape.page (4 + 2 * record_buckets words at) fits)

  pub single_is_right : is_bad_record_single version words at ≡ false
  single_is_right =
      let form = form_is shape words anatomy shown version at r has right version in
      let counts = word 8 (omega arith) in
      (λ i. is_bad_single (form i) (counts i))
      ∙ single_lawful (form_at version r) r.counts right.formed
      (λ disabled. right.off (disabled_off version (buckets_of r.spec) r.single disabled))

-- ---- its sums

module _ (shape : Dimensions) (opened : Anatomy) (words : List ℕ) (kept : WordsAreKept shape opened words) (at : ℕ) (r : Record)
    (has : HasRecord kept.laid.anatomy.pieces at r) where
  pub sum_is_right : is_bad_record_sum words at ≡ false
  sum_is_right =
      let word = λ (j : ℕ) (below : j < 15). record_word shape words kept.laid.anatomy kept.laid.shown at r j has below in
      (λ i. is_bad_sum (cast_signed w64 (word 11 (omega arith) i)) (cast_signed w64 (word 12 (omega arith) i))) ∙ kept.bounds.sums at r has

-- ---- the same in a kept state

module _ (shape : Dimensions) (opened : Anatomy) (state : State) (kept : Invariant shape opened state) (at : ℕ) (r : Record)
    (has : HasRecord kept.anatomy.pieces at r) where
  -- two sums differ by no more than all units can have brought
  near : (x y : ℤ) → IsSumOf state.actors at r x → IsSumOf state.actors at r y → is_beyond (x -ℤ y) ≡ false
  near x y first second =
      let close = kept.sums at r x y has first second in
      let few = sum_by-le-sum_by (summed_cost r.name) units_of state.actors (summed_least r.name) in
      let pool = kept.pool in
      le-ltb 9223372034707292160 (unsigned_abs (x -ℤ y)) (omega (arith, close, few, pool))

  pub small : (x : ℤ) → IsSumOf state.actors at r x → is_beyond x ≡ false
  small x is = subst (λ (z : ℤ). is_beyond z ≡ false) (+ℤ_idr x) (near x (pos 0) is (inl refl))

  pub sums_are_near : is_bad_sum (cast_signed w64 r.sum) (cast_signed w64 r.sum_mark) ≡ false
  sums_are_near =
      let sum : ℤ = cast_signed w64 r.sum in
      let mark : ℤ = cast_signed w64 r.sum_mark in
      λ i. small sum (inr (inl refl)) i || small mark (inr (inr (inl refl))) i || near sum mark (inr (inl refl)) (inr (inr (inl refl))) i
