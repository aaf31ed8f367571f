-- The keys of buckets: those of one histogram differ, and specs that are the same have the same ones.
use Rattle.segment_invariant.proofs.Prelude.Std.{◌≡◌, ◌≢◌, ◌⊎◌, Bool, true, false, ◌==◌, nat_lt, if◌then◌else◌, ℕ, ◌+◌, ◌-◌, ◌/◌, ◌%◌, ◌^◌, ◌<◌, ℤ, List, length, inl, inr, refl, sym, ap, ◌∙◌, arith, Option, Some, None, slice_index, int_eq, cases_order, eqb-true, eqb-false, ltb-true, and_parts, Decides-int_eq}
use Rattle.segment_invariant.proofs.Prelude.Machine.{Spec, Sparse, SingleWord, Empty, Packed, Disabled, FrozenEmpty, Frozen, buckets_of, spec_fault, spec_ranges, SameSpec, boundaries_of, single_of, is_packed_word, packed_bucket, is_packed_bucket, units_packed, units_in}
use Rattle.segment_invariant.proofs.Prelude.Invariant.{key_of_bucket, at_bucket}
use Rattle.bucket_ranges.specs.Ranges.{IsAscending}
use Rattle.bucket_ranges.specs.Single.{packed_of, disabled_of, frozen_of}
use Rattle.bucket_ranges.proofs.Ascent.{boundaries_of-split}
use Rattle.bucket_ranges.proofs.Buckets.{ascends}
use Rattle.segment_invariant.proofs.Lists.FewTerms.{if_nothing}
use Rattle.segment_invariant.proofs.Consistency.Specs.{spelled, field_named, named_by, buckets_spelled, boundaries_spelled}

-- ---- specs that are the same

same_spelling : (a b : Spec) → SameSpec a b → spelled a ≡ spelled b
same_spelling a b same =
    sym (named_by a (spec_ranges a) (λ _. refl)) ∙ ((λ i. field_named (same.0 i) (same.1 i)) ∙ named_by b (spec_ranges b) (λ _. refl))

pub same_boundaries : (a b : Spec) → SameSpec a b → boundaries_of a ≡ boundaries_of b
same_boundaries a b same = sym (boundaries_spelled a) ∙ (ap boundaries_of (same_spelling a b same) ∙ boundaries_spelled b)

pub same_buckets : (a b : Spec) → SameSpec a b → buckets_of a ≡ buckets_of b
same_buckets a b same = sym (buckets_spelled a) ∙ (ap buckets_of (same_spelling a b same) ∙ buckets_spelled b)

-- ---- buckets by their keys

-- a boundary further on is greater
further : (boundaries : List ℕ) → IsAscending boundaries → (i j : ℕ) → i < j → j < length boundaries → slice_index boundaries i < slice_index boundaries j
further boundaries ascending i j lt below =
    let step = ascending i (omega (arith, lt, below)) in
    let rest = ascends boundaries (i + 1) j ascending (omega (arith, lt)) below in
    omega (arith, step, rest)

-- two buckets of a valid spec that have the same key are the same
pub one_key : (spec : Spec) (i j : ℕ) → spec_fault spec ≡ None → spec ≢ Sparse → i < buckets_of spec → j < buckets_of spec
    → key_of_bucket spec i ≡ key_of_bucket spec j → i ≡ j
one_key spec i j lawful bucketed low high same =
    let split = boundaries_of-split spec lawful bucketed in
    let count = split.count in
    let numbers : slice_index (boundaries_of spec) i ≡ slice_index (boundaries_of spec) j = cc same in
    elim (cases_order i j) [
      | inl equal ↦ equal
      | inr other ↦ elim other [
        | inl before ↦ let h = further (boundaries_of spec) split.ascending i j before (omega (arith, high, count)) in absurd (omega (arith, h, numbers))
        | inr behind ↦ let h = further (boundaries_of spec) split.ascending j i behind (omega (arith, low, count)) in absurd (omega (arith, h, numbers))
      ]
    ]

-- ---- forms by their buckets

-- the packed bucket of a form is one of the buckets
packed_by : (n bucket i : ℕ) (b : Bool) (form : SingleWord) → packed_bucket (Some form) ≡ Some bucket → (b ≡ true → bucket < n)
    → packed_bucket (if b then Some form else None) ≡ Some i → i < n
packed_by n bucket i true form names within is = let e : bucket ≡ i = cc (is, names) in let lt = within refl in omega (arith, e, lt)
packed_by n bucket i false form names within is = cc is

-- a word that names a bucket and its units names one of the buckets
word_within : (n word : ℕ) → is_packed_word n word ≡ true → word / 2 ^ 32 < n
word_within n word all = ltb-true (word / 2 ^ 32) n (and_parts _ _ (and_parts _ _ all).0).0

disabled_by : (n low i : ℕ) (none few : Bool) → (few ≡ true → low < n)
    → packed_bucket (if none then Some (Disabled None) else (if few then Some (Disabled (Some low)) else None)) ≡ Some i → i < n
disabled_by n low i true few within is = cc is
disabled_by n low i false true within is = let e : low ≡ i = cc is in let lt = within refl in omega (arith, e, lt)
disabled_by n low i false false within is = cc is

frozen_by : (n low i : ℕ) (none : Bool)
    → packed_bucket (if none then Some FrozenEmpty else (if is_packed_word n low then Some (Frozen (low / 2 ^ 32) (low % 2 ^ 32)) else None)) ≡ Some i
    → i < n
frozen_by n low i true is = cc is
frozen_by n low i false is =
    packed_by n (low / 2 ^ 32) i (is_packed_word n low) (Frozen (low / 2 ^ 32) (low % 2 ^ 32)) refl (word_within n low) is

single_by : (n word i : ℕ) (empty low frozen : Bool)
    → packed_bucket (if empty then Some Empty
    else (if low then packed_of n word else (if frozen then frozen_of n (word - 2 ^ 63) else disabled_of n (word - 2 ^ 63)))) ≡ Some i → i < n
single_by n word i true low frozen is = cc is
single_by n word i false true frozen is =
    packed_by n (word / 2 ^ 32) i (is_packed_word n word) (Packed (word / 2 ^ 32) (word % 2 ^ 32)) refl (word_within n word) is
single_by n word i false false true is = frozen_by n (word - 2 ^ 63) i (word - 2 ^ 63 == 0) is
single_by n word i false false false is =
    disabled_by n (word - 2 ^ 63) i (word - 2 ^ 63 == 65535) (nat_lt (word - 2 ^ 63) n) (ltb-true (word - 2 ^ 63) n) is

pub packed_within : (version n word i : ℕ) → packed_bucket (single_of version n word) ≡ Some i → i < n
packed_within version n word i is = single_by n word i (word == 0) (nat_lt word (2 ^ 63)) (version == 2) is

-- an empty word holds no units
pub no_units : (version n word : ℕ) → (version ≡ 1) ⊎ (version ≡ 2) → word ≡ 0 → units_in (single_of version n word) ≡ 0
no_units version n word (inl one) empty = (λ i. units_in (single_of (one i) n (empty i)))
no_units version n word (inr two) empty = (λ i. units_in (single_of (two i) n (empty i)))

-- and packs no bucket
pub no_packed : (version n word : ℕ) → (version ≡ 1) ⊎ (version ≡ 2) → word ≡ 0 → packed_bucket (single_of version n word) ≡ None
no_packed version n word (inl one) empty = (λ i. packed_bucket (single_of (one i) n (empty i)))
no_packed version n word (inr two) empty = (λ i. packed_bucket (single_of (two i) n (empty i)))

-- ---- what belongs to a bucket

pub at_no_bucket : (spec : Spec) (key : ℤ) (packed : Option ℕ) → at_bucket spec key packed 0 ≡ 0
at_no_bucket spec key None = refl
at_no_bucket spec key (Some bucket) = if_nothing (int_eq (key_of_bucket spec bucket) key) 0 0 refl

module _ (spec : Spec) (lawful : spec_fault spec ≡ None) (bucketed : spec ≢ Sparse) (i : ℕ) (below : i < buckets_of spec) where
  -- a bucket has the key of another if it is that one
  pub key_test : (bucket : ℕ) → bucket < buckets_of spec → int_eq (key_of_bucket spec bucket) (key_of_bucket spec i) ≡ (bucket == i)
  key_test bucket within = by_equal (bucket == i) (eqb-true bucket i) (eqb-false bucket i)
    where
      by_equal : (b : Bool) → (b ≡ true → bucket ≡ i) → (b ≡ false → bucket ≢ i) → int_eq (key_of_bucket spec bucket) (key_of_bucket spec i) ≡ b
      by_equal true same other = (Decides-int_eq _ _).1 (ap (key_of_bucket spec) (same refl))
      by_equal false same other = by_test (int_eq (key_of_bucket spec bucket) (key_of_bucket spec i)) refl
        where
          by_test : (t : Bool) → int_eq (key_of_bucket spec bucket) (key_of_bucket spec i) ≡ t → t ≡ false
          by_test true is = absurd (other refl (one_key spec bucket i lawful bucketed within below ((Decides-int_eq _ _).0 is)))
          by_test false is = refl

  -- the units of the packed bucket are packed
  pub packed_units : (form : Option SingleWord) → ((bucket : ℕ) → packed_bucket form ≡ Some bucket → bucket < buckets_of spec)
      → at_bucket spec (key_of_bucket spec i) (packed_bucket form) (units_in form) ≡ units_packed form i
  packed_units (Some (Packed bucket units)) within = ap (λ (b : Bool). if b then units else 0) (key_test bucket (within bucket refl))
  packed_units (Some Empty) within = refl
  packed_units (Some (Disabled packed)) within = at_no_bucket spec (key_of_bucket spec i) packed
  packed_units (Some FrozenEmpty) within = refl
  packed_units (Some (Frozen bucket units)) within = ap (λ (b : Bool). if b then units else 0) (key_test bucket (within bucket refl))
  packed_units None within = refl

  -- the mark of the packed bucket is the single mark
  pub packed_mark : (form : Option SingleWord) (mark : ℕ) → ((bucket : ℕ) → packed_bucket form ≡ Some bucket → bucket < buckets_of spec)
      → at_bucket spec (key_of_bucket spec i) (packed_bucket form) mark ≡ (if is_packed_bucket form i then mark else 0)
  packed_mark form mark within = by_packed (packed_bucket form) refl
    where
      by_packed : (packed : Option ℕ) → packed_bucket form ≡ packed
          → at_bucket spec (key_of_bucket spec i) (packed_bucket form) mark ≡ (if is_packed_bucket form i then mark else 0)
      by_packed None is = cc is
      by_packed (Some bucket) is = cc (is, key_test bucket (within bucket is))
