-- The form of the word with which a word is disabled or frozen: its packed bucket and its units; and the word before leads to it.
use Rattle.segment_invariant.proofs.Prelude.Std.{◌≡◌, ◌≢◌, ◌⊎◌, Bool, true, false, ◌==◌, nat_lt, if◌then◌else◌, ℕ, ◌+◌, ◌-◌, ◌/◌, ◌%◌, ◌^◌, ◌<◌, ◌≤◌, Option, Some, None, inl, inr, refl, sym, ap, ◌∙◌, subst, arith, lt-ltb, le-ltb, le-leb, ne_eqb, eqb-true, ltb-true, leb-true, and_parts}
use Rattle.segment_invariant.proofs.Prelude.Machine.{SingleWord, Empty, Packed, Disabled, FrozenEmpty, Frozen, Spec, Linear, Boolean, Custom, Sparse, spec_fault, buckets_of, single_of, is_packed_word, packed_bucket, is_off, units_in, Leads}
use Rattle.std.proofs.lemmas.Bool.{leb-false}
use Rattle.bucket_ranges.specs.Single.{packed_of, disabled_of, frozen_of}
use Rattle.bucket_ranges.proofs.Ascent.{is_linear-from_checks}
use Rattle.bucket_ranges.proofs.Customs.{is_custom-from_checks, length-distinct}
use Rattle.segment_calls.specs.Form.{off_word}

-- a valid spec has at most 1,000 buckets
pub few_buckets : (spec : Spec) → spec_fault spec ≡ None → buckets_of spec ≤ 1000
few_buckets (Linear min max n) e = (is_linear-from_checks min max n e).many
few_buckets Boolean e = omega arith
few_buckets (Custom values) e = let few = (is_custom-from_checks values e).few in let long = length-distinct values in omega (arith, few, long)
few_buckets Sparse e = omega arith

-- ---- words with a form

-- a word that is on and has a form is empty, or names a bucket and its units
on_by : (n word : ℕ) (empty low : Bool) (rest : Option SingleWord) → low ≡ true → (empty ≡ true → word ≡ 0)
    → (if empty then Some Empty else (if low then packed_of n word else rest)) ≢ None
    → (word ≡ 0) ⊎ ((is_packed_word n word ≡ true)
    × ((if empty then Some Empty else (if low then packed_of n word else rest)) ≡ Some (Packed (word / 2 ^ 32) (word % 2 ^ 32))))
on_by n word true low rest is zero_is formed = inl (zero_is refl)
on_by n word false false rest is zero_is formed = absurd (cc is)
on_by n word false true rest is zero_is formed = packed_by (is_packed_word n word) formed
  where
    packed_by : (b : Bool) → (if b then Some (Packed (word / 2 ^ 32) (word % 2 ^ 32)) else None) ≢ None
        → (word ≡ 0) ⊎ ((b ≡ true) × ((if b then Some (Packed (word / 2 ^ 32) (word % 2 ^ 32)) else None) ≡ Some (Packed (word / 2 ^ 32) (word % 2 ^ 32))))
    packed_by true formed = inr (refl, refl)
    packed_by false formed = absurd (formed refl)

pub on_form : (version n word : ℕ) → single_of version n word ≢ None → is_off word ≡ false
    → (word ≡ 0) ⊎ ((is_packed_word n word ≡ true) × (single_of version n word ≡ Some (Packed (word / 2 ^ 32) (word % 2 ^ 32))))
on_form version n word formed on =
    on_by n word (word == 0) (nat_lt word (2 ^ 63)) _ (lt-ltb word (2 ^ 63) (leb-false (2 ^ 63) word on)) (eqb-true word 0) formed

-- the form of a word from 2^63 on
high_form : (version n low : ℕ) → single_of version n (2 ^ 63 + low) ≡ (if version == 2 then frozen_of n low else disabled_of n low)
high_form version n low =
    by_tests (2 ^ 63 + low == 0) (nat_lt (2 ^ 63 + low) (2 ^ 63)) _ _ (ne_eqb (2 ^ 63 + low) 0 (λ e. omega (arith, e))) (le-ltb (2 ^ 63 + low) (2 ^ 63) (omega arith))
    ∙ (λ i. if version == 2 then frozen_of n (rest i) else disabled_of n (rest i))
  where
    rest : 2 ^ 63 + low - 2 ^ 63 ≡ low
    rest = omega arith

    by_tests : (empty on : Bool) (packed off : Option SingleWord) → empty ≡ false → on ≡ false
        → (if empty then Some Empty else (if on then packed else off)) ≡ off
    by_tests true on packed off none is = cc none
    by_tests false true packed off none is = cc is
    by_tests false false packed off none is = refl

high_off : (low : ℕ) → is_off (2 ^ 63 + low) ≡ true
high_off low = le-leb (2 ^ 63) (2 ^ 63 + low) (omega arith)

-- in version 1 with a bucket, in version 2 with units of one
disabled_form : (n low : ℕ) → low < n → n ≤ 65535 → disabled_of n low ≡ Some (Disabled (Some low))
disabled_form n low below few = λ i. if ne_eqb low 65535 (λ e. omega (arith, e, below, few)) i then Some (Disabled None)
    else (if lt-ltb low n below i then Some (Disabled (Some low)) else None)

frozen_form : (n low : ℕ) → low ≢ 0 → is_packed_word n low ≡ true → frozen_of n low ≡ Some (Frozen (low / 2 ^ 32) (low % 2 ^ 32))
frozen_form n low some_there names = λ i. if ne_eqb low 0 some_there i then Some FrozenEmpty
    else (if names i then Some (Frozen (low / 2 ^ 32) (low % 2 ^ 32)) else None)

-- ---- what disabling makes of a word

-- It is off, has a form, and names the bucket that was named. In version 2 it keeps the units, in version 1 it has none; what was
-- packed before, at most 65,535 units of a bucket, leads to it.
pub record Disabling (version n old : ℕ) : Type 0 where
  pub off : is_off (off_word version old) ≡ true
  pub formed : single_of version n (off_word version old) ≢ None
  pub names : packed_bucket (single_of version n (off_word version old)) ≡ packed_bucket (single_of version n old)
  pub units : units_in (single_of version n (off_word version old)) ≡ (if version == 2 then units_in (single_of version n old) else 0)
  pub leads : Leads version n old (off_word version old)
  pub few : units_in (single_of version n old) ≤ 65535
  pub packed : old ≢ 0 → (bucket : ℕ) × (packed_bucket (single_of version n old) ≡ Some bucket) × (1 ≤ units_in (single_of version n old))

-- of a word that names a bucket and its units
module _ (version n old : ℕ) (on : is_off old ≡ false) (names : is_packed_word n old ≡ true)
    (form : single_of version n old ≡ Some (Packed (old / 2 ^ 32) (old % 2 ^ 32))) where
  within : old / 2 ^ 32 < n
  within = ltb-true (old / 2 ^ 32) n (and_parts _ _ (and_parts _ _ names).0).0

  some_units : 1 ≤ old % 2 ^ 32
  some_units = leb-true 1 (old % 2 ^ 32) (and_parts _ _ (and_parts _ _ names).0).1

  few_units : old % 2 ^ 32 ≤ 65535
  few_units = leb-true (old % 2 ^ 32) 65535 (and_parts _ _ names).1

  some_there : old ≢ 0
  some_there empty = let some_units = some_units in omega (arith, empty, some_units)

  kept_few : units_in (single_of version n old) ≤ 65535
  kept_few = let is : units_in (single_of version n old) ≡ old % 2 ^ 32 = ap units_in form in let few = few_units in omega (arith, is, few)

  packs : (bucket : ℕ) × (packed_bucket (single_of version n old) ≡ Some bucket) × (1 ≤ units_in (single_of version n old))
  packs =
      let is : units_in (single_of version n old) ≡ old % 2 ^ 32 = ap units_in form in
      let some_units = some_units in
      (old / 2 ^ 32, ap packed_bucket form, omega (arith, is, some_units))

-- a word that is empty
disabling_empty : (version n : ℕ) → is_off (off_word version 0) ≡ true → single_of version n (off_word version 0) ≢ None
    → packed_bucket (single_of version n (off_word version 0)) ≡ packed_bucket (single_of version n 0)
    → units_in (single_of version n (off_word version 0)) ≡ (if version == 2 then units_in (single_of version n 0) else 0) → units_in (single_of version n 0) ≤ 65535 → Disabling version n 0
disabling_empty version n off formed names units few = record {
  off = off;
  formed = formed;
  names = names;
  units = units;
  leads = inr (inl refl);
  few = few;
  packed = λ some_there. absurd (some_there refl);
}

disabling_one : (n old : ℕ) → n ≤ 65535 → single_of 1 n old ≢ None → is_off old ≡ false → Disabling 1 n old
disabling_one n old few formed on = by_form (on_form 1 n old formed on)
  where
    by_form : (old ≡ 0) ⊎ ((is_packed_word n old ≡ true) × (single_of 1 n old ≡ Some (Packed (old / 2 ^ 32) (old % 2 ^ 32)))) → Disabling 1 n old
    by_form (inl empty) = subst (Disabling 1 n) (sym empty) (disabling_empty 1 n refl (λ e. cc e) refl refl (omega arith))
    by_form (inr (names, form)) =
        let is : off_word 1 old ≡ 2 ^ 63 + old / 2 ^ 32 =
        (λ i. if ne_eqb old 0 (some_there 1 n old on names form) i then 2 ^ 63 + 65535 else 2 ^ 63 + old / 2 ^ 32) in
        let new : single_of 1 n (off_word 1 old) ≡ Some (Disabled (Some (old / 2 ^ 32))) =
        ap (single_of 1 n) is ∙ (high_form 1 n (old / 2 ^ 32) ∙ disabled_form n (old / 2 ^ 32) (within 1 n old on names form) few) in
        let off : is_off (off_word 1 old) ≡ true = ap is_off is ∙ high_off (old / 2 ^ 32) in
        let same : packed_bucket (single_of 1 n (off_word 1 old)) ≡ packed_bucket (single_of 1 n old) = ap packed_bucket new ∙ sym (ap packed_bucket form) in
        record {
          off = off;
          formed = λ none_there. cc (sym new ∙ none_there);
          names = same;
          units = ap units_in new;
          leads = inr (inr (on, same, inr (refl, off)));
          few = kept_few 1 n old on names form;
          packed = λ some_there. packs 1 n old on names form;
        }

disabling_two : (n old : ℕ) → single_of 2 n old ≢ None → is_off old ≡ false → Disabling 2 n old
disabling_two n old formed on = by_form (on_form 2 n old formed on)
  where
    by_form : (old ≡ 0) ⊎ ((is_packed_word n old ≡ true) × (single_of 2 n old ≡ Some (Packed (old / 2 ^ 32) (old % 2 ^ 32)))) → Disabling 2 n old
    by_form (inl empty) = subst (Disabling 2 n) (sym empty) (disabling_empty 2 n refl (λ e. cc e) refl refl (omega arith))
    by_form (inr (names, form)) =
        let new : single_of 2 n (off_word 2 old) ≡ Some (Frozen (old / 2 ^ 32) (old % 2 ^ 32)) =
        high_form 2 n old ∙ frozen_form n old (some_there 2 n old on names form) names in
        let same : packed_bucket (single_of 2 n (off_word 2 old)) ≡ packed_bucket (single_of 2 n old) = ap packed_bucket new ∙ sym (ap packed_bucket form) in
        let units : units_in (single_of 2 n (off_word 2 old)) ≡ units_in (single_of 2 n old) = ap units_in new ∙ sym (ap units_in form) in
        record {
          off = high_off old;
          formed = λ none_there. cc (sym new ∙ none_there);
          names = same;
          units = units;
          leads = inr (inr (on, same, inl (omega (arith, units))));
          few = kept_few 2 n old on names form;
          packed = λ some_there. packs 2 n old on names form;
        }

pub disabling : (version n old : ℕ) → (version ≡ 1) ⊎ (version ≡ 2) → n ≤ 65535 → single_of version n old ≢ None → is_off old ≡ false → Disabling version n old
disabling version n old (inl one) few formed on =
    subst (λ (v : ℕ). Disabling v n old) (sym one) (disabling_one n old few (subst (λ (v : ℕ). single_of v n old ≢ None) one formed) on)
disabling version n old (inr two) few formed on =
    subst (λ (v : ℕ). Disabling v n old) (sym two) (disabling_two n old (subst (λ (v : ℕ). single_of v n old ≢ None) two formed) on)
