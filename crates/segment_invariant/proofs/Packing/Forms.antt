-- The form of a word to which units of a bucket are packed: its packed bucket and its units; and the word before leads to it.
use Rattle.segment_invariant.proofs.Prelude.Std.{◌≡◌, ◌⊎◌, Bool, true, false, ◌&&◌, ◌==◌, nat_lt, nat_le, if◌then◌else◌, ℕ, ◌+◌, ◌/◌, ◌%◌, ◌^◌, ◌<◌, ◌≤◌, Option, Some, None, inl, inr, sym, ap, ◌∙◌, arith, lt-ltb, le-leb, ne_eqb}
use Rattle.segment_invariant.proofs.Prelude.Machine.{SingleWord, Empty, Packed, Disabled, FrozenEmpty, Frozen, single_of, is_packed_word, packed_bucket, units_packed, is_off, units_in, Leads}
use Rattle.std.proofs.lemmas.Bool.{lt-leb}
use Rattle.segment_calls.specs.Form.{packed_word, IsPacking}

-- of a bucket a word holds no more than it holds
pub units_most : (form : Option SingleWord) (i : ℕ) → units_packed form i ≤ units_in form
units_most (Some (Packed bucket units)) i = by_test (bucket == i)
  where
    by_test : (b : Bool) → (if b then units else 0) ≤ units
    by_test true = omega arith
    by_test false = omega arith
units_most (Some (Frozen bucket units)) i = by_test (bucket == i)
  where
    by_test : (b : Bool) → (if b then units else 0) ≤ units
    by_test true = omega arith
    by_test false = omega arith
units_most (Some Empty) i = omega arith
units_most (Some (Disabled packed)) i = omega arith
units_most (Some FrozenEmpty) i = omega arith
units_most None i = omega arith

module _ (version n bucket : ℕ) (below : bucket < n) (few : n ≤ 1048576) where
  -- a word of units of a bucket is on
  pub packed_on : (units : ℕ) → units ≤ 65535 → is_off (packed_word bucket units) ≡ false
  packed_on units limit = lt-leb (2 ^ 63) (packed_word bucket units) (omega (arith, below, few, limit))

  -- and has the form that says so
  pub packed_form : (units : ℕ) → 1 ≤ units → units ≤ 65535 → single_of version n (packed_word bucket units) ≡ Some (Packed bucket units)
  packed_form units some_units limit =
      by_tests (packed_word bucket units == 0) (nat_lt (packed_word bucket units) (2 ^ 63)) (is_packed_word n (packed_word bucket units)) _
      (ne_eqb (packed_word bucket units) 0 (λ e. omega (arith, some_units, e)))
      (lt-ltb (packed_word bucket units) (2 ^ 63) (omega (arith, below, few, limit)))
      names
    where
      high : packed_word bucket units / 2 ^ 32 ≡ bucket
      high = omega (arith, limit)

      low : packed_word bucket units % 2 ^ 32 ≡ units
      low = omega (arith, limit)

      names : is_packed_word n (packed_word bucket units) ≡ true
      names = (λ i. nat_lt (high i) n && nat_le 1 (low i) && nat_le (low i) 65535)
          ∙ (λ i. lt-ltb bucket n below i && le-leb 1 units some_units i && le-leb units 65535 limit i)

      by_tests : (empty on packs : Bool) (rest : Option SingleWord) → empty ≡ false → on ≡ true → packs ≡ true
          → (if empty then Some Empty else (if on then (if packs then Some (Packed (packed_word bucket units / 2 ^ 32) (packed_word bucket units % 2 ^ 32)) else None) else rest))
          ≡ Some (Packed bucket units)
      by_tests true on packs rest empty is_on is = cc empty
      by_tests false false packs rest empty is_on is = cc is_on
      by_tests false true false rest empty is_on is = cc is
      by_tests false true true rest empty is_on is = λ i. Some (Packed (high i) (low i))

  -- What packing makes of a word: the new one is on and names bucket `k`, with that many units more, 65,535 at most; the old one named it
  -- too, or was empty.
  pub record Packing (k old new : ℕ) : Type 0 where
    pub on : is_off new ≡ false
    pub names : packed_bucket (single_of version n new) ≡ Some bucket
    pub more : units_in (single_of version n new) ≡ units_in (single_of version n old) + k
    pub named : (old ≡ 0) ⊎ (packed_bucket (single_of version n old) ≡ Some bucket)
    pub few_units : units_in (single_of version n old) ≤ 65535
    pub leads : Leads version n old new

  pub packing : (k old new : ℕ) → 1 ≤ k → IsPacking bucket k old new → Packing k old new
  packing k old new some_units (limit, inl (empty, is)) =
      let form : single_of version n new ≡ Some (Packed bucket k) = ap (single_of version n) is ∙ packed_form k some_units limit in
      let nothing : units_in (single_of version n old) ≡ 0 = ap (λ (w : ℕ). units_in (single_of version n w)) empty in
      let all : units_in (single_of version n new) ≡ k = ap units_in form in
      record {
        on = ap is_off is ∙ packed_on k limit;
        names = ap packed_bucket form;
        more = omega (arith, nothing, all);
        named = inl empty;
        few_units = omega (arith, nothing);
        leads = inr (inl empty);
      }
  packing k old new some_units (limit, inr (j, some_there, all, was, is)) =
      let form : single_of version n new ≡ Some (Packed bucket (j + k)) = ap (single_of version n) is ∙ packed_form (j + k) (omega (arith, some_units)) all in
      let before : single_of version n old ≡ Some (Packed bucket j) = ap (single_of version n) was ∙ packed_form j some_there (omega (arith, all)) in
      let units : units_in (single_of version n new) ≡ j + k = ap units_in form in
      let had : units_in (single_of version n old) ≡ j = ap units_in before in
      record {
        on = ap is_off is ∙ packed_on (j + k) all;
        names = ap packed_bucket form;
        more = omega (arith, units, had);
        named = inr (ap packed_bucket before);
        few_units = omega (arith, had, all);
        leads = inr (inr (ap is_off was ∙ packed_on j (omega (arith, all)), ap packed_bucket form ∙ sym (ap packed_bucket before), inl (omega (arith, units, had))));
      }
