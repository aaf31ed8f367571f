-- Single words that lead from one to another.
use Rattle.segment_invariant.proofs.Prelude.Std.{◌≡◌, ◌≢◌, ◌⊎◌, Bool, true, false, ◌==◌, nat_lt, if◌then◌else◌, ℕ, ◌^◌, ◌/◌, ◌%◌, ◌≤◌, Option, Some, None, inl, inr, refl, sym, ap, ◌∙◌, subst, arith, eqb-true, lt-ltb}
use Rattle.segment_invariant.proofs.Prelude.Machine.{SingleWord, Empty, Packed, single_of, is_packed_word, packed_bucket, is_off, units_in, Leads}
use Rattle.std.proofs.lemmas.Bool.{leb-false}
use Rattle.bucket_ranges.specs.Single.{packed_of}

-- a word that is off leads to itself alone
pub off_leads : (version n old new : ℕ) → is_off old ≡ true → Leads version n old new → old ≡ new
off_leads version n old new off (inl same) = same
off_leads version n old new off (inr (inl empty)) = absurd (cc (sym (ap is_off empty) ∙ off))
off_leads version n old new off (inr (inr (on, same, fewer))) = absurd (cc (sym on ∙ off))

-- one that names a bucket leads to words that name the same; those that are on have no fewer units
pub on_leads : (version n old new bucket : ℕ) → old ≢ 0 → packed_bucket (single_of version n old) ≡ Some bucket → Leads version n old new
    → (packed_bucket (single_of version n new) ≡ Some bucket) × (is_off new ≡ false → units_in (single_of version n old) ≤ units_in (single_of version n new))
on_leads version n old new bucket some_there names (inl same) = subst
    (λ (w : ℕ). (packed_bucket (single_of version n w) ≡ Some bucket) × (is_off w ≡ false → units_in (single_of version n old) ≤ units_in (single_of version n w))) same
    (names, λ still. omega arith)
on_leads version n old new bucket some_there names (inr (inl empty)) = absurd (some_there empty)
on_leads version n old new bucket some_there names (inr (inr (on, same, inl few))) = (same ∙ names, λ still. few)
on_leads version n old new bucket some_there names (inr (inr (on, same, inr (one, off)))) = (same ∙ names, λ still. absurd (cc (sym off ∙ still)))

-- a form of a word below 2^63 that packs nothing is the empty one
empty_by : (n word : ℕ) (empty low : Bool) (rest : Option SingleWord) → low ≡ true
    → (if empty then Some Empty else (if low then packed_of n word else rest)) ≢ None
    → packed_bucket (if empty then Some Empty else (if low then packed_of n word else rest)) ≡ None → empty ≡ true
empty_by n word true low rest is formed packs = refl
empty_by n word false false rest is formed packs = absurd (cc is)
empty_by n word false true rest is formed packs = packed_by (is_packed_word n word) formed packs
  where
    packed_by : (b : Bool) → (if b then Some (Packed (word / 2 ^ 32) (word % 2 ^ 32)) else None) ≢ None
        → packed_bucket (if b then Some (Packed (word / 2 ^ 32) (word % 2 ^ 32)) else None) ≡ None → false ≡ true
    packed_by true formed packs = absurd (cc packs)
    packed_by false formed packs = absurd (formed refl)

pub empty_word : (version n word : ℕ) → single_of version n word ≢ None → is_off word ≡ false → packed_bucket (single_of version n word) ≡ None → word ≡ 0
empty_word version n word formed on packs =
    eqb-true word 0 (empty_by n word (word == 0) (nat_lt word (2 ^ 63)) _ (lt-ltb word (2 ^ 63) (leb-false (2 ^ 63) word on)) formed packs)

-- what leads to a word that leads on leads on
pub leads_on : (version n x y z : ℕ) → single_of version n x ≢ None → Leads version n x y → Leads version n y z → Leads version n x z
leads_on version n x y z formed (inl same) next = subst (λ (w : ℕ). Leads version n w z) (sym same) next
leads_on version n x y z formed (inr (inl empty)) next = inr (inl empty)
leads_on version n x y z formed (inr (inr (on, packs, more))) next = onward next
  where
    most : (units_in (single_of version n x) ≤ units_in (single_of version n y)) ⊎ ((version ≡ 1) × (is_off y ≡ true))
        → is_off y ≡ false → (units_in (single_of version n y) ≤ units_in (single_of version n z)) ⊎ ((version ≡ 1) × (is_off z ≡ true))
        → (units_in (single_of version n x) ≤ units_in (single_of version n z)) ⊎ ((version ≡ 1) × (is_off z ≡ true))
    most (inl few) still (inl many) = inl (omega (arith, few, many))
    most (inl few) still (inr gone) = inr gone
    most (inr (one, off)) still next = absurd (cc (sym off ∙ still))

    onward : Leads version n y z → Leads version n x z
    onward (inl same) = subst (Leads version n x) same (inr (inr (on, packs, more)))
    onward (inr (inl empty)) =
        inr (inl (empty_word version n x formed on (sym packs ∙ ap (λ (w : ℕ). packed_bucket (single_of version n w)) empty)))
    onward (inr (inr (still, same, fewer))) = inr (inr (on, same ∙ packs, most more still fewer))
