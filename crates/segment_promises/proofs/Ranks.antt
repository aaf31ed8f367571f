-- How far a single word has come: the units that it packs, and above these that it is off. It never falls from one word to a later one.
use Rattle.segment_invariant.proofs.Prelude.Std.{◌≡◌, ◌≢◌, ◌⊎◌, ℕ, suc, ◌-◌, ◌%◌, ◌/◌, ◌^◌, ◌<◌, ◌≤◌, Bool, true, false, ◌==◌, ◌&&◌, nat_lt, nat_le, if◌then◌else◌, List, [], ◌∷◌, ◌++◌, Some, None, inl, inr, refl, sym, ap, ◌∙◌, arith, leb-true, and_parts, eq-eqb, eqb-true, Contains}
use Rattle.segment_invariant.proofs.Prelude.Machine.{Empty, Packed, Disabled, FrozenEmpty, Frozen, single_of, is_packed_word, packed_bucket, Sighting, is_off, units_in, Leads}
use Rattle.bucket_ranges.specs.Single.{packed_of, disabled_of, frozen_of}
use Rattle.segment_invariant.proofs.Packing.OffForms.{on_form}

-- ---- words

-- the rank of a word in a version, of a histogram with `n` buckets
abbrev pub rank : ℕ → ℕ → ℕ → ℕ
rank version n word = if is_off word then 65536 else units_in (single_of version n word)

-- no word has more than 65,535 units
few_packed : (n word : ℕ) (b : Bool) → is_packed_word n word ≡ b → units_in (if b then Some (Packed (word / 2 ^ 32) (word % 2 ^ 32)) else None) ≤ 65535
few_packed n word true is =
    let parts = and_parts (nat_lt (word / 2 ^ 32) n && nat_le 1 (word % 2 ^ 32)) (nat_le (word % 2 ^ 32) 65535) is in leb-true (word % 2 ^ 32) 65535 parts.1
few_packed n word false is = omega arith

few_frozen : (n word : ℕ) (b : Bool) → is_packed_word n word ≡ b → units_in (if b then Some (Frozen (word / 2 ^ 32) (word % 2 ^ 32)) else None) ≤ 65535
few_frozen n word true is =
    let parts = and_parts (nat_lt (word / 2 ^ 32) n && nat_le 1 (word % 2 ^ 32)) (nat_le (word % 2 ^ 32) 65535) is in leb-true (word % 2 ^ 32) 65535 parts.1
few_frozen n word false is = omega arith

few_units : (version n word : ℕ) → units_in (single_of version n word) ≤ 65535
few_units version n word = by_tests (word == 0) (nat_lt word (2 ^ 63)) (version == 2)
  where
    low : ℕ
    low = word - 2 ^ 63

    disabled : (none some_there : Bool) → units_in (if none then Some (Disabled None) else (if some_there then Some (Disabled (Some low)) else None)) ≤ 65535
    disabled true some_there = omega arith
    disabled false true = omega arith
    disabled false false = omega arith

    frozen : (none : Bool) → units_in (if none then Some FrozenEmpty else (if is_packed_word n low then Some (Frozen (low / 2 ^ 32) (low % 2 ^ 32)) else None)) ≤ 65535
    frozen true = omega arith
    frozen false = few_frozen n low (is_packed_word n low) refl

    by_tests : (empty on two : Bool)
        → units_in (if empty then Some Empty else (if on then packed_of n word else (if two then frozen_of n low else disabled_of n low))) ≤ 65535
    by_tests true on two = omega arith
    by_tests false true two = few_packed n word (is_packed_word n word) refl
    by_tests false false true = frozen (low == 0)
    by_tests false false false = disabled (low == 65535) (nat_lt low n)

rank_off : (version n word : ℕ) → is_off word ≡ true → rank version n word ≡ 65536
rank_off version n word off = ap (λ (b : Bool). if b then 65536 else units_in (single_of version n word)) off

rank_on : (version n word : ℕ) → is_off word ≡ false → rank version n word ≡ units_in (single_of version n word)
rank_on version n word on = ap (λ (b : Bool). if b then 65536 else units_in (single_of version n word)) on

pub rank_most : (version n word : ℕ) → rank version n word ≤ 65536
rank_most version n word = by_test (is_off word)
  where
    by_test : (b : Bool) → (if b then 65536 else units_in (single_of version n word)) ≤ 65536
    by_test true = omega arith
    by_test false = let few = few_units version n word in omega (arith, few)

-- a word that is on has no more than one that has no fewer units, or is off
units_rank : (version n old new : ℕ) → units_in (single_of version n old) ≤ units_in (single_of version n new)
    → units_in (single_of version n old) ≤ rank version n new
units_rank version n old new least = by_test (is_off new)
  where
    by_test : (b : Bool) → units_in (single_of version n old) ≤ (if b then 65536 else units_in (single_of version n new))
    by_test true = let few = few_units version n old in omega (arith, few)
    by_test false = least

-- what leads on has no higher rank
pub leads_rank : (version n old new : ℕ) → Leads version n old new → rank version n old ≤ rank version n new
leads_rank version n old new (inl same) = let e = ap (rank version n) same in omega (arith, e)
leads_rank version n old new (inr (inl empty)) = let e : rank version n old ≡ 0 = ap (rank version n) empty in omega (arith, e)
leads_rank version n old new (inr (inr (on, packs, inl least))) =
    let e = rank_on version n old on in let h = units_rank version n old new least in omega (arith, e, h)
leads_rank version n old new (inr (inr (on, packs, inr (one, off)))) =
    let e = rank_off version n new off in let h = rank_most version n old in omega (arith, e, h)

-- a word that is on and has a form has at least one unit, if it is not the empty one
pub on_units : (version n word : ℕ) → single_of version n word ≢ None → is_off word ≡ false
    → (word ≡ 0) ⊎ ((1 ≤ word % 2 ^ 32) × (single_of version n word ≡ Some (Packed (word / 2 ^ 32) (word % 2 ^ 32))))
on_units version n word formed on = by (on_form version n word formed on)
  where
    by : (word ≡ 0) ⊎ ((is_packed_word n word ≡ true) × (single_of version n word ≡ Some (Packed (word / 2 ^ 32) (word % 2 ^ 32))))
        → (word ≡ 0) ⊎ ((1 ≤ word % 2 ^ 32) × (single_of version n word ≡ Some (Packed (word / 2 ^ 32) (word % 2 ^ 32))))
    by (inl none) = inl none
    by (inr (packed, form)) =
        let first = and_parts (nat_lt (word / 2 ^ 32) n && nat_le 1 (word % 2 ^ 32)) (nat_le (word % 2 ^ 32) 65535) packed in
        let second = and_parts (nat_lt (word / 2 ^ 32) n) (nat_le 1 (word % 2 ^ 32)) first.0 in
        inr (leb-true 1 (word % 2 ^ 32) second.1, form)

-- another word that it leads to has a higher rank
pub leads_higher : (version n old new : ℕ) → single_of version n old ≢ None → single_of version n new ≢ None → is_off old ≡ false → Leads version n old new → old ≢ new
    → rank version n old < rank version n new
leads_higher version n old new formed forms on leads apart = by_test (is_off new) refl
  where
    empty_units : (word : ℕ) → word ≡ 0 → units_in (single_of version n word) ≡ 0
    empty_units word none = ap (λ (w : ℕ). units_in (single_of version n w)) none

    packed_units : (word : ℕ) → single_of version n word ≡ Some (Packed (word / 2 ^ 32) (word % 2 ^ 32)) → units_in (single_of version n word) ≡ word % 2 ^ 32
    packed_units word form = ap units_in form

    bucket_of : (word : ℕ) → single_of version n word ≡ Some (Packed (word / 2 ^ 32) (word % 2 ^ 32)) → packed_bucket (single_of version n word) ≡ Some (word / 2 ^ 32)
    bucket_of word form = ap packed_bucket form

    none_of : (word : ℕ) → word ≡ 0 → packed_bucket (single_of version n word) ≡ None
    none_of word none = ap (λ (w : ℕ). packed_bucket (single_of version n w)) none

    by_forms : is_off new ≡ false → Leads version n old new
        → (old ≡ 0) ⊎ ((1 ≤ old % 2 ^ 32) × (single_of version n old ≡ Some (Packed (old / 2 ^ 32) (old % 2 ^ 32))))
        → (new ≡ 0) ⊎ ((1 ≤ new % 2 ^ 32) × (single_of version n new ≡ Some (Packed (new / 2 ^ 32) (new % 2 ^ 32))))
        → units_in (single_of version n old) < units_in (single_of version n new)
    by_forms still (inl same) first last = absurd (apart same)
    by_forms still leads (inl none) (inl nothing) = absurd (apart (none ∙ sym nothing))
    by_forms still leads (inl none) (inr (some_there, form)) =
        let e = empty_units old none in let f = packed_units new form in omega (arith, e, f, some_there)
    by_forms still (inr (inl empty)) (inr (some_there, form)) last = absurd (omega (arith, empty, some_there))
    by_forms still (inr (inr (_, packs, inr (one, off)))) first last = absurd (cc (sym off ∙ still))
    by_forms still (inr (inr (_, packs, inl least))) (inr (some_there, form)) (inl nothing) =
        let e = packed_units old form in let f = empty_units new nothing in absurd (omega (arith, e, f, some_there, least))
    by_forms still (inr (inr (_, packs, inl least))) (inr (some_there, form)) (inr (any, forms)) =
        let both : Some (new / 2 ^ 32) ≡ Some (old / 2 ^ 32) = sym (bucket_of new forms) ∙ (packs ∙ bucket_of old form) in
        let bucket : new / 2 ^ 32 ≡ old / 2 ^ 32 = cc in
        let e = packed_units old form in let f = packed_units new forms in
        let differ : old % 2 ^ 32 ≢ new % 2 ^ 32 = λ same. apart (omega (arith, bucket, same)) in
        omega (arith, e, f, least, differ)

    by_test : (b : Bool) → is_off new ≡ b → rank version n old < rank version n new
    by_test true off =
        let e = rank_on version n old on in let f = rank_off version n new off in let few = few_units version n old in omega (arith, e, f, few)
    by_test false still =
        let e = rank_on version n old on in let f = rank_on version n new still in
        let h = by_forms still leads (on_units version n old formed on) (on_units version n new forms still) in omega (arith, e, f, h)

-- ---- the word that was seen last

-- the rank of the word that was seen last, if that is the single word at a place
abbrev pub last_rank : ℕ → ℕ → ℕ → List Sighting → ℕ
last_rank version n at [] = 0
last_rank version n at (s ∷ []) = if s.at == at then rank version n s.word else 0
last_rank version n at (s ∷ t ∷ rest) = last_rank version n at (t ∷ rest)

pub last_most : (version n at : ℕ) (list : List Sighting) → last_rank version n at list ≤ 65536
last_most version n at [] = omega arith
last_most version n at (s ∷ []) = by_test (s.at == at)
  where
    by_test : (b : Bool) → (if b then rank version n s.word else 0) ≤ 65536
    by_test true = rank_most version n s.word
    by_test false = omega arith
last_most version n at (s ∷ t ∷ rest) = last_most version n at (t ∷ rest)

-- it is that of a word that is seen last
pub last_is : (version n at word : ℕ) (list : List Sighting) → last_rank version n at (list ++ record { at = at; word = word } ∷ []) ≡ rank version n word
last_is version n at word [] = ap (λ (b : Bool). if b then rank version n word else 0) (eq-eqb at at refl)
last_is version n at word (s ∷ []) = last_is version n at word []
last_is version n at word (s ∷ t ∷ rest) = last_is version n at word (t ∷ rest)

-- and no more than that of a word to which all that were seen there lead
pub last_leads : (version n at word : ℕ) (list : List Sighting)
    → ((old : ℕ) → Contains list (record { at = at; word = old }) → Leads version n old word) → last_rank version n at list ≤ rank version n word
last_leads version n at word [] leads = omega arith
last_leads version n at word (s ∷ []) leads = by_test (s.at == at) refl
  where
    by_test : (b : Bool) → (s.at == at) ≡ b → (if b then rank version n s.word else 0) ≤ rank version n word
    by_test true here =
        let it : s ≡ record { at = at; word = s.word } = λ i. record { at = eqb-true s.at at here i; word = s.word } in
        leads_rank version n s.word word (leads s.word (0, omega arith, it))
    by_test false there = omega arith
last_leads version n at word (s ∷ t ∷ rest) leads = last_leads version n at word (t ∷ rest) (λ old (k, below, is). leads old (suc k, omega (arith, below), is))
