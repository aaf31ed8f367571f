-- The words of a record's spec.
use Rattle.std.proofs.Common.{◌≡◌, true, false, not, ◌||◌, ◌==◌, nat_lt, nat_le, if◌then◌else◌, ℕ, ◌+◌, ◌-◌, ◌*◌, ◌≤◌, List, [], ◌∷◌, ◌++◌, All, refl, ap, sym, ◌∙◌, arith}
use Rattle.std.proofs.lemmas.Bool.{and_parts, leb-true, eq-eqb}
use Rattle.std.proofs.lemmas.List.Elements.{All-nil, All-cons}
use Rattle.segment_image.specs.Blocks.{field_at}
use Rattle.bucket_ranges.specs.Reading.{name_words, record_words, record_buckets, inner_ranges, has_spec, is_bad_spec, is_spec_named, is_custom_named, ascends_above}
use Rattle.bucket_ranges.proofs.Named.{named-buckets, IsInner-from_named, inner-last}

-- what is known of a valid spec
pub has_spec-parts : (words : List ℕ) (at : ℕ) → has_spec words at ≡ true
    → (record_words words at ≤ field_at words at 0)
    × (is_spec_named (field_at words at 4) (field_at words at 5) (field_at words at 6) (field_at words at 7) (inner_ranges words at) ≡ true)
has_spec-parts words at e =
    let parts = and_parts (nat_le (record_words words at) (field_at words at 0))
    (is_spec_named (field_at words at 4) (field_at words at 5) (field_at words at 6) (field_at words at 7) (inner_ranges words at)) e in
    (leb-true _ _ parts.0, parts.1)

pub has_spec-buckets : (words : List ℕ) (at : ℕ) → has_spec words at ≡ true → record_buckets words at ≡ field_at words at 7
has_spec-buckets words at e =
    named-buckets (field_at words at 4) (field_at words at 5) (field_at words at 6) (field_at words at 7)
    (inner_ranges words at) (has_spec-parts words at e).1

-- a valid spec is bad exactly if its counts do not fit in a page
pub is_bad_spec-lawful : (words : List ℕ) (page at : ℕ) → has_spec words at ≡ true
    → is_bad_spec words page at ≡ nat_lt page (4 + 2 * field_at words at 7)
is_bad_spec-lawful words page at e =
    ap (λ b. not b || nat_lt page (4 + 2 * record_buckets words at)) e
    ∙ ap (λ n. nat_lt page (4 + 2 * n)) (has_spec-buckets words at e)

-- numbers that ascend up to the end are below it
pub ascending-small : (low : ℕ) (xs : List ℕ) → ascends_above low (xs ++ 2147483647 ∷ []) ≡ true
    → All (λ number. number ≤ 2147483647) xs
ascending-small low [] up = All-nil (λ number. number ≤ 2147483647)
ascending-small low (x ∷ xs) up =
    let rest = (and_parts (nat_lt low x) (ascends_above x (xs ++ 2147483647 ∷ [])) up).1 in
    All-cons (λ number. number ≤ 2147483647) x xs (omega (arith, inner-last x xs rest)) (ascending-small x xs rest)

custom-named : (kind min max n : ℕ) (inner : List ℕ) → (kind == 4) ≡ false → (kind == 3) ≡ true
    → is_spec_named kind min max n inner ≡ is_custom_named min max n inner
custom-named kind min max n inner a b = rw (a, b) refl

-- what is known of the inner ranges of a custom record with a valid spec
pub record IsCustomAt (words : List ℕ) (at : ℕ) : Type 0 where
  pub few : 2 ≤ field_at words at 7
  pub fits : 15 + name_words (field_at words at 14) + (field_at words at 7 - 1) ≤ field_at words at 0
  pub small : All (λ number. number ≤ 2147483647) (inner_ranges words at)

pub IsCustomAt-from_spec : (words : List ℕ) (at : ℕ) → has_spec words at ≡ true → field_at words at 4 ≡ 3 → IsCustomAt words at
IsCustomAt-from_spec words at e kind =
    let parts = has_spec-parts words at e in
    let custom : (field_at words at 4 == 3) ≡ true = eq-eqb _ 3 kind in
    let sparse : (field_at words at 4 == 4) ≡ false = ap (λ k. k == 4) kind in
    let named = sym (custom-named (field_at words at 4) (field_at words at 5) (field_at words at 6) (field_at words at 7)
    (inner_ranges words at) sparse custom) ∙ parts.1 in
    let are = IsInner-from_named (field_at words at 5) (field_at words at 6) (field_at words at 7) (inner_ranges words at) named in
    let taken : record_words words at ≡ 15 + name_words (field_at words at 14) + (field_at words at 7 - 1) =
    ap (λ b. 15 + name_words (field_at words at 14) + (if b then field_at words at 7 - 1 else 0)) custom in
    record { few = are.few; fits = omega (arith, parts.0, taken); small = ascending-small 0 (inner_ranges words at) are.up }
