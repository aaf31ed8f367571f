-- Lists of boundaries, as a loop builds them.
use Rattle.std.proofs.Common.{◌≡◌, ℕ, ◌+◌, ◌-◌, ◌≤◌, List, [], ◌∷◌, ◌++◌, length, map, ap, ◌∙◌, sym, inl, inr, arith}
use Rattle.std.proofs.lemmas.List.{get_or_push, get_or_past, get_or_append_left, length_push}
use Rattle.std.proofs.lemmas.Bool.{cases_order}
use Rattle.std.proofs.lemmas.List.FromFn.{map-range_with_len_more}
use Rattle.std.specs.List.{range_with_len}
use Rattle.bucket_ranges.specs.Ranges.{AreValues}

-- one more boundary that is small enough
pub values-push : (xs : List ℕ) (y : ℕ) → AreValues xs → y ≤ 2147483647 → AreValues (xs ++ y ∷ [])
values-push xs y small le i = elim (cases_order i (length xs)) [
  | inl e ↦ omega (arith, get_or_push xs y 0 i (sym e))
  | inr o ↦ elim o [
    | inl lt ↦ omega (arith, small i, get_or_append_left xs (y ∷ []) 0 i lt)
    | inr gt ↦ omega (arith, get_or_past (xs ++ y ∷ []) i 0 (omega (arith, length_push xs y)))
  ]
]

-- one more value of a function, from 1 on
range-push : (f : ℕ → ℕ) (i : ℕ) → 1 ≤ i
    → map f (range_with_len 1 (i + 1 - 1)) ≡ map f (range_with_len 1 (i - 1)) ++ f i ∷ []
range-push f i le =
    let e : i + 1 - 1 ≡ (i - 1) + 1 = omega arith in
    ap (λ n. map f (range_with_len 1 n)) e ∙ map-range_with_len_more f 1 (i - 1) i (omega arith)

-- the boundaries so far, and one more after them
pub so_far-push : (f : ℕ → ℕ) (i : ℕ) (xs : List ℕ) (y : ℕ) → 1 ≤ i
    → xs ≡ 0 ∷ map f (range_with_len 1 (i - 1)) → y ≡ f i
    → xs ++ y ∷ [] ≡ 0 ∷ map f (range_with_len 1 (i + 1 - 1))
so_far-push f i xs y le e at = rw (e, at, range-push f i le)

-- all boundaries, when the last comes after those so far
pub so_far-last : (f : ℕ → ℕ) (n i : ℕ) (xs : List ℕ) → i ≡ n
    → xs ≡ 0 ∷ map f (range_with_len 1 (i - 1))
    → xs ++ 2147483647 ∷ [] ≡ 0 ∷ (map f (range_with_len 1 (n - 1)) ++ 2147483647 ∷ [])
so_far-last f n i xs e at = rw (at, e)
