-- The key of a value is the least value of its bucket.
use Rattle.std.proofs.Common.{◌≡◌, ℕ, zero, suc, ◌+◌, ◌<◌, ◌≤◌, max, Bool, true, false, nat_le, nat_lt, pos, if◌then◌else◌, List, [], ◌∷◌, length, inl, inr, refl, ap, ◌∙◌, arith}
use Rattle.std.specs.Prelude.{slice_index, fold}
use Rattle.std.specs.List.{filter}
use Rattle.std.proofs.lemmas.Bool.{le-leb, leb-true, leb-false, cases_order}
use Rattle.bucket_ranges.specs.Ranges.{clamped, AreBoundaries, IsBucketOf}
use Rattle.bucket_ranges.proofs.Buckets.{ascends}
use Rattle.segment_machine.specs.Laws.{KeysAreLeast}

-- the greatest number of a list that is not above a value, and no less than another
abbrev greatest : ℕ → ℕ → List ℕ → ℕ
greatest value least list = fold max least (filter (λ n. nat_le n value) list)

-- with one more element
module _ (value least x : ℕ) (list : List ℕ) (holds : ℕ → Type 0)
    (here : x ≤ value → holds (greatest value (max least x) list)) (there : value < x → holds (greatest value least list)) where
  by_test : (b : Bool) → nat_le x value ≡ b
      → holds (fold max least (if b then x ∷ filter (λ n. nat_le n value) list else filter (λ n. nat_le n value) list))
  by_test true e = here (leb-true x value e)
  by_test false e = there (leb-false x value e)

  greatest_at : holds (greatest value least (x ∷ list))
  greatest_at = by_test (nat_le x value) refl

-- it is no less than that other
no_less : (value least : ℕ) (list : List ℕ) → least ≤ greatest value least list
no_less value least [] = omega arith
no_less value least (x ∷ list) = greatest_at value least x list (λ n. least ≤ n)
    (λ le. let h = no_less value (max least x) list in omega (arith, h))
    (λ lt. no_less value least list)

-- nor than any of the list that is not above the value
bounds : (value least : ℕ) (list : List ℕ) (i : ℕ) → i < length list → slice_index list i ≤ value
    → slice_index list i ≤ greatest value least list
bounds value least [] i below le = absurd (omega (arith, below))
bounds value least (x ∷ list) zero below le = greatest_at value least x list (λ n. x ≤ n)
    (λ _. let h = no_less value (max least x) list in omega (arith, h))
    (λ lt. absurd (omega (arith, lt, le)))
bounds value least (x ∷ list) (suc i) below le = greatest_at value least x list (λ n. slice_index list i ≤ n)
    (λ _. bounds value (max least x) list i (omega (arith, below)) le)
    (λ _. bounds value least list i (omega (arith, below)) le)

-- and no more than what all of these are at most
within : (value least most : ℕ) (list : List ℕ) → least ≤ most
    → ((i : ℕ) → i < length list → slice_index list i ≤ value → slice_index list i ≤ most) → greatest value least list ≤ most
within value least most [] start all = start
within value least most (x ∷ list) start all = greatest_at value least x list (λ n. n ≤ most)
    (λ le. let h = all 0 (omega arith) le in within value (max least x) most list (omega (arith, h, start)) (λ i below. all (suc i) (omega (arith, below))))
    (λ _. within value least most list start (λ i below. all (suc i) (omega (arith, below))))

-- a boundary that is not above a value is not above the boundary of its bucket
not_behind : (boundaries : List ℕ) (value bucket i : ℕ) → AreBoundaries boundaries → IsBucketOf boundaries value bucket → i < length boundaries
    → slice_index boundaries i ≤ value → slice_index boundaries i ≤ slice_index boundaries bucket
not_behind boundaries value bucket i are is below le = elim (cases_order i bucket) [
  | inl same ↦ let e = ap (slice_index boundaries) same in omega (arith, e)
  | inr apart ↦ elim apart [
    | inl before ↦ ascends boundaries i bucket are.ascending (omega (arith, before)) (let w = is.within in omega (arith, w))
    | inr behind ↦
        let up = ascends boundaries (bucket + 1) i are.ascending (omega (arith, behind)) below in
        let high = is.high in
        absurd (omega (arith, up, high, le))
  ]
]

pub keys_are_least : KeysAreLeast
keys_are_least boundaries value bucket are is =
    let v : ℕ = clamped value in
    let most = within v 0 (slice_index boundaries bucket) boundaries (omega arith) (λ i below le. not_behind boundaries v bucket i are is below le) in
    let least = bounds v 0 boundaries bucket (let w = is.within in omega (arith, w)) is.low in
    let same : greatest v 0 boundaries ≡ slice_index boundaries bucket = omega (arith, most, least) in
    let many : nat_lt 1 (length boundaries) ≡ true = le-leb 2 (length boundaries) (let w = is.within in omega (arith, w)) in
    ap (λ (b : Bool). if b then pos (greatest v 0 boundaries) else value) many ∙ ap pos same
