-- Sums over lists of which none counts, or one, or two.
use Rattle.segment_invariant.proofs.Prelude.Std.{◌≡◌, ◌≢◌, ℕ, zero, suc, ◌+◌, ◌<◌, Bool, true, false, ℤ, pos, ◌+ℤ◌, List, [], ◌∷◌, ◌++◌, map, length, fold, sum_by, All, inl, inr, refl, sym, ap, ◌∙◌, arith, append-nil, +ℤ_idr, if◌then◌else◌, slice_index, range_with_len, flat_map, int_eq, cases_order, All-head, All-tail, sum_by-cons, some, some-injective, some-ne-none, get_elem?}
use Rattle.segment_invariant.proofs.Prelude.Machine.{Spec}
use Rattle.segment_invariant.proofs.Prelude.Invariant.{key_of_bucket, keyed}

-- the elements of a list at these places have this
abbrev pub Elsewhere : {X : Type 0} → List X → (ℕ → Type 0) → (X → Type 0) → Type 0
Elsewhere {X} l places has = (j : ℕ) (y : X) → get_elem? l j ≡ some y → places j → has y

module _ {X : Type 0} (f : X → ℕ) where
  -- none counts
  pub sum_none : (l : List X) → Elsewhere l (λ j. Unit {0}) (λ y. f y ≡ 0) → sum_by f l ≡ 0
  sum_none [] none = refl
  sum_none (x ∷ xs) none =
      let first = none 0 x refl tt in
      let rest = sum_none xs (λ j y there _. none (suc j) y there tt) in
      let whole = sum_by-cons f x xs in
      omega (arith, first, rest, whole)

  -- one counts
  pub sum_one : (l : List X) (k : ℕ) (x : X) → get_elem? l k ≡ some x → Elsewhere l (λ j. j ≢ k) (λ y. f y ≡ 0) → sum_by f l ≡ f x
  sum_one [] k x there none = absurd (some-ne-none x (sym there))
  sum_one (z ∷ zs) zero x there none =
      let same : f z ≡ f x = ap f (some-injective z x there) in
      let rest = sum_none zs (λ j y here _. none (suc j) y here (λ e. omega (arith, e))) in
      let whole = sum_by-cons f z zs in
      omega (arith, same, rest, whole)
  sum_one (z ∷ zs) (suc k) x there none =
      let first = none 0 z refl (λ e. omega (arith, e)) in
      let rest = sum_one zs k x there (λ j y here other. none (suc j) y here (λ e. other (omega (arith, e)))) in
      let whole = sum_by-cons f z zs in
      omega (arith, first, rest, whole)

  -- two count
  pub sum_two : (l : List X) (k m : ℕ) (x y : X) → k < m → get_elem? l k ≡ some x → get_elem? l m ≡ some y
      → Elsewhere l (λ j. (j ≢ k) × (j ≢ m)) (λ z. f z ≡ 0) → sum_by f l ≡ f x + f y
  sum_two [] k m x y lt there here none = absurd (some-ne-none x (sym there))
  sum_two (z ∷ zs) k zero x y lt there here none = absurd (omega (arith, lt))
  sum_two (z ∷ zs) zero (suc m) x y lt there here none =
      let same : f z ≡ f x = ap f (some-injective z x there) in
      let rest = sum_one zs m y here (λ j w at other. none (suc j) w at (λ e. omega (arith, e), λ e. other (omega (arith, e)))) in
      let whole = sum_by-cons f z zs in
      omega (arith, same, rest, whole)
  sum_two (z ∷ zs) (suc k) (suc m) x y lt there here none =
      let first = none 0 z refl (λ e. omega (arith, e), λ e. omega (arith, e)) in
      let rest = sum_two zs k m x y (omega (arith, lt)) there here
      (λ j w at other. none (suc j) w at (λ e. other.0 (omega (arith, e)), λ e. other.1 (omega (arith, e)))) in
      let whole = sum_by-cons f z zs in
      omega (arith, first, rest, whole)

  -- whatever their order
  pub sum_pair : (l : List X) (k m : ℕ) (x y : X) → k ≢ m → get_elem? l k ≡ some x → get_elem? l m ≡ some y
      → Elsewhere l (λ j. (j ≢ k) × (j ≢ m)) (λ z. f z ≡ 0) → sum_by f l ≡ f x + f y
  sum_pair l k m x y apart there here none = elim (cases_order k m) [
    | inl same ↦ absurd (apart same)
    | inr other ↦ elim other [
      | inl before ↦ sum_two l k m x y before there here none
      | inr behind ↦
          let e = sum_two l m k y x behind here there (λ j z at both. none j z at (both.1, both.0)) in
          omega (arith, e)
    ]
  ]

  -- if something is counted, an element counts
  pub some_counts : (l : List X) → 0 < sum_by f l → (k : ℕ) × (x : X) × (get_elem? l k ≡ some x) × (0 < f x)
  some_counts [] above = absurd (omega (arith, above))
  some_counts (x ∷ xs) above = by_first (f x) refl (λ rest. some_counts xs rest)
    where
      by_first : (n : ℕ) → f x ≡ n → (0 < sum_by f xs → (k : ℕ) × (y : X) × (get_elem? xs k ≡ some y) × (0 < f y))
          → (k : ℕ) × (y : X) × (get_elem? (x ∷ xs) k ≡ some y) × (0 < f y)
      by_first zero e behind =
          let whole = sum_by-cons f x xs in
          let (k, y, there, counts) = behind (omega (arith, above, whole, e)) in
          (suc k, y, there, counts)
      by_first (suc n) e behind = (0, x, refl, omega (arith, e))

-- ---- lists of lists, of which none has elements, or one, or two

module _ {X Y : Type 0} (f : X → List Y) where
  flat_none : (l : List X) → Elsewhere l (λ j. Unit {0}) (λ y. f y ≡ []) → flat_map f l ≡ []
  flat_none [] none = refl
  flat_none (x ∷ xs) none = ap (λ (ys : List Y). ys ++ flat_map f xs) (none 0 x refl tt) ∙ flat_none xs (λ j y there _. none (suc j) y there tt)

  flat_one : (l : List X) (k : ℕ) (x : X) → get_elem? l k ≡ some x → Elsewhere l (λ j. j ≢ k) (λ y. f y ≡ []) → flat_map f l ≡ f x
  flat_one [] k x there none = absurd (some-ne-none x (sym there))
  flat_one (z ∷ zs) zero x there none =
      ap (λ (ys : List Y). f z ++ ys) (flat_none zs (λ j y here _. none (suc j) y here (λ e. omega (arith, e))))
      ∙ (append-nil (f z) ∙ ap f (some-injective z x there))
  flat_one (z ∷ zs) (suc k) x there none =
      ap (λ (ys : List Y). ys ++ flat_map f zs) (none 0 z refl (λ e. omega (arith, e)))
      ∙ flat_one zs k x there (λ j y here other. none (suc j) y here (λ e. other (omega (arith, e))))

  -- the first and another
  pub flat_two : (l : List X) (k : ℕ) (x y : X) → k ≢ 0 → get_elem? l 0 ≡ some x → get_elem? l k ≡ some y
      → Elsewhere l (λ j. (j ≢ 0) × (j ≢ k)) (λ z. f z ≡ []) → flat_map f l ≡ f x ++ f y
  flat_two [] k x y past first there none = absurd (some-ne-none x (sym first))
  flat_two (z ∷ zs) zero x y past first there none = absurd (past refl)
  flat_two (z ∷ zs) (suc k) x y past first there none =
      ap (λ (ys : List Y). f z ++ ys) (flat_one zs k y there (λ j w here other. none (suc j) w here (λ e. omega (arith, e), λ e. other (omega (arith, e)))))
      ∙ ap (λ (w : X). f w ++ f y) (some-injective z x first)

-- ---- numbers for buckets

-- a test between nothing and nothing gives nothing
pub if_nothing : {X : Type 0} (b : Bool) (x nothing : X) → x ≡ nothing → (if b then x else nothing) ≡ nothing
if_nothing true x nothing e = e
if_nothing false x nothing e = refl

pub zero_index : (l : List ℕ) (i : ℕ) → All (λ n. n ≡ 0) l → slice_index l i ≡ 0
zero_index [] i zeros = refl
zero_index (x ∷ xs) zero zeros = All-head (λ n. n ≡ 0) x xs zeros
zero_index (x ∷ xs) (suc i) zeros = zero_index xs i (All-tail (λ n. n ≡ 0) x xs zeros)

-- numbers for buckets that are all 0 are nothing for a key
pub keyed_none : (kind : Spec) (key : ℤ) (numbers : List ℕ) → All (λ n. n ≡ 0) numbers → keyed kind key numbers ≡ 0
keyed_none kind key numbers zeros =
    sum_none (λ i. if int_eq (key_of_bucket kind i) key then slice_index numbers i else 0) (range_with_len 0 (length numbers))
    (λ j y there _. if_nothing (int_eq (key_of_bucket kind y) key) (slice_index numbers y) 0 (zero_index numbers y zeros))

-- ---- amounts

module _ {X : Type 0} (f : X → ℤ) where
  pub amounts_none : (l : List X) (a : ℤ) → Elsewhere l (λ j. Unit {0}) (λ y. f y ≡ pos 0) → fold ◌+ℤ◌ a (map f l) ≡ a
  amounts_none [] a none = refl
  amounts_none (x ∷ xs) a none =
      amounts_none xs (a +ℤ f x) (λ j y there _. none (suc j) y there tt)
      ∙ (ap (λ (n : ℤ). a +ℤ n) (none 0 x refl tt) ∙ +ℤ_idr a)

  pub amounts_one : (l : List X) (a : ℤ) (k : ℕ) (x : X) → get_elem? l k ≡ some x → Elsewhere l (λ j. j ≢ k) (λ y. f y ≡ pos 0)
      → fold ◌+ℤ◌ a (map f l) ≡ a +ℤ f x
  amounts_one [] a k x there none = absurd (some-ne-none x (sym there))
  amounts_one (z ∷ zs) a zero x there none =
      amounts_none zs (a +ℤ f z) (λ j y here _. none (suc j) y here (λ e. omega (arith, e)))
      ∙ ap (λ (w : X). a +ℤ f w) (some-injective z x there)
  amounts_one (z ∷ zs) a (suc k) x there none =
      amounts_one zs (a +ℤ f z) k x there (λ j y here other. none (suc j) y here (λ e. other (omega (arith, e))))
      ∙ ap (λ (n : ℤ). n +ℤ f x) (ap (λ (n : ℤ). a +ℤ n) (none 0 z refl (λ e. omega (arith, e))) ∙ +ℤ_idr a)
