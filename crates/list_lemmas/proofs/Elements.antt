-- Lists: what is in them and where, and, if one element changes, what is the same of all of them and what is one more.
use Rattle.std.proofs.Common.{◌≡◌, ◌≢◌, ℕ, zero, suc, ◌+◌, ◌<◌, ◌≤◌, Bool, true, false, cond, ◌||◌, List, [], ◌∷◌, ◌++◌, map, length, set, get_or, fold, sum_by, flat_map, filter, All, Contains, IsPermutation, append_assoc, inl, inr, ◌⊎◌, ⊎_elim, refl, sym, ap, ◌∙◌, subst, arith, length-append}
use Rattle.std.proofs.lemmas.List.Elements.{All-weaker, All-contains_itself, Contains-append_left, Contains-append_right, Contains-append_cases}
use Rattle.std.proofs.lemmas.List.Sorted.{IsPermutation-refl, IsPermutation-append, IsPermutation-append_comm}
use Rattle.std.proofs.lemmas.List.Sums.{sum_by-set, get_or-le-sum_by}
use mathlib.Core.Option.{some, some-injective, some-ne-none}
use lib.ListN.{get_elem?}
use lib.Seq.{map-set}
use Rattle.atomic_table.proofs.Lists.{set_again, at_map}
use Rattle.list_lemmas.proofs.Sums.{IsTotal}

-- ---- lists of none and of one

pub none_in : {X : Type 0} (x : X) → Contains [] x → ⊥
none_in x there = let below = there.1 in omega (arith, below)

pub none_at : {X : Type 0} (i : ℕ) (x : X) → get_elem? {A = X} [] i ≡ some x → ⊥
none_at i x e = some-ne-none x (sym e)

-- a list with an element in its midst is not empty
pub not_empty : {X : Type 0} (front behind : List X) (x : X) → front ++ x ∷ behind ≢ []
not_empty front behind x none =
    let long = ap length none in
    let sum = length-append front (x ∷ behind) in
    omega (arith, long, sum)

pub one_in : {X : Type 0} (x y : X) → Contains (x ∷ []) y → x ≡ y
one_in x y (zero, below, is) = is
one_in x y (suc k, below, is) = absurd (omega (arith, below))

-- what holds of the one of a list, and its place, holds of each
pub each_of_one : {X : Type 0} (one : X) (holds : ℕ → X → Type 0) → holds 0 one → (k : ℕ) (x : X) → get_elem? (one ∷ []) k ≡ some x → holds k x
each_of_one one holds it zero x e = subst (holds 0) (some-injective one x e) it
each_of_one one holds it (suc k) x e = absurd (none_at k x e)

-- ---- elements by their places

pub at_from : {A : Type 0} (l : List A) (x : A) → Contains l x → (i : ℕ) × (get_elem? l i ≡ some x)
at_from [] x (i, lt, is) = absurd (omega (arith, lt))
at_from (y ∷ ys) x (zero, lt, is) = (0, ap some is)
at_from (y ∷ ys) x (suc i, lt, is) = let h = at_from ys x (i, omega (arith, lt), is) in (suc h.0, h.1)

pub contains_at : {A : Type 0} (l : List A) (i : ℕ) (x : A) → get_elem? l i ≡ some x → Contains l x
contains_at [] i x e = absurd (some-ne-none x (sym e))
contains_at (y ∷ ys) zero x e = (0, omega arith, some-injective y x e)
contains_at (y ∷ ys) (suc i) x e = let h = contains_at ys i x e in let lt = h.1 in (suc h.0, omega (arith, lt), h.2)

pub all_at : {A : Type 0} (P : A → Type 0) (l : List A) (i : ℕ) (x : A) → All P l → get_elem? l i ≡ some x → P x
all_at P l i x all e =
    let h = contains_at l i x e in subst P h.2 (all h.0 x h.1)

pub all_from : {A : Type 0} (P : A → Type 0) (l : List A) → ((i : ℕ) (x : A) → get_elem? l i ≡ some x → P x) → All P l
all_from P [] all k d lt = absurd (omega (arith, lt))
all_from P (x ∷ xs) all zero d lt = all 0 x refl
all_from P (x ∷ xs) all (suc k) d lt = all_from P xs (λ i. all (suc i)) k d (omega (arith, lt))

-- a place with an element is below the length
pub below_length : {A : Type 0} (l : List A) (i : ℕ) (x : A) → get_elem? l i ≡ some x → i < length l
below_length [] i x e = absurd (some-ne-none x (sym e))
below_length (y ∷ ys) zero x e = omega arith
below_length (y ∷ ys) (suc i) x e = let h = below_length ys i x e in omega (arith, h)

-- each element of a mapped list comes from an element of the list
pub from_map : {A B : Type 0} (f : A → B) (l : List A) (i : ℕ) (y : B) → get_elem? (map f l) i ≡ some y → (x : A) × (get_elem? l i ≡ some x) × (f x ≡ y)
from_map f [] i y e = absurd (some-ne-none y (sym e))
from_map f (x ∷ xs) zero y e = (x, refl, some-injective (f x) y e)
from_map f (x ∷ xs) (suc i) y e = from_map f xs i y e

-- below the length there is an element, and the index finds it
pub there_below : {A : Type 0} (l : List A) (i : ℕ) → i < length l → (x : A) × (get_elem? l i ≡ some x)
there_below [] i lt = absurd (omega (arith, lt))
there_below (x ∷ xs) zero lt = (x, refl)
there_below (x ∷ xs) (suc i) lt = there_below xs i (omega (arith, lt))

pub index_at : {A : Type 0} (l : List A) (i : ℕ) (x d : A) → get_elem? l i ≡ some x → get_or l i d ≡ x
index_at [] i x d e = absurd (some-ne-none x (sym e))
index_at (y ∷ ys) zero x d e = some-injective y x e
index_at (y ∷ ys) (suc i) x d e = index_at ys i x d e

-- an element of a list with one more at the end is at its old place, or is that one
pub at_snoc_index : {A : Type 0} (l : List A) (b x : A) (i : ℕ) → get_elem? (l ++ b ∷ []) i ≡ some x → (get_elem? l i ≡ some x) ⊎ ((i ≡ length l) × (b ≡ x))
at_snoc_index [] b x zero e = inr (refl, some-injective b x e)
at_snoc_index [] b x (suc i) e = absurd (some-ne-none x (sym e))
at_snoc_index (y ∷ ys) b x zero e = inl e
at_snoc_index (y ∷ ys) b x (suc i) e = elim (at_snoc_index ys b x i e) [ inl old ↦ inl old | inr new ↦ inr (ap suc new.0, new.1) ]

-- ---- what is in a list

-- what holds of whatever is in it holds of all of it
pub all_of : {X : Type 0} (P : X → Type 0) (l : List X) → ((x : X) → Contains l x → P x) → All P l
all_of P l each = All-weaker (Contains l) P each l (All-contains_itself l)

-- if an element is in a list, the list is what comes before it, the element, and what comes after it; with another in its place the list
-- splits in the same way
pub split_at : {X : Type 0} (xs : List X) (i : ℕ) (x : X) → get_elem? xs i ≡ some x
    → (front : List X) × (behind : List X) × (xs ≡ front ++ x ∷ behind) × ((y : X) → set xs i y ≡ front ++ y ∷ behind)
split_at [] i x e = absurd (some-ne-none x (sym e))
split_at (z ∷ zs) zero x e = ([], zs, ap (λ w. w ∷ zs) (some-injective z x e), λ y. refl)
split_at (z ∷ zs) (suc i) x e =
    let rest = split_at zs i x e in
    (z ∷ rest.0, rest.1, ap (λ list. z ∷ list) rest.2, λ y. ap (λ list. z ∷ list) (rest.3 y))

-- if a mapped list splits at an element, the list splits at one
pub split_map : {X Y : Type 0} (f : X → Y) (l : List X) (front behind : List Y) (y : Y) → map f l ≡ front ++ y ∷ behind
    → (xs ys : List X) × (x : X) × (l ≡ xs ++ x ∷ ys) × (map f xs ≡ front) × (f x ≡ y)
split_map f [] [] behind y e = cc e
split_map f [] (z ∷ front) behind y e = cc e
split_map f (x ∷ l) [] behind y e = ([], l, x, refl, refl, cc e)
split_map {X} f (x ∷ l) (z ∷ front) behind y e =
    let rest : map f l ≡ front ++ y ∷ behind = cc e in
    let first : f x ≡ z = cc e in
    let (xs, ys, w, is, before, here) = split_map f l front behind y rest in
    (x ∷ xs, ys, w, ap (λ (l : List X). x ∷ l) is, (λ i. first i ∷ before i), here)

-- what passes a test is among what passes it
pub contains_filter : {X : Type 0} (test : X → Bool) (xs : List X) (x : X) → Contains xs x → test x ≡ true → Contains (filter test xs) x
contains_filter test [] x there passes = absurd (none_in x there)
contains_filter test (y ∷ ys) x (zero, below, same) passes =
    subst (λ (b : Bool). Contains (cond b (y ∷ filter test ys) (filter test ys)) x) (sym (ap test same ∙ passes)) (0, omega arith, same)
contains_filter test (y ∷ ys) x (suc k, below, same) passes = kept (test y) (contains_filter test ys x (k, omega (arith, below), same) passes)
  where
    kept : (b : Bool) → Contains (filter test ys) x → Contains (cond b (y ∷ filter test ys) (filter test ys)) x
    kept true there = Contains-append_right (y ∷ []) (filter test ys) x there
    kept false there = there

-- what is in the list of an element is in all of them
pub row_in : {A B : Type 0} (f : A → List B) (l : List A) (i : ℕ) (x : A) (b : B) → get_elem? l i ≡ some x → Contains (f x) b → Contains (flat_map f l) b
row_in f [] i x b e has = absurd (some-ne-none x (sym e))
row_in f (z ∷ zs) zero x b e has =
    Contains-append_left (f z) (flat_map f zs) b (subst (λ x. Contains (f x) b) (sym (some-injective z x e)) has)
row_in f (z ∷ zs) (suc i) x b e has = Contains-append_right (f z) (flat_map f zs) b (row_in f zs i x b e has)

-- what is in all of them then was there, or is in that of the changed element
pub row_from : {A B : Type 0} (f : A → List B) (l : List A) (i : ℕ) (y : A) (b : B) → Contains (flat_map f (set l i y)) b
    → Contains (flat_map f l) b ⊎ Contains (f y) b
row_from f [] i y b has = inl has
row_from f (z ∷ zs) zero y b has = ⊎_elim
    (λ mine. inr mine)
    (λ rest. inl (Contains-append_right (f z) (flat_map f zs) b rest))
    (Contains-append_cases (f y) (flat_map f zs) b has)
row_from f (z ∷ zs) (suc i) y b has = ⊎_elim
    (λ first. inl (Contains-append_left (f z) (flat_map f zs) b first))
    (λ rest. ⊎_elim (λ old. inl (Contains-append_right (f z) (flat_map f zs) b old)) (λ mine. inr mine) (row_from f zs i y b rest))
    (Contains-append_cases (f z) (flat_map f (set zs i y)) b has)

-- a sum is no less than one of its summands
pub sum_at_least : {X : Type 0} (f : X → ℕ) (xs : List X) (i : ℕ) (x : X) → get_elem? xs i ≡ some x → f x ≤ sum_by f xs
sum_at_least f xs i x e = subst (λ y. f y ≤ sum_by f xs) (index_at xs i x x e) (get_or-le-sum_by f xs i x (below_length xs i x e))

-- ---- what is the same of both

module _ {A B : Type 0} (f : A → B) where
  -- a column that the new element does not change
  pub column : (l : List A) (i : ℕ) (x y : A) → get_elem? l i ≡ some x → f y ≡ f x → map f (set l i y) ≡ map f l
  column l i x y e same = map-set f l i y ∙ (ap (set (map f l) i) same ∙ set_again (map f l) i (f x) (at_map f l i x e))

-- lists that belong to the elements, one after the other: they come to the same if those of the changed element do
pub rows_total : {A B M : Type 0} (add : M → M → M) (total : List B → M) → IsTotal add total → (f : A → List B) (l : List A) (i : ℕ) (x y : A)
    → get_elem? l i ≡ some x → total (f y) ≡ total (f x) → total (flat_map f (set l i y)) ≡ total (flat_map f l)
rows_total add total sums f [] i x y e same = refl
rows_total add total sums f (z ∷ zs) zero x y e same =
    sums (f y) (flat_map f zs)
    ∙ (ap (λ m. add m (total (flat_map f zs))) (same ∙ ap (λ x. total (f x)) (sym (some-injective z x e))) ∙ sym (sums (f z) (flat_map f zs)))
rows_total add total sums f (z ∷ zs) (suc i) x y e same =
    sums (f z) (flat_map f (set zs i y)) ∙ (ap (add (total (f z))) (rows_total add total sums f zs i x y e same) ∙ sym (sums (f z) (flat_map f zs)))

-- and they are the same if that is the same
pub rows : {A B : Type 0} (f : A → List B) (l : List A) (i : ℕ) (x y : A) → get_elem? l i ≡ some x → f y ≡ f x → flat_map f (set l i y) ≡ flat_map f l
rows f = rows_total ◌++◌ (λ list. list) (λ xs ys. refl) f

-- the sum of what they count
pub sum_beside : {A : Type 0} (f : A → ℕ) (l : List A) (i : ℕ) (x y : A) → get_elem? l i ≡ some x → sum_by f (set l i y) + f x ≡ sum_by f l + f y
sum_beside f l i x y e =
    let h = sum_by-set f l i y x (below_length l i x e) in
    let same = ap f (index_at l i x x e) in
    omega (arith, h, same)

pub sum_same : {A : Type 0} (f : A → ℕ) (l : List A) (i : ℕ) (x y : A) → get_elem? l i ≡ some x → f y ≡ f x → sum_by f (set l i y) ≡ sum_by f l
sum_same f l i x y e same = let h = sum_beside f l i x y e in omega (arith, h, same)

-- ---- what is one more

-- if the new element's list is longer, all lists together are longer by as much
pub rows_more : {A B : Type 0} (f : A → List B) (l : List A) (i : ℕ) (x y : A) (more : List B) → get_elem? l i ≡ some x → f y ≡ f x ++ more
    → IsPermutation (flat_map f (set l i y)) (flat_map f l ++ more)
rows_more f [] i x y more e is = absurd (some-ne-none x (sym e))
rows_more {B = B} f (z ∷ zs) zero x y more e is =
    let same : f x ≡ f z = ap f (sym (some-injective z x e)) in
    subst (λ row. IsPermutation (row ++ flat_map f zs) ((f z ++ flat_map f zs) ++ more)) (sym (is ∙ ap (λ row. row ++ more) same))
    (subst (λ (p : List B × List B). IsPermutation p.0 p.1) (λ k. (sym (append_assoc (f z) more (flat_map f zs)) k, sym (append_assoc (f z) (flat_map f zs) more) k))
    (IsPermutation-append (f z) (f z) _ _ (IsPermutation-refl (f z)) (IsPermutation-append_comm more (flat_map f zs))))
rows_more f (z ∷ zs) (suc i) x y more e is =
    subst (IsPermutation (f z ++ flat_map f (set zs i y))) (sym (append_assoc (f z) (flat_map f zs) more))
    (IsPermutation-append (f z) (f z) _ _ (IsPermutation-refl (f z)) (rows_more f zs i x y more e is))

-- one of them is true
any_true : (l : List Bool) → fold ◌||◌ true l ≡ true
any_true [] = refl
any_true (b ∷ bs) = any_true bs

pub any_there : (l : List Bool) (i : ℕ) (b : Bool) → get_elem? l i ≡ some true → fold ◌||◌ b l ≡ true
any_there [] i b e = absurd (some-ne-none true (sym e))
any_there (x ∷ xs) zero b e = ap (λ c. fold ◌||◌ (b || c) xs) (some-injective x true e) ∙ or_true b xs
  where
    or_true : (b : Bool) (xs : List Bool) → fold ◌||◌ (b || true) xs ≡ true
    or_true true xs = any_true xs
    or_true false xs = any_true xs
any_there (x ∷ xs) (suc i) b e = any_there xs i (b || x) e

-- if one of all is true once one of them has changed, one of all was true, or the changed one is
pub any_from : {A : Type 0} (f : A → Bool) (l : List A) (i : ℕ) (y : A) (b : Bool) → fold ◌||◌ b (map f (set l i y)) ≡ true
    → (fold ◌||◌ b (map f l) ≡ true) ⊎ (f y ≡ true)
any_from f [] i y b e = inl e
any_from f (z ∷ zs) zero y b e = by b (f z) (f y) (map f zs) e
  where
    by : (b old new : Bool) (rest : List Bool) → fold ◌||◌ (b || new) rest ≡ true → (fold ◌||◌ (b || old) rest ≡ true) ⊎ (new ≡ true)
    by b old true rest e = inr refl
    by true old false rest e = inl (any_true rest)
    by false true false rest e = inl (any_true rest)
    by false false false rest e = inl e
any_from f (z ∷ zs) (suc i) y b e = any_from f zs i y (b || f z) e
