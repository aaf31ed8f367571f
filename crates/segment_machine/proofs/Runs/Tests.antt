-- Facts that are found by trying: if a test returns Some, it has the fact.
use Rattle.std.proofs.Common.{◌≡◌, ◌≢◌, ℕ, ◌<◌, ◌≤◌, ◌==◌, Bool, true, false, ℤ, List, [], ◌∷◌, refl, eqb-true, leb-true, ltb-true, arith, ap, subst, Contains, Option, Some, None}
use Rattle.std.specs.Prelude.{nat_le, nat_lt}
use Rattle.std.specs.List.{All}
use Rattle.std.specs.Str.{bytes_eq}
use Rattle.std.specs.Ordering.{int_eq}
use Rattle.std.specs.Option.{is_some}
use Rattle.std.proofs.lemmas.Bool.{eqb-false}
use Rattle.std.proofs.lemmas.Bool.Decides.{Decides-int_eq}
use Rattle.std.proofs.lemmas.Slice.Eq.{bytes_eq-Decides}
use Rattle.std.proofs.lemmas.List.Elements.{All-nil, All-cons, Contains-append_right}

-- one test, and then another that may depend on what it found
abbrev pub then : {A B : Type 0} → Option A → (A → Option B) → Option B
then None more = None
then (Some x) more = more x

-- one test, or else another
abbrev pub or_else : {A : Type 0} → Option A → Option A → Option A
or_else (Some x) other = Some x
or_else None other = other

-- what was found
pub found_in : {A : Type 0} (o : Option A) → is_some o ≡ true → A
found_in None e = cc e
found_in (Some x) e = x

-- ---- tests

abbrev pub is_true : (b : Bool) → Option (b ≡ true)
is_true true = Some refl
is_true false = None

abbrev pub is_false : (b : Bool) → Option (b ≡ false)
is_false false = Some refl
is_false true = None

abbrev by : {A : Type 0} (b : Bool) → (b ≡ true → A) → Option A
by true fact = Some (fact refl)
by false fact = None

abbrev pub same : (x y : ℕ) → Option (x ≡ y)
same x y = by (x == y) (eqb-true x y)

abbrev pub at_most : (x y : ℕ) → Option (x ≤ y)
at_most x y = by (nat_le x y) (leb-true x y)

abbrev pub below : (x y : ℕ) → Option (x < y)
below x y = by (nat_lt x y) (ltb-true x y)

abbrev pub same_bytes : (x y : List ℕ) → Option (x ≡ y)
same_bytes x y = by (bytes_eq x y) (bytes_eq-Decides x y).0

abbrev pub same_integer : (x y : ℤ) → Option (x ≡ y)
same_integer x y = by (int_eq x y) (Decides-int_eq x y).0

pub apart_by : (x y : ℕ) → (x == y) ≡ false → x ≢ y
apart_by x y = eqb-false x y

abbrev apart_test : (x y : ℕ) (b : Bool) → (x == y) ≡ b → Option (x ≢ y)
apart_test x y true e = None
apart_test x y false e = Some (apart_by x y e)

abbrev pub apart : (x y : ℕ) → Option (x ≢ y)
apart x y = apart_test x y (x == y) refl

abbrev pub empty : {X : Type 0} (list : List X) → Option (list ≡ [])
empty [] = Some refl
empty (x ∷ rest) = None

abbrev pub first_of_list : {X : Type 0} (list : List X) → Option ((x : X) × (rest : List X) × (list ≡ x ∷ rest))
first_of_list [] = None
first_of_list (x ∷ rest) = Some (x, rest, refl)

abbrev pub value_in : {X : Type 0} (o : Option X) → Option ((x : X) × (o ≡ Some x))
value_in None = None
value_in (Some x) = Some (x, refl)

abbrev pub nothing_in : {X : Type 0} (o : Option X) → Option (o ≡ None)
nothing_in None = Some refl
nothing_in (Some x) = None

-- a number that was found is this one
abbrev pub is_number : (o : Option ℕ) (n : ℕ) → Option (o ≡ Some n)
is_number None n = None
is_number (Some m) n = then (same m n) (λ e. Some (ap (λ (k : ℕ). Some k) e))

-- ---- lists

pub here_in : {X : Type 0} (x : X) (rest : List X) → Contains (x ∷ rest) x
here_in x rest = (0, omega arith, refl)

pub behind_in : {X : Type 0} (x y : X) (rest : List X) → Contains rest y → Contains (x ∷ rest) y
behind_in x y rest is = Contains-append_right (x ∷ []) rest y is

-- an element of which a test finds something
abbrev pub some_of : {X : Type 0} {F : X → Type 0} → ((x : X) → Option (F x)) → (list : List X) → Option ((x : X) × Contains list x × F x)
some_of test [] = None
some_of test (x ∷ rest) = or_else
    (then (test x) (λ fact. Some (x, here_in x rest, fact)))
    (then (some_of test rest) (λ t. Some (t.0, behind_in x t.0 rest t.1, t.2)))

-- a test finds something of each
abbrev pub all_of : {X : Type 0} (F : X → Type 0) → ((x : X) → Option (F x)) → (list : List X) → Option (All F list)
all_of F test [] = Some (All-nil F)
all_of F test (x ∷ rest) = then (test x) (λ fact. then (all_of F test rest) (λ others. Some (All-cons F x rest fact others)))

pub member_by : (list : List ℕ) (n m : ℕ) → Contains list m → m ≡ n → Contains list n
member_by list n m is e = subst (λ (k : ℕ). Contains list k) e is

abbrev pub member : (list : List ℕ) (n : ℕ) → Option (Contains list n)
member list n = then (some_of (λ m. same m n) list) (λ t. Some (member_by list n t.0 t.1 t.2))
