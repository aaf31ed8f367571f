-- A walk along two lists that ascend: a later one and an earlier one.
use Rattle.std.proofs.Common.{◌≡◌, ◌<◌, ◌+◌, ℕ, List, [], ◌∷◌, ◌++◌, map, length, take, drop, get_or, append_assoc, subst, sym, ap, ◌∙◌, arith}
use Rattle.std.specs.Cmp.{IsTotalOrder}
use Rattle.std.specs.declared.cmp.Ordering.{Ordering}
use Rattle.std.specs.declared.cmp.Ordering.TheVariants.{Less, Equal}
use Rattle.std.specs.List.{All, AllByRecursion}
use Rattle.std.specs.List.Sorted.{IsStrictlySortedBy}
use Rattle.std.proofs.lemmas.Cmp.{tied_itself}
use Rattle.std.proofs.lemmas.List.{append-nil, take-append-drop, drop-drop}
use Rattle.std.proofs.lemmas.List.Elements.{All-append, All-drop}
use Rattle.std.proofs.Math.Seq.{take-add}
use Rattle.reading_sums.specs.Since.{GoesOnAscending}
use Rattle.reading_sums.proofs.Ascending.{all-front, all-behind, all-both, alike-put, left-next}

-- without an element
pub one-less : {K : Type 0} (R : K → K → Ordering) (done : List K) (x : K) (rest : List K) → IsStrictlySortedBy R (done ++ x ∷ rest)
    → IsStrictlySortedBy R (done ++ rest)
unfolding IsStrictlySortedBy
one-less R [] x rest up = up.1
one-less R (d ∷ ds) x rest up = (
  all-both (λ z. R d z ≡ Less) ds rest (all-front (λ z. R d z ≡ Less) ds (x ∷ rest) up.0) (all-behind (λ z. R d z ≡ Less) ds (x ∷ rest) up.0).1,
  one-less R ds x rest up.1,
)

-- what comes after others
pub rest-ascends : {K : Type 0} (R : K → K → Ordering) (done rest : List K) → IsStrictlySortedBy R (done ++ rest) → IsStrictlySortedBy R rest
unfolding IsStrictlySortedBy
rest-ascends R [] rest up = up
rest-ascends R (d ∷ ds) rest up = rest-ascends R ds rest up.1

-- those before an element are below it
pub before-below : {K : Type 0} (R : K → K → Ordering) (done : List K) (x : K) (rest : List K) → IsStrictlySortedBy R (done ++ x ∷ rest)
    → AllByRecursion (λ z. R z x ≡ Less) done
unfolding IsStrictlySortedBy
before-below R [] x rest up = tt
before-below R (d ∷ ds) x rest up = ((all-behind (λ z. R d z ≡ Less) ds (x ∷ rest) up.0).0, before-below R ds x rest up.1)

-- those after it are above it
pub behind-above : {K : Type 0} (R : K → K → Ordering) (done : List K) (x : K) (rest : List K) → IsStrictlySortedBy R (done ++ x ∷ rest)
    → AllByRecursion (λ z. R x z ≡ Less) rest
unfolding IsStrictlySortedBy
behind-above R [] x rest up = up.0
behind-above R (d ∷ ds) x rest up = behind-above R ds x rest up.1

-- ---- what is taken

pub taken-later : {K : Type 0} {R : K → K → Ordering} (o : IsTotalOrder R) (a b : List K) → 0 < length a
    → ((d : K) → 0 < length b → R (get_or a 0 d) (get_or b 0 d) ≡ Less) → GoesOnAscending R 1 0 a b
taken-later o [] b some below = absurd (omega arith)
taken-later {R = R} o (x ∷ xs) b some below = λ done first second.
    subst (IsStrictlySortedBy R) (sym (append_assoc done (x ∷ []) b))
    (left-next o (x ∷ xs) b x some (λ d. tied_itself o x) below done first second).1

pub taken-earlier : {K : Type 0} (R : K → K → Ordering) (a b : List K) → 0 < length b → GoesOnAscending R 0 1 a b
taken-earlier R a [] some = absurd (omega arith)
taken-earlier R a (y ∷ ys) some = λ done first second.
    subst (λ l. IsStrictlySortedBy R (l ++ ys)) (sym (append-nil done)) (one-less R done y ys second)

pub taken-both : {K : Type 0} {R : K → K → Ordering} (o : IsTotalOrder R) (a b : List K) → 0 < length a → 0 < length b
    → ((d : K) → R (get_or a 0 d) (get_or b 0 d) ≡ Equal) → GoesOnAscending R 1 1 a b
taken-both o [] b some more same = absurd (omega arith)
taken-both o (x ∷ xs) [] some more same = absurd (omega arith)
taken-both {R = R} o (x ∷ xs) (y ∷ ys) some more same = λ done first second.
    subst (IsStrictlySortedBy R) (sym (append_assoc done (x ∷ []) ys)) (alike-put o done y x ys (same x) second)

-- what continues to ascend after a step of the walk
pub walk-on : {K : Type 0} (R : K → K → Ordering) (laters earliers left rest : List K) (i j m n : ℕ) → left ≡ drop i laters → rest ≡ drop j earliers
    → GoesOnAscending R m n left rest
    → (IsStrictlySortedBy R laters → IsStrictlySortedBy R earliers → IsStrictlySortedBy R (take i laters ++ drop j earliers))
    → IsStrictlySortedBy R laters → IsStrictlySortedBy R earliers → IsStrictlySortedBy R (take (i + m) laters ++ drop (j + n) earliers)
walk-on {K = K} R laters earliers left rest i j m n cut_left cut_rest goes before one other =
    let P : List K → Type 0 = λ z. IsStrictlySortedBy R (take i laters ++ z) in
    let here : IsStrictlySortedBy R (take i laters ++ left) =
    subst P (sym cut_left) (subst (IsStrictlySortedBy R) (sym (take-append-drop i laters)) one) in
    let there : IsStrictlySortedBy R (take i laters ++ rest) = subst P (sym cut_rest) (before one other) in
    let front : take i laters ++ take m left ≡ take (i + m) laters = ap (λ z. take i laters ++ take m z) cut_left ∙ sym (take-add i m laters) in
    let behind : drop n rest ≡ drop (j + n) earliers = ap (drop n) cut_rest ∙ drop-drop n j earliers in
    subst (IsStrictlySortedBy R) (λ k. front k ++ behind k) (goes (take i laters) here there)

-- what holds of all of the later list, holds of all that were taken so far
pub all-walk : {K : Type 0} (P : K → Type 0) (laters left hists more new : List K) (i : ℕ) → left ≡ drop i laters → new ≡ hists ++ more
    → (All P left → All P more) → (All P laters → All P hists) → All P laters → All P new
all-walk P laters left hists more new i cut put step before all =
    subst (All P) (sym put) (All-append P hists more (before all) (step (subst (All P) (sym cut) (All-drop P i laters all))))

-- ---- by what is seen of each

all-seen : {X Y : Type 0} (P : Y → Type 0) (f : X → Y) (xs : List X) → AllByRecursion (λ x. P (f x)) xs → AllByRecursion P (map f xs)
all-seen P f [] all = tt
all-seen P f (x ∷ xs) all = (all.0, all-seen P f xs all.1)

all-of-seen : {X Y : Type 0} (P : Y → Type 0) (f : X → Y) (xs : List X) → AllByRecursion P (map f xs) → AllByRecursion (λ x. P (f x)) xs
all-of-seen P f [] all = tt
all-of-seen P f (x ∷ xs) all = (all.0, all-of-seen P f xs all.1)

seen-ascends : {X Y : Type 0} (R : Y → Y → Ordering) (f : X → Y) (xs : List X) → IsStrictlySortedBy (λ a b. R (f a) (f b)) xs → IsStrictlySortedBy R (map f xs)
unfolding IsStrictlySortedBy
seen-ascends R f [] up = tt
seen-ascends R f (x ∷ xs) up = (all-seen (λ y. R (f x) y ≡ Less) f xs up.0, seen-ascends R f xs up.1)

ascends-seen : {X Y : Type 0} (R : Y → Y → Ordering) (f : X → Y) (xs : List X) → IsStrictlySortedBy R (map f xs) → IsStrictlySortedBy (λ a b. R (f a) (f b)) xs
unfolding IsStrictlySortedBy
ascends-seen R f [] up = tt
ascends-seen R f (x ∷ xs) up = (all-of-seen (λ y. R (f x) y ≡ Less) f xs up.0, ascends-seen R f xs up.1)

-- lists in which the same is seen ascend alike
pub alike-ascend : {X Y : Type 0} (R : Y → Y → Ordering) (f : X → Y) (xs ys : List X) → map f xs ≡ map f ys → IsStrictlySortedBy (λ a b. R (f a) (f b)) ys
    → IsStrictlySortedBy (λ a b. R (f a) (f b)) xs
alike-ascend R f xs ys same up = ascends-seen R f xs (subst (IsStrictlySortedBy R) (sym same) (seen-ascends R f ys up))
