-- Pairs of elements of lists that are put together.
use Rattle.std.proofs.Common.{◌≡◌, suc, Bool, false, not, List, [], ◌∷◌, ◌++◌, map, get_or, All, arith}
use Rattle.std.specs.List.{AllPairs, flat_map, filter}
use Rattle.std.proofs.lemmas.Bool.{not-true}
use Rattle.std.proofs.lemmas.List.Kept.{AllPairs-cons, AllPairs-filter}
use Rattle.std.proofs.lemmas.List.Elements.{All-append, All-filter, All-map, All-tail, filter_passes}
use Rattle.bucket_ranges.specs.Reading.{first_of_each}
use Rattle.image_reader.proofs.Lawful.{All-first_of_each}

-- the pairs of the first element, and those of the others
pub AllPairs-head : {X : Type 0} (R : X → X → Type 0) (x : X) (xs : List X) → AllPairs R (x ∷ xs) → All (R x) xs
AllPairs-head R x xs all = λ k d within. all 0 (suc k) d (omega arith) (omega arith)

pub AllPairs-tail : {X : Type 0} (R : X → X → Type 0) (x : X) (xs : List X) → AllPairs R (x ∷ xs) → AllPairs R xs
AllPairs-tail R x xs all = λ i j d below within. all (suc i) (suc j) d (omega arith) (omega arith)

pub AllPairs-nil : {X : Type 0} (R : X → X → Type 0) → AllPairs R []
AllPairs-nil R = λ i j d below within. absurd (omega (arith, within))

-- each of a list with each of another
abbrev pub AllBetween : {X : Type 0} → (X → X → Type 0) → List X → List X → Type 0
AllBetween R xs ys = All (λ x. All (R x) ys) xs

pub AllPairs-append : {X : Type 0} (R : X → X → Type 0) (xs ys : List X) → AllPairs R xs → AllPairs R ys → AllBetween R xs ys → AllPairs R (xs ++ ys)
AllPairs-append R [] ys first second between = second
AllPairs-append R (x ∷ xs) ys first second between =
    AllPairs-cons R x (xs ++ ys) (All-append (R x) xs ys (AllPairs-head R x xs first) (between 0 x (omega arith)))
    (AllPairs-append R xs ys (AllPairs-tail R x xs first) second (All-tail (λ x. All (R x) ys) x xs between))

pub AllPairs-map : {X Y : Type 0} (R : Y → Y → Type 0) (f : X → Y) (xs : List X) → AllPairs (λ a b. R (f a) (f b)) xs → AllPairs R (map f xs)
AllPairs-map R f [] all = AllPairs-nil R
AllPairs-map R f (x ∷ xs) all =
    AllPairs-cons R (f x) (map f xs) (All-map (R (f x)) f xs (AllPairs-head (λ a b. R (f a) (f b)) x xs all))
    (AllPairs-map R f xs (AllPairs-tail (λ a b. R (f a) (f b)) x xs all))

pub AllPairs-weaker : {X : Type 0} (R S : X → X → Type 0) (xs : List X) → ((a b : X) → R a b → S a b) → AllPairs R xs → AllPairs S xs
AllPairs-weaker R S xs weaker all =
    λ i j d below within. weaker (get_or xs i d) (get_or xs j d) (all i j d below within)

-- what holds of each element may be used of a pair
pub AllPairs-with : {X : Type 0} (P : X → Type 0) (R S : X → X → Type 0) (xs : List X) → ((a b : X) → P a → P b → R a b → S a b)
    → All P xs → AllPairs R xs → AllPairs S xs
AllPairs-with P R S xs weaker each all =
    λ i j d below within.
    weaker (get_or xs i d) (get_or xs j d) (each i d (omega (arith, below, within))) (each j d within) (all i j d below within)

-- what holds of all pairs of two kinds of elements
pub AllBetween-of : {X : Type 0} (P Q : X → Type 0) (R : X → X → Type 0) (xs ys : List X) → ((a b : X) → P a → Q b → R a b)
    → All P xs → All Q ys → AllBetween R xs ys
AllBetween-of P Q R xs ys apart first second =
    λ i d here. λ j e there. apart (get_or xs i d) (get_or ys j e) (first i d here) (second j e there)

-- ---- lists in a row

between-flat_map : {X Y : Type 0} (R : Y → Y → Type 0) (f : X → List Y) (us : List Y) (xs : List X)
    → All (λ b. AllBetween R us (f b)) xs → AllBetween R us (flat_map f xs)
between-flat_map R f us [] all = λ i d here. λ j e there. absurd (omega (arith, there))
between-flat_map R f us (b ∷ xs) all =
    λ i d here.
    All-append (R (get_or us i d)) (f b) (flat_map f xs) (all 0 b (omega arith) i d here)
    (between-flat_map R f us xs (All-tail (λ b. AllBetween R us (f b)) b xs all) i d here)

pub AllPairs-flat_map : {X Y : Type 0} (R : Y → Y → Type 0) (f : X → List Y) (xs : List X) → All (λ x. AllPairs R (f x)) xs
    → AllPairs (λ a b. AllBetween R (f a) (f b)) xs → AllPairs R (flat_map f xs)
AllPairs-flat_map R f [] own between = AllPairs-nil R
AllPairs-flat_map R f (x ∷ xs) own between =
    AllPairs-append R (f x) (flat_map f xs) (own 0 x (omega arith))
    (AllPairs-flat_map R f xs (All-tail (λ x. AllPairs R (f x)) x xs own) (AllPairs-tail (λ a b. AllBetween R (f a) (f b)) x xs between))
    (between-flat_map R f (f x) xs (AllPairs-head (λ a b. AllBetween R (f a) (f b)) x xs between))

pub All-flat_map : {X Y : Type 0} (P : Y → Type 0) (f : X → List Y) (xs : List X) → All (λ x. All P (f x)) xs → All P (flat_map f xs)
All-flat_map P f [] all = λ k d h. absurd (omega (arith, h))
All-flat_map P f (x ∷ xs) all =
    All-append P (f x) (flat_map f xs) (all 0 x (omega arith)) (All-flat_map P f xs (All-tail (λ x. All P (f x)) x xs all))

-- ---- the first of each group of equals

pub AllPairs-first_of_each : {X : Type 0} (R : X → X → Type 0) (same : X → X → Bool) (xs : List X) → AllPairs R xs
    → AllPairs R (first_of_each same xs)
AllPairs-first_of_each R same [] all = AllPairs-nil R
AllPairs-first_of_each R same (x ∷ xs) all =
    let firsts = first_of_each same xs in
    AllPairs-cons R x (filter (λ y. not (same x y)) firsts)
    (All-filter (λ y. not (same x y)) (R x) firsts (All-first_of_each same (R x) xs (AllPairs-head R x xs all)))
    (AllPairs-filter R (λ y. not (same x y)) firsts (AllPairs-first_of_each R same xs (AllPairs-tail R x xs all)))

-- no two of them are equals
pub first_of_each-differ : {X : Type 0} (same : X → X → Bool) (xs : List X) → AllPairs (λ a b. same a b ≡ false) (first_of_each same xs)
first_of_each-differ same [] = AllPairs-nil (λ a b. same a b ≡ false)
first_of_each-differ same (x ∷ xs) =
    let firsts = first_of_each same xs in
    let others = filter (λ y. not (same x y)) firsts in
    AllPairs-cons (λ a b. same a b ≡ false) x others
    (λ k d h. not-true (same x (get_or others k d)) (filter_passes (λ y. not (same x y)) firsts k d h))
    (AllPairs-filter (λ a b. same a b ≡ false) (λ y. not (same x y)) firsts (first_of_each-differ same xs))
