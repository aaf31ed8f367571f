-- What is not found, and what holds of all.
use Rattle.std.proofs.Common.{◌≡◌, ◌||◌, Bool, map, true, false, not, cond, List, [], ◌∷◌, Option, Some, All, refl, ap}
use Rattle.std.specs.Prelude.{◌↔◌, is_some}
use Rattle.std.specs.List.{find, list_any}
use Rattle.std.proofs.lemmas.List.Elements.{All-nil, All-cons, All-head, All-tail}

-- the first element passes, and no other one fails
first-passes : {X : Type 0} (b : Bool) (x : X) (rest : Option X) → is_some (cond (not b) (Some x) rest) ≡ false → (b ≡ true) × (is_some rest ≡ false)
first-passes true x rest none = (refl, none)
first-passes false x rest none = absurd (cc none)

first-skipped : {X : Type 0} (b : Bool) (x : X) (rest : Option X) → b ≡ true → is_some rest ≡ false → is_some (cond (not b) (Some x) rest) ≡ false
first-skipped true x rest passes none = none
first-skipped false x rest passes none = absurd (cc passes)

all-pass : {X : Type 0} (q : X → Bool) (xs : List X) → is_some (find (λ x. not (q x)) xs) ≡ false → All (λ x. q x ≡ true) xs
all-pass q [] none = All-nil (λ x. q x ≡ true)
all-pass q (x ∷ xs) none =
    let both = first-passes (q x) x (find (λ y. not (q y)) xs) none in
    All-cons (λ y. q y ≡ true) x xs both.0 (all-pass q xs both.1)

none-fails : {X : Type 0} (q : X → Bool) (xs : List X) → All (λ x. q x ≡ true) xs → is_some (find (λ x. not (q x)) xs) ≡ false
none-fails q [] all = refl
none-fails q (x ∷ xs) all =
    first-skipped (q x) x (find (λ y. not (q y)) xs) (All-head (λ y. q y ≡ true) x xs all) (none-fails q xs (All-tail (λ y. q y ≡ true) x xs all))

-- no element fails a test exactly if all pass it
pub none-exactly : {X : Type 0} (q : X → Bool) (xs : List X) → (is_some (find (λ x. not (q x)) xs) ≡ false) ↔ All (λ x. q x ≡ true) xs
none-exactly q xs = (all-pass q xs, none-fails q xs)

-- a test of images
pub list_any-map : {X Y : Type 0} (p : Y → Bool) (f : X → Y) (xs : List X) → list_any p (map f xs) ≡ list_any (λ x. p (f x)) xs
list_any-map p f [] = refl
list_any-map p f (x ∷ xs) = ap (λ b. p (f x) || b) (list_any-map p f xs)
