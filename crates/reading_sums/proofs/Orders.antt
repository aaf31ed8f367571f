-- Lists that are equal in their order.
use Rattle.std.proofs.Common.{◌≡◌, true, ℕ, List, [], ◌∷◌, refl, sym, nat_cmp}
use Rattle.std.specs.declared.cmp.Ordering.{Ordering}
use Rattle.std.specs.declared.cmp.Ordering.TheVariants.{Less, Equal, Greater}
use Rattle.std.specs.Ordering.{is_eq, ordering_then}
use Rattle.std.specs.Cmp.Lexicographic.{slice_cmp}
use Rattle.std.proofs.lemmas.Cmp.{ranked}

-- only Equal is equal
pub equal-is : (o : Ordering) → is_eq o ≡ true → o ≡ Equal
equal-is Less e = absurd (cc)
equal-is Equal e = refl
equal-is Greater e = absurd (cc)

pub then-equal : (o p : Ordering) → ordering_then o p ≡ Equal → (o ≡ Equal) × (p ≡ Equal)
then-equal Less p e = absurd (cc)
then-equal Equal p e = (refl, e)
then-equal Greater p e = absurd (cc)

-- lists of numbers that are equal in their order
pub lists-equal : (xs ys : List ℕ) → slice_cmp nat_cmp xs ys ≡ Equal → xs ≡ ys
lists-equal [] [] e = refl
lists-equal [] (y ∷ ys) e = absurd (cc)
lists-equal (x ∷ xs) [] e = absurd (cc)
lists-equal (x ∷ xs) (y ∷ ys) e =
    let parts = then-equal (nat_cmp x y) (slice_cmp nat_cmp xs ys) e in
    let same : x ≡ y = ranked x y Equal (sym parts.0) in
    let rest : xs ≡ ys = lists-equal xs ys parts.1 in
    λ i. same i ∷ rest i
