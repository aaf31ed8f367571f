-- The order of keys.
use Rattle.std.proofs.Common.{◌≡◌, ◌<◌, ℤ, ◌<ℤ◌, List, [], ◌∷◌, length, get_or, refl, ap, ◌∙◌, arith}
use Rattle.std.specs.Cmp.{IsTotalOrder}
use Rattle.std.specs.Ordering.{int_cmp}
use Rattle.std.specs.declared.cmp.Ordering.TheVariants.{Less}
use Rattle.std.proofs.lemmas.Cmp.{int_cmp_total, on_total, tied_itself, by_ranked, int_ranked}
use Rattle.std.proofs.lemmas.Int.{ints}
use Rattle.reading_sums.specs.declared.key.KeySum.{KeySum}
use Rattle.reading_sums.specs.Orders.{key_cmp, ComesNext}
use Rattle.reading_sums.proofs.Ascending.{left-next, right-next, both-next}

pub key-total : IsTotalOrder key_cmp
key-total = on_total (λ (key : KeySum). key.value) int_cmp_total

pub int-less : (x y : ℤ) → x <ℤ y → int_cmp x y ≡ Less
int-less x y below =
    by_ranked (x <ℤ y) (x ≡ y) (y <ℤ x) (int_cmp x y) (int_ranked x y (int_cmp x y) refl) (λ is _. is)
    (λ is same. absurd (omega (arith, ints, below, same))) (λ is above. absurd (omega (arith, ints, below, above)))

pub left-key : (a b : List KeySum) (d0 : KeySum) → 0 < length a → ((d : KeySum) → 0 < length b → (get_or a 0 d).value <ℤ (get_or b 0 d).value)
    → ComesNext key_cmp (get_or a 0 d0) 1 0 a b
left-key [] b d0 some below = absurd (omega arith)
left-key (x ∷ xs) b d0 some below =
    left-next key-total (x ∷ xs) b x some (λ d. tied_itself key-total x) (λ d more. int-less x.value (get_or b 0 d).value (below d more))

pub right-key : (a b : List KeySum) (d0 : KeySum) → 0 < length b → ((d : KeySum) → 0 < length a → (get_or b 0 d).value <ℤ (get_or a 0 d).value)
    → ComesNext key_cmp (get_or b 0 d0) 0 1 a b
right-key a [] d0 some below = absurd (omega arith)
right-key a (y ∷ ys) d0 some below =
    right-next key-total a (y ∷ ys) y some (λ d. tied_itself key-total y) (λ d more. int-less y.value (get_or a 0 d).value (below d more))

pub both-key : (a b : List KeySum) (e d0 : KeySum) → 0 < length a → 0 < length b → ((d : KeySum) → (get_or a 0 d).value ≡ (get_or b 0 d).value)
    → e.value ≡ (get_or a 0 d0).value → ComesNext key_cmp e 1 1 a b
both-key [] b e d0 some more same is = absurd (omega arith)
both-key (x ∷ xs) [] e d0 some more same is = absurd (omega arith)
both-key (x ∷ xs) (y ∷ ys) e d0 some more same is =
    both-next key-total (x ∷ xs) (y ∷ ys) e some more
    (λ d. ap (λ v. int_cmp v x.value) is ∙ tied_itself int_cmp_total x.value)
    (λ d. ap (λ v. int_cmp v y.value) (is ∙ same e) ∙ tied_itself int_cmp_total y.value)
