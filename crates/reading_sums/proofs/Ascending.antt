-- Lists that ascend strictly by an order.
use Rattle.std.proofs.Common.{◌≡◌, ◌<◌, ℕ, List, [], ◌∷◌, ◌++◌, length, drop, get_or, append_assoc, subst, sym, ◌∙◌, arith}
use Rattle.std.specs.Cmp.{IsTotalOrder}
use Rattle.std.specs.declared.cmp.Ordering.{Ordering}
use Rattle.std.specs.declared.cmp.Ordering.TheVariants.{Less, Equal}
use Rattle.std.specs.List.{AllByRecursion}
use Rattle.std.specs.List.Sorted.{IsStrictlySortedBy}
use Rattle.std.proofs.lemmas.Cmp.{alike_right}
use Rattle.reading_sums.specs.Orders.{ComesNext}

pub all-front : {K : Type 0} (P : K → Type 0) (xs ys : List K) → AllByRecursion P (xs ++ ys) → AllByRecursion P xs
all-front P [] ys all = tt
all-front P (x ∷ xs) ys all = (all.0, all-front P xs ys all.1)

pub all-behind : {K : Type 0} (P : K → Type 0) (xs ys : List K) → AllByRecursion P (xs ++ ys) → AllByRecursion P ys
all-behind P [] ys all = all
all-behind P (x ∷ xs) ys all = all-behind P xs ys all.1

pub all-both : {K : Type 0} (P : K → Type 0) (xs ys : List K) → AllByRecursion P xs → AllByRecursion P ys → AllByRecursion P (xs ++ ys)
all-both P [] ys front behind = behind
all-both P (x ∷ xs) ys front behind = (front.0, all-both P xs ys front.1 behind)

-- what is below an element is below all that this one is below
pub all-above : {K : Type 0} {R : K → K → Ordering} (o : IsTotalOrder R) (x y : K) (zs : List K) → R x y ≡ Less
    → AllByRecursion (λ z. R y z ≡ Less) zs → AllByRecursion (λ z. R x z ≡ Less) zs
all-above o x y [] below all = tt
all-above o x y (z ∷ zs) below all = (o.trans x y z below all.0, all-above o x y zs below all.1)

-- an equal element is below the same
all-alike : {K : Type 0} {R : K → K → Ordering} (o : IsTotalOrder R) (e x : K) (zs : List K) → R e x ≡ Equal
    → AllByRecursion (λ z. R x z ≡ Less) zs → AllByRecursion (λ z. R e z ≡ Less) zs
all-alike o e x [] same all = tt
all-alike o e x (z ∷ zs) same all = (o.congr e x z same ∙ all.0, all-alike o e x zs same all.1)

-- an element below the first of an ascending list can be put before it
first-below : {K : Type 0} {R : K → K → Ordering} (o : IsTotalOrder R) (e : K) (rest : List K) → IsStrictlySortedBy R rest
    → ((d : K) → 0 < length rest → R e (get_or rest 0 d) ≡ Less) → IsStrictlySortedBy R (e ∷ rest)
unfolding IsStrictlySortedBy
first-below o e [] ascending below = (tt, tt)
first-below o e (y ∷ ys) ascending below =
    let here = below y (omega arith) in
    ((here, all-above o e y ys here ascending.0), ascending)

-- an equal element in place of another
pub alike-put : {K : Type 0} {R : K → K → Ordering} (o : IsTotalOrder R) (done : List K) (x e : K) (rest : List K) → R e x ≡ Equal
    → IsStrictlySortedBy R (done ++ x ∷ rest) → IsStrictlySortedBy R (done ++ e ∷ rest)
unfolding IsStrictlySortedBy
alike-put o [] x e rest same ascending = (all-alike o e x rest same ascending.0, ascending.1)
alike-put {R = R} o (d ∷ ds) x e rest same ascending =
    let behind = all-behind (λ z. R d z ≡ Less) ds (x ∷ rest) ascending.0 in (
      all-both (λ z. R d z ≡ Less) ds (e ∷ rest) (all-front (λ z. R d z ≡ Less) ds (x ∷ rest) ascending.0)
          (alike_right o e x d same ∙ behind.0, behind.1),
      alike-put o ds x e rest same ascending.1,
    )

-- an element before the rest of another list, the first of which it is below
pub below-put : {K : Type 0} {R : K → K → Ordering} (o : IsTotalOrder R) (done : List K) (x e : K) (more rest : List K) → R e x ≡ Equal
    → IsStrictlySortedBy R (done ++ x ∷ more) → IsStrictlySortedBy R (done ++ rest)
    → ((d : K) → 0 < length rest → R x (get_or rest 0 d) ≡ Less) → IsStrictlySortedBy R (done ++ e ∷ rest)
unfolding IsStrictlySortedBy
below-put o [] x e more rest same first second below =
    first-below o e rest second (λ d some. o.congr e x (get_or rest 0 d) same ∙ below d some)
below-put {R = R} o (d ∷ ds) x e more rest same first second below =
    let behind = all-behind (λ z. R d z ≡ Less) ds (x ∷ more) first.0 in (
      all-both (λ z. R d z ≡ Less) ds (e ∷ rest) (all-front (λ z. R d z ≡ Less) ds (x ∷ more) first.0)
          (alike_right o e x d same ∙ behind.0, all-behind (λ z. R d z ≡ Less) ds rest second.0),
      below-put o ds x e more rest same first.1 second.1 below,
    )

-- ---- which element of two lists comes next

pub left-next : {K : Type 0} {R : K → K → Ordering} (o : IsTotalOrder R) (a b : List K) (e : K) → 0 < length a
    → ((d : K) → R e (get_or a 0 d) ≡ Equal) → ((d : K) → 0 < length b → R (get_or a 0 d) (get_or b 0 d) ≡ Less) → ComesNext R e 1 0 a b
left-next o [] b e some same below = absurd (omega arith)
left-next o (x ∷ xs) b e some same below = λ done first second.
    (alike-put o done x e xs (same x) first, below-put o done x e xs b (same x) first second below)

pub right-next : {K : Type 0} {R : K → K → Ordering} (o : IsTotalOrder R) (a b : List K) (e : K) → 0 < length b
    → ((d : K) → R e (get_or b 0 d) ≡ Equal) → ((d : K) → 0 < length a → R (get_or b 0 d) (get_or a 0 d) ≡ Less) → ComesNext R e 0 1 a b
right-next o a [] e some same below = absurd (omega arith)
right-next o a (y ∷ ys) e some same below = λ done first second.
    (below-put o done y e ys a (same y) second first below, alike-put o done y e ys (same y) second)

pub both-next : {K : Type 0} {R : K → K → Ordering} (o : IsTotalOrder R) (a b : List K) (e : K) → 0 < length a → 0 < length b
    → ((d : K) → R e (get_or a 0 d) ≡ Equal) → ((d : K) → R e (get_or b 0 d) ≡ Equal) → ComesNext R e 1 1 a b
both-next o [] b e some more first second = absurd (omega arith)
both-next o (x ∷ xs) [] e some more first second = absurd (omega arith)
both-next o (x ∷ xs) (y ∷ ys) e some more first second = λ done one other.
    (alike-put o done x e xs (first x) one, alike-put o done y e ys (second y) other)

-- one more element
pub order-step : {K : Type 0} (R : K → K → Ordering) (done new a b a_new b_new : List K) (e : K) (i j : ℕ) → new ≡ done ++ e ∷ []
    → a_new ≡ drop i a → b_new ≡ drop j b → ComesNext R e i j a b
    → IsStrictlySortedBy R (done ++ a) × IsStrictlySortedBy R (done ++ b) → IsStrictlySortedBy R (new ++ a_new) × IsStrictlySortedBy R (new ++ b_new)
order-step R done new a b a_new b_new e i j pushed cut_a cut_b next before =
    let after = next done before.0 before.1 in
    let one : new ++ a_new ≡ done ++ e ∷ drop i a = (λ k. pushed k ++ cut_a k) ∙ append_assoc done (e ∷ []) (drop i a) in
    let other : new ++ b_new ≡ done ++ e ∷ drop j b = (λ k. pushed k ++ cut_b k) ∙ append_assoc done (e ∷ []) (drop j b) in
    (subst (IsStrictlySortedBy R) (sym one) after.0, subst (IsStrictlySortedBy R) (sym other) after.1)

-- what an ascending list begins with
pub order-front : {K : Type 0} (R : K → K → Ordering) (done rest : List K) → IsStrictlySortedBy R (done ++ rest) → IsStrictlySortedBy R done
unfolding IsStrictlySortedBy
order-front R [] rest ascending = tt
order-front R (d ∷ ds) rest ascending = (all-front (λ z. R d z ≡ Less) ds rest ascending.0, order-front R ds rest ascending.1)
