-- Which of the histograms of two lists comes next.
use Rattle.std.proofs.Common.{◌≡◌, ◌<◌, ℕ, List, [], ◌∷◌, ◌++◌, map, length, drop, get_or, ap, sym, subst, ◌∙◌, arith}
use Rattle.reading_sums.specs.declared.hist.HistSum.{HistSum}
use Rattle.reading_sums.specs.Totals.{Part, SameTotals, IsBoth}
use Rattle.reading_sums.specs.Views.{part_of}
use Rattle.reading_sums.proofs.Totals.{same-equal, same-trans, second-first, both-first, totals-step}
use Rattle.std.proofs.lemmas.List.{map-append}

-- the first of one list
pub left-next : (left right : List HistSum) (x : HistSum) (e : Part) → 0 < length left → x ≡ get_or left 0 x → e ≡ part_of x
    → SameTotals (e ∷ (map part_of (drop 1 left) ++ map part_of right)) (map part_of left ++ map part_of right)
left-next [] right x e some first is = absurd (omega arith)
left-next (y ∷ ys) right x e some first is =
    same-equal (e ∷ (map part_of ys ++ map part_of right)) (part_of y ∷ (map part_of ys ++ map part_of right))
    (ap (λ p. p ∷ (map part_of ys ++ map part_of right)) (is ∙ ap part_of first))

-- the first of the other
pub right-next : (left right : List HistSum) (x : HistSum) (e : Part) → 0 < length right → x ≡ get_or right 0 x → e ≡ part_of x
    → SameTotals (e ∷ (map part_of left ++ map part_of (drop 1 right))) (map part_of left ++ map part_of right)
right-next left [] x e some first is = absurd (omega arith)
right-next left (y ∷ ys) x e some first is =
    same-trans (e ∷ (map part_of left ++ map part_of ys)) (part_of y ∷ (map part_of left ++ map part_of ys)) (map part_of left ++ part_of y ∷ map part_of ys)
    (same-equal (e ∷ (map part_of left ++ map part_of ys)) (part_of y ∷ (map part_of left ++ map part_of ys))
    (ap (λ p. p ∷ (map part_of left ++ map part_of ys)) (is ∙ ap part_of first)))
    (second-first (part_of y) (map part_of left) (map part_of ys))

-- the first of both, as one
pub both-next : (left right : List HistSum) (x y : HistSum) (e : Part) → 0 < length left → 0 < length right
    → x ≡ get_or left 0 x → y ≡ get_or right 0 y → x.name.items ≡ y.name.items → x.spec ≡ y.spec → IsBoth (part_of x) (part_of y) e
    → SameTotals (e ∷ (map part_of (drop 1 left) ++ map part_of (drop 1 right))) (map part_of left ++ map part_of right)
both-next [] right x y e some more first second names specs both = absurd (omega arith)
both-next (u ∷ us) [] x y e some more first second names specs both = absurd (omega arith)
both-next (u ∷ us) (v ∷ vs) x y e some more first second names specs both =
    let P : HistSum → Type 0 = λ z. SameTotals (e ∷ (map part_of us ++ map part_of vs)) ((part_of z ∷ map part_of us) ++ (part_of v ∷ map part_of vs)) in
    let Q : HistSum → Type 0 = λ z. SameTotals (e ∷ (map part_of us ++ map part_of vs)) ((part_of x ∷ map part_of us) ++ (part_of z ∷ map part_of vs)) in
    subst P first (subst Q second (both-first (part_of x) (part_of y) e (map part_of us) (map part_of vs) names specs both))

-- one more of two lists that are added up
pub parts-step : (done new left right left_new right_new : List HistSum) (e : HistSum) (i j : ℕ) (all : List Part)
    → new ≡ done ++ e ∷ [] → left_new ≡ drop i left → right_new ≡ drop j right
    → SameTotals (map part_of done ++ (map part_of left ++ map part_of right)) all
    → SameTotals (part_of e ∷ (map part_of (drop i left) ++ map part_of (drop j right))) (map part_of left ++ map part_of right)
    → SameTotals (map part_of new ++ (map part_of left_new ++ map part_of right_new)) all
parts-step done new left right left_new right_new e i j all pushed cut_left cut_right before here =
    let parts : map part_of new ≡ map part_of done ++ part_of e ∷ [] = ap (map part_of) pushed ∙ map-append part_of done (e ∷ []) in
    let rest : map part_of left_new ++ map part_of right_new ≡ map part_of (drop i left) ++ map part_of (drop j right) =
    λ k. map part_of (cut_left k) ++ map part_of (cut_right k) in
    let P : List Part → Type 0 = λ z. SameTotals (z ++ (map part_of left_new ++ map part_of right_new)) all in
    let Q : List Part → Type 0 = λ z. SameTotals ((map part_of done ++ part_of e ∷ []) ++ z) all in
    subst P (sym parts) (subst Q (sym rest)
    (totals-step (map part_of done) (map part_of left ++ map part_of right) (map part_of (drop i left) ++ map part_of (drop j right)) all (part_of e) before here))

-- what the first of two lists have alike
pub heads : {X : Type 0} (f : HistSum → X) (left right : List HistSum) (x y : HistSum) → 0 < length left → 0 < length right
    → x ≡ get_or left 0 x → y ≡ get_or right 0 y → ((d : HistSum) → f (get_or left 0 d) ≡ f (get_or right 0 d)) → f x ≡ f y
heads f [] right x y some more first second same = absurd (omega arith)
heads f (u ∷ us) [] x y some more first second same = absurd (omega arith)
heads f (u ∷ us) (v ∷ vs) x y some more first second same = ap f first ∙ (same x ∙ sym (ap f second))
