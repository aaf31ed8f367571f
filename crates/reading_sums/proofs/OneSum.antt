-- Two well-formed sums with the same totals have the same parts.
use Rattle.std.proofs.Common.{◌≡◌, true, false, List, [], ◌∷◌, map, refl, sym, subst, ◌∙◌, nat_cmp}
use Rattle.std.specs.Cmp.Lexicographic.{slice_cmp}
use Rattle.std.specs.List.{All, AllByRecursion}
use Rattle.std.specs.List.Sorted.{IsStrictlySortedBy}
use Rattle.std.specs.declared.cmp.Ordering.{Ordering}
use Rattle.std.specs.declared.cmp.Ordering.TheVariants.{Less, Equal, Greater}
use Rattle.std.proofs.lemmas.List.Elements.{All-head, All-tail}
use Rattle.bucket_ranges.specs.declared.spec.Spec.{Spec}
use Rattle.bucket_ranges.specs.declared.spec.Spec.TheVariants.{Linear, Boolean, Custom, Sparse}
use Rattle.reading_sums.specs.declared.hist.HistSum.{HistSum}
use Rattle.reading_sums.specs.declared.sums.Sums.{Sums}
use Rattle.reading_sums.specs.Orders.{hist_cmp, spec_cmp, spec_numbers}
use Rattle.reading_sums.specs.Sums.{HaveSameSum}
use Rattle.reading_sums.specs.Totals.{Part, SameTotals}
use Rattle.reading_sums.specs.Totals.Feature.{IsUpTo}
use Rattle.reading_sums.specs.Views.{part_of, parts_of}
use Rattle.reading_sums.specs.Whole.{IsWellFormed, IsWholeHist}
use Rattle.reading_sums.proofs.Ascending.{all-above}
use Rattle.reading_sums.proofs.HistOrder.{hist-total, turned}
use Rattle.reading_sums.proofs.Matched.{apart-hists, first-had}
use Rattle.reading_sums.proofs.Orders.{lists-equal, then-equal}
use Rattle.reading_sums.proofs.SameParts.{NoneOf, first-same, had-none, rest-same}
use Rattle.reading_sums.proofs.Totals.{same-sym}

-- ---- histograms that are equal in their order

numbers-known : (a b : Spec) → spec_numbers a ≡ spec_numbers b → a ≡ b
numbers-known (Linear min max n) (Linear other_min other_max other_n) e = cc
numbers-known (Linear min max n) Boolean e = absurd (cc)
numbers-known (Linear min max n) (Custom values) e = absurd (cc)
numbers-known (Linear min max n) Sparse e = absurd (cc)
numbers-known Boolean (Linear min max n) e = absurd (cc)
numbers-known Boolean Boolean e = refl
numbers-known Boolean (Custom values) e = absurd (cc)
numbers-known Boolean Sparse e = absurd (cc)
numbers-known (Custom values) (Linear min max n) e = absurd (cc)
numbers-known (Custom values) Boolean e = absurd (cc)
numbers-known (Custom values) (Custom others) e = cc
numbers-known (Custom values) Sparse e = absurd (cc)
numbers-known Sparse (Linear min max n) e = absurd (cc)
numbers-known Sparse Boolean e = absurd (cc)
numbers-known Sparse (Custom values) e = absurd (cc)
numbers-known Sparse Sparse e = refl

same-place : (x y : HistSum) → hist_cmp x y ≡ Equal → (x.name.items ≡ y.name.items) × (x.spec ≡ y.spec)
same-place x y e =
    let both = then-equal (slice_cmp nat_cmp x.name.items y.name.items) (spec_cmp x.spec y.spec) e in
    (lists-equal x.name.items y.name.items both.0, numbers-known x.spec y.spec (lists-equal (spec_numbers x.spec) (spec_numbers y.spec) both.1))

-- ---- the first of two lists with the same totals

-- it is not below the first of the other list, which then would not have it
not-below : (x y : HistSum) (xs ys : List HistSum) → hist_cmp x y ≡ Less → AllByRecursion (λ z. hist_cmp y z ≡ Less) ys → IsWholeHist x
    → All IsWholeHist (y ∷ ys) → SameTotals (map part_of (x ∷ xs)) (map part_of (y ∷ ys)) → true ≡ false
not-below x y xs ys below above first whole same =
    let part : Part = part_of x in
    let none : NoneOf part.name part.spec (map part_of (y ∷ ys)) = apart-hists x (y ∷ ys) (below, all-above hist-total x y ys below above) first whole in
    sym (first-had part (map part_of xs)) ∙ (same.features (IsUpTo part.least) part.name part.spec ∙ had-none (IsUpTo part.least) part.name part.spec (map part_of (y ∷ ys)) none)

first-known : (o : Ordering) (x y : HistSum) (xs ys : List HistSum) → hist_cmp x y ≡ o → IsStrictlySortedBy hist_cmp (x ∷ xs)
    → IsStrictlySortedBy hist_cmp (y ∷ ys) → All IsWholeHist (x ∷ xs) → All IsWholeHist (y ∷ ys) → SameTotals (map part_of (x ∷ xs)) (map part_of (y ∷ ys))
    → (SameTotals (map part_of xs) (map part_of ys) → map part_of xs ≡ map part_of ys) → map part_of (x ∷ xs) ≡ map part_of (y ∷ ys)
unfolding IsStrictlySortedBy
first-known Less x y xs ys is first second whole all same rest =
    let wrong : true ≡ false = not-below x y xs ys is second.0 (All-head IsWholeHist x xs whole) all same in absurd (cc)
first-known Greater x y xs ys is first second whole all same rest =
    let wrong : true ≡ false =
    not-below y x ys xs (turned x y is) first.0 (All-head IsWholeHist y ys all) whole (same-sym (map part_of (x ∷ xs)) (map part_of (y ∷ ys)) same) in absurd (cc)
first-known Equal x y xs ys is first second whole all same rest =
    let place = same-place x y is in
    let first_whole = All-head IsWholeHist x xs whole in
    let other_whole = All-head IsWholeHist y ys all in
    let apart : NoneOf x.name.items x.spec (map part_of xs) = apart-hists x xs first.0 first_whole (All-tail IsWholeHist x xs whole) in
    let no_other : NoneOf y.name.items y.spec (map part_of ys) = apart-hists y ys second.0 other_whole (All-tail IsWholeHist y ys all) in
    let head : part_of x ≡ part_of y =
    first-same (part_of x) (part_of y) (map part_of xs) (map part_of ys) place.0 place.1 first_whole.ascending other_whole.ascending apart no_other same in
    let P : Part → Type 0 = λ part. SameTotals (part_of x ∷ map part_of xs) (part ∷ map part_of ys) in
    let Q : Part → Type 0 = λ part. NoneOf part.name part.spec (map part_of ys) in
    let behind : map part_of xs ≡ map part_of ys =
    rest (rest-same (part_of x) (map part_of xs) (map part_of ys) apart (subst Q (sym head) no_other) (subst P (sym head) same)) in
    λ i. head i ∷ behind i

parts-known : (xs ys : List HistSum) → IsStrictlySortedBy hist_cmp xs → IsStrictlySortedBy hist_cmp ys → All IsWholeHist xs → All IsWholeHist ys
    → SameTotals (map part_of xs) (map part_of ys) → map part_of xs ≡ map part_of ys
unfolding IsStrictlySortedBy
parts-known [] [] first second whole all same = refl
parts-known [] (y ∷ ys) first second whole all same =
    let part : Part = part_of y in
    let wrong : false ≡ true = same.features (IsUpTo part.least) part.name part.spec ∙ first-had part (map part_of ys) in absurd (cc)
parts-known (x ∷ xs) [] first second whole all same =
    let part : Part = part_of x in
    let wrong : true ≡ false = sym (first-had part (map part_of xs)) ∙ same.features (IsUpTo part.least) part.name part.spec in absurd (cc)
parts-known (x ∷ xs) (y ∷ ys) first second whole all same =
    first-known (hist_cmp x y) x y xs ys refl first second whole all same
    (parts-known xs ys first.1 second.1 (All-tail IsWholeHist x xs whole) (All-tail IsWholeHist y ys all))

-- well-formed sums that are the same have the same parts
pub one-sum : (a b : Sums) → IsWellFormed a → IsWellFormed b → HaveSameSum a b → parts_of a ≡ parts_of b
one-sum a b first second same = parts-known a.hists.items b.hists.items first.ascending second.ascending first.whole second.whole same.hists
