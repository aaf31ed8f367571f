-- The histograms of one reading by their names.
use Rattle.std.proofs.Common.{◌≡◌, ◌+◌, true, false, ℕ, suc, List, [], ◌∷◌, get_or, map, refl, ap, sym, subst, ◌∙◌, arith, nat_cmp, IsPermutation}
use Rattle.std.specs.Ordering.{is_lt, is_eq, ordering_reverse, ordering_then}
use Rattle.std.specs.Cmp.Lexicographic.{slice_cmp}
use Rattle.std.specs.Str.{bytes_eq}
use Rattle.std.specs.List.{All, AllByRecursion, IsDistinct}
use Rattle.std.specs.List.Sorted.{IsSortedByKey, IsStrictlySortedBy}
use Rattle.std.specs.declared.cmp.Ordering.{Ordering}
use Rattle.std.specs.declared.cmp.Ordering.TheVariants.{Less, Equal, Greater}
use Rattle.std.proofs.lemmas.Cmp.{nat_list_cmp_total}
use Rattle.std.proofs.lemmas.Map.Keys.{IsDistinct-IsPermutation, IsDistinct-head, IsDistinct-tail}
use Rattle.std.proofs.lemmas.Map.Text.{is_eq-slice_cmp}
use Rattle.std.proofs.lemmas.List.Sorted.{IsPermutation-map, IsPermutation-sym, All-permutation}
use Rattle.std.proofs.lemmas.List.Elements.{All-nil, All-cons, All-head, All-tail, All-map}
use Rattle.reading_sums.specs.Totals.{Part, part_from}
use Rattle.reading_sums.specs.Views.{part_of}
use Rattle.bucket_ranges.specs.Reading.{Histogram}
use Rattle.reading_sums.specs.declared.hist.HistSum.{HistSum}
use Rattle.reading_sums.specs.Orders.{hist_cmp, spec_cmp}
use Rattle.reading_sums.specs.Whole.{HasNamesOnce, IsWholeList, IsWholeHist, IsWholeHistogram}
use Rattle.reading_sums.proofs.Ascending.{all-above}

-- a name that is not above another, and is not the same, is below it
below-name : (a b : List ℕ) (o : Ordering) → slice_cmp nat_cmp a b ≡ o → is_lt (slice_cmp nat_cmp b a) ≡ false → bytes_eq a b ≡ false
    → slice_cmp nat_cmp a b ≡ Less
below-name a b Less is up unlike = is
below-name a b Equal is up unlike =
    let e : true ≡ false = sym (ap is_eq is) ∙ (is_eq-slice_cmp a b ∙ unlike) in absurd (cc)
below-name a b Greater is up unlike =
    let e : true ≡ false = sym (ap is_lt (nat_list_cmp_total.antisymm b a ∙ ap ordering_reverse is)) ∙ up in absurd (cc)

sorted-rest : {X : Type 0} (g : X → List ℕ) (x : X) (xs : List X) → IsSortedByKey g (slice_cmp nat_cmp) (x ∷ xs) → IsSortedByKey g (slice_cmp nat_cmp) xs
sorted-rest g x xs up = λ k d least within.
    let e : suc k + 1 ≡ suc (k + 1) = omega arith in
    subst (λ n. is_lt (slice_cmp nat_cmp (g (get_or (x ∷ xs) n d)) (g (get_or xs k d))) ≡ false) e
    (up (suc k) d (omega arith) (omega (arith, within)))

-- names that ascend, each once, ascend strictly
pub names-ascend : {X : Type 0} (g : X → List ℕ) (xs : List X) → IsSortedByKey g (slice_cmp nat_cmp) xs → IsDistinct bytes_eq (map g xs)
    → IsStrictlySortedBy (slice_cmp nat_cmp) (map g xs)
unfolding IsStrictlySortedBy
names-ascend g [] up once = tt
names-ascend g (x ∷ []) up once = (tt, tt)
names-ascend g (x ∷ (y ∷ ys)) up once =
    let rest = names-ascend g (y ∷ ys) (sorted-rest g x (y ∷ ys) up) (IsDistinct-tail bytes_eq (g x) (map g (y ∷ ys)) once) in
    let here = below-name (g x) (g y) (slice_cmp nat_cmp (g x) (g y)) refl (up 0 x (omega arith) (omega arith))
    (IsDistinct-head bytes_eq (g x) (map g (y ∷ ys)) once).0 in
    ((here, all-above nat_list_cmp_total (g x) (g y) (map g ys) here rest.0), rest)

all-by-name : (x : HistSum) (xs : List HistSum) → AllByRecursion (λ z. slice_cmp nat_cmp x.name.items z ≡ Less) (map (λ (h : HistSum). h.name.items) xs)
    → AllByRecursion (λ z. hist_cmp x z ≡ Less) xs
all-by-name x [] below = tt
all-by-name x (y ∷ ys) below =
    (ap (λ o. ordering_then o (spec_cmp x.spec y.spec)) below.0, all-by-name x ys below.1)

-- histograms whose names ascend strictly
pub by-name : (hists : List HistSum) → IsStrictlySortedBy (slice_cmp nat_cmp) (map (λ (h : HistSum). h.name.items) hists)
    → IsStrictlySortedBy hist_cmp hists
unfolding IsStrictlySortedBy
by-name [] up = tt
by-name (x ∷ xs) up = (all-by-name x xs up.0, by-name xs up.1)

eq-turned : (o : Ordering) → is_eq (ordering_reverse o) ≡ is_eq o
eq-turned Less = refl
eq-turned Equal = refl
eq-turned Greater = refl

pub eq-flips : (a b : List ℕ) → bytes_eq a b ≡ bytes_eq b a
eq-flips a b =
    sym (is_eq-slice_cmp a b) ∙ (ap is_eq (nat_list_cmp_total.antisymm a b) ∙ (eq-turned (slice_cmp nat_cmp b a) ∙ is_eq-slice_cmp b a))

-- names that are there once are there once in any order
pub once-moved : (a b : List Histogram) → IsPermutation a b → HasNamesOnce a → HasNamesOnce b
once-moved a b moved once =
    IsDistinct-IsPermutation bytes_eq eq-flips (map (λ (h : Histogram). h.name) a) (map (λ (h : Histogram). h.name) b)
    (IsPermutation-map (λ (h : Histogram). h.name) a b moved) once

-- what holds of each value of a function over a list
pub all-values : {X Y : Type 0} (P : Y → Type 0) (f : X → Y) (xs : List X) → All P (map f xs) → All (λ x. P (f x)) xs
all-values P f [] all = All-nil (λ x. P (f x))
all-values P f (x ∷ xs) all =
    All-cons (λ x. P (f x)) x xs (All-head P (f x) (map f xs) all) (all-values P f xs (All-tail P (f x) (map f xs) all))

-- the histograms of a reading, as a sum of it has them
pub one-whole : (number : ℕ) (listed hists : List Histogram) (sums : List HistSum) → map part_of sums ≡ map (part_from number) listed
    → IsPermutation listed hists → All IsWholeHistogram hists → All IsWholeHist sums
one-whole number listed hists sums parts same whole =
    let W : Part → Type 0 = λ part. IsWholeList part.spec part.keys in
    let there : All IsWholeHistogram listed = All-permutation IsWholeHistogram hists listed (IsPermutation-sym listed hists same) whole in
    let all : All W (map (part_from number) listed) = All-map W (part_from number) listed there in
    all-values W part_of sums (subst (All W) (sym parts) all)
