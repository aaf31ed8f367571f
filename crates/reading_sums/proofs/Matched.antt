-- The histograms of a sum of one reading are those of the reading, in another order.
use Rattle.std.proofs.Common.{◌≡◌, Bool, true, false, ◌&&◌, ◌||◌, nat_le, ℕ, List, [], ◌∷◌, ◌++◌, map, refl, ap, sym, subst, ◌∙◌, arith, IsPermutation}
use Rattle.std.specs.Str.{bytes_eq}
use Rattle.std.specs.List.{All, AllByRecursion}
use Rattle.std.specs.List.Sorted.{IsStrictlySortedBy}
use Rattle.std.specs.declared.cmp.Ordering.TheVariants.{Less, Equal}
use Rattle.std.proofs.lemmas.Bool.{and_from, or_left}
use Rattle.std.proofs.lemmas.Bool.Decides.{nat_tests}
use Rattle.std.proofs.lemmas.List.{map-append}
use Rattle.std.proofs.lemmas.List.Elements.{All-head, All-tail}
use Rattle.std.proofs.lemmas.List.Sorted.{IsPermutation-refl, IsPermutation-sym, IsPermutation-cons, IsPermutation-trans, IsPermutation-middle, All-permutation}
use Rattle.std.proofs.lemmas.Map.Keys.{IsDistinct-head, IsDistinct-tail}
use Rattle.std.proofs.lemmas.Slice.Eq.{bytes_eq-Decides}
use Rattle.bucket_ranges.specs.declared.spec.Spec.{Spec}
use Rattle.bucket_ranges.specs.Reading.{Histogram}
use Rattle.reading_sums.specs.declared.hist.HistSum.{HistSum}
use Rattle.reading_sums.specs.Orders.{hist_cmp}
use Rattle.reading_sums.specs.Totals.{Part, Feature, SameTotals, part_from, is_of, is_had, has_feature, same_spec}
use Rattle.reading_sums.specs.Totals.Feature.{IsUpTo}
use Rattle.reading_sums.specs.Views.{part_of}
use Rattle.reading_sums.specs.Whole.{HasNamesOnce, IsWholeHist, IsWholeHistogram}
use Rattle.reading_sums.proofs.HistOrder.{alike}
use Rattle.reading_sums.proofs.OneReading.{once-moved}
use Rattle.reading_sums.proofs.SameSpecs.{is_of-true, is_of-itself, spec-is}
use Rattle.reading_sums.proofs.SameParts.{NoneOf, first-same, rest-same}
use Rattle.reading_sums.proofs.Totals.{same-trans, same-sym, same-equal, second-first}

-- ---- no two are of one name and one spec

-- of a sum: they ascend
apart-here : (x y : HistSum) (t : Bool) → is_of x.name.items x.spec (part_of y) ≡ t → hist_cmp x y ≡ Less → IsWholeHist x → IsWholeHist y → t ≡ false
apart-here x y true is below first second =
    let of = is_of-true x.name.items x.spec (part_of y) is in
    let same = spec-is x.name.items x.spec (part_of y) of second.form first.form in
    let equal : hist_cmp x y ≡ Equal = alike x y (sym of.name) (sym same) in
    let wrong : Less ≡ Equal = sym below ∙ equal in absurd (cc)
apart-here x y false is below first second = refl

pub apart-hists : (x : HistSum) (xs : List HistSum) → AllByRecursion (λ y. hist_cmp x y ≡ Less) xs → IsWholeHist x → All IsWholeHist xs
    → NoneOf x.name.items x.spec (map part_of xs)
apart-hists x [] below whole all = tt
apart-hists x (y ∷ ys) below whole all = (
  apart-here x y (is_of x.name.items x.spec (part_of y)) refl below.0 whole (All-head IsWholeHist y ys all),
  apart-hists x ys below.1 whole (All-tail IsWholeHist y ys all),
)

-- of a reading: each name is there once
apart-names : (number : ℕ) (hist : Histogram) (hists : List Histogram) → AllByRecursion (λ name. bytes_eq hist.name name ≡ false) (map (λ (h : Histogram). h.name) hists)
    → NoneOf hist.name hist.spec (map (part_from number) hists)
apart-names number hist [] once = tt
apart-names number hist (other ∷ rest) once =
    (other-name (bytes_eq other.name hist.name) refl, apart-names number hist rest once.1)
  where
    other-name : (t : Bool) → bytes_eq other.name hist.name ≡ t → is_of hist.name hist.spec (part_from number other) ≡ false
    other-name true is =
        let wrong : true ≡ false = sym ((bytes_eq-Decides hist.name other.name).1 (sym ((bytes_eq-Decides other.name hist.name).0 is))) ∙ once.0 in absurd (cc)
    other-name false is = ap (λ t. t && same_spec other.spec hist.spec) is

-- ---- the place of a histogram with a name and a spec

-- a list with a histogram of this name and spec
pub record HasOneOf (number : ℕ) (name : List ℕ) (spec : Spec) (hists : List Histogram) : Type 0 where
  pub front : List Histogram
  pub hist : Histogram
  pub behind : List Histogram
  pub there : hists ≡ front ++ hist ∷ behind
  pub is : is_of name spec (part_from number hist) ≡ true

found-so : (feature : Feature) (number : ℕ) (name : List ℕ) (spec : Spec) (hist : Histogram) (rest : List Histogram) (t : Bool)
    → is_of name spec (part_from number hist) ≡ t → ((t && has_feature feature (part_from number hist)) || is_had feature name spec (map (part_from number) rest)) ≡ true
    → (is_had feature name spec (map (part_from number) rest) ≡ true → HasOneOf number name spec rest) → HasOneOf number name spec (hist ∷ rest)
found-so feature number name spec hist rest true is had later = record { front = []; hist = hist; behind = rest; there = refl; is = is }
found-so feature number name spec hist rest false is had later =
    let one = later had in
    record { front = hist ∷ one.front; hist = one.hist; behind = one.behind; there = ap (λ z. hist ∷ z) one.there; is = one.is }

found : (feature : Feature) (number : ℕ) (name : List ℕ) (spec : Spec) (hists : List Histogram) → is_had feature name spec (map (part_from number) hists) ≡ true
    → HasOneOf number name spec hists
found feature number name spec [] had = absurd (cc)
found feature number name spec (hist ∷ rest) had =
    found-so feature number name spec hist rest (is_of name spec (part_from number hist)) refl had (found feature number name spec rest)

le-itself : (n : ℕ) → nat_le n n ≡ true
le-itself n = grind (arith, nat_tests)

-- a list has the least number of its first part
pub first-had : (part : Part) (rest : List Part) → is_had (IsUpTo part.least) part.name part.spec (part ∷ rest) ≡ true
first-had part rest =
    or_left (is_of part.name part.spec part && nat_le part.least part.least) (is_had (IsUpTo part.least) part.name part.spec rest)
    (and_from (is_of part.name part.spec part) (nat_le part.least part.least) (is_of-itself part) (le-itself part.least))

-- ---- one list for the other

-- the histograms in the order of the parts
pub record AreParts (number : ℕ) (parts : List Part) (hists : List Histogram) : Type 0 where
  pub listed : List Histogram
  pub all : IsPermutation listed hists
  pub are : parts ≡ map (part_from number) listed

none-left : (number : ℕ) (hists : List Histogram) → SameTotals [] (map (part_from number) hists) → AreParts number [] hists
none-left number [] same = record { listed = []; all = IsPermutation-refl []; are = refl }
none-left number (hist ∷ rest) same =
    let wrong : false ≡ true = same.features (IsUpTo number) hist.name hist.spec ∙ first-had (part_from number hist) (map (part_from number) rest) in absurd (cc)

-- without the first of the sum, and without its histogram in the list
one-less : (number : ℕ) (x : HistSum) (xs : List HistSum) (hists : List Histogram) (one : HasOneOf number x.name.items x.spec hists)
    → IsStrictlySortedBy hist_cmp (x ∷ xs) → All IsWholeHist (x ∷ xs) → HasNamesOnce hists → All IsWholeHistogram hists
    → SameTotals (map part_of (x ∷ xs)) (map (part_from number) hists)
    → (HasNamesOnce (one.front ++ one.behind) → All IsWholeHistogram (one.front ++ one.behind)
    → SameTotals (map part_of xs) (map (part_from number) (one.front ++ one.behind)) → AreParts number (map part_of xs) (one.front ++ one.behind))
    → AreParts number (map part_of (x ∷ xs)) hists
unfolding IsStrictlySortedBy
one-less number x xs hists one up whole once all same rest =
    let f : Histogram → Part = part_from number in
    let left : List Histogram = one.front ++ one.behind in
    let moved : IsPermutation hists (one.hist ∷ left) =
    subst (λ z. IsPermutation z (one.hist ∷ left)) (sym one.there) (IsPermutation-middle one.front one.hist one.behind) in
    let names : HasNamesOnce (one.hist ∷ left) = once-moved hists (one.hist ∷ left) moved once in
    let wholes : All IsWholeHistogram (one.hist ∷ left) = All-permutation IsWholeHistogram hists (one.hist ∷ left) moved all in
    let first_whole = All-head IsWholeHist x xs whole in
    let hist_whole = All-head IsWholeHistogram one.hist left wholes in
    let apart = apart-hists x xs up.0 first_whole (All-tail IsWholeHist x xs whole) in
    let no_other = apart-names number one.hist left (IsDistinct-head bytes_eq one.hist.name (map (λ (h : Histogram). h.name) left) names) in
    let of = is_of-true x.name.items x.spec (f one.hist) one.is in
    let specs = spec-is x.name.items x.spec (f one.hist) of hist_whole.form first_whole.form in
    let front : map f hists ≡ map f one.front ++ f one.hist ∷ map f one.behind = ap (map f) one.there ∙ map-append f one.front (one.hist ∷ one.behind) in
    let there : SameTotals (map f hists) (f one.hist ∷ map f left) =
    same-trans (map f hists) (map f one.front ++ f one.hist ∷ map f one.behind) (f one.hist ∷ map f left)
    (same-equal (map f hists) (map f one.front ++ f one.hist ∷ map f one.behind) front)
    (same-trans (map f one.front ++ f one.hist ∷ map f one.behind) (f one.hist ∷ (map f one.front ++ map f one.behind)) (f one.hist ∷ map f left)
    (same-sym (f one.hist ∷ (map f one.front ++ map f one.behind)) (map f one.front ++ f one.hist ∷ map f one.behind)
    (second-first (f one.hist) (map f one.front) (map f one.behind)))
    (same-equal (f one.hist ∷ (map f one.front ++ map f one.behind)) (f one.hist ∷ map f left)
    (ap (λ z. f one.hist ∷ z) (sym (map-append f one.front one.behind))))) in
    let both : SameTotals (part_of x ∷ map part_of xs) (f one.hist ∷ map f left) =
    same-trans (map part_of (x ∷ xs)) (map f hists) (f one.hist ∷ map f left) same there in
    let head : part_of x ≡ f one.hist =
    first-same (part_of x) (f one.hist) (map part_of xs) (map f left) (sym of.name) (sym specs) first_whole.ascending hist_whole.ascending apart no_other both in
    let P : Part → Type 0 = λ part. SameTotals (part_of x ∷ map part_of xs) (part ∷ map f left) in
    let Q : Part → Type 0 = λ part. NoneOf part.name part.spec (map f left) in
    let behind : SameTotals (map part_of xs) (map f left) =
    rest-same (part_of x) (map part_of xs) (map f left) apart (subst Q (sym head) no_other) (subst P (sym head) both) in
    let found = rest (IsDistinct-tail bytes_eq one.hist.name (map (λ (h : Histogram). h.name) left) names) (All-tail IsWholeHistogram one.hist left wholes) behind in record {
      listed = one.hist ∷ found.listed;
      all = IsPermutation-trans (one.hist ∷ found.listed) (one.hist ∷ left) hists
          (IsPermutation-cons one.hist found.listed left found.all) (IsPermutation-sym hists (one.hist ∷ left) moved);
      are = λ i. head i ∷ found.are i;
    }

-- the parts of a well-formed sum are the histograms of whole ones with the same totals, in some order
pub are-parts : (number : ℕ) (sums : List HistSum) (hists : List Histogram) → IsStrictlySortedBy hist_cmp sums → All IsWholeHist sums
    → HasNamesOnce hists → All IsWholeHistogram hists → SameTotals (map part_of sums) (map (part_from number) hists) → AreParts number (map part_of sums) hists
unfolding IsStrictlySortedBy
are-parts number [] hists up whole once all same = none-left number hists same
are-parts number (x ∷ xs) hists up whole once all same =
    let part : Part = part_of x in
    let had : is_had (IsUpTo part.least) part.name part.spec (map (part_from number) hists) ≡ true =
    sym (same.features (IsUpTo part.least) part.name part.spec) ∙ first-had part (map part_of xs) in
    let one = found (IsUpTo part.least) number part.name part.spec hists had in
    one-less number x xs hists one up whole once all same
    (are-parts number xs (one.front ++ one.behind) up.1 (All-tail IsWholeHist x xs whole))
