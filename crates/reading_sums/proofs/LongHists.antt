-- Histograms that do not fit together.
use Rattle.std.proofs.Common.{◌≡◌, ◌<◌, ◌≤◌, ◌^◌, ◌+◌, ⊎_elim, inl, inr, Bool, true, false, ℕ, zero, suc, ◌+ℤ◌, List, [], ◌∷◌, ◌++◌, map, length, get_or, sum_by, if◌then◌else◌, refl, ap, sym, subst, ◌∙◌, arith}
use Rattle.std.specs.Ordering.{int_eq}
use Rattle.std.specs.List.{All, Contains}
use Rattle.std.specs.List.Sorted.{IsStrictlySortedBy}
use Rattle.std.specs.declared.cmp.Ordering.TheVariants.{Less, Equal}
use Rattle.std.proofs.Math.IntN.{+ℤ_idl}
use Rattle.std.proofs.lemmas.Int.{ints}
use Rattle.std.proofs.lemmas.List.Elements.{All-head, All-tail, All-contains}
use Rattle.std.proofs.lemmas.List.Sums.{sum_by-append, sum_by-cons}
use Rattle.std.proofs.lemmas.Map.Keys.{Less-from_sorted}
use Rattle.bucket_ranges.specs.declared.spec.Spec.{Spec}
use Rattle.reading_sums.specs.declared.fault.SumsFault.{SumsFault}
use Rattle.reading_sums.specs.declared.fault.SumsFault.TheVariants.{NoMemory, TooMany}
use Rattle.reading_sums.specs.declared.hist.HistSum.{HistSum}
use Rattle.reading_sums.specs.declared.key.KeySum.{KeySum}
use Rattle.reading_sums.specs.Fitting.{PartsDoNotFit, HavePairTooGreat, IfTooMany, TotalDoesNotFit, KeysDoNotFit, PairDoesNotFit, all_units}
use Rattle.reading_sums.specs.Orders.{hist_cmp}
use Rattle.reading_sums.specs.Totals.Quantity.{Marks, Redundant, Images}
use Rattle.reading_sums.specs.Totals.{Part, Quantity, is_of, quantity_of, total}
use Rattle.reading_sums.specs.Views.{part_of}
use Rattle.reading_sums.specs.Whole.{AreWhole, IsWholeHist, units_of}
use Rattle.reading_sums.proofs.HistOrder.{alike}
use Rattle.reading_sums.proofs.Matched.{apart-hists}
use Rattle.reading_sums.proofs.SameParts.{NoneOf, total-none, total-first}
use Rattle.reading_sums.proofs.SameSpecs.{is_of-true, is_of-itself, spec-is}
use Rattle.reading_sums.proofs.Totals.{total-append}

-- ---- two histograms

-- their keys
keys-so : (a b : Part) → KeysDoNotFit (a.keys ++ b.keys) → PairDoesNotFit a b
keys-so a b many =
    ⊎_elim
    (λ units. inl (omega (arith, units, sum_by-append (λ (key : KeySum). key.units) a.keys b.keys)))
    (λ marks.
    let both = sum_by-append (λ (key : KeySum). if int_eq key.value marks.0 then key.marks else 0) a.keys b.keys in
    let long = marks.1 in inr (Marks marks.0, omega (arith, ints, both, long)))
    many

keys-long : (a b : Part) (here there : List KeySum) → here ≡ a.keys → there ≡ b.keys → KeysDoNotFit (here ++ there) → PairDoesNotFit a b
keys-long a b here there first second many = keys-so a b (subst KeysDoNotFit (λ i. first i ++ second i) many)

-- their redundant counts
pub redundant-long : (a b : Part) → 2 ^ 64 ≤ a.redundant + b.redundant → PairDoesNotFit a b
redundant-long a b long = inr (Redundant, omega (arith, ints, long))

-- how many images have them
pub images-long : (a b : Part) → 2 ^ 64 ≤ a.images + b.images → PairDoesNotFit a b
images-long a b long = inr (Images, omega (arith, ints, long))

-- ---- in two lists

-- the first ones
pair-here : (left right : List HistSum) (x y : HistSum) → 0 < length left → 0 < length right → x ≡ get_or left 0 x → y ≡ get_or right 0 y
    → x.name.items ≡ y.name.items → x.spec ≡ y.spec → PairDoesNotFit (part_of x) (part_of y) → HavePairTooGreat left right
pair-here left right x y some more first second names specs many = record {
  one = x;
  other = y;
  is_left = (0, some, sym first);
  is_right = (0, more, sym second);
  name = names;
  spec = specs;
  many = many;
}

-- the same for lists that are among others
pair-among : (left right here there : List HistSum) → ((x : HistSum) → Contains here x → Contains left x)
    → ((x : HistSum) → Contains there x → Contains right x) → HavePairTooGreat here there → HavePairTooGreat left right
pair-among left right here there first second pair = record {
  one = pair.one;
  other = pair.other;
  is_left = first pair.one pair.is_left;
  is_right = second pair.other pair.is_right;
  name = pair.name;
  spec = pair.spec;
  many = pair.many;
}

-- ---- a part alone of its name and spec

record IsAlone (part : Part) (parts : List Part) : Type 0 where
  pub front : List Part
  pub behind : List Part
  pub there : parts ≡ front ++ part ∷ behind
  pub none_before : NoneOf part.name part.spec front
  pub none_behind : NoneOf part.name part.spec behind

-- a part that comes before it is not one of them
apart-before : (x y : HistSum) (t : Bool) → is_of x.name.items x.spec (part_of y) ≡ t → hist_cmp y x ≡ Less → IsWholeHist x → IsWholeHist y → t ≡ false
apart-before x y true is below first second =
    let of = is_of-true x.name.items x.spec (part_of y) is in
    let same = spec-is x.name.items x.spec (part_of y) of second.form first.form in
    let equal : hist_cmp y x ≡ Equal = alike y x of.name same in
    let wrong : Less ≡ Equal = sym below ∙ equal in absurd (cc)
apart-before x y false is below first second = refl

alone-at : (x : HistSum) (hists : List HistSum) (k : ℕ) → k < length hists → get_or hists k x ≡ x → IsStrictlySortedBy hist_cmp hists → All IsWholeHist hists
    → IsWholeHist x → IsAlone (part_of x) (map part_of hists)
unfolding IsStrictlySortedBy
alone-at x [] k within is up whole one = absurd (omega arith)
alone-at x (y ∷ ys) zero within is up whole one =
    let P : HistSum → Type 0 = λ z. IsAlone (part_of z) (part_of y ∷ map part_of ys) in
    subst P is record {
      front = [];
      behind = map part_of ys;
      there = refl;
      none_before = tt;
      none_behind = apart-hists y ys up.0 (All-head IsWholeHist y ys whole) (All-tail IsWholeHist y ys whole);
    }
alone-at x (y ∷ ys) (suc k) within is up whole one =
    let rest = alone-at x ys k (omega arith) is up.1 (All-tail IsWholeHist y ys whole) one in
    let less : hist_cmp y x ≡ Less = (λ i. hist_cmp y (sym is i)) ∙ Less-from_sorted hist_cmp (y ∷ ys) 0 (suc k) x up (omega arith) within in record {
      front = part_of y ∷ rest.front;
      behind = rest.behind;
      there = ap (λ z. part_of y ∷ z) rest.there;
      none_before = (
        apart-before x y (is_of x.name.items x.spec (part_of y)) refl less one (All-head IsWholeHist y ys whole),
        rest.none_before,
      );
      none_behind = rest.none_behind;
    }

stands-alone : (x : HistSum) (hists : List HistSum) → AreWhole hists → Contains hists x → IsAlone (part_of x) (map part_of hists)
stands-alone x hists are has = alone-at x hists has.0 has.1 has.2 are.ascending are.whole (All-contains IsWholeHist hists x are.whole has)

alone-total : (quantity : Quantity) (part : Part) (parts : List Part) → IsAlone part parts → total quantity part.name part.spec parts ≡ quantity_of quantity part
alone-total quantity part parts alone =
    ap (total quantity part.name part.spec) alone.there ∙ (total-append quantity part.name part.spec alone.front (part ∷ alone.behind)
    ∙ ((λ i. total-none quantity part.name part.spec alone.front alone.none_before i +ℤ total-first quantity part alone.behind alone.none_behind i)
    ∙ +ℤ_idl (quantity_of quantity part)))

units-none : (name : List ℕ) (spec : Spec) (parts : List Part) → NoneOf name spec parts → all_units name spec parts ≡ 0
units-none name spec [] none = refl
units-none name spec (part ∷ rest) none =
    sum_by-cons (λ p. if is_of name spec p then units_of p.keys else 0) part rest
    ∙ (λ i. (if none.0 i then units_of part.keys else 0) + units-none name spec rest none.1 i)

alone-units : (part : Part) (parts : List Part) → IsAlone part parts → all_units part.name part.spec parts ≡ units_of part.keys
alone-units part parts alone =
    let f : Part → ℕ = λ p. if is_of part.name part.spec p then units_of p.keys else 0 in
    let here : f part ≡ units_of part.keys = ap (λ t. if t then units_of part.keys else 0) (is_of-itself part) in
    let before : sum_by f alone.front ≡ 0 = units-none part.name part.spec alone.front alone.none_before in
    let behind : sum_by f alone.behind ≡ 0 = units-none part.name part.spec alone.behind alone.none_behind in
    let whole : sum_by f parts ≡ sum_by f (alone.front ++ part ∷ alone.behind) = ap (sum_by f) alone.there in
    let all : sum_by f parts ≡ units_of part.keys =
    omega (arith, here, before, behind, whole, sum_by-append f alone.front (part ∷ alone.behind), sum_by-cons f part alone.behind) in all

-- ---- what does not fit of a pair, does not fit of both lists

both-pass : (a b x y n : ℕ) → a ≡ x → b ≡ y → n ≤ x + y → n ≤ a + b
both-pass a b x y n first second long = omega (arith, first, second, long)

parts-long : (a b : Part) (xs ys : List Part) → a.name ≡ b.name → a.spec ≡ b.spec → IsAlone a xs → IsAlone b ys → PairDoesNotFit a b → PartsDoNotFit (xs ++ ys)
parts-long a b xs ys names specs first second many =
    let f : Part → ℕ = λ p. if is_of a.name a.spec p then units_of p.keys else 0 in
    ⊎_elim
    (λ units.
    let other : all_units a.name a.spec ys ≡ units_of b.keys = (λ i. all_units (names i) (specs i) ys) ∙ alone-units b ys second in (
      a.name,
      a.spec,
      inl (subst (λ n. 2 ^ 64 ≤ n) (sym (sum_by-append f xs ys))
          (both-pass (sum_by f xs) (sum_by f ys) (units_of a.keys) (units_of b.keys) (2 ^ 64) (alone-units a xs first) other units)),
    ))
    (λ some.
    let other : total some.0 a.name a.spec ys ≡ quantity_of some.0 b = (λ i. total some.0 (names i) (specs i) ys) ∙ alone-total some.0 b ys second in (
      a.name,
      a.spec,
      inr (
        some.0,
        subst (TotalDoesNotFit some.0)
            (sym (total-append some.0 a.name a.spec xs ys ∙ (λ i. alone-total some.0 a xs first i +ℤ other i))) some.1,
      ),
    ))
    many

pair-long : (left right : List HistSum) → HavePairTooGreat left right → AreWhole left → AreWhole right → PartsDoNotFit (map part_of left ++ map part_of right)
pair-long left right pair one other =
    parts-long (part_of pair.one) (part_of pair.other) (map part_of left) (map part_of right) pair.name pair.spec
    (stands-alone pair.one left one pair.is_left) (stands-alone pair.other right other pair.is_right) pair.many

-- and so a fault of lists that are among them is right
pub lists-long : (fault : SumsFault) (left right here there : List HistSum) → ((x : HistSum) → Contains here x → Contains left x)
    → ((x : HistSum) → Contains there x → Contains right x) → IfTooMany fault (HavePairTooGreat here there)
    → IfTooMany fault (AreWhole left → AreWhole right → PartsDoNotFit (map part_of left ++ map part_of right))
lists-long NoMemory left right here there first second told = tt
lists-long TooMany left right here there first second told = λ one other.
    pair-long left right (pair-among left right here there first second told) one other

-- and a fault of the first ones of lists
pub firsts-long : (fault : SumsFault) (left right : List HistSum) (x y : HistSum) → 0 < length left → 0 < length right → x ≡ get_or left 0 x → y ≡ get_or right 0 y
    → x.name.items ≡ y.name.items → x.spec ≡ y.spec → IfTooMany fault (PairDoesNotFit (part_of x) (part_of y)) → IfTooMany fault (HavePairTooGreat left right)
firsts-long NoMemory left right x y some more first second names specs told = tt
firsts-long TooMany left right x y some more first second names specs told = pair-here left right x y some more first second names specs told

-- and a fault of the keys of two
pub fault-keys : (fault : SumsFault) (a b : Part) (here there : List KeySum) → here ≡ a.keys → there ≡ b.keys → IfTooMany fault (KeysDoNotFit (here ++ there))
    → IfTooMany fault (PairDoesNotFit a b)
fault-keys NoMemory a b here there first second told = tt
fault-keys TooMany a b here there first second told = keys-long a b here there first second told
