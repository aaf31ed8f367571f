-- The walk along the histograms of two sums, from its start to its end.
use Rattle.std.proofs.Common.{◌≡◌, ◌<◌, ◌+◌, ⊎_elim, inl, inr, ℕ, ◌+ℤ◌, ℤ, List, ◌++◌, map, take, drop, get_or, ap, sym, subst, ◌∙◌, arith, nat_cmp}
use Rattle.std.specs.Ordering.{ordering_then}
use Rattle.std.specs.Cmp.Lexicographic.{slice_cmp}
use Rattle.std.specs.List.{All, Contains}
use Rattle.std.specs.List.Sorted.{IsStrictlySortedBy}
use Rattle.std.specs.declared.cmp.Ordering.{Ordering}
use Rattle.std.specs.declared.cmp.Ordering.TheVariants.{Less, Equal}
use Rattle.std.proofs.Math.Seq.{take-add}
use Rattle.std.proofs.lemmas.Bool.{cases_eq, cases_lt}
use Rattle.std.proofs.lemmas.Int.{ints}
use Rattle.std.proofs.lemmas.Simd.{map-map}
use Rattle.std.proofs.lemmas.List.{map-append, take-append-drop, get_or_default}
use Rattle.std.proofs.lemmas.List.Elements.{All-append, All-drop, All-take, All-contains, Contains-append_right}
use Rattle.std.proofs.lemmas.Map.Keys.{Less-from_sorted}
use Rattle.reading_sums.specs.declared.fault.MinusFault.{MinusFault}
use Rattle.reading_sums.specs.declared.hist.HistSum.{HistSum}
use Rattle.reading_sums.specs.Orders.{hist_cmp, spec_cmp}
use Rattle.reading_sums.specs.Since.{Frame, frame_of, AreSince, HasLess, HasSomething, HasLongAmount, HasHistNamed, HasFallen, HasChangedSpec, HasTooMany, ArePair, IsWithoutLater, IsGrown, IsReason, IsNoReason}
use Rattle.reading_sums.specs.Totals.{Part, total}
use Rattle.reading_sums.specs.Views.{part_of}
use Rattle.reading_sums.specs.Whole.{AreWhole, IsInRange, IsWholeHist}
use Rattle.reading_sums.proofs.HistOrder.{alike}
use Rattle.reading_sums.proofs.HistsWalk.{reasons}
use Rattle.reading_sums.proofs.Totals.{total-append}
use Rattle.reading_sums.proofs.Walk.{alike-ascend}

-- ---- one step

six-sum : (a b c p q r : ℤ) → a ≡ b +ℤ c → p ≡ q +ℤ r → a +ℤ p ≡ (b +ℤ q) +ℤ (c +ℤ r)
six-sum a b c p q r first second = omega (arith, ints)

parts-append : (a b c more_a more_b more_c : List Part) → AreSince a b c → AreSince more_a more_b more_c → AreSince (a ++ more_a) (b ++ more_b) (c ++ more_c)
parts-append a b c more_a more_b more_c first second = record {
  totals = λ quantity taken name spec.
      let t = total quantity name spec in
      total-append quantity name spec a more_a
      ∙ (six-sum (t a) (t b) (t c) (t more_a) (t more_b) (t more_c) (first.totals quantity taken name spec) (second.totals quantity taken name spec)
      ∙ (λ i. sym (total-append quantity name spec b more_b) i +ℤ sym (total-append quantity name spec c more_c) i));
  kept = map-append frame_of c more_c ∙ ((λ i. first.kept i ++ second.kept i) ∙ sym (map-append frame_of a more_a));
}

-- the parts so far, and those of the step
parts-front : (hists rest : List HistSum) (i m : ℕ) → rest ≡ drop i hists → map part_of (take i hists) ++ map part_of (take m rest) ≡ map part_of (take (i + m) hists)
parts-front hists rest i m cut =
    sym (map-append part_of (take i hists) (take m rest))
    ∙ ap (map part_of) (ap (λ z. take i hists ++ take m z) cut ∙ sym (take-add i m hists))

pub hists-walk : (laters earliers left rest hists more new : List HistSum) (i j m n : ℕ) → left ≡ drop i laters → rest ≡ drop j earliers → new ≡ hists ++ more
    → AreSince (map part_of (take m left)) (map part_of (take n rest)) (map part_of more)
    → AreSince (map part_of (take i laters)) (map part_of (take j earliers)) (map part_of hists)
    → AreSince (map part_of (take (i + m) laters)) (map part_of (take (j + n) earliers)) (map part_of new)
hists-walk laters earliers left rest hists more new i j m n cut_left cut_rest put step before =
    let front = parts-front laters left i m cut_left in
    let other = parts-front earliers rest j n cut_rest in
    let all : map part_of hists ++ map part_of more ≡ map part_of new = sym (map-append part_of hists more) ∙ ap (map part_of) (sym put) in
    let P : List Part → Type 0 = λ z. AreSince z (map part_of (take (j + n) earliers)) (map part_of new) in
    let Q : List Part → Type 0 = λ z. AreSince (map part_of (take i laters) ++ map part_of (take m left)) z (map part_of new) in
    let S : List Part → Type 0 = λ z. AreSince (map part_of (take i laters) ++ map part_of (take m left)) (map part_of (take j earliers) ++ map part_of (take n rest)) z in
    subst P front (subst Q other (subst S all
    (parts-append (map part_of (take i laters)) (map part_of (take j earliers)) (map part_of hists) (map part_of (take m left)) (map part_of (take n rest)) (map part_of more) before step)))

-- both lists from a place on, as the step sees them
front-whole : (laters front left : List HistSum) (i : ℕ) → front ≡ take i laters → left ≡ drop i laters → front ++ left ≡ laters
front-whole laters front left i begins cut = (λ k. begins k ++ cut k) ∙ take-append-drop i laters

front-rest : (laters earliers front rest : List HistSum) (i j : ℕ) → front ≡ take i laters → rest ≡ drop j earliers → front ++ rest ≡ take i laters ++ drop j earliers
front-rest laters earliers front rest i j begins cut = λ k. begins k ++ cut k

pub settled-walk : (laters earliers front left rest : List HistSum) (i j n : ℕ) → front ≡ take i laters → left ≡ drop i laters → rest ≡ drop j earliers
    → (IsStrictlySortedBy hist_cmp (front ++ left) → IsStrictlySortedBy hist_cmp (front ++ rest) → All (IsNoReason (front ++ left)) (take n rest))
    → (IsStrictlySortedBy hist_cmp laters → IsStrictlySortedBy hist_cmp earliers → IsStrictlySortedBy hist_cmp (take i laters ++ drop j earliers))
    → (IsStrictlySortedBy hist_cmp laters → IsStrictlySortedBy hist_cmp earliers → All (IsNoReason laters) (take j earliers))
    → IsStrictlySortedBy hist_cmp laters → IsStrictlySortedBy hist_cmp earliers → All (IsNoReason laters) (take (j + n) earliers)
settled-walk laters earliers front left rest i j n begins cut_left cut_rest step ordered before one other =
    let whole = front-whole laters front left i begins cut_left in
    let here = subst (IsStrictlySortedBy hist_cmp) (sym (front-rest laters earliers front rest i j begins cut_rest)) (ordered one other) in
    let now : All (IsNoReason laters) (take n rest) =
    subst (λ z. All (IsNoReason z) (take n rest)) whole (step (subst (IsStrictlySortedBy hist_cmp) (sym whole) one) here) in
    let all : take j earliers ++ take n rest ≡ take (j + n) earliers = ap (λ z. take j earliers ++ take n z) cut_rest ∙ sym (take-add j n earliers) in
    subst (All (IsNoReason laters)) all (All-append (IsNoReason laters) (take j earliers) (take n rest) (before one other) now)

-- ---- a reason that the rest of the earlier list gives is one that the whole gives

pub of-rest : (earliers rest : List HistSum) (j : ℕ) (e : HistSum) → rest ≡ drop j earliers → Contains rest e → Contains earliers e
of-rest earliers rest j e cut has =
    subst (λ z. Contains z e) (take-append-drop j earliers)
    (Contains-append_right (take j earliers) (drop j earliers) e (subst (λ z. Contains z e) cut has))

more-reason : (laters earliers rest : List HistSum) (j : ℕ) (fault : MinusFault) → rest ≡ drop j earliers → IsReason laters rest fault → IsReason laters earliers fault
more-reason laters earliers rest j fault cut is =
    let pair = λ (l : HistSum) (e : HistSum) (p : ArePair laters rest l e).
    let it : ArePair laters earliers l e = record { is_later = p.is_later; is_earlier = of-rest earliers rest j e cut p.is_earlier; name = p.name; spec = p.spec } in it in
    let lone = λ (e : HistSum) (name : List ℕ) (a : IsWithoutLater laters rest e name).
    let it : IsWithoutLater laters earliers e name = record { is_earlier = of-rest earliers rest j e cut a.is_earlier; has_name = a.has_name; alone = a.alone } in it in
    reasons fault (HasTooMany laters rest) (HasTooMany laters earliers) (HasFallen laters rest) (HasFallen laters earliers) (HasChangedSpec laters rest) (HasChangedSpec laters earliers)
    (λ many. (many.0, many.1, pair many.0 many.1 many.2, many.3))
    (λ name fell. ⊎_elim (λ f. inl (f.0, f.1, pair f.0 f.1 f.2, f.3, f.4)) (λ f. inr (f.0, lone f.0 name f.1, f.2, f.3)) fell)
    (λ name other. (other.0, lone other.0 name other.1, other.2)) is

pub refused-walk : (laters earliers front left rest : List HistSum) (i j : ℕ) (fault : MinusFault) → front ≡ take i laters → left ≡ drop i laters → rest ≡ drop j earliers
    → (AreWhole (front ++ left) → AreWhole (front ++ rest) → IsReason (front ++ left) rest fault)
    → (IsStrictlySortedBy hist_cmp laters → IsStrictlySortedBy hist_cmp earliers → IsStrictlySortedBy hist_cmp (take i laters ++ drop j earliers))
    → AreWhole laters → AreWhole earliers → IsReason laters earliers fault
refused-walk laters earliers front left rest i j fault begins cut_left cut_rest step ordered one other =
    let whole = front-whole laters front left i begins cut_left in
    let walked : AreWhole (take i laters ++ drop j earliers) = record {
      ascending = ordered one.ascending other.ascending;
      whole = All-append IsWholeHist (take i laters) (drop j earliers) (All-take IsWholeHist i laters one.whole) (All-drop IsWholeHist j earliers other.whole);
      range = All-append IsInRange (take i laters) (drop j earliers) (All-take IsInRange i laters one.range) (All-drop IsInRange j earliers other.range);
    } in
    let here = subst AreWhole (sym (front-rest laters earliers front rest i j begins cut_rest)) walked in
    more-reason laters earliers rest j fault cut_rest
    (subst (λ z. IsReason z rest fault) whole (step (subst AreWhole (sym whole) one) here))

-- ---- at the end

apart-below : (hists : List HistSum) (a b : HistSum) → IsStrictlySortedBy hist_cmp hists → (has_a : Contains hists a) (has_b : Contains hists b)
    → a.name.items ≡ b.name.items → a.spec ≡ b.spec → has_a.0 < has_b.0 → ⊥
apart-below hists a b up has_a has_b names specs below =
    let less = Less-from_sorted hist_cmp hists has_a.0 has_b.0 a up below has_b.1 in
    let there : get_or hists has_b.0 a ≡ b = get_or_default hists has_b.0 a b has_b.1 ∙ has_b.2 in
    let here : hist_cmp a b ≡ Less = (λ k. hist_cmp (sym has_a.2 k) (sym there k)) ∙ less in
    let wrong : Equal ≡ Less = sym (alike a b names specs) ∙ here in absurd (cc)

-- a list that ascends has one histogram of a name and a spec
one-alike : (hists : List HistSum) (a b : HistSum) → IsStrictlySortedBy hist_cmp hists → Contains hists a → Contains hists b
    → a.name.items ≡ b.name.items → a.spec ≡ b.spec → a ≡ b
one-alike hists a b up has_a has_b names specs =
    ⊎_elim
    (λ same. sym has_a.2 ∙ (ap (λ n. get_or hists n a) same ∙ (get_or_default hists has_b.0 a b has_b.1 ∙ has_b.2)))
    (λ apart. absurd (⊎_elim (λ below. apart-below hists a b up has_a has_b names specs below)
    (λ above. apart-below hists b a up has_b has_a (sym names) (sym specs) (omega (arith, apart, above))) (cases_lt has_a.0 has_b.0)))
    (cases_eq has_a.0 has_b.0)

pair-settled : (laters earliers : List HistSum) (l e : HistSum) → IsStrictlySortedBy hist_cmp laters → All (IsNoReason laters) earliers → ArePair laters earliers l e
    → (¬ HasLess (part_of l) (part_of e)) × (¬ HasLongAmount (part_of l) (part_of e))
pair-settled laters earliers l e up settled pair =
    ⊎_elim
    (λ found.
    let same : found.0 ≡ l = one-alike laters found.0 l up found.1 pair.is_later (found.2 ∙ sym pair.name) (found.3 ∙ sym pair.spec) in
    subst (λ z. (¬ HasLess (part_of z) (part_of e)) × (¬ HasLongAmount (part_of z) (part_of e))) same (found.4, found.5))
    (λ lone. absurd (lone.0 (l, pair.is_later, pair.name)))
    (All-contains (IsNoReason laters) earliers e settled pair.is_earlier)

lone-settled : (laters earliers : List HistSum) (e : HistSum) (name : List ℕ) → All (IsNoReason laters) earliers → IsWithoutLater laters earliers e name
    → (¬ HasHistNamed laters e.name.items) × (¬ HasSomething (part_of e))
lone-settled laters earliers e name settled alone =
    ⊎_elim
    (λ found. absurd (alone.alone (found.0, found.1, found.2, found.3)))
    (λ lone. lone)
    (All-contains (IsNoReason laters) earliers e settled alone.is_earlier)

-- if all are settled there is no reason
pub grown : (laters earliers : List HistSum) → IsStrictlySortedBy hist_cmp laters → All (IsNoReason laters) earliers → IsGrown laters earliers
grown laters earliers up settled = record {
  fell = λ name fallen.
      ⊎_elim
      (λ f. (pair-settled laters earliers f.0 f.1 up settled f.2).0 f.4)
      (λ f. (lone-settled laters earliers f.0 name settled f.1).1 f.3) fallen;
  other_spec = λ name other.
      (lone-settled laters earliers other.0 name settled other.1).0 (other.2.0, other.2.1, other.2.2 ∙ sym other.1.has_name);
  too_many = λ many. (pair-settled laters earliers many.0 many.1 up settled many.2).1 many.3;
}

frame_cmp : Frame → Frame → Ordering
frame_cmp a b = ordering_then (slice_cmp nat_cmp a.name b.name) (spec_cmp a.spec b.spec)

-- what whole histograms have more than others is whole
pub whole-kept : (laters hists : List HistSum) → map frame_of (map part_of hists) ≡ map frame_of (map part_of laters) → All IsWholeHist hists → All IsInRange hists
    → AreWhole laters → AreWhole hists
unfolding frame_cmp
whole-kept laters hists kept whole range are = record {
  ascending = alike-ascend frame_cmp (λ (h : HistSum). frame_of (part_of h)) hists laters
      (sym (map-map frame_of part_of hists) ∙ (kept ∙ map-map frame_of part_of laters)) are.ascending;
  whole = whole;
  range = range;
}

-- ---- what is said of lists holds of equal ones

pub same-lists : (P : List HistSum → List HistSum → Type 0) (a b here there : List HistSum) → here ≡ a → there ≡ b → P here there → P a b
same-lists P a b here there first second is = subst (λ z. P a z) second (subst (λ z. P z there) first is)
