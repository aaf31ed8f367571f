-- The order of histograms.
use Rattle.std.proofs.Common.{◌≡◌, ◌<◌, ℕ, List, [], ◌∷◌, ◌++◌, length, drop, get_or, ap, sym, subst, ◌∙◌, arith}
use Rattle.std.specs.Cmp.{IsTotalOrder}
use Rattle.std.specs.Ordering.{nat_cmp, ordering_then, ordering_reverse}
use Rattle.std.specs.Cmp.Lexicographic.{slice_cmp}
use Rattle.std.specs.List.{All}
use Rattle.std.specs.List.Sorted.{IsStrictlySortedBy}
use Rattle.std.specs.declared.cmp.Ordering.TheVariants.{Less, Equal, Greater}
use Rattle.std.proofs.lemmas.Cmp.{nat_list_cmp_total, on_total, then_total, tied_itself}
use Rattle.std.proofs.lemmas.List.Elements.{All-drop, All-head, All-nil, All-push}
use Rattle.reading_sums.specs.declared.hist.HistSum.{HistSum}
use Rattle.reading_sums.specs.Orders.{hist_cmp, spec_numbers, ComesNext}
use Rattle.reading_sums.specs.Totals.{Part}
use Rattle.reading_sums.specs.Views.{part_of}
use Rattle.reading_sums.specs.Whole.{AreWhole, IsInRange, IsWholeList, IsWholeHist}
use Rattle.reading_sums.proofs.Ascending.{left-next, right-next, both-next}

pub hist-total : IsTotalOrder hist_cmp
hist-total = then_total (on_total (λ (h : HistSum). h.name.items) nat_list_cmp_total) (on_total (λ (h : HistSum). spec_numbers h.spec) nat_list_cmp_total)

-- if one is above, the other is below
pub turned : (a b : HistSum) → hist_cmp a b ≡ Greater → hist_cmp b a ≡ Less
turned a b above = hist-total.antisymm b a ∙ ap ordering_reverse above

-- histograms of one name and spec
pub alike : (e x : HistSum) → e.name.items ≡ x.name.items → e.spec ≡ x.spec → hist_cmp e x ≡ Equal
alike e x names specs =
    (λ i. ordering_then (slice_cmp nat_cmp (names i) x.name.items) (slice_cmp nat_cmp (spec_numbers (specs i)) (spec_numbers x.spec)))
    ∙ tied_itself hist-total x

alike-part : (e x y : HistSum) → part_of e ≡ part_of x → x ≡ y → hist_cmp e y ≡ Equal
alike-part e x y same is =
    alike e y (ap (λ (p : Part). p.name) same ∙ ap (λ (h : HistSum). h.name.items) is) (ap (λ (p : Part). p.spec) same ∙ ap (λ (h : HistSum). h.spec) is)

pub left-hist : (a b : List HistSum) (x e : HistSum) → 0 < length a → x ≡ get_or a 0 x → part_of e ≡ part_of x
    → ((d : HistSum) → 0 < length b → hist_cmp (get_or a 0 d) (get_or b 0 d) ≡ Less) → ComesNext hist_cmp e 1 0 a b
left-hist [] b x e some is same below = absurd (omega arith)
left-hist (y ∷ ys) b x e some is same below = left-next hist-total (y ∷ ys) b e some (λ d. alike-part e x y same is) below

pub right-hist : (a b : List HistSum) (x e : HistSum) → 0 < length b → x ≡ get_or b 0 x → part_of e ≡ part_of x
    → ((d : HistSum) → 0 < length a → hist_cmp (get_or b 0 d) (get_or a 0 d) ≡ Less) → ComesNext hist_cmp e 0 1 a b
right-hist a [] x e some is same below = absurd (omega arith)
right-hist a (y ∷ ys) x e some is same below = right-next hist-total a (y ∷ ys) e some (λ d. alike-part e x y same is) below

pub both-hist : (a b : List HistSum) (x y e : HistSum) → 0 < length a → 0 < length b → x ≡ get_or a 0 x → y ≡ get_or b 0 y
    → x.name.items ≡ y.name.items → x.spec ≡ y.spec → e.name.items ≡ x.name.items → e.spec ≡ x.spec → ComesNext hist_cmp e 1 1 a b
both-hist [] b x y e some more first second names specs name spec = absurd (omega arith)
both-hist (u ∷ us) [] x y e some more first second names specs name spec = absurd (omega arith)
both-hist (u ∷ us) (v ∷ vs) x y e some more first second names specs name spec =
    both-next hist-total (u ∷ us) (v ∷ vs) e some more
    (λ d. alike e u (name ∙ ap (λ (h : HistSum). h.name.items) first) (spec ∙ ap (λ (h : HistSum). h.spec) first))
    (λ d. alike e v (name ∙ (names ∙ ap (λ (h : HistSum). h.name.items) second)) (spec ∙ (specs ∙ ap (λ (h : HistSum). h.spec) second)))

-- if the first of one list is above that of the other
pub first-above : (a b : List HistSum) (x y : HistSum) → 0 < length a → 0 < length b → x ≡ get_or a 0 x → y ≡ get_or b 0 y
    → hist_cmp x y ≡ Greater → (d : HistSum) → hist_cmp (get_or b 0 d) (get_or a 0 d) ≡ Less
first-above [] b x y some more first second above d = absurd (omega arith)
first-above (u ∷ us) [] x y some more first second above d = absurd (omega arith)
first-above (u ∷ us) (v ∷ vs) x y some more first second above d = turned u v ((λ i. hist_cmp (sym first i) (sym second i)) ∙ above)

-- ---- whole ones

-- what holds of all in a list, holds of its first
pub first-has : (P : HistSum → Type 0) (a : List HistSum) (x : HistSum) → 0 < length a → x ≡ get_or a 0 x → All P a → P x
first-has P [] x some is all = absurd (omega arith)
first-has P (y ∷ ys) x some is all = subst P (sym is) (All-head P y ys all)

-- a copy of one that is whole
pub copy-whole : (e x : HistSum) → part_of e ≡ part_of x → IsWholeHist x → IsWholeHist e
copy-whole e x same whole = subst (λ (p : Part). IsWholeList p.spec p.keys) (sym same) whole

-- what holds of all in both lists, holds of what comes next, and so, after a step, of what was taken and of what is left
pub all-step : (P : HistSum → Type 0) (done new a b a_new b_new : List HistSum) (e : HistSum) (i j : ℕ) → new ≡ done ++ e ∷ [] → a_new ≡ drop i a
    → b_new ≡ drop j b → (All P a → All P b → P e) → All P done × All P a × All P b → All P new × All P a_new × All P b_new
all-step P done new a b a_new b_new e i j pushed cut_a cut_b next before = (
  subst (All P) (sym pushed) (All-push P done e before.0 (next before.1 before.2)),
  subst (All P) (sym cut_a) (All-drop P i a before.1),
  subst (All P) (sym cut_b) (All-drop P j b before.2),
)

-- no histograms
pub none-whole : (hists : List HistSum) → hists ≡ [] → AreWhole hists
unfolding IsStrictlySortedBy
none-whole [] none = record { ascending = tt; whole = All-nil IsWholeHist; range = All-nil IsInRange }
none-whole (x ∷ xs) none = absurd (cc)
