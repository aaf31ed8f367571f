-- A histogram between others, in their order.
use Rattle.std.proofs.Common.{◌≡◌, ◌≢◌, ◌<◌, ◌-◌, ◌==◌, nat_eq, Bool, true, false, ⊎_elim, ℕ, List, [], ◌∷◌, ◌++◌, length, get_or, refl, ap, sym, subst, ◌∙◌, arith}
use Rattle.std.specs.Bool.{MatchBool, Decides}
use Rattle.std.specs.Ordering.{nat_cmp, ordering_then, ordering_reverse}
use Rattle.std.specs.Cmp.Lexicographic.{slice_cmp}
use Rattle.std.specs.List.{All, Contains}
use Rattle.std.specs.declared.cmp.Ordering.{Ordering}
use Rattle.std.specs.declared.cmp.Ordering.TheVariants.{Less, Equal, Greater}
use Rattle.std.proofs.lemmas.Bool.{cases_eq}
use Rattle.std.proofs.lemmas.Bool.Decides.{nat_tests, Decides-eqb}
use Rattle.std.proofs.lemmas.Slice.Eq.{slice_eq-Decides}
use Rattle.std.specs.Cmp.Lexicographic.{pointwise}
use Rattle.std.proofs.lemmas.Cmp.{nat_list_cmp_total}
use Rattle.std.proofs.lemmas.List.{get_or_read}
use Rattle.std.proofs.lemmas.List.Elements.{All-from_recursion, All-contains, Contains-append_left, Contains-append_right, Contains-append_cases}
use Rattle.std.proofs.lemmas.Map.Keys.{Less-from_sorted}
use Rattle.reading_sums.specs.declared.hist.HistSum.{HistSum}
use Rattle.reading_sums.specs.Orders.{hist_cmp, spec_cmp}
use Rattle.reading_sums.specs.Since.{HasHistNamed, HasAlike, StandsBetween}
use Rattle.reading_sums.proofs.Ascending.{order-front}
use Rattle.reading_sums.proofs.HistOrder.{alike}
use Rattle.reading_sums.proofs.Orders.{lists-equal}
use Rattle.reading_sums.proofs.Walk.{before-below, behind-above, rest-ascends}

-- ---- names

names-go : (o : Ordering) (x l e : HistSum) → slice_cmp nat_cmp x.name.items l.name.items ≡ o → hist_cmp x l ≡ Less → hist_cmp l e ≡ Less
    → x.name.items ≡ e.name.items → l.name.items ≡ e.name.items
names-go Less x l e is first second same =
    let turned : slice_cmp nat_cmp l.name.items x.name.items ≡ Greater = nat_list_cmp_total.antisymm l.name.items x.name.items ∙ ap ordering_reverse is in
    let above : slice_cmp nat_cmp l.name.items e.name.items ≡ Greater = ap (slice_cmp nat_cmp l.name.items) (sym same) ∙ turned in
    let wrong : Greater ≡ Less = sym (ap (λ o. ordering_then o (spec_cmp l.spec e.spec)) above) ∙ second in absurd (cc)
names-go Equal x l e is first second same = sym (lists-equal x.name.items l.name.items is) ∙ same
names-go Greater x l e is first second same =
    let wrong : Greater ≡ Less = sym (ap (λ o. ordering_then o (spec_cmp x.spec l.spec)) is) ∙ first in absurd (cc)

-- a histogram between two of one name has that name
name-between : (x l e : HistSum) → hist_cmp x l ≡ Less → hist_cmp l e ≡ Less → x.name.items ≡ e.name.items → l.name.items ≡ e.name.items
name-between x l e first second same = names-go (slice_cmp nat_cmp x.name.items l.name.items) x l e refl first second same

below-unlike : (x e : HistSum) → hist_cmp x e ≡ Less → x.name.items ≡ e.name.items → x.spec ≡ e.spec → ⊥
below-unlike x e below names specs = let wrong : Equal ≡ Less = sym (alike x e names specs) ∙ below in absurd (cc)

-- ---- in its place

befores : (before : List HistSum) (e : HistSum) (behind : List HistSum) → StandsBetween before e behind → All (λ z. hist_cmp z e ≡ Less) before
befores before e behind between =
    All-from_recursion (λ z. hist_cmp z e ≡ Less) before (before-below hist_cmp before e behind between)

behinds : (before : List HistSum) (e : HistSum) (behind : List HistSum) → StandsBetween before e behind → All (λ z. hist_cmp e z ≡ Less) behind
behinds before e behind between =
    All-from_recursion (λ z. hist_cmp e z ≡ Less) behind (behind-above hist_cmp before e behind between)

-- none of the others has its name and its spec
pub none-alike : (before : List HistSum) (e : HistSum) (behind : List HistSum) → StandsBetween before e behind → ¬ HasAlike (before ++ behind) e
none-alike before e behind between = λ has.
    ⊎_elim
    (λ there. below-unlike has.0 e (All-contains (λ z. hist_cmp z e ≡ Less) before has.0 (befores before e behind between) there) has.2 has.3)
    (λ there. below-unlike e has.0 (All-contains (λ z. hist_cmp e z ≡ Less) behind has.0 (behinds before e behind between) there) (sym has.2) (sym has.3))
    (Contains-append_cases before behind has.0 has.1)

name-before : (before : List HistSum) (e : HistSum) (behind : List HistSum) → StandsBetween before e behind
    → ((d : HistSum) → 0 < length before → (get_or before (length before - 1) d).name.items ≢ e.name.items)
    → (x : HistSum) → Contains before x → x.name.items ≡ e.name.items → ⊥
name-before before e behind between unlike x has same =
    let last = get_or before (length before - 1) x in
    let some : 0 < length before = omega (arith, has.1) in
    ⊎_elim
    (λ here. unlike x some (ap (λ n. (get_or before n x).name.items) (sym here) ∙ (ap (λ (h : HistSum). h.name.items) has.2 ∙ same)))
    (λ other.
    let up = order-front hist_cmp before (e ∷ behind) between in
    let less = Less-from_sorted hist_cmp before has.0 (length before - 1) x up (omega (arith, has.1, other)) (omega (arith, some)) in
    let below : hist_cmp x last ≡ Less = subst (λ z. hist_cmp z last ≡ Less) has.2 less in
    unlike x some (name-between x last e below (befores before e behind between (length before - 1) x (omega (arith, some))) same))
    (cases_eq has.0 (length before - 1))

name-behind : (before : List HistSum) (e : HistSum) (behind : List HistSum) → StandsBetween before e behind
    → ((d : HistSum) → 0 < length behind → (get_or behind 0 d).name.items ≢ e.name.items)
    → (x : HistSum) → Contains behind x → x.name.items ≡ e.name.items → ⊥
name-behind before e behind between unlike x has same =
    let first = get_or behind 0 x in
    let some : 0 < length behind = omega (arith, has.1) in
    ⊎_elim
    (λ here. unlike x some (ap (λ n. (get_or behind n x).name.items) (sym here) ∙ (ap (λ (h : HistSum). h.name.items) has.2 ∙ same)))
    (λ other.
    let up = (rest-ascends hist_cmp (e ∷ []) behind (rest-ascends hist_cmp before (e ∷ behind) between)) in
    let less = Less-from_sorted hist_cmp behind 0 has.0 x up (omega (arith, other)) has.1 in
    let below : hist_cmp first x ≡ Less = subst (λ z. hist_cmp first z ≡ Less) has.2 less in
    unlike x some (name-between e first x (behinds before e behind between 0 x some) below (sym same) ∙ same))
    (cases_eq has.0 0)

-- and none has its name, if those next to it do not have it
pub unnamed : (before behind : List HistSum) (e : HistSum) (one other : List ℕ) → one ≡ e.name.items → other ≡ e.name.items
    → ((d : HistSum) → 0 < length before → (get_or before (length before - 1) d).name.items ≢ one)
    → ((d : HistSum) → 0 < length behind → (get_or behind 0 d).name.items ≢ other)
    → StandsBetween before e behind → ¬ HasHistNamed (before ++ behind) e.name.items
unnamed before behind e one other is there last first between = λ has.
    ⊎_elim
    (λ found. name-before before e behind between (λ d some same. last d some (same ∙ sym is)) has.0 found has.2)
    (λ found. name-behind before e behind between (λ d some same. first d some (same ∙ sym there)) has.0 found has.2)
    (Contains-append_cases before behind has.0 has.1)

pub named-front : (before behind : List HistSum) (name here : List ℕ) → name ≡ here → HasHistNamed before name → HasHistNamed (before ++ behind) here
named-front before behind name here is has = (has.0, Contains-append_left before behind has.0 has.1, has.2 ∙ is)

pub named-behind : (before behind : List HistSum) (name here : List ℕ) → name ≡ here → HasHistNamed behind name → HasHistNamed (before ++ behind) here
named-behind before behind name here is has = (has.0, Contains-append_right before behind has.0 has.1, has.2 ∙ is)

pub some-there : (n : ℕ) → false ≡ (n == 0) → 0 < n
some-there n e = grind (arith, nat_tests)

named-so : (hists : List HistSum) (i : ℕ) (x : HistSum) (name : List ℕ) (t : Bool) → i < length hists → x ≡ get_or hists i x → Decides t (x.name.items ≡ name)
    → MatchBool t (HasHistNamed hists name) ((d : HistSum) → 0 < length hists → (get_or hists i d).name.items ≢ name)
named-so hists i x name true within is decides = (x, (i, within, sym is), decides.0 refl)
named-so hists i x name false within is decides = λ d some same.
    let here : x ≡ get_or hists i d = get_or_read hists i x within is d in
    let wrong : false ≡ true = decides.1 (ap (λ (h : HistSum). h.name.items) here ∙ same) in absurd (cc)

-- whether the histogram at a place has a name
pub named-at : (hists : List HistSum) (i : ℕ) (x : HistSum) (shown name : List ℕ) (t : Bool) → i < length hists → x ≡ get_or hists i x
    → shown ≡ (get_or hists i x).name.items → t ≡ pointwise nat_eq shown name
    → MatchBool t (HasHistNamed hists name) ((d : HistSum) → 0 < length hists → (get_or hists i d).name.items ≢ name)
named-at hists i x shown name t within is value test =
    let P : List ℕ → Type 0 = λ z. Decides t (z ≡ name) in
    named-so hists i x name t within is
    (subst P (value ∙ ap (λ (h : HistSum). h.name.items) (sym is)) (slice_eq-Decides Decides-eqb shown name t test))
