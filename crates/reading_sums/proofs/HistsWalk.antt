-- A step of the walk along the histograms of two sums.
use Rattle.std.proofs.Common.{◌≡◌, ◌≢◌, ◌<◌, Bool, true, false, inl, inr, if◌then◌else◌, ℕ, ℤ, pos, ◌+ℤ◌, ◌<ℤ◌, List, [], ◌∷◌, ◌++◌, map, length, take, get_or, refl, ap, sym, subst, ◌∙◌, arith}
use Rattle.std.specs.Ordering.{int_eq}
use Rattle.std.specs.declared.cmp.Ordering.TheVariants.{Less}
use Rattle.std.specs.List.{All, Contains}
use Rattle.std.specs.List.Sorted.{IsStrictlySortedBy}
use Rattle.std.proofs.Math.IntN.{+ℤ_idl}
use Rattle.std.proofs.lemmas.Bool.Decides.{Decides-int_eq}
use Rattle.std.proofs.lemmas.Cmp.{tied_itself}
use Rattle.std.proofs.lemmas.Int.{ints}
use Rattle.std.proofs.lemmas.List.Elements.{All-nil, All-cons, Contains-append_right}
use Rattle.reading_sums.specs.declared.fault.MinusFault.{MinusFault}
use Rattle.reading_sums.specs.declared.fault.MinusFault.TheVariants.{NoMemory, TooMany, Fell, OtherSpec}
use Rattle.reading_sums.specs.declared.hist.HistSum.{HistSum}
use Rattle.reading_sums.specs.Orders.{hist_cmp}
use Rattle.reading_sums.specs.Since.{Frame, frame_of, IsSince, AreSince, IsCountedUp, HasLess, HasSomething, HasLongAmount, HasHistNamed, HasFallen, HasChangedSpec, HasTooMany, ArePair, IsWithoutLater, MatchFault, IsReason, IsNoReason, StandsBetween, GoesOnAscending}
use Rattle.reading_sums.specs.Totals.Quantity.{Units, Marks, Amounts, AmountMarks, Redundant, Images}
use Rattle.reading_sums.specs.Totals.{Part, Quantity, quantity_of, share_of, total, is_of}
use Rattle.reading_sums.specs.Views.{part_of}
use Rattle.reading_sums.proofs.Ascending.{below-put}
use Rattle.reading_sums.proofs.Between.{none-alike}
use Rattle.reading_sums.proofs.HistOrder.{hist-total, alike}
use Rattle.reading_sums.proofs.Totals.{chosen-sum, is_of-both}
use Rattle.reading_sums.proofs.Walk.{taken-both}

-- ---- what a step takes

-- a later part alone
later-alone : (x copy : Part) → copy ≡ x → AreSince (x ∷ []) [] (copy ∷ [])
later-alone x copy is = record {
  totals = λ quantity taken name spec. ap (λ p. total quantity name spec (p ∷ [])) (sym is) ∙ sym (+ℤ_idl (total quantity name spec (copy ∷ [])));
  kept = ap (λ p. frame_of p ∷ []) is;
}

pub later-taken : (later : List HistSum) (x copy : HistSum) → 0 < length later → x ≡ get_or later 0 x → part_of copy ≡ part_of x
    → AreSince (map part_of (take 1 later)) [] (part_of copy ∷ [])
later-taken [] x copy some is same = absurd (omega arith)
later-taken (y ∷ ys) x copy some is same = later-alone (part_of y) (part_of copy) (same ∙ ap part_of is)

not-something : (n : ℤ) → ((n ≢ pos 0) → ⊥) → n ≡ pos 0
not-something n never = go (int_eq n (pos 0)) refl
  where
    go : (t : Bool) → int_eq n (pos 0) ≡ t → n ≡ pos 0
    go true is = (Decides-int_eq n (pos 0)).0 is
    go false is = absurd (never (λ e. let wrong : true ≡ false = sym ((Decides-int_eq n (pos 0)).1 e) ∙ is in absurd (cc)))

chosen-none : (t : Bool) (n : ℤ) → n ≡ pos 0 → (if t then n else pos 0) ≡ pos 0
chosen-none true n none = none
chosen-none false n none = refl

-- an earlier part alone, which has nothing
earlier-alone : (e : Part) → ¬ HasSomething e → AreSince [] (e ∷ []) []
earlier-alone e nothing = record {
  totals = λ quantity taken name spec.
      let none : quantity_of quantity e ≡ pos 0 = not-something (quantity_of quantity e) (λ some. nothing (quantity, taken, some)) in
      let here : share_of quantity name spec e ≡ pos 0 = chosen-none (is_of name spec e) (quantity_of quantity e) none in
      omega (arith, ints, here);
  kept = refl;
}

pub earlier-taken : (earlier : List HistSum) (e : HistSum) → 0 < length earlier → e ≡ get_or earlier 0 e → ¬ HasSomething (part_of e)
    → AreSince [] (map part_of (take 1 earlier)) []
earlier-taken [] e some is nothing = absurd (omega arith)
earlier-taken (y ∷ ys) e some is nothing = subst (λ h. AreSince [] (part_of h ∷ []) []) is (earlier-alone (part_of e) nothing)

three-sum : (x e s : ℤ) → x ≡ e +ℤ s → x +ℤ pos 0 ≡ (e +ℤ pos 0) +ℤ (s +ℤ pos 0)
three-sum x e s is = omega (arith, ints)

-- a later part and an earlier one
both-parts : (x e s : Part) → x.name ≡ e.name → x.spec ≡ e.spec → IsSince x e s → AreSince (x ∷ []) (e ∷ []) (s ∷ [])
both-parts x e s names specs since = record {
  totals = λ quantity taken name spec.
      let of_x = is_of name spec x in
      let of_e : is_of name spec e ≡ of_x = sym (is_of-both name spec x e names specs) in
      let of_s : is_of name spec s ≡ of_x = is_of-both name spec s x (ap (λ (f : Frame). f.name) since.kept) (ap (λ (f : Frame). f.spec) since.kept) in
      let sum = chosen-sum of_x (quantity_of quantity e) (quantity_of quantity s) (quantity_of quantity x) (since.quantities quantity taken) in
      three-sum (share_of quantity name spec x) (share_of quantity name spec e) (share_of quantity name spec s)
      (sum ∙ (λ i. (if sym of_e i then quantity_of quantity e else pos 0) +ℤ (if sym of_s i then quantity_of quantity s else pos 0)));
  kept = ap (λ f. f ∷ []) since.kept;
}

pub both-taken : (later earlier : List HistSum) (x e since : HistSum) → 0 < length later → 0 < length earlier → x ≡ get_or later 0 x → e ≡ get_or earlier 0 e
    → x.name.items ≡ e.name.items → x.spec ≡ e.spec → IsSince (part_of x) (part_of e) (part_of since)
    → AreSince (map part_of (take 1 later)) (map part_of (take 1 earlier)) (part_of since ∷ [])
both-taken [] earlier x e since some more first second names specs is = absurd (omega arith)
both-taken (y ∷ ys) [] x e since some more first second names specs is = absurd (omega arith)
both-taken (y ∷ ys) (z ∷ zs) x e since some more first second names specs is =
    let P : HistSum → Type 0 = λ h. AreSince (part_of h ∷ []) (part_of z ∷ []) (part_of since ∷ []) in
    let Q : HistSum → Type 0 = λ h. AreSince (part_of x ∷ []) (part_of h ∷ []) (part_of since ∷ []) in
    subst P first (subst Q second (both-parts (part_of x) (part_of e) (part_of since) names specs is))

pub both-ordered : (a b : List HistSum) → 0 < length a → 0 < length b → ((d : HistSum) → (get_or a 0 d).name.items ≡ (get_or b 0 d).name.items)
    → ((d : HistSum) → (get_or a 0 d).spec ≡ (get_or b 0 d).spec) → GoesOnAscending hist_cmp 1 1 a b
both-ordered a b some more names specs = taken-both hist-total a b some more (λ d. alike (get_or a 0 d) (get_or b 0 d) (names d) (specs d))

-- ---- the place of an earlier histogram that has no later one

pub stands-between : (before later earlier : List HistSum) (e : HistSum) → 0 < length earlier → e ≡ get_or earlier 0 e
    → ((d : HistSum) → 0 < length later → hist_cmp (get_or earlier 0 d) (get_or later 0 d) ≡ Less)
    → IsStrictlySortedBy hist_cmp (before ++ later) → IsStrictlySortedBy hist_cmp (before ++ earlier) → StandsBetween before e later
stands-between before later [] e some is below first second = absurd (omega arith)
stands-between before later (y ∷ ys) e some is below first second =
    subst (λ h. StandsBetween before h later) (sym is) (below-put hist-total before y y ys later (tied_itself hist-total y) second first below)

-- ---- what is settled

pub first-of : (before later : List HistSum) (x : HistSum) → 0 < length later → x ≡ get_or later 0 x → Contains (before ++ later) x
first-of before later x some is = Contains-append_right before later x (0, some, sym is)

only-one : (P : HistSum → Type 0) (earlier : List HistSum) (e : HistSum) → 0 < length earlier → e ≡ get_or earlier 0 e → P e → All P (take 1 earlier)
only-one P [] e some is holds = absurd (omega arith)
only-one P (y ∷ ys) e some is holds = All-cons P y [] (subst P is holds) (All-nil P)

pub alone-settled : (laters earlier : List HistSum) (e : HistSum) → 0 < length earlier → e ≡ get_or earlier 0 e
    → ¬ HasHistNamed laters e.name.items → ¬ HasSomething (part_of e) → All (IsNoReason laters) (take 1 earlier)
alone-settled laters earlier e some is unnamed nothing = only-one (IsNoReason laters) earlier e some is (inr (unnamed, nothing))

never-less : (later earlier since : Part) → IsSince later earlier since → ¬ HasLess later earlier
never-less later earlier since is = λ less. go less.0 less.1 less.2
  where
    go : (quantity : Quantity) → IsCountedUp quantity → quantity_of quantity later <ℤ quantity_of quantity earlier → ⊥
    go (Units key) counted less = absurd (omega (arith, ints, less, is.quantities (Units key) (λ e. absurd (cc))))
    go (Marks key) counted less = absurd (omega (arith, ints, less, is.quantities (Marks key) (λ e. absurd (cc))))
    go Amounts counted less = counted
    go AmountMarks counted less = counted
    go Redundant counted less = absurd (omega (arith, ints, less, is.quantities Redundant (λ e. absurd (cc))))
    go Images counted less = counted

pub both-settled : (before later earlier : List HistSum) (x e since : HistSum) → 0 < length later → 0 < length earlier → x ≡ get_or later 0 x → e ≡ get_or earlier 0 e
    → x.name.items ≡ e.name.items → x.spec ≡ e.spec → IsSince (part_of x) (part_of e) (part_of since) → ¬ HasLongAmount (part_of x) (part_of e)
    → All (IsNoReason (before ++ later)) (take 1 earlier)
both-settled before later earlier x e since some more first second names specs is short =
    only-one (IsNoReason (before ++ later)) earlier e more second
    (inl (x, first-of before later x some first, names, specs, never-less (part_of x) (part_of e) (part_of since) is, short))

-- ---- why there is nothing

pub reasons : (fault : MinusFault) (many many_here : Type 0) (fell fell_here other other_here : List ℕ → Type 0) → (many → many_here)
    → ((name : List ℕ) → fell name → fell_here name) → ((name : List ℕ) → other name → other_here name)
    → MatchFault fault many fell other → MatchFault fault many_here fell_here other_here
reasons NoMemory many many_here fell fell_here other other_here first second third is = tt
reasons TooMany many many_here fell fell_here other other_here first second third is = first is
reasons (Fell name) many many_here fell fell_here other other_here first second third is = second name.items is
reasons (OtherSpec name) many many_here fell fell_here other other_here first second third is = third name.items is

pub alone-reason : (before later earlier : List HistSum) (e : HistSum) (fault : MinusFault) → 0 < length earlier → e ≡ get_or earlier 0 e → StandsBetween before e later
    → MatchFault fault ⊥ (λ told. (told ≡ e.name.items) × ((¬ HasHistNamed (before ++ later) told) × HasSomething (part_of e)))
    (λ told. (told ≡ e.name.items) × HasHistNamed (before ++ later) told)
    → IsReason (before ++ later) earlier fault
alone-reason before later earlier e fault some is between told =
    let alone = λ (name : List ℕ) (same : name ≡ e.name.items).
    let it : IsWithoutLater (before ++ later) earlier e name = record { is_earlier = (0, some, sym is); has_name = sym same; alone = none-alike before e later between } in it in
    reasons fault ⊥ (HasTooMany (before ++ later) earlier)
    (λ name. (name ≡ e.name.items) × ((¬ HasHistNamed (before ++ later) name) × HasSomething (part_of e))) (HasFallen (before ++ later) earlier)
    (λ name. (name ≡ e.name.items) × HasHistNamed (before ++ later) name) (HasChangedSpec (before ++ later) earlier)
    (λ never. absurd never) (λ name why. inr (e, alone name why.0, why.1.0, why.1.1)) (λ name why. (e, alone name why.0, why.1)) told

pub both-reason : (before later earlier : List HistSum) (x e : HistSum) (fault : MinusFault) → 0 < length later → 0 < length earlier → x ≡ get_or later 0 x → e ≡ get_or earlier 0 e
    → x.name.items ≡ e.name.items → x.spec ≡ e.spec
    → MatchFault fault (HasLongAmount (part_of x) (part_of e)) (λ told. (told ≡ x.name.items) × HasLess (part_of x) (part_of e)) (λ told. ⊥)
    → IsReason (before ++ later) earlier fault
both-reason before later earlier x e fault some more first second names specs told =
    let pair : ArePair (before ++ later) earlier x e = record { is_later = first-of before later x some first; is_earlier = (0, more, sym second); name = names; spec = specs } in
    reasons fault (HasLongAmount (part_of x) (part_of e)) (HasTooMany (before ++ later) earlier)
    (λ name. (name ≡ x.name.items) × HasLess (part_of x) (part_of e)) (HasFallen (before ++ later) earlier)
    (λ name. ⊥) (HasChangedSpec (before ++ later) earlier)
    (λ long. (x, e, pair, long)) (λ name why. inl (x, e, pair, sym names ∙ sym why.0, why.1)) (λ name never. absurd never) told
