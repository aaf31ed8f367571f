-- The names of what a sum shows.
use Rattle.std.proofs.Common.{◌≡◌, ◌≢◌, ◌+◌, Bool, true, false, nat_le, if◌then◌else◌, ℕ, List, [], ◌∷◌, map, refl, ap, sym, subst, ◌∙◌, nat_cmp}
use Rattle.std.specs.Ordering.{ordering_then}
use Rattle.std.specs.Cmp.Lexicographic.{slice_cmp}
use Rattle.std.specs.Str.{bytes_eq}
use Rattle.std.specs.List.{AllByRecursion}
use Rattle.std.specs.List.Sorted.{IsStrictlySortedBy}
use Rattle.std.specs.declared.cmp.Ordering.{Ordering}
use Rattle.std.specs.declared.cmp.Ordering.TheVariants.{Less, Equal, Greater}
use Rattle.std.proofs.lemmas.Cmp.{nat_list_cmp_total}
use Rattle.std.proofs.lemmas.Slice.Eq.{bytes_eq-Decides}
use Rattle.bucket_ranges.specs.Reading.{Histogram}
use Rattle.reading_sums.specs.declared.hist.HistSum.{HistSum}
use Rattle.reading_sums.specs.Orders.{hist_cmp, spec_cmp}
use Rattle.reading_sums.specs.Shown.{Group, members_of, before_groups, groups_of, least_part, shown_of, shown_from, shown_parts}
use Rattle.reading_sums.specs.Totals.{Part}
use Rattle.reading_sums.specs.Views.{part_of}
use Rattle.reading_sums.proofs.Ascending.{all-above}
use Rattle.reading_sums.proofs.Orders.{lists-equal}

abbrev pub name_of : Group → List ℕ
name_of group = group.first.name

-- ---- each group has one name

abbrev pub IsOfOneName : Group → Type 0
IsOfOneName group = AllByRecursion (λ p. p.name ≡ group.first.name) group.rest

renamed : (one other : List ℕ) (parts : List Part) → one ≡ other → AllByRecursion (λ p. p.name ≡ one) parts → AllByRecursion (λ p. p.name ≡ other) parts
renamed one other parts is all = subst (λ z. AllByRecursion (λ p. p.name ≡ z) parts) is all

joined-names : (x : Part) (group : Group) (groups : List Group) (t : Bool) → bytes_eq x.name group.first.name ≡ t → IsOfOneName group → AllByRecursion IsOfOneName groups
    → AllByRecursion IsOfOneName (if t then record { first = x; rest = members_of group } ∷ groups else record { first = x; rest = [] } ∷ group ∷ groups)
joined-names x group groups true is one all =
    let same : x.name ≡ group.first.name = (bytes_eq-Decides x.name group.first.name).0 is in
    ((sym same, renamed group.first.name x.name group.rest (sym same) one), all)
joined-names x group groups false is one all = (tt, (one, all))

before-names : (x : Part) (groups : List Group) → AllByRecursion IsOfOneName groups → AllByRecursion IsOfOneName (before_groups x groups)
before-names x [] all = (tt, tt)
before-names x (group ∷ groups) all = joined-names x group groups (bytes_eq x.name group.first.name) refl all.0 all.1

groups-names : (parts : List Part) → AllByRecursion IsOfOneName (groups_of parts)
groups-names [] = tt
groups-names (part ∷ rest) = before-names part (groups_of rest) (groups-names rest)

chosen-name : (name : List ℕ) (t : Bool) (a b : Part) → a.name ≡ name → b.name ≡ name → (if t then a else b).name ≡ name
chosen-name name true a b first second = first
chosen-name name false a b first second = second

least-name : (part : Part) (rest : List Part) (name : List ℕ) → part.name ≡ name → AllByRecursion (λ p. p.name ≡ name) rest → (least_part part rest).name ≡ name
least-name part [] name is all = is
least-name part (next ∷ rest) name is all =
    chosen-name name (nat_le part.least (least_part next rest).least) part (least_part next rest) is (least-name next rest name all.0 all.1)

shown-names : (groups : List Group) → AllByRecursion IsOfOneName groups → map (λ (p : Part). p.name) (map shown_of groups) ≡ map name_of groups
shown-names [] all = refl
shown-names (group ∷ groups) all = λ i. least-name group.first group.rest group.first.name refl all.0 i ∷ shown-names groups all.1 i

numbered-names : (index : ℕ) (parts : List Part) → map (λ (h : Histogram). h.name) (shown_from index parts) ≡ map (λ (p : Part). p.name) parts
numbered-names index [] = refl
numbered-names index (part ∷ rest) = ap (λ z. part.name ∷ z) (numbered-names (index + 1) rest)

-- ---- their names ascend

pub less-name : (o : Ordering) (x y : HistSum) → slice_cmp nat_cmp x.name.items y.name.items ≡ o → hist_cmp x y ≡ Less → x.name.items ≢ y.name.items
    → slice_cmp nat_cmp x.name.items y.name.items ≡ Less
less-name Less x y is below apart = is
less-name Equal x y is below apart = absurd (apart (lists-equal x.name.items y.name.items is))
less-name Greater x y is below apart =
    let wrong : Greater ≡ Less = sym (ap (λ o. ordering_then o (spec_cmp x.spec y.spec)) is) ∙ below in absurd (cc)

joined-ascend : (x : Part) (group : Group) (groups : List Group) (t : Bool) → bytes_eq x.name group.first.name ≡ t
    → (x.name ≢ group.first.name → slice_cmp nat_cmp x.name group.first.name ≡ Less)
    → IsStrictlySortedBy (slice_cmp nat_cmp) (map name_of (group ∷ groups))
    → IsStrictlySortedBy (slice_cmp nat_cmp) (map name_of (if t then record { first = x; rest = members_of group } ∷ groups else record { first = x; rest = [] } ∷ group ∷ groups))
unfolding IsStrictlySortedBy
joined-ascend x group groups true is less up =
    let same : x.name ≡ group.first.name = (bytes_eq-Decides x.name group.first.name).0 is in
    (subst (λ z. AllByRecursion (λ y. slice_cmp nat_cmp z y ≡ Less) (map name_of groups)) (sym same) up.0, up.1)
joined-ascend x group groups false is less up =
    let apart : x.name ≢ group.first.name = λ same.
    let wrong : true ≡ false = sym ((bytes_eq-Decides x.name group.first.name).1 same) ∙ is in absurd (cc) in
    let here = less apart in
    ((here, all-above nat_list_cmp_total x.name group.first.name (map name_of groups) here up.0), up)

-- the first group of a list begins with its first part
begins-so : (p : Part) (group : Group) (groups : List Group) (t : Bool) (g : Group) (gs : List Group)
    → (if t then record { first = p; rest = members_of group } ∷ groups else record { first = p; rest = [] } ∷ group ∷ groups) ≡ g ∷ gs → g.first ≡ p
begins-so p group groups true g gs is = cc
begins-so p group groups false g gs is = cc

begins : (p : Part) (groups : List Group) (g : Group) (gs : List Group) → before_groups p groups ≡ g ∷ gs → g.first ≡ p
begins p [] g gs is = cc
begins p (group ∷ groups) g gs is = begins-so p group groups (bytes_eq p.name group.first.name) g gs is

before-ascend : (x y : HistSum) (groups : List Group) → ((g : Group) (gs : List Group) → groups ≡ g ∷ gs → g.first ≡ part_of y) → hist_cmp x y ≡ Less
    → IsStrictlySortedBy (slice_cmp nat_cmp) (map name_of groups) → IsStrictlySortedBy (slice_cmp nat_cmp) (map name_of (before_groups (part_of x) groups))
unfolding IsStrictlySortedBy
before-ascend x y [] head below up = (tt, tt)
before-ascend x y (group ∷ groups) head below up =
    let is : group.first.name ≡ y.name.items = ap (λ (p : Part). p.name) (head group groups refl) in
    let less = λ (apart : x.name.items ≢ group.first.name).
    subst (λ z. slice_cmp nat_cmp x.name.items z ≡ Less) (sym is)
    (less-name (slice_cmp nat_cmp x.name.items y.name.items) x y refl below (λ same. apart (same ∙ sym is))) in
    joined-ascend (part_of x) group groups (bytes_eq x.name.items group.first.name) refl less up

groups-ascend : (hists : List HistSum) → IsStrictlySortedBy hist_cmp hists → IsStrictlySortedBy (slice_cmp nat_cmp) (map name_of (groups_of (map part_of hists)))
unfolding IsStrictlySortedBy
groups-ascend [] up = tt
groups-ascend (x ∷ []) up = (tt, tt)
groups-ascend (x ∷ (y ∷ ys)) up =
    before-ascend x y (groups_of (map part_of (y ∷ ys))) (begins (part_of y) (groups_of (map part_of ys))) up.0.0 (groups-ascend (y ∷ ys) up.1)

-- the names of what is shown ascend
pub names-shown : (hists : List HistSum) (shown : List Histogram) → shown ≡ shown_parts (map part_of hists) → IsStrictlySortedBy hist_cmp hists
    → IsStrictlySortedBy (slice_cmp nat_cmp) (map (λ (h : Histogram). h.name) shown)
names-shown hists shown is up =
    let groups = groups_of (map part_of hists) in
    subst (IsStrictlySortedBy (slice_cmp nat_cmp))
    (sym (ap (map (λ (h : Histogram). h.name)) is ∙ (numbered-names 0 (map shown_of groups) ∙ shown-names groups (groups-names (map part_of hists)))))
    (groups-ascend hists up)
