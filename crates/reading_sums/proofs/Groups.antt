-- The histograms of a sum by their names, and which of each name are shown.
use Rattle.std.proofs.Common.{◌≡◌, ◌≢◌, ◌<◌, ◌≤◌, ◌+◌, Bool, true, false, not, nat_eq, nat_lt, nat_le, if◌then◌else◌, ℕ, zero, suc, List, [], ◌∷◌, ◌++◌, map, length, take, drop, get_or, refl, ap, sym, subst, ◌∙◌, append_assoc, arith}
use Rattle.std.specs.Str.{bytes_eq}
use Rattle.std.specs.Cmp.Lexicographic.{pointwise}
use Rattle.std.specs.List.{All, AllByRecursion, AllZip, IsFirstBest, flat_map}
use Rattle.std.proofs.lemmas.Bool.Decides.{nat_tests}
use Rattle.std.proofs.lemmas.Slice.Eq.{bytes_eq-Decides}
use Rattle.std.proofs.lemmas.List.{map-append, take-append-drop, get_or-take, get_or-drop, get_or_default, length-take, length-drop}
use Rattle.std.proofs.lemmas.List.Elements.{recursion_from_All}
use Rattle.bucket_ranges.specs.Reading.{Histogram}
use Rattle.image_reader.specs.Views.{histogram_view}
use Rattle.image_reader.specs.declared.reading.HistReading.{HistReading}
use Rattle.reading_sums.specs.declared.hist.HistSum.{HistSum}
use Rattle.reading_sums.specs.declared.shown.OtherSpec.{OtherSpec}
use Rattle.reading_sums.specs.Shown.{Group, members_of, before_groups, groups_of, least_part, others_than_least, shown_of, left_out_of, shown_at, shown_from, other_parts, IsOtherOf}
use Rattle.reading_sums.specs.Totals.{Part}
use Rattle.reading_sums.specs.Views.{part_of}

-- ---- the groups

not-true : (t : Bool) → (t ≡ true → ⊥) → t ≡ false
not-true true never = absurd (never refl)
not-true false never = refl

unequal : (x y : Part) → x.name ≢ y.name → bytes_eq x.name y.name ≡ false
unequal x y apart = not-true (bytes_eq x.name y.name) (λ e. apart ((bytes_eq-Decides x.name y.name).0 e))

-- a part before a group of another name
apart-so : (x y : Part) (group : Group) (groups : List Group) (t : Bool) → bytes_eq x.name y.name ≡ false
    → before_groups x (if t then record { first = y; rest = members_of group } ∷ groups else record { first = y; rest = [] } ∷ group ∷ groups)
    ≡ record { first = x; rest = [] } ∷ (if t then record { first = y; rest = members_of group } ∷ groups else record { first = y; rest = [] } ∷ group ∷ groups)
apart-so x y group groups true other =
    let there : List Group = record { first = y; rest = members_of group } ∷ groups in
    let joined : List Group = record { first = x; rest = y ∷ members_of group } ∷ groups in
    let lone : List Group = record { first = x; rest = [] } ∷ there in
    ap (λ b. if b then joined else lone) other
apart-so x y group groups false other =
    let there : List Group = record { first = y; rest = [] } ∷ group ∷ groups in
    let joined : List Group = record { first = x; rest = y ∷ [] } ∷ group ∷ groups in
    let lone : List Group = record { first = x; rest = [] } ∷ there in
    ap (λ b. if b then joined else lone) other

apart-from : (x y : Part) (groups : List Group) → bytes_eq x.name y.name ≡ false
    → before_groups x (before_groups y groups) ≡ record { first = x; rest = [] } ∷ before_groups y groups
apart-from x y [] other =
    let joined : List Group = record { first = x; rest = y ∷ [] } ∷ [] in
    let lone : List Group = record { first = x; rest = [] } ∷ record { first = y; rest = [] } ∷ [] in
    ap (λ b. if b then joined else lone) other
apart-from x y (group ∷ groups) other = apart-so x y group groups (bytes_eq y.name group.first.name) other

groups-end : (x : Part) (more : List HistSum) → ((d : HistSum) → 0 < length more → x.name ≢ (get_or more 0 d).name.items)
    → groups_of (x ∷ map part_of more) ≡ record { first = x; rest = [] } ∷ groups_of (map part_of more)
groups-end x [] apart = refl
groups-end x (y ∷ ys) apart = apart-from x (part_of y) (groups_of (map part_of ys)) (unequal x (part_of y) (apart y (omega arith)))

same-names : (x : Part) (r : Part) (run : List Part) → r.name ≡ x.name → AllByRecursion (λ p. p.name ≡ x.name) run → AllByRecursion (λ p. p.name ≡ r.name) run
same-names x r [] is all = tt
same-names x r (p ∷ ps) is all = (all.0 ∙ sym is, same-names x r ps is all.1)

-- parts of one name, before others
groups-run : (x : Part) (run : List Part) (more : List HistSum) → AllByRecursion (λ p. p.name ≡ x.name) run
    → ((d : HistSum) → 0 < length more → x.name ≢ (get_or more 0 d).name.items)
    → groups_of (x ∷ (run ++ map part_of more)) ≡ record { first = x; rest = run } ∷ groups_of (map part_of more)
groups-run x [] more same apart = groups-end x more apart
groups-run x (r ∷ run) more same apart =
    let behind = groups-run r run more (same-names x r run same.0 same.1) (λ d some e. apart d some (sym same.0 ∙ e)) in
    let equal : bytes_eq x.name r.name ≡ true = (bytes_eq-Decides x.name r.name).1 (sym same.0) in
    let joined : List Group = record { first = x; rest = r ∷ run } ∷ groups_of (map part_of more) in
    let lone : List Group = record { first = x; rest = [] } ∷ record { first = r; rest = run } ∷ groups_of (map part_of more) in
    ap (before_groups x) behind ∙ ap (λ b. if b then joined else lone) equal

all-parts : (x : Part) (hists : List HistSum) → AllByRecursion (λ h. h.name.items ≡ x.name) hists → AllByRecursion (λ p. p.name ≡ x.name) (map part_of hists)
all-parts x [] all = tt
all-parts x (h ∷ hs) all = (all.0, all-parts x hs all.1)

-- the first group of a list
pub run-group : (hists : List HistSum) (n : ℕ) → 0 < n → n ≤ length hists
    → ((k : ℕ) (d : HistSum) → k < n → (get_or hists k d).name.items ≡ (get_or hists 0 d).name.items)
    → ((d : HistSum) → n < length hists → (get_or hists n d).name.items ≢ (get_or hists 0 d).name.items)
    → (group : Group) × (members_of group ≡ map part_of (take n hists)) × (groups_of (map part_of hists) ≡ group ∷ groups_of (map part_of (drop n hists)))
run-group [] n some within same apart = absurd (omega (arith, some, within))
run-group (h ∷ hs) zero some within same apart = absurd (omega (arith, some))
run-group (h ∷ hs) (suc m) some within same apart =
    let P : HistSum → Type 0 = λ z. z.name.items ≡ h.name.items in
    let front : All P (take m hs) = λ k d short.
    let below : k < m = omega (arith, length-take m hs, short) in
    subst P (sym (get_or-take m hs k d below)) (same (suc k) d (omega (arith, below))) in
    let there : (d : HistSum) → 0 < length (drop m hs) → h.name.items ≢ (get_or (drop m hs) 0 d).name.items = λ d more e.
    let none : m ≡ m + 0 = omega arith in
    apart d (omega (arith, length-drop m hs, more)) (ap (λ n. (get_or hs n d).name.items) none ∙ (ap (λ (z : HistSum). z.name.items) (sym (get_or-drop m hs 0 d)) ∙ sym e)) in
    let whole : map part_of hs ≡ map part_of (take m hs) ++ map part_of (drop m hs) =
    ap (map part_of) (sym (take-append-drop m hs)) ∙ map-append part_of (take m hs) (drop m hs) in (
      record { first = part_of h; rest = map part_of (take m hs) },
      refl,
      ap (λ z. groups_of (part_of h ∷ z)) whole
          ∙ groups-run (part_of h) (map part_of (take m hs)) (drop m hs) (all-parts (part_of h) (take m hs) (recursion_from_All P (take m hs) front)) there,
    )

-- a name that is not that of the first
pub other-name : (hists : List HistSum) (i : ℕ) (x y d : HistSum) → i < length hists
    → true ≡ not (pointwise nat_eq (get_or hists i x).name.items (get_or hists 0 y).name.items)
    → (get_or hists i d).name.items ≢ (get_or hists 0 d).name.items
other-name hists i x y d within unlike same =
    let name : HistSum → List ℕ = λ h. h.name.items in
    let one : name (get_or hists i x) ≡ name (get_or hists 0 y) =
    ap name (get_or_default hists i x d within) ∙ (same ∙ ap name (get_or_default hists 0 d y (omega (arith, within)))) in
    let wrong : true ≡ false = unlike ∙ ap not ((bytes_eq-Decides (name (get_or hists i x)) (name (get_or hists 0 y))).1 one) in absurd (cc)

-- ---- the one that is shown

abbrev pub is_less : HistSum → HistSum → Bool
is_less hist best = nat_lt hist.least best.least

chosen-above : (n : ℕ) (t : Bool) (a b : Part) → n ≤ a.least → n ≤ b.least → n ≤ (if t then a else b).least
chosen-above n true a b first second = first
chosen-above n false a b first second = second

-- a number that is no more than those of all, is no more than the least of them
below-least : (n : ℕ) (y : HistSum) (ys : List HistSum) → ((k : ℕ) → k < length (y ∷ ys) → n ≤ (get_or (y ∷ ys) k y).least)
    → n ≤ (least_part (part_of y) (map part_of ys)).least
below-least n y [] all = all 0 (omega arith)
below-least n y (z ∷ zs) all =
    let rest = least_part (part_of z) (map part_of zs) in
    chosen-above n (nat_le y.least rest.least) (part_of y) rest (all 0 (omega arith))
    (below-least n z zs (λ k within. subst (λ (h : HistSum). n ≤ h.least) (get_or_default (z ∷ zs) k y z within) (all (suc k) (omega (arith, within)))))

not-less : (a b : ℕ) → nat_lt a b ≡ false → b ≤ a
not-less a b e = grind (arith, nat_tests)

is-below : (a b : ℕ) → nat_lt a b ≡ true → a < b
is-below a b e = grind (arith, nat_tests)

le-true : (a b : ℕ) → a ≤ b → nat_le a b ≡ true
le-true a b h = grind (arith, nat_tests)

le-false : (a b : ℕ) → b < a → nat_le a b ≡ false
le-false a b h = grind (arith, nat_tests)

-- the first of the least number is the one that is shown, and the others are not
pub best-shown : (x : HistSum) (xs : List HistSum) (b : ℕ) (d : HistSum) → IsFirstBest is_less (x ∷ xs) (length (x ∷ xs)) b
    → (part_of (get_or (x ∷ xs) b d) ≡ least_part (part_of x) (map part_of xs))
    × (map part_of (take b (x ∷ xs)) ++ map part_of (drop 1 (drop b (x ∷ xs))) ≡ others_than_least (part_of x) (map part_of xs))
best-shown x [] zero d best = (refl, refl)
best-shown x [] (suc b) d best = absurd (omega (arith, best.0))
best-shown x (y ∷ ys) zero d best =
    let rest = least_part (part_of y) (map part_of ys) in
    let low : x.least ≤ rest.least = below-least x.least y ys (λ k within. not-less (get_or (y ∷ ys) k y).least x.least (best.1 (suc k) y (omega (arith, within)))) in
    let here : nat_le x.least rest.least ≡ true = le-true x.least rest.least low in (
      ap (λ t. if t then part_of x else rest) (sym here),
      ap (λ t. if t then map part_of (y ∷ ys) else part_of x ∷ others_than_least (part_of y) (map part_of ys)) (sym here),
    )
best-shown x (y ∷ ys) (suc b) d best =
    let rest = least_part (part_of y) (map part_of ys) in
    let behind = best-shown y ys b d
    (omega (arith, best.0), (λ k e within. best.1 (suc k) e (omega (arith, within))), (λ k e below. best.2 (suc k) e (omega (arith, below)))) in
    let less : (get_or (y ∷ ys) b d).least < x.least = is-below (get_or (y ∷ ys) b d).least x.least (best.2 0 d (omega arith)) in
    let low : rest.least < x.least = subst (λ (p : Part). p.least < x.least) behind.0 less in
    let here : nat_le x.least rest.least ≡ false = le-false x.least rest.least low in (
      behind.0 ∙ ap (λ t. if t then part_of x else rest) (sym here),
      ap (λ z. part_of x ∷ z) behind.1 ∙ ap (λ t. if t then map part_of (y ∷ ys) else part_of x ∷ others_than_least (part_of y) (map part_of ys)) (sym here),
    )

parts-members : (group : Group) (x : HistSum) (xs : List HistSum) → members_of group ≡ map part_of (x ∷ xs)
    → (group.first ≡ part_of x) × (group.rest ≡ map part_of xs)
parts-members group x xs same = (cc, cc)

-- what is shown of a group
pub group-shown : (group : Group) (run : List HistSum) (b : ℕ) (x : HistSum) → members_of group ≡ map part_of run → IsFirstBest is_less run (length run) b
    → x ≡ get_or run b x → part_of x ≡ shown_of group
group-shown group [] b x same best is = absurd (omega (arith, best.0))
group-shown group (y ∷ ys) b x same best is =
    let parts = parts-members group y ys same in
    ap part_of is ∙ ((best-shown y ys b x best).0 ∙ (λ i. least_part (sym parts.0 i) (sym parts.1 i)))

-- and what is not
pub group-others : (group : Group) (run : List HistSum) (b : ℕ) → members_of group ≡ map part_of run → IsFirstBest is_less run (length run) b
    → map part_of (take b run) ++ map part_of (drop 1 (drop b run)) ≡ left_out_of group
group-others group [] b same best = absurd (omega (arith, best.0))
group-others group (y ∷ ys) b same best =
    let parts = parts-members group y ys same in
    (best-shown y ys b y best).1 ∙ (λ i. others_than_least (sym parts.0 i) (sym parts.1 i))

-- ---- one more group

pub shown-step : (readings new : List HistReading) (r : HistReading) (part : Part) (group : Group) (rest more : List HistSum) (n m : ℕ) (all : List Histogram)
    → new ≡ readings ++ r ∷ [] → m ≡ n + 1 → histogram_view r ≡ shown_at n part → part ≡ shown_of group
    → groups_of (map part_of rest) ≡ group ∷ groups_of (map part_of more)
    → map histogram_view readings ++ shown_from n (map shown_of (groups_of (map part_of rest))) ≡ all
    → map histogram_view new ++ shown_from m (map shown_of (groups_of (map part_of more))) ≡ all
shown-step readings new r part group rest more n m all put next view is groups before =
    let done = map histogram_view readings in
    let behind = shown_from (n + 1) (map shown_of (groups_of (map part_of more))) in
    let one : map histogram_view new ≡ done ++ histogram_view r ∷ [] = ap (map histogram_view) put ∙ map-append histogram_view readings (r ∷ []) in
    let here : histogram_view r ≡ shown_at n (shown_of group) = view ∙ ap (shown_at n) is in
    (λ i. one i ++ shown_from (next i) (map shown_of (groups_of (map part_of more))))
    ∙ (append_assoc done (histogram_view r ∷ []) behind
    ∙ (ap (λ h. done ++ h ∷ behind) here
    ∙ (ap (λ z. done ++ shown_from n (map shown_of z)) (sym groups) ∙ before)))

pub others-step : (done : List Part) (group : Group) (rest more : List HistSum) (all : List Part) → groups_of (map part_of rest) ≡ group ∷ groups_of (map part_of more)
    → done ++ other_parts (map part_of rest) ≡ all → (done ++ left_out_of group) ++ other_parts (map part_of more) ≡ all
others-step done group rest more all groups before =
    append_assoc done (left_out_of group) (other_parts (map part_of more))
    ∙ (ap (λ z. done ++ flat_map left_out_of z) (sym groups) ∙ before)

pub others-push : (parts : List Part) (others new : List OtherSpec) (part : Part) (other : OtherSpec) → new ≡ others ++ other ∷ [] → AllZip IsOtherOf parts others
    → IsOtherOf part other → AllZip IsOtherOf (parts ++ part ∷ []) new
others-push parts others new part other put before here = subst (λ z. AllZip IsOtherOf (parts ++ part ∷ []) z) (sym put) (go parts others before)
  where
    go : (ps : List Part) (os : List OtherSpec) → AllZip IsOtherOf ps os → AllZip IsOtherOf (ps ++ part ∷ []) (os ++ other ∷ [])
    go [] [] zip = (here, tt)
    go [] (o ∷ os) zip = absurd zip
    go (p ∷ ps) [] zip = absurd zip
    go (p ∷ ps) (o ∷ os) zip = (zip.0, go ps os zip.1)
