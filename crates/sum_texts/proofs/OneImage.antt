-- The texts of a sum of one image.
use Rattle.std.proofs.Common.{◌≡◌, Bool, true, false, cond, not, if◌then◌else◌, ℕ, zero, suc, ◌+◌, ◌<◌, List, [], ◌∷◌, ◌++◌, map, length, get_or, ◌⊎◌, inl, inr, ◌↔◌, Option, Some, None, codes, refl, ap, sym, subst, ◌∙◌, arith, nat_cmp, IsPermutation}
use Rattle.std.specs.Cmp.Lexicographic.{slice_cmp}
use Rattle.std.specs.Str.{bytes_eq}
use Rattle.std.specs.List.{AllByRecursion, AllZip, Contains, IsDistinct, flat_map, filter}
use Rattle.std.specs.List.Sorted.{IsStrictlySortedBy, IsSortedByKey}
use Rattle.std.specs.declared.cmp.Ordering.TheVariants.{Less, Equal}
use Rattle.std.specs.Ordering.{is_lt, ordering_reverse}
use Rattle.std.proofs.lemmas.Cmp.{nat_list_cmp_total, tied_itself}
use Rattle.std.proofs.lemmas.List.{append-nil, get_or-map, length-map}
use Rattle.std.proofs.lemmas.Map.Keys.{Less-from_sorted}
use Rattle.std.proofs.lemmas.List.Sorted.{IsPermutation-refl, IsPermutation-sym, IsPermutation-trans, Contains-permutation}
use Rattle.bucket_ranges.specs.Reading.{Histogram, Reading, first_of_each}
use Rattle.reading_texts.specs.Rows.{AreSortedByName}
use Rattle.reading_texts.specs.Text.{IsTextOf, histogram_text, redundant_text, flag_text, bad_text, stopped_text, text_in_order}
use Rattle.reading_texts.specs.Table.{IsTableOf, table_head, table_rows, table_in_order}
use Rattle.reading_texts.specs.Exporting.{IsExportOf, families_of, units_family, sparse_family, bad_family, flag_family, ranged_samples, sparse_samples, family_text, is_sparse}
use Rattle.reading_texts.specs.Families.{FamilyMember, IsFamiliesTextOf, member_of, same_family, families_with, families_by_name, metric_of, clash_among, clashes, first_clash, is_of_segment, or_else, IsFirstClashOf, units_in_family, values_in_family, sum_in_family, ranged_family, value_family, sum_family}
use Rattle.reading_sums.specs.declared.shown.OtherSpec.{OtherSpec}
use Rattle.reading_sums.specs.declared.sums.Sums.{Sums}
use Rattle.reading_sums.specs.Alone.{IsSumOfOne, renumbered}
use Rattle.reading_sums.specs.Shown.{other_parts, IsOtherOf}
use Rattle.reading_sums.specs.Totals.{Part}
use Rattle.reading_sums.specs.Views.{parts_of}
use Rattle.reading_sums.specs.Whole.{HasNamesOnce}
use Rattle.reading_sums.proofs.Alone.{shows-alone, none-left-out, full-alone, corrupt-alone}
use Rattle.reading_sums.proofs.OneReading.{names-ascend, once-moved}
use Rattle.sum_texts.specs.Endings.{IsOfSum, IsSumReport, ending_text}

-- ---- one list in an order

-- an element is in a list
abbrev Among : {X : Type 0} → X → List X → Type 0
Among z [] = ⊥
Among z (x ∷ xs) = (z ≡ x) ⊎ Among z xs

among-at : {X : Type 0} (xs : List X) (k : ℕ) (z : X) → k < length xs → get_or xs k z ≡ z → Among z xs
among-at [] k z within is = absurd (omega (arith, within))
among-at (x ∷ xs) zero z within is = inl (sym is)
among-at (x ∷ xs) (suc k) z within is = inr (among-at xs k z (omega (arith, within)) is)

at-among : {X : Type 0} (xs : List X) (z : X) → Among z xs → Contains xs z
at-among [] z in_it = absurd in_it
at-among (x ∷ xs) z (inl e) = (0, omega arith, sym e)
at-among (x ∷ xs) z (inr more) = let there = at-among xs z more in (suc there.0, omega (arith, there.1), there.2)

among-moved : {X : Type 0} (xs ys : List X) → IsPermutation xs ys → (z : X) → Among z xs → Among z ys
among-moved xs ys moved z in_it =
    let there = Contains-permutation xs ys z moved (at-among xs z in_it) in among-at ys there.0 z there.1 there.2

-- the names of a list
abbrev pub names_of : List Histogram → List (List ℕ)
names_of hists = map (λ (hist : Histogram). hist.name) hists

-- names that ascend
abbrev pub Ascend : List Histogram → Type 0
Ascend hists = IsStrictlySortedBy (slice_cmp nat_cmp) (names_of hists)

name-above : (name : List ℕ) (hists : List Histogram) (z : Histogram) → AllByRecursion (λ other. slice_cmp nat_cmp name other ≡ Less) (names_of hists) → Among z hists
    → slice_cmp nat_cmp name z.name ≡ Less
name-above name [] z all in_it = absurd in_it
name-above name (x ∷ xs) z all (inl e) = ap (λ (h : Histogram). slice_cmp nat_cmp name h.name) e ∙ all.0
name-above name (x ∷ xs) z all (inr more) = name-above name xs z all.1 more

-- no name is below itself
never-below : (name : List ℕ) → slice_cmp nat_cmp name name ≡ Less → ⊥
never-below name below = let wrong : Less ≡ Equal = sym below ∙ tied_itself nat_list_cmp_total name in absurd (cc)

-- the first of two lists that ascend and have the same histograms
first-equal : (x y : Histogram) (xs ys : List Histogram) → AllByRecursion (λ other. slice_cmp nat_cmp x.name other ≡ Less) (names_of xs)
    → AllByRecursion (λ other. slice_cmp nat_cmp y.name other ≡ Less) (names_of ys) → Among x (y ∷ ys) → Among y (x ∷ xs) → x ≡ y
first-equal x y xs ys below above (inl e) other = e
first-equal x y xs ys below above (inr more) (inl e) = sym e
first-equal x y xs ys below above (inr more) (inr there) =
    absurd (never-below x.name (nat_list_cmp_total.trans x.name y.name x.name (name-above x.name xs y below there) (name-above y.name ys x above more)))

rest-among : (x y : Histogram) (xs ys : List Histogram) → x ≡ y → AllByRecursion (λ other. slice_cmp nat_cmp x.name other ≡ Less) (names_of xs)
    → ((z : Histogram) → Among z (x ∷ xs) → Among z (y ∷ ys)) → (z : Histogram) → Among z xs → Among z ys
rest-among x y xs ys same below to z in_it = elim (to z (inr in_it)) [
  | inl e ↦ absurd (never-below x.name (ap (λ (h : Histogram). slice_cmp nat_cmp x.name h.name) (same ∙ sym e) ∙ name-above x.name xs z below in_it))
  | inr more ↦ more
]

one-order : (xs ys : List Histogram) → Ascend xs → Ascend ys → ((z : Histogram) → Among z xs → Among z ys) → ((z : Histogram) → Among z ys → Among z xs) → xs ≡ ys
unfolding IsStrictlySortedBy
one-order [] [] up also to from = refl
one-order [] (y ∷ ys) up also to from = absurd (from y (inl refl))
one-order (x ∷ xs) [] up also to from = absurd (to x (inl refl))
one-order (x ∷ xs) (y ∷ ys) up also to from =
    let head : x ≡ y = first-equal x y xs ys up.0 also.0 (to x (inl refl)) (from y (inl refl)) in
    let rest : xs ≡ ys = one-order xs ys up.1 also.1 (rest-among x y xs ys head up.0 to) (rest-among y x ys xs (sym head) also.0 from) in
    λ i. head i ∷ rest i

-- histograms by name, each name once, have only one order
pub sorted-once : (hists listed : List Histogram) (reading : Reading) → AreSortedByName hists reading → HasNamesOnce reading.hists
    → IsPermutation listed reading.hists → Ascend listed → hists ≡ listed
sorted-once hists listed reading sorted once moved up =
    let back : IsPermutation reading.hists hists = IsPermutation-sym hists reading.hists sorted.same in
    let to : IsPermutation hists listed = IsPermutation-trans hists reading.hists listed sorted.same (IsPermutation-sym listed reading.hists moved) in
    one-order hists listed (names-ascend (λ (h : Histogram). h.name) hists sorted.ascending (once-moved reading.hists hists back once)) up
    (among-moved hists listed to) (among-moved listed hists (IsPermutation-sym hists listed to))

-- names that ascend are sorted
sorted-from : (hists : List Histogram) → Ascend hists → IsSortedByKey (λ (hist : Histogram). hist.name) (slice_cmp nat_cmp) hists
sorted-from hists up = λ k d least within.
    let long : length (names_of hists) ≡ length hists = length-map hists (λ (hist : Histogram). hist.name) in
    let here : get_or (names_of hists) k d.name ≡ (get_or hists k d).name = get_or-map (λ (hist : Histogram). hist.name) hists k d d.name (omega (arith, within)) in
    let next : get_or (names_of hists) (k + 1) d.name ≡ (get_or hists (k + 1) d).name = get_or-map (λ (hist : Histogram). hist.name) hists (k + 1) d d.name within in
    let below : slice_cmp nat_cmp (get_or (names_of hists) k d.name) (get_or (names_of hists) (k + 1) d.name) ≡ Less =
    Less-from_sorted (slice_cmp nat_cmp) (names_of hists) k (k + 1) d.name up (omega arith) (omega (arith, long, within)) in
    let less : slice_cmp nat_cmp (get_or hists k d).name (get_or hists (k + 1) d).name ≡ Less = (λ i. slice_cmp nat_cmp (sym here i) (sym next i)) ∙ below in
    ap is_lt (nat_list_cmp_total.antisymm (get_or hists (k + 1) d).name (get_or hists k d).name ∙ ap ordering_reverse less)

-- ---- references

-- a text of histograms that says nothing of references
pub without-references : {X : Type 0} (f : Histogram → List X) → ((hist : Histogram) (index : ℕ) → f (record hist { reference = index }) ≡ f hist)
    → (index : ℕ) (hists : List Histogram) → flat_map f (renumbered index hists) ≡ flat_map f hists
without-references f same index [] = refl
without-references f same index (hist ∷ rest) = λ i. same hist index i ++ without-references f same (index + 1) rest i

names-renumbered : (index : ℕ) (hists : List Histogram) → names_of (renumbered index hists) ≡ names_of hists
names-renumbered index [] = refl
names-renumbered index (hist ∷ rest) = ap (λ z. hist.name ∷ z) (names-renumbered (index + 1) rest)

-- ---- both readings

-- a reading, and the same except for the references, in the order of the names
pub record IsTheSame (reading shown : Reading) : Type 0 where
  pub listed : List Histogram
  pub here : AreSortedByName listed reading
  pub there : AreSortedByName (renumbered 0 listed) shown
  pub first : (hists : List Histogram) → AreSortedByName hists reading → hists ≡ listed
  pub second : (hists : List Histogram) → AreSortedByName hists shown → hists ≡ renumbered 0 listed
  pub full : shown.full ≡ reading.full
  pub corrupt : shown.corrupt ≡ reading.corrupt
  pub bad : shown.bad ≡ reading.bad
  pub stopped : shown.stopped ≡ reading.stopped

pub is-the-same : (number : ℕ) (reading : Reading) (sums : Sums) → IsSumOfOne number reading sums → reading.bad ≡ [] → reading.stopped ≡ None
    → (shown : Reading) → IsOfSum sums shown → IsTheSame reading shown
is-the-same number reading sums one no_bad no_stop shown of =
    let shows = shows-alone number reading sums one in
    let hists : shown.hists ≡ renumbered 0 shows.listed = of.hists ∙ shows.same in
    let names : names_of shown.hists ≡ names_of shows.listed = ap names_of hists ∙ names-renumbered 0 shows.listed in
    let once : HasNamesOnce shows.listed = once-moved reading.hists shows.listed (IsPermutation-sym shows.listed reading.hists shows.all) one.whole.names in
    let up : Ascend shown.hists = subst (IsStrictlySortedBy (slice_cmp nat_cmp)) (sym names) shows.ascending in
    let sorted_shown : AreSortedByName shown.hists shown = record { same = IsPermutation-refl shown.hists; ascending = sorted-from shown.hists up } in record {
      listed = shows.listed;
      here = record { same = shows.all; ascending = sorted-from shows.listed shows.ascending };
      there = subst (λ (list : List Histogram). AreSortedByName list shown) hists sorted_shown;
      first = λ sorted is. sorted-once sorted shows.listed reading is one.whole.names shows.all shows.ascending;
      second = λ sorted is. sorted-once sorted shown.hists shown is (subst (IsDistinct bytes_eq) (sym names) once) (IsPermutation-refl shown.hists) up ∙ hists;
      full = of.full ∙ full-alone number reading sums one;
      corrupt = of.corrupt ∙ corrupt-alone number reading sums one;
      bad = of.bad ∙ sym no_bad;
      stopped = of.stopped ∙ sym no_stop;
    }

-- what a text says of a reading besides its histograms
beside : {X : Type 0} (reading shown : Reading) → IsTheSame reading shown → (f : Reading → X)
    → f shown ≡ f (record shown { full = reading.full; corrupt = reading.corrupt; bad = reading.bad; stopped = reading.stopped })
beside reading shown same f = λ i. f (record shown { full = same.full i; corrupt = same.corrupt i; bad = same.bad i; stopped = same.stopped i })

-- ---- the report

pub report-same : (reading shown : Reading) → IsTheSame reading shown → (a b : List ℕ) → IsTextOf shown a → IsTextOf reading b → a ≡ b
report-same reading shown same a b one other =
    let list : List Histogram = renumbered 0 same.listed in
    let texts = without-references histogram_text (λ hist index. refl) 0 same.listed in
    let counts = without-references redundant_text (λ hist index. refl) 0 same.listed in
    one.2 ∙ (ap (λ hists. text_in_order hists shown) (same.second one.0 one.1)
    ∙ (beside reading shown same (λ r. text_in_order list r)
    ∙ ((λ i. texts i ++ flag_text (codes "corrupt") reading.corrupt ++ flag_text (codes "full") reading.full ++ counts i
    ++ flat_map bad_text reading.bad ++ stopped_text reading.stopped)
    ∙ sym (other.2 ∙ ap (λ hists. text_in_order hists reading) (same.first other.0 other.1)))))

none-told : (parts : List Part) (others : List OtherSpec) → parts ≡ [] → AllZip IsOtherOf parts others → others ≡ []
none-told [] [] none told = refl
none-told [] (other ∷ rest) none told = absurd told
none-told (part ∷ parts) others none told = absurd (cc)

-- nothing comes after the report of one image
no-ending : (images : ℕ) (others : List OtherSpec) → images ≡ 1 → others ≡ [] → ending_text images others 0 ≡ []
no-ending images others one none = λ i. ending_text (one i) (none i) 0

pub sum-report-same : (number : ℕ) (reading : Reading) (sums : Sums) → IsSumOfOne number reading sums → reading.bad ≡ [] → reading.stopped ≡ None
    → (text report : List ℕ) → IsSumReport sums 0 text → IsTextOf reading report → text ≡ report
sum-report-same number reading sums one no_bad no_stop text report is written =
    let same = is-the-same number reading sums one no_bad no_stop is.reading is.of_sum in
    let others : is.others ≡ [] = none-told (other_parts (parts_of sums)) is.others (none-left-out number reading sums one) is.told in
    is.behind ∙ (ap (λ z. is.report ++ z) (no-ending sums.notes.images is.others one.sum.notes.images others)
    ∙ (append-nil is.report ∙ report-same reading is.reading same is.report report is.written written))

-- ---- the table and the export

pub table-same : (reading shown : Reading) → IsTheSame reading shown → (a b : List ℕ) → IsTableOf shown a → IsTableOf reading b → a ≡ b
table-same reading shown same a b one other =
    one.2 ∙ (ap table_in_order (same.second one.0 one.1)
    ∙ (ap (λ z. table_head ++ z) (without-references table_rows (λ hist index. refl) 0 same.listed)
    ∙ sym (other.2 ∙ ap table_in_order (same.first other.0 other.1))))

export-families : (prefix : List ℕ) (line_labels : List (List ℕ × List ℕ)) (listed : List Histogram) (reading : Reading)
    → families_of prefix line_labels (renumbered 0 listed) reading ≡ families_of prefix line_labels listed reading
export-families prefix line_labels listed reading =
    let ranged = without-references (ranged_samples (prefix ++ codes "_units") line_labels) (λ hist index. refl) 0 listed in
    let sparse = without-references (sparse_samples (prefix ++ codes "_sparse_total") line_labels) (λ hist index. refl) 0 listed in
    λ i. record (units_family prefix line_labels listed) { samples = ranged i } ∷ record (sparse_family prefix line_labels listed) { samples = sparse i }
    ∷ bad_family prefix line_labels reading ∷ flag_family prefix line_labels reading ∷ []

pub export-same : (reading shown : Reading) → IsTheSame reading shown → (prefix : List ℕ) (line_labels : List (List ℕ × List ℕ)) (a b : List ℕ)
    → IsExportOf prefix line_labels shown a → IsExportOf prefix line_labels reading b → a ≡ b
export-same reading shown same prefix line_labels a b one other =
    let first : one.0 ≡ families_of prefix line_labels same.listed reading =
    one.1.2 ∙ (ap (λ hists. families_of prefix line_labels hists shown) (same.second one.1.0 one.1.1)
    ∙ (export-families prefix line_labels same.listed shown ∙ beside reading shown same (families_of prefix line_labels same.listed))) in
    let second : other.0 ≡ families_of prefix line_labels same.listed reading =
    other.1.2 ∙ ap (λ hists. families_of prefix line_labels hists reading) (same.first other.1.0 other.1.1) in
    one.2 ∙ (ap (flat_map family_text) (first ∙ sym second) ∙ sym other.2)

-- ---- families

-- a member without its reference
abbrev plain : FamilyMember → FamilyMember
plain member = record member { hist = record member.hist { reference = 0 } }

-- one more of those that are kept
kept-plain : (t : Bool) (member : FamilyMember) (kept here : List FamilyMember) → kept ≡ map plain here
    → cond t (plain member ∷ kept) kept ≡ map plain (cond t (member ∷ here) here)
kept-plain true member kept here same = ap (λ z. plain member ∷ z) same
kept-plain false member kept here same = same

filter-plain : (one : FamilyMember) (members : List FamilyMember) → filter (same_family one) (map plain members) ≡ map plain (filter (same_family one) members)
filter-plain one [] = refl
filter-plain one (member ∷ rest) =
    kept-plain (same_family one member) member (filter (same_family one) (map plain rest)) (filter (same_family one) rest) (filter-plain one rest)

others-plain : (one : FamilyMember) (members : List FamilyMember)
    → filter (λ other. not (same_family one other)) (map plain members) ≡ map plain (filter (λ other. not (same_family one other)) members)
others-plain one [] = refl
others-plain one (member ∷ rest) =
    kept-plain (not (same_family one member)) member (filter (λ other. not (same_family one other)) (map plain rest))
    (filter (λ other. not (same_family one other)) rest) (others-plain one rest)

firsts-plain : (members : List FamilyMember) → first_of_each same_family (map plain members) ≡ map plain (first_of_each same_family members)
firsts-plain [] = refl
firsts-plain (member ∷ rest) =
    ap (λ z. plain member ∷ filter (λ other. not (same_family member other)) z) (firsts-plain rest)
    ∙ ap (λ z. plain member ∷ z) (others-plain member (first_of_each same_family rest))

samples-plain : {X : Type 0} (f : FamilyMember → List X) → ((member : FamilyMember) → f (plain member) ≡ f member) → (members : List FamilyMember)
    → flat_map f (map plain members) ≡ flat_map f members
samples-plain f same [] = refl
samples-plain f same (member ∷ rest) = λ i. same member i ++ samples-plain f same rest i

-- the samples of the family of one of them
family-samples : {X : Type 0} (f : FamilyMember → List X) → ((member : FamilyMember) → f (plain member) ≡ f member) → (one : FamilyMember) (members : List FamilyMember)
    → flat_map f (filter (same_family one) (map plain members)) ≡ flat_map f (filter (same_family one) members)
family-samples f same one members = ap (flat_map f) (filter-plain one members) ∙ samples-plain f same (filter (same_family one) members)

with-plain : (prefix : List ℕ) (line_labels : List (List ℕ × List ℕ)) (members : List FamilyMember) (one : FamilyMember)
    → families_with prefix line_labels (map plain members) (plain one) ≡ families_with prefix line_labels members one
with-plain prefix line_labels members one =
    let name : List ℕ = metric_of prefix one in
    let units = family-samples (units_in_family name line_labels) (λ member. refl) one members in
    let values = family-samples (values_in_family name line_labels) (λ member. refl) one members in
    let sums = family-samples (sum_in_family (name ++ codes "_sum") line_labels) (λ member. refl) one members in
    let mine : List FamilyMember = filter (same_family one) members in
    λ i.
    if is_sparse one.hist.spec
    then (record (value_family name line_labels mine) { samples = values i }
    ∷ record (sum_family (name ++ codes "_sum") line_labels mine) { samples = sums i } ∷ [])
    else (record (ranged_family name line_labels mine) { samples = units i } ∷ [])

all-with-plain : (prefix : List ℕ) (line_labels : List (List ℕ × List ℕ)) (members firsts : List FamilyMember)
    → flat_map (families_with prefix line_labels (map plain members)) (map plain firsts) ≡ flat_map (families_with prefix line_labels members) firsts
all-with-plain prefix line_labels members [] = refl
all-with-plain prefix line_labels members (one ∷ rest) = λ i. with-plain prefix line_labels members one i ++ all-with-plain prefix line_labels members rest i

by-name-plain : (prefix : List ℕ) (line_labels : List (List ℕ × List ℕ)) (members : List FamilyMember) (reading : Reading)
    → families_by_name prefix line_labels (map plain members) reading ≡ families_by_name prefix line_labels members reading
by-name-plain prefix line_labels members reading =
    ap (λ z. z ++ bad_family prefix line_labels reading ∷ flag_family prefix line_labels reading ∷ [])
    (ap (flat_map (families_with prefix line_labels (map plain members))) (firsts-plain members)
    ∙ all-with-plain prefix line_labels members (first_of_each same_family members))

among-plain : (one : FamilyMember) (members : List FamilyMember) → clash_among (plain one) (map plain members) ≡ clash_among one members
among-plain one [] = refl
among-plain one (member ∷ rest) = λ i. if clashes one member then Some (one.hist.name, member.hist.name) else among-plain one rest i

clash-plain : (members : List FamilyMember) → first_clash (map plain members) ≡ first_clash members
clash-plain [] = refl
clash-plain (one ∷ rest) = λ i.
    or_else (if is_of_segment one.family then Some (one.hist.name, one.family) else among-plain one rest i) (clash-plain rest i)

members-plain : (line_labels : List (List ℕ × List ℕ)) (index : ℕ) (hists : List Histogram)
    → map plain (map (member_of line_labels) (renumbered index hists)) ≡ map plain (map (member_of line_labels) hists)
members-plain line_labels index [] = refl
members-plain line_labels index (hist ∷ rest) = ap (λ z. plain (member_of line_labels hist) ∷ z) (members-plain line_labels (index + 1) rest)

pub families-same : (reading shown : Reading) → IsTheSame reading shown → (prefix : List ℕ) (line_labels : List (List ℕ × List ℕ)) (a b : List ℕ)
    → IsFamiliesTextOf prefix line_labels shown a → IsFamiliesTextOf prefix line_labels reading b → a ≡ b
families-same reading shown same prefix line_labels a b one other =
    let members : List Histogram → List FamilyMember = map (member_of line_labels) in
    let list : List Histogram = renumbered 0 same.listed in
    let here : families_by_name prefix line_labels (members one.hists) shown ≡ families_by_name prefix line_labels (members same.listed) reading =
    ap (λ hists. families_by_name prefix line_labels (members hists) shown) (same.second one.hists one.sorted)
    ∙ (sym (by-name-plain prefix line_labels (members list) shown)
    ∙ (ap (λ z. families_by_name prefix line_labels z shown) (members-plain line_labels 0 same.listed)
    ∙ (by-name-plain prefix line_labels (members same.listed) shown
    ∙ beside reading shown same (families_by_name prefix line_labels (members same.listed))))) in
    let there : families_by_name prefix line_labels (members other.hists) reading ≡ families_by_name prefix line_labels (members same.listed) reading =
    ap (λ hists. families_by_name prefix line_labels (members hists) reading) (same.first other.hists other.sorted) in
    one.is ∙ (ap (flat_map family_text) (here ∙ sym there) ∙ sym other.is)

clash-renumbered : (line_labels : List (List ℕ × List ℕ)) (listed : List Histogram)
    → first_clash (map (member_of line_labels) (renumbered 0 listed)) ≡ first_clash (map (member_of line_labels) listed)
clash-renumbered line_labels listed =
    sym (clash-plain (map (member_of line_labels) (renumbered 0 listed)))
    ∙ (ap first_clash (members-plain line_labels 0 listed) ∙ clash-plain (map (member_of line_labels) listed))

-- the first clash of one is that of the other
pub clash-same : (reading shown : Reading) → IsTheSame reading shown → (line_labels : List (List ℕ × List ℕ)) (first second : List ℕ)
    → IsFirstClashOf line_labels shown first second ↔ IsFirstClashOf line_labels reading first second
clash-same reading shown same line_labels first second =
    let clash : List Histogram → Option (List ℕ × List ℕ) = λ hists. first_clash (map (member_of line_labels) hists) in (
      λ one. record {
        hists = same.listed;
        sorted = same.here;
        is = sym (clash-renumbered line_labels same.listed) ∙ (sym (ap clash (same.second one.hists one.sorted)) ∙ one.is);
      },
      λ one. record {
        hists = renumbered 0 same.listed;
        sorted = same.there;
        is = clash-renumbered line_labels same.listed ∙ (sym (ap clash (same.first one.hists one.sorted)) ∙ one.is);
      },
    )
