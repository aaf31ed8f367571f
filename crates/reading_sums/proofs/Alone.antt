-- What a sum of one reading shows.
use Rattle.std.proofs.Common.{◌≡◌, ◌≢◌, Bool, true, false, nat_lt, if◌then◌else◌, ℕ, ◌+◌, ℤ, pos, List, [], ◌∷◌, map, length, sum_by, slice_index, get_or, refl, ap, sym, subst, ◌∙◌, arith, nat_cmp}
use Rattle.std.specs.Cmp.Lexicographic.{slice_cmp}
use Rattle.std.specs.Str.{bytes_eq}
use Rattle.std.specs.List.{All, AllByRecursion, IsDistinct, flat_map, range_with_len}
use Rattle.std.specs.List.Sorted.{IsStrictlySortedBy}
use Rattle.std.specs.declared.cmp.Ordering.TheVariants.{Less}
use Rattle.std.proofs.lemmas.List.{append-nil}
use Rattle.std.proofs.lemmas.List.Elements.{All-head, All-tail}
use Rattle.std.proofs.lemmas.List.FromFn.{fill_by_all}
use Rattle.std.proofs.lemmas.List.Sorted.{IsPermutation-sym, All-permutation}
use Rattle.std.proofs.lemmas.List.Sums.{sum_by-cons}
use Rattle.std.proofs.lemmas.Map.Keys.{IsDistinct-head, IsDistinct-tail}
use Rattle.std.proofs.lemmas.Simd.{map-map}
use Rattle.std.proofs.lemmas.Slice.Eq.{bytes_eq-Decides}
use Rattle.bucket_ranges.specs.Reading.{Histogram, Reading}
use Rattle.reading_sums.specs.declared.hist.HistSum.{HistSum}
use Rattle.reading_sums.specs.declared.key.KeySum.{KeySum}
use Rattle.reading_sums.specs.declared.sums.Sums.{Sums}
use Rattle.reading_sums.specs.Alone.{HasItsMarks, IsSumOfOne, ShowsInOrder, renumbered}
use Rattle.reading_sums.specs.Keys.{key_from, keys_from}
use Rattle.reading_sums.specs.Notes.{one_if}
use Rattle.reading_sums.specs.Orders.{hist_cmp}
use Rattle.reading_sums.specs.Shown.{Group, before_groups, groups_of, shown_of, left_out_of, counts_of, marks_of, shown_at, shown_from, shown_parts, other_parts}
use Rattle.reading_sums.specs.Totals.{Part, SameTotals, part_from}
use Rattle.reading_sums.specs.Views.{part_of, parts_of}
use Rattle.reading_sums.specs.Whole.{HasNamesOnce}
use Rattle.reading_sums.proofs.GroupNames.{less-name}
use Rattle.reading_sums.proofs.Matched.{AreParts, are-parts}
use Rattle.reading_sums.proofs.OneReading.{once-moved}

-- ---- names

abbrev name_of : HistSum → List ℕ
name_of hist = hist.name.items

unlike : (a b : List ℕ) → bytes_eq a b ≡ false → a ≢ b
unlike a b differ same = let wrong : true ≡ false = sym ((bytes_eq-Decides a b).1 same) ∙ differ in absurd (cc)

all-rise : (x : HistSum) (xs : List HistSum) → AllByRecursion (λ y. hist_cmp x y ≡ Less) xs → AllByRecursion (λ name. bytes_eq x.name.items name ≡ false) (map name_of xs)
    → AllByRecursion (λ name. slice_cmp nat_cmp x.name.items name ≡ Less) (map name_of xs)
all-rise x [] below apart = tt
all-rise x (y ∷ ys) below apart =
    (less-name (slice_cmp nat_cmp x.name.items y.name.items) x y refl below.0 (unlike x.name.items y.name.items apart.0), all-rise x ys below.1 apart.1)

-- histograms that ascend, each of another name, ascend by name
names-rise : (hists : List HistSum) → IsStrictlySortedBy hist_cmp hists → IsDistinct bytes_eq (map name_of hists)
    → IsStrictlySortedBy (slice_cmp nat_cmp) (map name_of hists)
unfolding IsStrictlySortedBy
names-rise [] up once = tt
names-rise (x ∷ xs) up once =
    (all-rise x xs up.0 (IsDistinct-head bytes_eq x.name.items (map name_of xs) once), names-rise xs up.1 (IsDistinct-tail bytes_eq x.name.items (map name_of xs) once))

-- ---- groups

-- a part that is a group
abbrev alone : Part → Group
alone part = record { first = part; rest = [] }

groups-alone : (parts : List Part) → IsDistinct bytes_eq (map (λ (p : Part). p.name) parts) → groups_of parts ≡ map alone parts
groups-alone [] once = refl
groups-alone (x ∷ []) once = refl
groups-alone (x ∷ (y ∷ ys)) once =
    let names : List (List ℕ) = map (λ (p : Part). p.name) (y ∷ ys) in
    let apart = IsDistinct-head bytes_eq x.name names once in
    let joined : List Group = record { first = x; rest = y ∷ [] } ∷ map alone ys in
    let lone : List Group = alone x ∷ alone y ∷ map alone ys in
    ap (before_groups x) (groups-alone (y ∷ ys) (IsDistinct-tail bytes_eq x.name names once)) ∙ ap (λ t. if t then joined else lone) apart.0

shown-alone : (parts : List Part) → map shown_of (map alone parts) ≡ parts
shown-alone [] = refl
shown-alone (part ∷ rest) = ap (λ z. part ∷ z) (shown-alone rest)

others-alone : (parts : List Part) → flat_map left_out_of (map alone parts) ≡ []
others-alone [] = refl
others-alone (part ∷ rest) = others-alone rest

-- ---- histograms as they were

pub counts-back : (counts : List (ℤ × ℕ)) (marks : List ℕ) → counts_of (keys_from counts marks) ≡ counts
counts-back counts marks =
    map-map (λ (key : KeySum). (key.value, key.units)) (key_from counts marks) (range_with_len 0 (length counts))
    ∙ sym (fill_by_all (λ i. get_or counts i (pos 0, 0)) counts (length counts) (pos 0, 0) refl (λ k within. refl))

pub marks-back : (counts : List (ℤ × ℕ)) (marks : List ℕ) → length marks ≡ length counts → marks_of (keys_from counts marks) ≡ marks
marks-back counts marks long =
    map-map (λ (key : KeySum). key.marks) (key_from counts marks) (range_with_len 0 (length counts))
    ∙ sym (fill_by_all (λ i. slice_index marks i) marks (length counts) 0 long (λ k within. refl))

shown-one : (number index : ℕ) (hist : Histogram) → HasItsMarks hist → shown_at index (part_from number hist) ≡ record hist { reference = index }
shown-one number index hist marks = λ i. record {
  reference = index;
  name = hist.name;
  spec = hist.spec;
  counts = counts-back hist.counts hist.marks i;
  marks = marks-back hist.counts hist.marks marks i;
  sum = hist.sum;
  sum_mark = hist.sum_mark;
  redundant = hist.redundant;
}

shown-all : (number index : ℕ) (hists : List Histogram) → All HasItsMarks hists → shown_from index (map (part_from number) hists) ≡ renumbered index hists
shown-all number index [] marks = refl
shown-all number index (hist ∷ rest) marks = λ i.
    shown-one number index hist (All-head HasItsMarks hist rest marks) i ∷ shown-all number (index + 1) rest (All-tail HasItsMarks hist rest marks) i

-- ---- a sum of one reading

parts-alone : (number : ℕ) (reading : Reading) (sums : Sums) → IsSumOfOne number reading sums → AreParts number (parts_of sums) reading.hists
parts-alone number reading sums one =
    let P : List Part → Type 0 = λ parts. SameTotals (parts_of sums) parts in
    are-parts number sums.hists.items reading.hists one.well_formed.ascending one.well_formed.whole one.whole.names one.whole.whole
    (subst P (append-nil (map (part_from number) reading.hists)) one.sum.hists)

-- the names of its parts are there once
names-alone : (number : ℕ) (reading : Reading) (sums : Sums) → IsSumOfOne number reading sums → (are : AreParts number (parts_of sums) reading.hists)
    → (map (λ (p : Part). p.name) (parts_of sums) ≡ map (λ (h : Histogram). h.name) are.listed) × IsDistinct bytes_eq (map (λ (p : Part). p.name) (parts_of sums))
names-alone number reading sums one are =
    let same : map (λ (p : Part). p.name) (parts_of sums) ≡ map (λ (h : Histogram). h.name) are.listed =
    ap (map (λ (p : Part). p.name)) are.are ∙ map-map (λ (p : Part). p.name) (part_from number) are.listed in
    let once : HasNamesOnce are.listed = once-moved reading.hists are.listed (IsPermutation-sym are.listed reading.hists are.all) one.whole.names in
    (same, subst (IsDistinct bytes_eq) (sym same) once)

pub shows-alone : (number : ℕ) (reading : Reading) (sums : Sums) → IsSumOfOne number reading sums → ShowsInOrder reading.hists (shown_parts (parts_of sums))
shows-alone number reading sums one =
    let are = parts-alone number reading sums one in
    let names = names-alone number reading sums one are in
    let of_hists : map (λ (p : Part). p.name) (parts_of sums) ≡ map name_of sums.hists.items = map-map (λ (p : Part). p.name) part_of sums.hists.items in
    let rise = names-rise sums.hists.items one.well_formed.ascending (subst (IsDistinct bytes_eq) of_hists names.1) in
    let marks : All HasItsMarks are.listed = All-permutation HasItsMarks reading.hists are.listed (IsPermutation-sym are.listed reading.hists are.all) one.marks in record {
      listed = are.listed;
      all = are.all;
      ascending = subst (IsStrictlySortedBy (slice_cmp nat_cmp)) (sym of_hists ∙ names.0) rise;
      same = ap (λ groups. shown_from 0 (map shown_of groups)) (groups-alone (parts_of sums) names.1)
          ∙ (ap (shown_from 0) (shown-alone (parts_of sums) ∙ are.are) ∙ shown-all number 0 are.listed marks);
    }

pub none-left-out : (number : ℕ) (reading : Reading) (sums : Sums) → IsSumOfOne number reading sums → other_parts (parts_of sums) ≡ []
none-left-out number reading sums one =
    let names = names-alone number reading sums one (parts-alone number reading sums one) in
    ap (flat_map left_out_of) (groups-alone (parts_of sums) names.1) ∙ others-alone (parts_of sums)

-- ---- its notes

flag-alone : (flag : Bool) (n : ℕ) → n ≡ one_if flag → nat_lt 0 n ≡ flag
flag-alone true n is = ap (nat_lt 0) is
flag-alone false n is = ap (nat_lt 0) is

sum-alone : {X : Type 0} (f : X → ℕ) (x : X) (n : ℕ) → n ≡ sum_by f (x ∷ []) → n ≡ f x
sum-alone f x n is = omega (arith, is, sum_by-cons f x [])

pub full-alone : (number : ℕ) (reading : Reading) (sums : Sums) → IsSumOfOne number reading sums → nat_lt 0 sums.notes.full ≡ reading.full
full-alone number reading sums one =
    flag-alone reading.full sums.notes.full (sum-alone (λ (numbered : ℕ × Reading). one_if numbered.1.full) (number, reading) sums.notes.full one.sum.notes.full)

pub corrupt-alone : (number : ℕ) (reading : Reading) (sums : Sums) → IsSumOfOne number reading sums → nat_lt 0 sums.notes.corrupt ≡ reading.corrupt
corrupt-alone number reading sums one =
    flag-alone reading.corrupt sums.notes.corrupt (sum-alone (λ (numbered : ℕ × Reading). one_if numbered.1.corrupt) (number, reading) sums.notes.corrupt one.sum.notes.corrupt)
