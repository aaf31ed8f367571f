-- What fits together, of sums and of addends in their order.
use Rattle.std.proofs.Common.{◌≡◌, ◌<◌, ◌≤◌, ◌^◌, ◌+◌, ◌⊎◌, ⊎_elim, inl, inr, Bool, true, false, ℕ, ℤ, pos, ◌+ℤ◌, ◌≤ℤ◌, unsigned_abs, FitsSigned, List, [], ◌∷◌, ◌++◌, map, sum_by, if◌then◌else◌, refl, ap, sym, subst, ◌∙◌, arith, append_assoc}
use Rattle.std.specs.Int.{w128}
use Rattle.std.specs.Ordering.{int_eq, is_eq}
use Rattle.std.specs.List.{All, AllByRecursion}
use Rattle.std.specs.List.Sorted.{IsStrictlySortedBy}
use Rattle.std.specs.declared.cmp.Ordering.TheVariants.{Less}
use Rattle.std.proofs.Math.IntN.{+ℤ_idl, +ℤ_idr}
use Rattle.std.proofs.lemmas.Bool.Decides.{Decides-int_eq}
use Rattle.std.proofs.lemmas.Cmp.{int_eq_equiv}
use Rattle.std.proofs.lemmas.Int.{ints, fits_signed_from_abs}
use Rattle.std.proofs.lemmas.List.{append-nil}
use Rattle.std.proofs.lemmas.List.Elements.{All-head, All-tail}
use Rattle.std.proofs.lemmas.List.Sums.{sum_by-append, sum_by-cons}
use Rattle.bucket_ranges.specs.declared.spec.Spec.{Spec}
use Rattle.reading_sums.specs.declared.hist.HistSum.{HistSum}
use Rattle.reading_sums.specs.declared.key.KeySum.{KeySum}
use Rattle.reading_sums.specs.declared.notes.Notes.{Notes}
use Rattle.reading_sums.specs.declared.sums.Sums.{Sums}
use Rattle.reading_sums.specs.Addends.{Addend, IsSumInTurn, parts_in_turn}
use Rattle.reading_sums.specs.Fitting.{AddendsDoNotFit, HasSmallAmounts, NotesDoNotFit, NotesInTurnDoNotFit, PartsDoNotFit, SumDoesNotFit, TotalDoesNotFit, all_units}
use Rattle.reading_sums.specs.Keys.{marks_at, units_at}
use Rattle.reading_sums.specs.Orders.{hist_cmp, key_cmp}
use Rattle.reading_sums.specs.Totals.Quantity.{Units, Marks, Amounts, AmountMarks, Redundant, Images}
use Rattle.reading_sums.specs.Totals.{Part, Quantity, is_of, quantity_of, raised_part, share_of, total}
use Rattle.reading_sums.specs.Views.{part_of, parts_of}
use Rattle.reading_sums.specs.Whole.{AreWhole, IsInRange, IsWholeHist, units_of}
use Rattle.reading_sums.proofs.Matched.{apart-hists}
use Rattle.reading_sums.proofs.SameParts.{NoneOf, total-none}
use Rattle.reading_sums.proofs.SameSpecs.{IsPartOf, is_of-true, is_of-moved}
use Rattle.reading_sums.proofs.SameUnits.{SameNumbers, parts-moved}
use Rattle.reading_sums.proofs.Totals.{total-append}

-- ---- histograms that are whole: there is one or none of a name and a spec

none-moved : (name : List ℕ) (spec : Spec) (part : Part) (parts : List Part) → IsPartOf name spec part → NoneOf part.name part.spec parts → NoneOf name spec parts
none-moved name spec part [] is none = tt
none-moved name spec part (other ∷ rest) is none = (is_of-moved name spec part other is ∙ none.0, none-moved name spec part rest is none.1)

total-so : (P : ℤ → Type 0) (quantity : Quantity) (name : List ℕ) (spec : Spec) (part : Part) (rest : List Part) (t : Bool) → is_of name spec part ≡ t
    → NoneOf part.name part.spec rest → P (quantity_of quantity part) → P (total quantity name spec rest) → P (total quantity name spec (part ∷ rest))
total-so P quantity name spec part rest true is none here behind =
    let empty : total quantity name spec rest ≡ pos 0 =
    total-none quantity name spec rest (none-moved name spec part rest (is_of-true name spec part is) none) in
    let all : total quantity name spec (part ∷ rest) ≡ quantity_of quantity part =
    (λ i. (if is i then quantity_of quantity part else pos 0) +ℤ empty i) ∙ +ℤ_idr (quantity_of quantity part) in
    subst P (sym all) here
total-so P quantity name spec part rest false is none here behind =
    let all : total quantity name spec (part ∷ rest) ≡ total quantity name spec rest =
    (λ i. (if is i then quantity_of quantity part else pos 0) +ℤ total quantity name spec rest) ∙ +ℤ_idl (total quantity name spec rest) in
    subst P (sym all) behind

-- what holds of 0, and of each histogram, holds of the total
total-of : (P : ℤ → Type 0) (Q : HistSum → Type 0) (quantity : Quantity) (name : List ℕ) (spec : Spec) (hists : List HistSum)
    → IsStrictlySortedBy hist_cmp hists → All IsWholeHist hists → All Q hists → P (pos 0)
    → ((hist : HistSum) → IsWholeHist hist → Q hist → P (quantity_of quantity (part_of hist))) → P (total quantity name spec (map part_of hists))
unfolding IsStrictlySortedBy
total-of P Q quantity name spec [] up whole all nothing each = nothing
total-of P Q quantity name spec (x ∷ xs) up whole all nothing each =
    let first = All-head IsWholeHist x xs whole in
    let behind = All-tail IsWholeHist x xs whole in
    total-so P quantity name spec (part_of x) (map part_of xs) (is_of name spec (part_of x)) refl (apart-hists x xs up.0 first behind)
    (each x first (All-head Q x xs all)) (total-of P Q quantity name spec xs up.1 behind (All-tail Q x xs all) nothing each)

units-none : (name : List ℕ) (spec : Spec) (parts : List Part) → NoneOf name spec parts → all_units name spec parts ≡ 0
units-none name spec [] none = refl
units-none name spec (part ∷ rest) none =
    sum_by-cons (λ p. if is_of name spec p then units_of p.keys else 0) part rest
    ∙ (λ i. (if none.0 i then units_of part.keys else 0) + units-none name spec rest none.1 i)

units-so : (n : ℕ) (name : List ℕ) (spec : Spec) (part : Part) (rest : List Part) (t : Bool) → is_of name spec part ≡ t
    → NoneOf part.name part.spec rest → units_of part.keys < n → all_units name spec rest < n → all_units name spec (part ∷ rest) < n
units-so n name spec part rest true is none here behind =
    let empty : all_units name spec rest ≡ 0 = units-none name spec rest (none-moved name spec part rest (is_of-true name spec part is) none) in
    let all : all_units name spec (part ∷ rest) ≡ units_of part.keys + 0 =
    sum_by-cons (λ p. if is_of name spec p then units_of p.keys else 0) part rest ∙ (λ i. (if is i then units_of part.keys else 0) + empty i) in
    subst (λ m. m < n) (sym all) (omega (arith, here))
units-so n name spec part rest false is none here behind =
    let all : all_units name spec (part ∷ rest) ≡ 0 + all_units name spec rest =
    sum_by-cons (λ p. if is_of name spec p then units_of p.keys else 0) part rest ∙ (λ i. (if is i then units_of part.keys else 0) + all_units name spec rest) in
    subst (λ m. m < n) (sym all) (omega (arith, behind))

units-small : (name : List ℕ) (spec : Spec) (hists : List HistSum) → IsStrictlySortedBy hist_cmp hists → All IsWholeHist hists
    → all_units name spec (map part_of hists) < 2 ^ 64
unfolding IsStrictlySortedBy
units-small name spec [] up whole = omega arith
units-small name spec (x ∷ xs) up whole =
    let first = All-head IsWholeHist x xs whole in
    let behind = All-tail IsWholeHist x xs whole in
    units-so (2 ^ 64) name spec (part_of x) (map part_of xs) (is_of name spec (part_of x)) refl (apart-hists x xs up.0 first behind)
    first.small (units-small name spec xs up.1 behind)

-- ---- the numbers of one histogram fit

if-le : (t : Bool) (n : ℕ) → (if t then n else 0) ≤ n
if-le true n = omega arith
if-le false n = omega arith

at-le-units : (keys : List KeySum) (value : ℤ) → units_at keys value ≤ units_of keys
at-le-units [] value = omega arith
at-le-units (key ∷ rest) value =
    omega (
      arith,
      at-le-units rest value,
      if-le (int_eq key.value value) key.units,
      sum_by-cons (λ (k : KeySum). if int_eq k.value value then k.units else 0) key rest,
      sum_by-cons (λ (k : KeySum). k.units) key rest,
    )

marks-none : (x : KeySum) (zs : List KeySum) → AllByRecursion (λ z. key_cmp x z ≡ Less) zs → marks_at zs x.value ≡ 0
marks-none x [] below = refl
marks-none x (z ∷ zs) below =
    let other : int_eq z.value x.value ≡ false = int_eq_equiv.symm z.value x.value ∙ ap is_eq below.0 in
    sum_by-cons (λ (key : KeySum). if int_eq key.value x.value then key.marks else 0) z zs
    ∙ (λ i. (if other i then z.marks else 0) + marks-none x zs below.1 i)

marks-so : (value : ℤ) (x : KeySum) (xs : List KeySum) (t : Bool) → int_eq x.value value ≡ t → AllByRecursion (λ z. key_cmp x z ≡ Less) xs → x.marks < 2 ^ 64
    → marks_at xs value < 2 ^ 64 → marks_at (x ∷ xs) value < 2 ^ 64
marks-so value x xs true is below here behind =
    let empty : marks_at xs value ≡ 0 = ap (marks_at xs) (sym ((Decides-int_eq x.value value).0 is)) ∙ marks-none x xs below in
    let all : marks_at (x ∷ xs) value ≡ x.marks + 0 =
    sum_by-cons (λ (key : KeySum). if int_eq key.value value then key.marks else 0) x xs ∙ (λ i. (if is i then x.marks else 0) + empty i) in
    subst (λ n. n < 2 ^ 64) (sym all) (omega (arith, here))
marks-so value x xs false is below here behind =
    let all : marks_at (x ∷ xs) value ≡ 0 + marks_at xs value =
    sum_by-cons (λ (key : KeySum). if int_eq key.value value then key.marks else 0) x xs ∙ (λ i. (if is i then x.marks else 0) + marks_at xs value) in
    subst (λ n. n < 2 ^ 64) (sym all) (omega (arith, behind))

marks-small : (keys : List KeySum) (value : ℤ) → IsStrictlySortedBy key_cmp keys → All (λ key. key.marks < 2 ^ 64) keys → marks_at keys value < 2 ^ 64
unfolding IsStrictlySortedBy
marks-small [] value up all = omega arith
marks-small (x ∷ xs) value up all =
    let P : KeySum → Type 0 = λ key. key.marks < 2 ^ 64 in
    marks-so value x xs (int_eq x.value value) refl up.0 (All-head P x xs all) (marks-small xs value up.1 (All-tail P x xs all))

nothing-fits : (quantity : Quantity) → ¬ TotalDoesNotFit quantity (pos 0)
nothing-fits (Units key) = λ many. omega (arith, ints, many)
nothing-fits (Marks key) = λ many. omega (arith, ints, many)
nothing-fits Amounts = λ many. many (fits_signed_from_abs w128 (pos 0) (omega arith))
nothing-fits AmountMarks = λ many. many (fits_signed_from_abs w128 (pos 0) (omega arith))
nothing-fits Redundant = λ many. omega (arith, ints, many)
nothing-fits Images = λ many. omega (arith, ints, many)

hist-fits : (quantity : Quantity) (hist : HistSum) → IsWholeHist hist → IsInRange hist → ¬ TotalDoesNotFit quantity (quantity_of quantity (part_of hist))
hist-fits (Units key) hist whole range = λ many. omega (arith, ints, many, at-le-units hist.keys.items key, whole.small)
hist-fits (Marks key) hist whole range = λ many. omega (arith, ints, many, marks-small hist.keys.items key whole.ascending range.marks)
hist-fits Amounts hist whole range = λ many. many range.sum
hist-fits AmountMarks hist whole range = λ many. many range.sum_mark
hist-fits Redundant hist whole range = λ many. omega (arith, ints, many, range.redundant)
hist-fits Images hist whole range = λ many. omega (arith, ints, many, range.images)

hists-fit : (hists : List HistSum) → AreWhole hists → ¬ PartsDoNotFit (map part_of hists)
hists-fit hists are = λ many.
    let name : List ℕ = many.0 in
    let spec : Spec = many.1 in
    ⊎_elim
    (λ units. let small = units-small name spec hists are.ascending are.whole in omega (arith, units, small))
    (λ some.
    let P : ℤ → Type 0 = λ number. ¬ TotalDoesNotFit some.0 number in
    total-of P IsInRange some.0 name spec hists are.ascending are.whole are.range (nothing-fits some.0) (hist-fits some.0) some.1)
    many.2

-- parts that have the numbers of a well-formed sum fit together
pub whole-parts-fit : (hists : List HistSum) (parts : List Part) → AreWhole hists → SameNumbers (map part_of hists) parts → ¬ PartsDoNotFit parts
whole-parts-fit hists parts are same = λ many.
    hists-fit hists are (parts-moved parts (map part_of hists) (λ quantity name spec. sym (same quantity name spec)) many)

-- ---- small amounts

hist-small : (quantity : Quantity) (Q : HistSum → Type 0) (hists : List HistSum) (name : List ℕ) (spec : Spec) → AreWhole hists → All Q hists
    → ((hist : HistSum) → Q hist → unsigned_abs (quantity_of quantity (part_of hist)) < 2 ^ 126)
    → unsigned_abs (total quantity name spec (map part_of hists)) < 2 ^ 126
hist-small quantity Q hists name spec are all each =
    let P : ℤ → Type 0 = λ number. unsigned_abs number < 2 ^ 126 in
    total-of P Q quantity name spec hists are.ascending are.whole all (omega arith) (λ hist whole q. each hist q)

-- parts that have the numbers of a well-formed sum of small amounts have small amounts
pub small-known : (hists : List HistSum) (parts : List Part) → AreWhole hists
    → All (λ (hist : HistSum). (unsigned_abs hist.sum < 2 ^ 126) × (unsigned_abs hist.sum_mark < 2 ^ 126)) hists → SameNumbers (map part_of hists) parts
    → HasSmallAmounts parts
small-known hists parts are small same = λ name spec.
    let Q : HistSum → Type 0 = λ hist. (unsigned_abs hist.sum < 2 ^ 126) × (unsigned_abs hist.sum_mark < 2 ^ 126) in
    let P : ℤ → Type 0 = λ number. unsigned_abs number < 2 ^ 126 in (
      subst P (same Amounts name spec) (hist-small Amounts Q hists name spec are small (λ hist q. q.0)),
      subst P (same AmountMarks name spec) (hist-small AmountMarks Q hists name spec are small (λ hist q. q.1)),
    )

-- ---- the numbers of addends in their order

share-raised : (quantity : Quantity) (name : List ℕ) (spec : Spec) (by : ℕ) (part : Part)
    → share_of quantity name spec (raised_part by part) ≡ share_of quantity name spec part
share-raised (Units key) name spec by part = refl
share-raised (Marks key) name spec by part = refl
share-raised Amounts name spec by part = refl
share-raised AmountMarks name spec by part = refl
share-raised Redundant name spec by part = refl
share-raised Images name spec by part = refl

-- raised parts have the same numbers, except for the least
pub raised-numbers : (by : ℕ) (parts : List Part) → SameNumbers (map (raised_part by) parts) parts
raised-numbers by [] = λ quantity name spec. refl
raised-numbers by (part ∷ rest) = λ quantity name spec i.
    share-raised quantity name spec by part i +ℤ raised-numbers by rest quantity name spec i

-- the parts of addends, which are not raised
all_parts : List Addend → List Part
all_parts [] = []
all_parts (addend ∷ rest) = addend.parts ++ all_parts rest

turn-numbers : (first : ℕ) (addends : List Addend) → SameNumbers (parts_in_turn first addends) (all_parts addends)
unfolding all_parts
turn-numbers first [] = λ quantity name spec. refl
turn-numbers first (addend ∷ rest) = λ quantity name spec.
    total-append quantity name spec (map (raised_part first) addend.parts) (parts_in_turn (first + addend.notes.images) rest)
    ∙ ((λ i. raised-numbers first addend.parts quantity name spec i +ℤ turn-numbers (first + addend.notes.images) rest quantity name spec i)
    ∙ sym (total-append quantity name spec addend.parts (all_parts rest)))

all_parts-append : (xs ys : List Addend) → SameNumbers (all_parts (xs ++ ys)) (all_parts xs ++ all_parts ys)
unfolding all_parts
all_parts-append [] ys = λ quantity name spec. refl
all_parts-append (x ∷ xs) ys = λ quantity name spec.
    total-append quantity name spec x.parts (all_parts (xs ++ ys))
    ∙ (ap (λ n. total quantity name spec x.parts +ℤ n) (all_parts-append xs ys quantity name spec)
    ∙ (sym (total-append quantity name spec x.parts (all_parts xs ++ all_parts ys))
    ∙ ap (total quantity name spec) (sym (append_assoc x.parts (all_parts xs) (all_parts ys)))))

-- ---- the same numbers

numbers-sym : (a b : List Part) → SameNumbers a b → SameNumbers b a
numbers-sym a b same = λ quantity name spec. sym (same quantity name spec)

numbers-trans : (a b c : List Part) → SameNumbers a b → SameNumbers b c → SameNumbers a c
numbers-trans a b c first second = λ quantity name spec. first quantity name spec ∙ second quantity name spec

numbers-both : (a b c d : List Part) → SameNumbers a c → SameNumbers b d → SameNumbers (a ++ b) (c ++ d)
numbers-both a b c d first second = λ quantity name spec.
    total-append quantity name spec a b ∙ ((λ i. first quantity name spec i +ℤ second quantity name spec i) ∙ sym (total-append quantity name spec c d))

-- the numbers of addends in two lists are those of both lists in a row
turn-both : (xs ys : List Addend) → SameNumbers (parts_in_turn 0 xs ++ parts_in_turn 0 ys) (parts_in_turn 0 (xs ++ ys))
turn-both xs ys =
    numbers-trans (parts_in_turn 0 xs ++ parts_in_turn 0 ys) (all_parts xs ++ all_parts ys) (parts_in_turn 0 (xs ++ ys))
    (numbers-both (parts_in_turn 0 xs) (parts_in_turn 0 ys) (all_parts xs) (all_parts ys) (turn-numbers 0 xs) (turn-numbers 0 ys))
    (numbers-sym (parts_in_turn 0 (xs ++ ys)) (all_parts xs ++ all_parts ys)
    (numbers-trans (parts_in_turn 0 (xs ++ ys)) (all_parts (xs ++ ys)) (all_parts xs ++ all_parts ys) (turn-numbers 0 (xs ++ ys)) (all_parts-append xs ys)))

-- a list of parts has the numbers of an addend alone
turn-one : (addend : Addend) → SameNumbers addend.parts (parts_in_turn 0 (addend ∷ []))
turn-one addend =
    subst (SameNumbers addend.parts) (sym (append-nil (map (raised_part 0) addend.parts)))
    (numbers-sym (map (raised_part 0) addend.parts) addend.parts (raised-numbers 0 addend.parts))

-- a sum followed by parts that have the numbers of some addends has the numbers of its own addends and those
numbers-behind : (sums : Sums) (parts : List Part) (xs ys : List Addend) → IsSumInTurn xs sums → SameNumbers parts (parts_in_turn 0 ys)
    → SameNumbers (parts_of sums ++ parts) (parts_in_turn 0 (xs ++ ys))
numbers-behind sums parts xs ys is same =
    numbers-trans (parts_of sums ++ parts) (parts_in_turn 0 xs ++ parts_in_turn 0 ys) (parts_in_turn 0 (xs ++ ys))
    (numbers-both (parts_of sums) parts (parts_in_turn 0 xs) (parts_in_turn 0 ys) is.hists.totals same) (turn-both xs ys)

-- the same with one addend after the sum
pub numbers-in-turn : (sums : Sums) (addends : List Addend) (addend : Addend) → IsSumInTurn addends sums
    → SameNumbers (parts_of sums ++ addend.parts) (parts_in_turn 0 (addends ++ addend ∷ []))
numbers-in-turn sums addends addend is = numbers-behind sums addend.parts addends (addend ∷ []) is (turn-one addend)

-- ---- what fits after a sum

-- some number is 2^64 or more
abbrev IsSomeTooGreat : ℕ → ℕ → ℕ → ℕ → ℕ → Type 0
IsSomeTooGreat a b c d e = (2 ^ 64 ≤ a) ⊎ (2 ^ 64 ≤ b) ⊎ (2 ^ 64 ≤ c) ⊎ (2 ^ 64 ≤ d) ⊎ (2 ^ 64 ≤ e)

more-too-great : (a b c d e v w x y z : ℕ) → a ≤ v → b ≤ w → c ≤ x → d ≤ y → e ≤ z → IsSomeTooGreat a b c d e → IsSomeTooGreat v w x y z
more-too-great a b c d e v w x y z one two three four five (inl many) = inl (omega arith)
more-too-great a b c d e v w x y z one two three four five (inr (inl many)) = inr (inl (omega arith))
more-too-great a b c d e v w x y z one two three four five (inr (inr (inl many))) = inr (inr (inl (omega arith)))
more-too-great a b c d e v w x y z one two three four five (inr (inr (inr (inl many)))) = inr (inr (inr (inl (omega arith))))
more-too-great a b c d e v w x y z one two three four five (inr (inr (inr (inr many)))) = inr (inr (inr (inr (omega arith))))

-- notes are those of addends together
record AreNotesInTurn (addends : List Addend) (notes : Notes) : Type 0 where
  images : notes.images ≡ sum_by (λ (addend : Addend). addend.notes.images) addends
  full : notes.full ≡ sum_by (λ (addend : Addend). addend.notes.full) addends
  corrupt : notes.corrupt ≡ sum_by (λ (addend : Addend). addend.notes.corrupt) addends
  stopped : notes.stopped ≡ sum_by (λ (addend : Addend). addend.notes.stopped) addends
  bad : notes.bad ≡ sum_by (λ (addend : Addend). addend.notes.bad) addends

notes-of : (addends : List Addend) (sums : Sums) → IsSumInTurn addends sums → AreNotesInTurn addends sums.notes
notes-of addends sums is = record { images = is.images; full = is.full; corrupt = is.corrupt; stopped = is.stopped; bad = is.bad }

notes-alone : (addend : Addend) → AreNotesInTurn (addend ∷ []) addend.notes
notes-alone addend = record { images = omega arith; full = omega arith; corrupt = omega arith; stopped = omega arith; bad = omega arith }

-- a number of both lists is the sum of that of each
number-of : (f : Addend → ℕ) (xs ys : List Addend) (a b : ℕ) → a ≡ sum_by f xs → b ≡ sum_by f ys → sum_by f (xs ++ ys) ≡ a + b
number-of f xs ys a b first second = sum_by-append f xs ys ∙ (λ i. sym first i + sym second i)

le-same : (a b : ℕ) → a ≡ b → a ≤ b
le-same a b e = omega arith

notes-so : (a b : Notes) (xs ys : List Addend) → AreNotesInTurn xs a → AreNotesInTurn ys b → NotesDoNotFit a b → NotesInTurnDoNotFit (xs ++ ys)
notes-so a b xs ys first second many =
    let images : Addend → ℕ = λ addend. addend.notes.images in
    let full : Addend → ℕ = λ addend. addend.notes.full in
    let corrupt : Addend → ℕ = λ addend. addend.notes.corrupt in
    let stopped : Addend → ℕ = λ addend. addend.notes.stopped in
    let bad : Addend → ℕ = λ addend. addend.notes.bad in
    more-too-great (a.images + b.images) (a.full + b.full) (a.corrupt + b.corrupt) (a.stopped + b.stopped) (a.bad + b.bad)
    (sum_by images (xs ++ ys)) (sum_by full (xs ++ ys)) (sum_by corrupt (xs ++ ys)) (sum_by stopped (xs ++ ys)) (sum_by bad (xs ++ ys))
    (le-same (a.images + b.images) (sum_by images (xs ++ ys)) (sym (number-of images xs ys a.images b.images first.images second.images)))
    (le-same (a.full + b.full) (sum_by full (xs ++ ys)) (sym (number-of full xs ys a.full b.full first.full second.full)))
    (le-same (a.corrupt + b.corrupt) (sum_by corrupt (xs ++ ys)) (sym (number-of corrupt xs ys a.corrupt b.corrupt first.corrupt second.corrupt)))
    (le-same (a.stopped + b.stopped) (sum_by stopped (xs ++ ys)) (sym (number-of stopped xs ys a.stopped b.stopped first.stopped second.stopped)))
    (le-same (a.bad + b.bad) (sum_by bad (xs ++ ys)) (sym (number-of bad xs ys a.bad b.bad first.bad second.bad))) many

notes-back : (a b : Notes) (xs ys : List Addend) → AreNotesInTurn xs a → AreNotesInTurn ys b → NotesInTurnDoNotFit (xs ++ ys) → NotesDoNotFit a b
notes-back a b xs ys first second many =
    let images : Addend → ℕ = λ addend. addend.notes.images in
    let full : Addend → ℕ = λ addend. addend.notes.full in
    let corrupt : Addend → ℕ = λ addend. addend.notes.corrupt in
    let stopped : Addend → ℕ = λ addend. addend.notes.stopped in
    let bad : Addend → ℕ = λ addend. addend.notes.bad in
    more-too-great (sum_by images (xs ++ ys)) (sum_by full (xs ++ ys)) (sum_by corrupt (xs ++ ys)) (sum_by stopped (xs ++ ys)) (sum_by bad (xs ++ ys))
    (a.images + b.images) (a.full + b.full) (a.corrupt + b.corrupt) (a.stopped + b.stopped) (a.bad + b.bad)
    (le-same (sum_by images (xs ++ ys)) (a.images + b.images) (number-of images xs ys a.images b.images first.images second.images))
    (le-same (sum_by full (xs ++ ys)) (a.full + b.full) (number-of full xs ys a.full b.full first.full second.full))
    (le-same (sum_by corrupt (xs ++ ys)) (a.corrupt + b.corrupt) (number-of corrupt xs ys a.corrupt b.corrupt first.corrupt second.corrupt))
    (le-same (sum_by stopped (xs ++ ys)) (a.stopped + b.stopped) (number-of stopped xs ys a.stopped b.stopped first.stopped second.stopped))
    (le-same (sum_by bad (xs ++ ys)) (a.bad + b.bad) (number-of bad xs ys a.bad b.bad first.bad second.bad)) many

too-many : (sums : Sums) (parts : List Part) (notes : Notes) (xs ys : List Addend) → IsSumInTurn xs sums → SameNumbers parts (parts_in_turn 0 ys)
    → AreNotesInTurn ys notes → SumDoesNotFit sums parts notes → AddendsDoNotFit (xs ++ ys)
too-many sums parts notes xs ys is same are many =
    ⊎_elim (λ of_notes. inl (notes-so sums.notes notes xs ys (notes-of xs sums is) are of_notes))
    (λ of_parts. inr (parts-moved (parts_of sums ++ parts) (parts_in_turn 0 (xs ++ ys)) (numbers-behind sums parts xs ys is same) of_parts)) many

not-too-many : (sums : Sums) (parts : List Part) (notes : Notes) (xs ys : List Addend) → IsSumInTurn xs sums → SameNumbers parts (parts_in_turn 0 ys)
    → AreNotesInTurn ys notes → AddendsDoNotFit (xs ++ ys) → SumDoesNotFit sums parts notes
not-too-many sums parts notes xs ys is same are many =
    ⊎_elim (λ of_notes. inl (notes-back sums.notes notes xs ys (notes-of xs sums is) are of_notes))
    (λ of_parts. inr (parts-moved (parts_in_turn 0 (xs ++ ys)) (parts_of sums ++ parts)
    (numbers-sym (parts_of sums ++ parts) (parts_in_turn 0 (xs ++ ys)) (numbers-behind sums parts xs ys is same)) of_parts)) many

-- what fits after a sum, fits after its addends
pub fits-behind : (sums : Sums) (addends : List Addend) (addend : Addend) → IsSumInTurn addends sums → ¬ SumDoesNotFit sums addend.parts addend.notes
    → ¬ AddendsDoNotFit (addends ++ addend ∷ [])
fits-behind sums addends addend is fits = λ many.
    fits (not-too-many sums addend.parts addend.notes addends (addend ∷ []) is (turn-one addend) (notes-alone addend) many)

-- and what does not fit after a sum, does not fit after its addends
pub too-many-behind : (sums : Sums) (addends : List Addend) (addend : Addend) → IsSumInTurn addends sums → SumDoesNotFit sums addend.parts addend.notes
    → AddendsDoNotFit (addends ++ addend ∷ [])
too-many-behind sums addends addend is many = too-many sums addend.parts addend.notes addends (addend ∷ []) is (turn-one addend) (notes-alone addend) many

-- if a sum fits after another, the addends of both fit together
pub both-fit : (a b : Sums) (xs ys : List Addend) → IsSumInTurn xs a → IsSumInTurn ys b → ¬ SumDoesNotFit a (parts_of b) b.notes → ¬ AddendsDoNotFit (xs ++ ys)
both-fit a b xs ys first second fits = λ many.
    fits (not-too-many a (parts_of b) b.notes xs ys first second.hists.totals (notes-of ys b second) many)

-- ---- what comes before others

-- amounts that are small, and two of them
abs-both : (a b : ℤ) → unsigned_abs a < 2 ^ 126 → unsigned_abs b < 2 ^ 126 → unsigned_abs (a +ℤ b) < 2 ^ 127
abs-both a b first second = omega (arith, ints)

small-both : (a b : ℤ) → unsigned_abs a < 2 ^ 126 → unsigned_abs b < 2 ^ 126 → FitsSigned w128 (a +ℤ b)
small-both a b first second = fits_signed_from_abs w128 (a +ℤ b) (abs-both a b first second)

-- a number of parts that is not below 0
share-up : (quantity : Quantity) (name : List ℕ) (spec : Spec) (part : Part) (t : Bool) → pos 0 ≤ℤ quantity_of quantity part
    → pos 0 ≤ℤ (if t then quantity_of quantity part else pos 0)
share-up quantity name spec part true up = up
share-up quantity name spec part false up = omega (arith, ints)

total-up : (quantity : Quantity) (name : List ℕ) (spec : Spec) (parts : List Part) → ((part : Part) → pos 0 ≤ℤ quantity_of quantity part)
    → pos 0 ≤ℤ total quantity name spec parts
total-up quantity name spec [] up = omega (arith, ints)
total-up quantity name spec (part ∷ rest) up =
    let here = share-up quantity name spec part (is_of name spec part) (up part) in
    let behind = total-up quantity name spec rest up in
    omega (arith, ints, here, behind)

long-more : (a b : ℤ) → pos (2 ^ 64) ≤ℤ a → pos 0 ≤ℤ b → pos (2 ^ 64) ≤ℤ (a +ℤ b)
long-more a b long up = omega (arith, ints)

total-more : (quantity : Quantity) (name : List ℕ) (spec : Spec) (front behind : List Part) → ((part : Part) → pos 0 ≤ℤ quantity_of quantity part)
    → pos (2 ^ 64) ≤ℤ total quantity name spec front → pos (2 ^ 64) ≤ℤ total quantity name spec (front ++ behind)
total-more quantity name spec front behind up long =
    subst (λ n. pos (2 ^ 64) ≤ℤ n) (sym (total-append quantity name spec front behind))
    (long-more (total quantity name spec front) (total quantity name spec behind) long (total-up quantity name spec behind up))

pos-up : (n : ℕ) → pos 0 ≤ℤ pos n
pos-up n = omega (arith, ints)

amounts-fit : (quantity : Quantity) (name : List ℕ) (spec : Spec) (a b : List Part) → unsigned_abs (total quantity name spec a) < 2 ^ 126
    → unsigned_abs (total quantity name spec b) < 2 ^ 126 → FitsSigned w128 (total quantity name spec (a ++ b))
amounts-fit quantity name spec a b first second =
    subst (FitsSigned w128) (sym (total-append quantity name spec a b)) (small-both (total quantity name spec a) (total quantity name spec b) first second)

-- what does not fit of two lists with small amounts, does not fit with more after them either
quantity-more : (quantity : Quantity) (name : List ℕ) (spec : Spec) (a b behind : List Part) → HasSmallAmounts a → HasSmallAmounts b
    → TotalDoesNotFit quantity (total quantity name spec (a ++ b)) → TotalDoesNotFit quantity (total quantity name spec ((a ++ b) ++ behind))
quantity-more (Units key) name spec a b behind first second many =
    total-more (Units key) name spec (a ++ b) behind (λ part. pos-up (units_at part.keys key)) many
quantity-more (Marks key) name spec a b behind first second many =
    total-more (Marks key) name spec (a ++ b) behind (λ part. pos-up (marks_at part.keys key)) many
quantity-more Amounts name spec a b behind first second many =
    absurd (many (amounts-fit Amounts name spec a b (first name spec).0 (second name spec).0))
quantity-more AmountMarks name spec a b behind first second many =
    absurd (many (amounts-fit AmountMarks name spec a b (first name spec).1 (second name spec).1))
quantity-more Redundant name spec a b behind first second many = total-more Redundant name spec (a ++ b) behind (λ part. pos-up part.redundant) many
quantity-more Images name spec a b behind first second many = total-more Images name spec (a ++ b) behind (λ part. pos-up part.images) many

more-behind : (n a b : ℕ) → n ≤ a → n ≤ a + b
more-behind n a b long = omega arith

parts-more : (a b behind : List Part) → HasSmallAmounts a → HasSmallAmounts b → PartsDoNotFit (a ++ b) → PartsDoNotFit ((a ++ b) ++ behind)
parts-more a b behind first second many = (
  many.0,
  many.1,
  ⊎_elim
      (λ units.
      let f : Part → ℕ = λ p. if is_of many.0 many.1 p then units_of p.keys else 0 in
      let all : sum_by f ((a ++ b) ++ behind) ≡ sum_by f (a ++ b) + sum_by f behind = sum_by-append f (a ++ b) behind in
      inl (subst (λ n. 2 ^ 64 ≤ n) (sym all) (more-behind (2 ^ 64) (sum_by f (a ++ b)) (sum_by f behind) units)))
      (λ some. inr (some.0, quantity-more some.0 many.0 many.1 a b behind first second some.1)) many.2,
)

turn-three : (xs ys zs : List Addend)
    → SameNumbers ((parts_in_turn 0 xs ++ parts_in_turn 0 ys) ++ parts_in_turn 0 zs) (parts_in_turn 0 (xs ++ (ys ++ zs)))
turn-three xs ys zs =
    subst (λ list. SameNumbers ((parts_in_turn 0 xs ++ parts_in_turn 0 ys) ++ parts_in_turn 0 zs) (parts_in_turn 0 list)) (append_assoc xs ys zs)
    (numbers-trans ((parts_in_turn 0 xs ++ parts_in_turn 0 ys) ++ parts_in_turn 0 zs) (parts_in_turn 0 (xs ++ ys) ++ parts_in_turn 0 zs) (parts_in_turn 0 ((xs ++ ys) ++ zs))
    (numbers-both (parts_in_turn 0 xs ++ parts_in_turn 0 ys) (parts_in_turn 0 zs) (parts_in_turn 0 (xs ++ ys)) (parts_in_turn 0 zs) (turn-both xs ys)
    (λ quantity name spec. refl))
    (turn-both (xs ++ ys) zs))

number-more : (f : Addend → ℕ) (xs ys zs : List Addend) → sum_by f (xs ++ ys) ≤ sum_by f (xs ++ (ys ++ zs))
number-more f xs ys zs = omega (arith, sum_by-append f xs ys, sum_by-append f xs (ys ++ zs), sum_by-append f ys zs)

notes-more : (xs ys zs : List Addend) → NotesInTurnDoNotFit (xs ++ ys) → NotesInTurnDoNotFit (xs ++ (ys ++ zs))
notes-more xs ys zs many =
    let images : Addend → ℕ = λ addend. addend.notes.images in
    let full : Addend → ℕ = λ addend. addend.notes.full in
    let corrupt : Addend → ℕ = λ addend. addend.notes.corrupt in
    let stopped : Addend → ℕ = λ addend. addend.notes.stopped in
    let bad : Addend → ℕ = λ addend. addend.notes.bad in
    let front : List Addend = xs ++ ys in
    let all : List Addend = xs ++ (ys ++ zs) in
    more-too-great (sum_by images front) (sum_by full front) (sum_by corrupt front) (sum_by stopped front) (sum_by bad front)
    (sum_by images all) (sum_by full all) (sum_by corrupt all) (sum_by stopped all) (sum_by bad all)
    (number-more images xs ys zs) (number-more full xs ys zs) (number-more corrupt xs ys zs) (number-more stopped xs ys zs) (number-more bad xs ys zs) many

-- if all addends fit together, those at the front do, if the amounts of two lists of them are small
pub front-fits : (xs ys zs : List Addend) → ¬ AddendsDoNotFit (xs ++ (ys ++ zs)) → HasSmallAmounts (parts_in_turn 0 xs) → HasSmallAmounts (parts_in_turn 0 ys)
    → ¬ AddendsDoNotFit (xs ++ ys)
front-fits xs ys zs fits first second = λ many.
    let a : List Part = parts_in_turn 0 xs in
    let b : List Part = parts_in_turn 0 ys in
    fits (⊎_elim (λ of_notes. inl (notes-more xs ys zs of_notes))
    (λ of_parts. inr (parts-moved ((a ++ b) ++ parts_in_turn 0 zs) (parts_in_turn 0 (xs ++ (ys ++ zs))) (turn-three xs ys zs)
    (parts-more a b (parts_in_turn 0 zs) first second
    (parts-moved (parts_in_turn 0 (xs ++ ys)) (a ++ b) (numbers-sym (a ++ b) (parts_in_turn 0 (xs ++ ys)) (turn-both xs ys)) of_parts)))) many)
