-- Sums of images whose numbers are raised.
use Rattle.std.proofs.Common.{◌≡◌, Bool, true, false, ◌&&◌, ◌||◌, nat_le, ℕ, ◌+◌, ◌-◌, ◌+ℤ◌, List, [], ◌∷◌, ◌++◌, map, length, is_some, refl, ap, sym, ◌∙◌, arith}
use Rattle.std.proofs.lemmas.Bool.Decides.{nat_tests}
use Rattle.std.proofs.lemmas.List.{map-append, length-map}
use Rattle.std.proofs.lemmas.List.Sums.{sum_by-cons}
use Rattle.std.proofs.Common.{sum_by}
use Rattle.bucket_ranges.specs.declared.spec.Spec.{Spec}
use Rattle.bucket_ranges.specs.Reading.{Histogram, Reading}
use Rattle.reading_sums.specs.declared.notes.Notes.{Notes}
use Rattle.reading_sums.specs.Notes.{one_if}
use Rattle.reading_sums.specs.Totals.Quantity.{Units, Marks, Amounts, AmountMarks, Redundant, Images}
use Rattle.reading_sums.specs.Totals.Feature.{HasKey, IsUpTo}
use Rattle.reading_sums.specs.Totals.{Part, Quantity, Feature, SameTotals, part_from, raised_part, total, share_of, is_had, has_feature, is_of}
use Rattle.reading_sums.specs.Sums.{AreNotesIn, parts_in, parts_of_one, raised}
use Rattle.reading_sums.proofs.Totals.{same-trans, same-equal}

-- ---- parts that are not raised

pub not-raised : (parts : List Part) → map (raised_part 0) parts ≡ parts
not-raised [] = refl
not-raised (part ∷ rest) = let e : part.least + 0 ≡ part.least = omega arith in λ i. (record part { least = e i }) ∷ not-raised rest i

-- ---- what is added up stays

share-raised : (quantity : Quantity) (name : List ℕ) (spec : Spec) (by : ℕ) (part : Part)
    → share_of quantity name spec (raised_part by part) ≡ share_of quantity name spec part
share-raised (Units key) name spec by part = refl
share-raised (Marks key) name spec by part = refl
share-raised Amounts name spec by part = refl
share-raised AmountMarks name spec by part = refl
share-raised Redundant name spec by part = refl
share-raised Images name spec by part = refl

total-raised : (quantity : Quantity) (name : List ℕ) (spec : Spec) (by : ℕ) (parts : List Part)
    → total quantity name spec (map (raised_part by) parts) ≡ total quantity name spec parts
total-raised quantity name spec by [] = refl
total-raised quantity name spec by (part ∷ rest) =
    λ i. share-raised quantity name spec by part i +ℤ total-raised quantity name spec by rest i

-- ---- and so do the keys

had-key-raised : (key : _) (name : List ℕ) (spec : Spec) (by : ℕ) (parts : List Part)
    → is_had (HasKey key) name spec (map (raised_part by) parts) ≡ is_had (HasKey key) name spec parts
had-key-raised key name spec by [] = refl
had-key-raised key name spec by (part ∷ rest) =
    ap (λ b. (is_of name spec part && has_feature (HasKey key) part) || b) (had-key-raised key name spec by rest)

-- ---- the least number

up_to-raised : (least by n : ℕ) → nat_le (least + by) n ≡ (nat_le by n && nat_le least (n - by))
up_to-raised least by n = grind (arith, nat_tests)

both-or : (t e a b : Bool) → ((t && (e && a)) || (e && b)) ≡ (e && ((t && a) || b))
both-or true true a b = refl
both-or true false a b = refl
both-or false true a b = refl
both-or false false a b = refl

none-and : (e : Bool) → false ≡ (e && false)
none-and true = refl
none-and false = refl

had-up_to-raised : (n : ℕ) (name : List ℕ) (spec : Spec) (by : ℕ) (parts : List Part)
    → is_had (IsUpTo n) name spec (map (raised_part by) parts) ≡ (nat_le by n && is_had (IsUpTo (n - by)) name spec parts)
had-up_to-raised n name spec by [] = none-and (nat_le by n)
had-up_to-raised n name spec by (part ∷ rest) =
    (λ i. (is_of name spec part && up_to-raised part.least by n i) || had-up_to-raised n name spec by rest i)
    ∙ both-or (is_of name spec part) (nat_le by n) (nat_le part.least (n - by)) (is_had (IsUpTo (n - by)) name spec rest)

features-raised : (a b : List Part) (by : ℕ) → SameTotals a b → (feature : Feature) (name : List ℕ) (spec : Spec)
    → is_had feature name spec (map (raised_part by) a) ≡ is_had feature name spec (map (raised_part by) b)
features-raised a b by same (HasKey key) name spec =
    had-key-raised key name spec by a ∙ (same.features (HasKey key) name spec ∙ sym (had-key-raised key name spec by b))
features-raised a b by same (IsUpTo n) name spec =
    had-up_to-raised n name spec by a
    ∙ (ap (λ t. nat_le by n && t) (same.features (IsUpTo (n - by)) name spec) ∙ sym (had-up_to-raised n name spec by b))

pub same-raised : (a b : List Part) (by : ℕ) → SameTotals a b → SameTotals (map (raised_part by) a) (map (raised_part by) b)
same-raised a b by same = record {
  totals = λ quantity name spec. total-raised quantity name spec by a
      ∙ (same.totals quantity name spec ∙ sym (total-raised quantity name spec by b));
  features = features-raised a b by same;
}

-- ---- readings

hists-raised : (by number : ℕ) (hists : List Histogram)
    → map (raised_part by) (map (part_from number) hists) ≡ map (part_from (number + by)) hists
hists-raised by number [] = refl
hists-raised by number (hist ∷ rest) = ap (λ z. part_from (number + by) hist ∷ z) (hists-raised by number rest)

pub parts_in-raised : (by : ℕ) (readings : List (ℕ × Reading))
    → map (raised_part by) (parts_in readings) ≡ parts_in (map (raised by) readings)
parts_in-raised by [] = refl
parts_in-raised by (one ∷ rest) =
    map-append (raised_part by) (parts_of_one one) (parts_in rest)
    ∙ (λ i. hists-raised by one.0 one.1.hists i ++ parts_in-raised by rest i)

sum_by-raised : (f : Reading → ℕ) (by : ℕ) (readings : List (ℕ × Reading))
    → sum_by (λ numbered. f numbered.1) (map (raised by) readings) ≡ sum_by (λ numbered. f numbered.1) readings
sum_by-raised f by [] = refl
sum_by-raised f by (one ∷ rest) =
    sum_by-cons (λ numbered. f numbered.1) (raised by one) (map (raised by) rest)
    ∙ (ap (λ n. f one.1 + n) (sum_by-raised f by rest) ∙ sym (sum_by-cons (λ numbered. f numbered.1) one rest))

pub notes-raised : (by : ℕ) (readings : List (ℕ × Reading)) (notes : Notes) → AreNotesIn readings notes
    → AreNotesIn (map (raised by) readings) notes
notes-raised by readings notes are = record {
  images = are.images ∙ sym (length-map readings (raised by));
  full = are.full ∙ sym (sum_by-raised (λ reading. one_if reading.full) by readings);
  corrupt = are.corrupt ∙ sym (sum_by-raised (λ reading. one_if reading.corrupt) by readings);
  stopped = are.stopped ∙ sym (sum_by-raised (λ reading. one_if (is_some reading.stopped)) by readings);
  bad = are.bad ∙ sym (sum_by-raised (λ reading. length reading.bad) by readings);
}

-- the parts of a sum, raised, are those of the readings, raised
pub parts-raised : (a : List Part) (by : ℕ) (readings : List (ℕ × Reading)) → SameTotals a (parts_in readings)
    → SameTotals (map (raised_part by) a) (parts_in (map (raised by) readings))
parts-raised a by readings same =
    same-trans (map (raised_part by) a) (map (raised_part by) (parts_in readings)) (parts_in (map (raised by) readings))
    (same-raised a (parts_in readings) by same)
    (same-equal (map (raised_part by) (parts_in readings)) (parts_in (map (raised by) readings)) (parts_in-raised by readings))
