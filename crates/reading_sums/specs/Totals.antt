-- What histograms have together. A part is what some histograms of one name and one spec have, such as one histogram.
use Rattle.std.specs.Prelude.{◌≡◌, Bool, ◌&&◌, ◌||◌, nat_le, if◌then◌else◌, ℕ, ◌+◌, ℤ, pos, ◌+ℤ◌, List, [], ◌∷◌}
use Rattle.std.specs.List.{list_any}
use Rattle.std.specs.Str.{bytes_eq}
use Rattle.bucket_ranges.specs.declared.spec.Spec.{Spec}
use Rattle.bucket_ranges.specs.Spec.{spec_fields, spec_ranges}
use Rattle.bucket_ranges.specs.Reading.{Histogram}
use Rattle.reading_sums.specs.declared.key.KeySum.{KeySum}
use Rattle.reading_sums.specs.Keys.{keys_from, has_key, units_at, marks_at}

-- a part: the keys, the sum and its mark, the redundant count, how many histograms it has, and the least number of an image that has one
pub record Part : Type 0 where
  pub name : List ℕ
  pub spec : Spec
  pub keys : List KeySum
  pub sum : ℤ
  pub sum_mark : ℤ
  pub redundant : ℕ
  pub images : ℕ
  pub least : ℕ

-- the part that is one histogram of an image with a number
abbrev pub part_from : ℕ → Histogram → Part
part_from number hist = record {
  name = hist.name;
  spec = hist.spec;
  keys = keys_from hist.counts hist.marks;
  sum = hist.sum;
  sum_mark = hist.sum_mark;
  redundant = hist.redundant;
  images = 1;
  least = number;
}

-- a part with the numbers of its images raised
abbrev pub raised_part : ℕ → Part → Part
raised_part by part = record part { least = part.least + by }

-- ---- name and spec

-- whether two specs are the same: kind, minimum, maximum, number of buckets and, for custom ones, all ranges
abbrev pub same_spec : Spec → Spec → Bool
same_spec a b = bytes_eq (spec_fields a) (spec_fields b) && bytes_eq (spec_ranges a) (spec_ranges b)

-- whether a part is of a name and a spec
abbrev pub is_of : List ℕ → Spec → Part → Bool
is_of name spec part = bytes_eq part.name name && same_spec part.spec spec

-- ---- totals

-- what is added up: the units of a key, its marks, the amounts, the amounts that deltas have taken, the redundant
-- counts, and how many histograms there are
pub data Quantity : Type 0 where
  Units : (key : ℤ) → Quantity
  Marks : (key : ℤ) → Quantity
  Amounts : Quantity
  AmountMarks : Quantity
  Redundant : Quantity
  Images : Quantity

-- how much a part has
abbrev pub quantity_of : Quantity → Part → ℤ
quantity_of (Units key) part = pos (units_at part.keys key)
quantity_of (Marks key) part = pos (marks_at part.keys key)
quantity_of Amounts part = part.sum
quantity_of AmountMarks part = part.sum_mark
quantity_of Redundant part = pos part.redundant
quantity_of Images part = pos part.images

-- how much a part has, if it is of a name and a spec
abbrev pub share_of : Quantity → List ℕ → Spec → Part → ℤ
share_of quantity name spec part = if is_of name spec part then quantity_of quantity part else pos 0

-- how much all parts of a name and a spec have together
abbrev pub total : Quantity → List ℕ → Spec → List Part → ℤ
total quantity name spec [] = pos 0
total quantity name spec (part ∷ rest) = share_of quantity name spec part +ℤ total quantity name spec rest

-- what a part may have: a key, or an image with a number up to this one
pub data Feature : Type 0 where
  HasKey : (key : ℤ) → Feature
  IsUpTo : (number : ℕ) → Feature

-- whether a part has a feature
abbrev pub has_feature : Feature → Part → Bool
has_feature (HasKey key) part = has_key part.keys key
has_feature (IsUpTo number) part = nat_le part.least number

-- whether some part of a name and a spec has a feature
abbrev pub is_had : Feature → List ℕ → Spec → List Part → Bool
is_had feature name spec parts = list_any (λ part. is_of name spec part && has_feature feature part) parts

-- two lists of parts have the same totals: for each name and spec everything that is added up, the same keys, and the same least number
pub record SameTotals (a b : List Part) : Type 0 where
  pub totals : (quantity : Quantity) (name : List ℕ) (spec : Spec) → total quantity name spec a ≡ total quantity name spec b
  pub features : (feature : Feature) (name : List ℕ) (spec : Spec) → is_had feature name spec a ≡ is_had feature name spec b

-- a part is two parts of one name and one spec together
pub record IsBoth (a b both : Part) : Type 0 where
  pub name : both.name ≡ a.name
  pub spec : both.spec ≡ a.spec
  pub quantities : (quantity : Quantity) → quantity_of quantity both ≡ quantity_of quantity a +ℤ quantity_of quantity b
  pub features : (feature : Feature) → has_feature feature both ≡ (has_feature feature a || has_feature feature b)
