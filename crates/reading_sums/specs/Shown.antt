-- What a sum shows.
use Rattle.std.specs.Prelude.{◌≡◌, nat_le, if◌then◌else◌, ℕ, ℤ, List, [], ◌∷◌, map, min}
use Rattle.std.specs.List.{flat_map, enumerate_from}
use Rattle.std.specs.Str.{bytes_eq}
use Rattle.bucket_ranges.specs.Reading.{Histogram}
use Rattle.reading_sums.specs.declared.key.KeySum.{KeySum}
use Rattle.reading_sums.specs.declared.shown.OtherSpec.{OtherSpec}
use Rattle.reading_sums.specs.Totals.{Part}
use Rattle.reading_sums.specs.Whole.{units_of}

-- keys as a reading has them: each value with its units
abbrev pub counts_of : List KeySum → List (ℤ × ℕ)
counts_of keys = map (λ (key : KeySum). (key.value, key.units)) keys

-- the marks of keys
abbrev pub marks_of : List KeySum → List ℕ
marks_of keys = map (λ (key : KeySum). key.marks) keys

-- what a part reads as, with an index as reference
abbrev pub shown_at : ℕ → Part → Histogram
shown_at index part = record {
  reference = index;
  name = part.name;
  spec = part.spec;
  counts = counts_of part.keys;
  marks = marks_of part.keys;
  sum = part.sum;
  sum_mark = part.sum_mark;
  redundant = part.redundant;
}

-- what is reported of a part that is not shown: its name, how many images have it, and its units, at most 2^64 - 1
pub record IsOtherOf (part : Part) (other : OtherSpec) : Type 0 where
  pub name : other.name.items ≡ part.name
  pub images : other.images ≡ part.images
  pub units : other.units ≡ min (units_of part.keys) 18446744073709551615

-- ---- which are shown

-- parts of one name in a row: the first, and those after it
pub record Group : Type 0 where
  pub first : Part
  pub rest : List Part

abbrev pub members_of : Group → List Part
members_of group = group.first ∷ group.rest

-- a part before groups: it joins the first of them if it has the same name, and is a group of its own otherwise
abbrev pub before_groups : Part → List Group → List Group
before_groups part [] = record { first = part; rest = [] } ∷ []
before_groups part (group ∷ groups) =
    if bytes_eq part.name group.first.name then record { first = part; rest = members_of group } ∷ groups
    else record { first = part; rest = [] } ∷ group ∷ groups

-- the groups of a list
abbrev pub groups_of : List Part → List Group
groups_of [] = []
groups_of (part ∷ rest) = before_groups part (groups_of rest)

-- the part with the least number, the first of equal ones: a part, unless one after it has a lesser number
abbrev pub least_part : Part → List Part → Part
least_part part [] = part
least_part part (next ∷ rest) = if nat_le part.least (least_part next rest).least then part else least_part next rest

-- all parts but that with the least number
abbrev pub others_than_least : Part → List Part → List Part
others_than_least part [] = []
others_than_least part (next ∷ rest) =
    if nat_le part.least (least_part next rest).least then next ∷ rest else part ∷ others_than_least next rest

-- what is shown of a group, and what is not
abbrev pub shown_of : Group → Part
shown_of group = least_part group.first group.rest

abbrev pub left_out_of : Group → List Part
left_out_of group = others_than_least group.first group.rest

-- parts as a reading has them, each with its index as reference
abbrev pub shown_from : ℕ → List Part → List Histogram
shown_from index parts = map (λ (one : ℕ × Part). shown_at one.0 one.1) (enumerate_from index parts)

-- what a list of parts reads as: for each group what is shown of it
abbrev pub shown_parts : List Part → List Histogram
shown_parts parts = shown_from 0 (map shown_of (groups_of parts))

-- what a list of parts leaves out when it is read: for each group all but what is shown of it
abbrev pub other_parts : List Part → List Part
other_parts parts = flat_map left_out_of (groups_of parts)
