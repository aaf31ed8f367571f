-- Lines of families whose labels are text already, such as code="200", each followed by a comma.
use Rattle.std.specs.Prelude.{ℕ, pos, ◌-ℤ◌, if◌then◌else◌, List, [], ◌∷◌, ◌++◌, codes, take, length}
use Rattle.std.specs.Fmt.{decimal, signed_decimal}
use Rattle.std.specs.List.{flat_map, filter}
use Rattle.reading_texts.specs.declared.family_lines.MemberLines.{MemberLines}
use Rattle.reading_texts.specs.declared.family_lines.MemberLines.TheVariants.{Units, Values, Sum}
use Rattle.reading_texts.specs.declared.rows.HistRow.{HistRow}
use Rattle.reading_texts.specs.Rows.{units_of, rows_of}
use Rattle.reading_texts.specs.Lines.{row_end}
use Rattle.reading_texts.specs.Exporting.{joined, heading_text, is_sparse}
use Rattle.reading_texts.specs.Families.{FamilyMember, metric_of, same_family}

-- the labels in braces, without the last comma; nothing if there are none
abbrev pub braced : List ℕ → List ℕ
braced [] = []
braced (byte ∷ more) = joined (codes "{" ∷ take (length more) (byte ∷ more) ∷ codes "}" ∷ [])

-- the line of a bucket
abbrev pub bucket_line : List ℕ → List ℕ → HistRow → List ℕ
bucket_line name labels row =
    joined (name ∷ codes "_bucket{" ∷ labels ∷ codes "le=\"" ∷ row_end (row.high -ℤ pos 1) row.up_to)

-- the line of all units, as the last bucket
abbrev pub infinite_line : List ℕ → List ℕ → List ℕ → List ℕ
infinite_line name labels units = joined (name ∷ codes "_bucket{" ∷ labels ∷ codes "le=\"+Inf\"} " ∷ units ∷ codes "\n" ∷ [])

-- the line of a value
abbrev pub value_line : List ℕ → List ℕ → HistRow → List ℕ
value_line name labels row =
    joined (name ∷ codes "{" ∷ labels ∷ codes "value=\"" ∷ row_end row.low row.units)

-- the line of a number of a histogram as a whole
abbrev pub number_line : List ℕ → List ℕ → List ℕ → List ℕ → List ℕ
number_line name suffix labels number = joined (name ∷ suffix ∷ braced labels ∷ codes " " ∷ number ∷ codes "\n" ∷ [])

-- the buckets and totals of a histogram that has ranges
abbrev pub ranged_lines : List ℕ → FamilyMember → List ℕ
ranged_lines name member =
    flat_map (bucket_line name member.labels) (rows_of member.hist)
    ++ infinite_line name member.labels (decimal (units_of member.hist))
    ++ number_line name (codes "_sum") member.labels (signed_decimal member.hist.sum)
    ++ number_line name (codes "_count") member.labels (decimal (units_of member.hist))

-- the buckets and totals of a histogram that has ranges; none for a sparse one
abbrev pub units_lines : List ℕ → FamilyMember → List ℕ
units_lines name member = if is_sparse member.hist.spec then [] else ranged_lines name member

-- the lines of the values of a sparse histogram
abbrev pub values_lines : List ℕ → FamilyMember → List ℕ
values_lines name member = flat_map (value_line name member.labels) (rows_of member.hist)

-- the line of the sum of a sparse histogram
abbrev pub sum_line : List ℕ → FamilyMember → List ℕ
sum_line name member = number_line name (codes "_sum") member.labels (signed_decimal member.hist.sum)

-- the lines of a histogram that are asked for
abbrev pub lines_of : MemberLines → List ℕ → FamilyMember → List ℕ
lines_of Units = units_lines
lines_of Values = values_lines
lines_of Sum = sum_line

-- the lines of a histogram, if it is of the family of another
abbrev pub of_family : FamilyMember → (FamilyMember → List ℕ) → FamilyMember → List ℕ
of_family one lines member = if same_family one member then lines member else []

-- the lines of sparse histograms of one family: their values, and their sums
abbrev pub sparse_lines : List ℕ → List FamilyMember → List ℕ
sparse_lines name members =
    heading_text name (codes "Units of each value of a sparse histogram.") (codes "untyped")
    ++ flat_map (values_lines name) members
    ++ heading_text (name ++ codes "_sum") (codes "Sum of the values of a sparse histogram, which may fall.") (codes "untyped")
    ++ flat_map (sum_line name) members

-- the lines of histograms of one family that have ranges
abbrev pub ranged_family_lines : List ℕ → List FamilyMember → List ℕ
ranged_family_lines name members =
    heading_text name (codes "Units of a histogram up to the greatest value of each bucket.") (codes "histogram")
    ++ flat_map (units_lines name) members

-- the lines of the family of one of these histograms
abbrev pub lines_with : List ℕ → List FamilyMember → FamilyMember → List ℕ
lines_with prefix members one =
    if is_sparse one.hist.spec then sparse_lines (metric_of prefix one) (filter (same_family one) members)
    else ranged_family_lines (metric_of prefix one) (filter (same_family one) members)
