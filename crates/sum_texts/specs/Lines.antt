-- The lines of a totals, each as its fields.
use Rattle.std.specs.Prelude.{◌≡◌, true, ℕ, ◌<◌, ◌^◌, List, [], ◌∷◌, ◌++◌, map, length, codes, Option, Some, None, FitsSigned, IfSome}
use Rattle.std.specs.Fmt.{decimal, signed_decimal}
use Rattle.std.specs.Int.{w32, w128}
use Rattle.std.specs.List.{flat_map, join_with_byte, AllByRecursion}
use Rattle.bucket_ranges.specs.Reading.{is_name}
use Rattle.bucket_ranges.specs.declared.spec.Spec.{Spec}
use Rattle.bucket_ranges.specs.declared.spec.Spec.TheVariants.{Linear, Boolean, Custom, Sparse}
use Rattle.reading_texts.specs.Text.{kind_word}
use Rattle.reading_sums.specs.declared.key.KeySum.{KeySum}
use Rattle.reading_sums.specs.declared.notes.Notes.{Notes}
use Rattle.reading_sums.specs.Totals.{Part}

-- What a totals says: the notes of the sum and its parts, the segments that are in it, each a number and an id, and the
-- serial of the fold that made it, if one did.
pub record Whole : Type 0 where
  pub notes : Notes
  pub parts : List Part
  pub of : List (ℕ × ℕ)
  pub fold : Option ℕ

-- ---- lines

-- the first line: the form, and its version
abbrev pub head_fields : List (List ℕ)
head_fields = codes "totals" ∷ codes "1" ∷ []

-- the notes: how many images there are, how many are full, corrupt or stop, and their bad records
abbrev pub notes_fields : Notes → List (List ℕ)
notes_fields notes =
    codes "images" ∷ decimal notes.images ∷ decimal notes.full ∷ decimal notes.corrupt ∷ decimal notes.stopped ∷ decimal notes.bad ∷ []

-- the numbers of a spec: for a linear one its minimum, maximum and number of buckets, for a custom one its values
abbrev pub spec_numbers : Spec → List ℕ
spec_numbers (Linear min max n) = min ∷ max ∷ n ∷ []
spec_numbers Boolean = []
spec_numbers (Custom values) = values
spec_numbers Sparse = []

-- the fields of a name with its spec up to the kind: how many images have it, the least number of an image that has it, the sum and its
-- mark, and the redundant count
abbrev pub hist_front : Part → List (List ℕ)
hist_front part =
    part.name ∷ decimal part.images ∷ decimal part.least ∷ signed_decimal part.sum ∷ signed_decimal part.sum_mark
    ∷ decimal part.redundant ∷ kind_word part.spec ∷ []

-- a name with its spec
abbrev pub hist_fields : Part → List (List ℕ)
hist_fields part = codes "hist" ∷ (hist_front part ++ map decimal (spec_numbers part.spec))

-- a key: its value, its units and its marks
abbrev pub key_fields : KeySum → List (List ℕ)
key_fields key = codes "key" ∷ signed_decimal key.value ∷ decimal key.units ∷ decimal key.marks ∷ []

-- a segment that is in the sum: its number and its id
abbrev pub segment_fields : ℕ × ℕ → List (List ℕ)
segment_fields segment = codes "of" ∷ decimal segment.0 ∷ decimal segment.1 ∷ []

-- the serial of the fold
abbrev pub fold_fields : ℕ → List (List ℕ)
fold_fields serial = codes "fold" ∷ decimal serial ∷ []

-- the last line: the number of names and specs that have lines
abbrev pub end_fields : ℕ → List (List ℕ)
end_fields parts = codes "end" ∷ decimal parts ∷ []

-- ---- a totals

-- a name with its spec, and its keys
abbrev pub part_lines : Part → List (List (List ℕ))
part_lines part = hist_fields part ∷ map key_fields part.keys

-- the fold, if there is one
abbrev pub fold_lines : Option ℕ → List (List (List ℕ))
fold_lines None = []
fold_lines (Some serial) = fold_fields serial ∷ []

-- the lines after the notes
abbrev pub lines_behind_notes : Whole → List (List (List ℕ))
lines_behind_notes whole =
    flat_map part_lines whole.parts ++ (map segment_fields whole.of ++ (fold_lines whole.fold ++ end_fields (length whole.parts) ∷ []))

-- the lines of a totals
abbrev pub lines_of : Whole → List (List (List ℕ))
lines_of whole = head_fields ∷ notes_fields whole.notes ∷ lines_behind_notes whole

-- the bytes of a line: its fields with commas between them
abbrev pub line_bytes : List (List ℕ) → List ℕ
line_bytes fields = join_with_byte 44 fields

-- a line and its line feed
abbrev pub line_text : List (List ℕ) → List ℕ
line_text fields = line_bytes fields ++ 10 ∷ []

-- the text of a totals: its lines
abbrev pub totals_text : Whole → List ℕ
totals_text whole = flat_map line_text (lines_of whole)

-- ---- what can be written

-- the numbers of notes fit
pub record FitNotes (notes : Notes) : Type 0 where
  pub images : notes.images < 2 ^ 64
  pub full : notes.full < 2 ^ 64
  pub corrupt : notes.corrupt < 2 ^ 64
  pub stopped : notes.stopped < 2 ^ 64
  pub bad : notes.bad < 2 ^ 64

-- the numbers of a key fit
pub record FitsKey (key : KeySum) : Type 0 where
  pub value : FitsSigned w32 key.value
  pub units : key.units < 2 ^ 64
  pub marks : key.marks < 2 ^ 64

-- a part has a name that a histogram in a segment can have
abbrev pub IsNamed : Part → Type 0
IsNamed part = is_name part.name ≡ true

-- the numbers of a part fit, and a histogram can have its name
pub record FitsPart (part : Part) : Type 0 where
  pub name : IsNamed part
  pub numbers : AllByRecursion (λ number. number < 2 ^ 32) (spec_numbers part.spec)
  pub keys : AllByRecursion FitsKey part.keys
  pub sum : FitsSigned w128 part.sum
  pub sum_mark : FitsSigned w128 part.sum_mark
  pub redundant : part.redundant < 2 ^ 64
  pub images : part.images < 2 ^ 64
  pub least : part.least < 2 ^ 64

-- the numbers of a segment fit
abbrev pub FitsSegment : ℕ × ℕ → Type 0
FitsSegment segment = (segment.0 < 2 ^ 64) × (segment.1 < 2 ^ 64)

-- all numbers fit, and histograms can have the names
pub record FitsWhole (whole : Whole) : Type 0 where
  pub notes : FitNotes whole.notes
  pub parts : AllByRecursion FitsPart whole.parts
  pub of : AllByRecursion FitsSegment whole.of
  pub fold : IfSome whole.fold (λ serial. serial < 2 ^ 64)
  pub many : length whole.parts < 2 ^ 64
