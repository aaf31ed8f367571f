-- The text of a report: lines of comma-separated fields without quotes, each ended by one line feed.
use Rattle.std.specs.Prelude.{◌≡◌, Bool, ◌==◌, if◌then◌else◌, ℕ, List, [], ◌∷◌, ◌++◌, codes, Option, Some, None}
use Rattle.std.specs.Fmt.{decimal, signed_decimal}
use Rattle.std.specs.List.{join_with_byte, flat_map}
use Rattle.segment_image.specs.declared.fault.ImageFault.{ImageFault}
use Rattle.segment_image.specs.declared.fault.ImageFault.TheVariants as image
use Rattle.bucket_ranges.specs.declared.reading.RecordFault.{RecordFault}
use Rattle.bucket_ranges.specs.declared.reading.RecordFault.TheVariants as records
use Rattle.bucket_ranges.specs.declared.spec.Spec.{Spec}
use Rattle.bucket_ranges.specs.declared.spec.Spec.TheVariants.{Linear, Boolean, Custom, Sparse}
use Rattle.bucket_ranges.specs.Reading.{Histogram, Reading}
use Rattle.reading_texts.specs.declared.rows.HistRow.{HistRow}
pub use Rattle.reading_texts.specs.Rows.{units_of, rows_of, AreSortedByName}

-- a line: its fields with commas between them, and a line feed
abbrev pub line : List (List ℕ) → List ℕ
line fields = join_with_byte 44 fields ++ 10 ∷ []

-- the word for a kind of histogram
abbrev pub kind_word : Spec → List ℕ
kind_word (Linear min max n) = codes "linear"
kind_word Boolean = codes "boolean"
kind_word (Custom values) = codes "custom"
kind_word Sparse = codes "sparse"

-- the line of a bucket that has units: its least value, the boundary after it, and its units
abbrev pub bucket_text : Histogram → HistRow → List ℕ
bucket_text hist row =
    if row.units == 0 then []
    else line (hist.name ∷ kind_word hist.spec ∷ signed_decimal row.low ∷ signed_decimal row.high ∷ decimal row.units ∷ [])

-- the buckets that have units, ascending, and the line of the total
abbrev pub histogram_text : Histogram → List ℕ
histogram_text hist =
    flat_map (bucket_text hist) (rows_of hist)
    ++ line (hist.name ∷ codes "total" ∷ decimal (units_of hist) ∷ signed_decimal hist.sum ∷ [])

-- the line of a flag that is set
abbrev pub flag_text : List ℕ → Bool → List ℕ
flag_text word flag = if flag then line (codes "!flag" ∷ word ∷ []) else []

-- the line of a redundant count that differs from the units
abbrev pub redundant_text : Histogram → List ℕ
redundant_text hist =
    if hist.redundant == units_of hist then []
    else line (codes "!redundant" ∷ hist.name ∷ decimal hist.redundant ∷ [])

-- the name of a record's fault
abbrev pub record_fault_word : RecordFault → List ℕ
record_fault_word records.BadKind = codes "BadKind"
record_fault_word records.BadName = codes "BadName"
record_fault_word records.BadSpec = codes "BadSpec"
record_fault_word records.BadCounts = codes "BadCounts"
record_fault_word records.BadSingle = codes "BadSingle"
record_fault_word records.BadMark = codes "BadMark"
record_fault_word records.BadSum = codes "BadSum"
record_fault_word records.BadSample = codes "BadSample"

-- the line of a bad record
abbrev pub bad_text : ℕ × RecordFault → List ℕ
bad_text bad = line (codes "!bad" ∷ decimal bad.0 ∷ record_fault_word bad.1 ∷ [])

-- the name of an image's fault
abbrev pub image_fault_word : ImageFault → List ℕ
image_fault_word image.TooShort = codes "TooShort"
image_fault_word image.BadCookie = codes "BadCookie"
image_fault_word image.BadVersion = codes "BadVersion"
image_fault_word image.BadPage = codes "BadPage"
image_fault_word image.BadSize = codes "BadSize"
image_fault_word image.NotReady = codes "NotReady"
image_fault_word image.Deleted = codes "Deleted"
image_fault_word image.BadFree = codes "BadFree"
image_fault_word image.BadQueue = codes "BadQueue"
image_fault_word image.BadRef = codes "BadRef"
image_fault_word image.BadBlock = codes "BadBlock"
image_fault_word image.Loop = codes "Loop"
image_fault_word image.NoMemory = codes "NoMemory"

-- the line of why the list stopped
abbrev pub stopped_text : Option ImageFault → List ℕ
stopped_text None = []
stopped_text (Some fault) = line (codes "!stopped" ∷ image_fault_word fault ∷ [])

-- the text of a reading, whose histograms are given in the order of the report
abbrev pub text_in_order : List Histogram → Reading → List ℕ
text_in_order hists reading =
    flat_map histogram_text hists
    ++ flag_text (codes "corrupt") reading.corrupt
    ++ flag_text (codes "full") reading.full
    ++ flat_map redundant_text hists
    ++ flat_map bad_text reading.bad
    ++ stopped_text reading.stopped

-- the text of a reading
abbrev pub IsTextOf : Reading → List ℕ → Type 0
IsTextOf reading text = (hists : List Histogram) × AreSortedByName hists reading × (text ≡ text_in_order hists reading)
