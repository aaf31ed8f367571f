-- The overview of an image: its header, its room, its units, and what can be read.
use Rattle.std.specs.Prelude.{Bool, false, ◌&&◌, if◌then◌else◌, ℕ, ◌-◌, ◌*◌, List, [], ◌∷◌, ◌++◌, length, codes, Option, Some, None}
use Rattle.std.specs.List.{count_by}
use Rattle.std.specs.Str.{bytes_eq}
use Rattle.segment_image.specs.declared.fault.ImageFault.{ImageFault}
use Rattle.segment_image.specs.declared.head.SegmentHead.{SegmentHead}
use Rattle.bucket_ranges.specs.declared.spec.Spec.{Spec}
use Rattle.bucket_ranges.specs.Reading.{Histogram, Reading}
use Rattle.reading_texts.specs.Text.{kind_word, image_fault_word}
use Rattle.reading_texts.specs.Exporting.{joined}
use Rattle.reading_overviews.specs.Numbers.{number}
use Rattle.reading_overviews.specs.Spent.{is_frozen, spent_of, units_left}

-- the lines of what a header says: the version and the id, the size, the page, and the words used and free
abbrev pub head_lines : Bool → SegmentHead → List ℕ
head_lines is_human head =
    joined (
    codes "version      " ∷ number is_human head.version ∷ codes "\nid           " ∷ number false head.id
    ∷ codes "\nsize         " ∷ number is_human head.shape.size ∷ codes " words, " ∷ number is_human (8 * head.shape.size)
    ∷ codes " bytes\npage         " ∷ number is_human head.shape.page ∷ codes " words\nused         " ∷ number is_human head.free
    ∷ codes " words\nfree         " ∷ number is_human (head.shape.size - head.free) ∷ codes " words\n" ∷ [])

-- the lines of the units that are used, and of those that are left
abbrev pub unit_lines : Bool → ℕ → List ℕ
unit_lines is_human spent =
    joined (
    codes "units used   " ∷ number is_human spent ∷ codes "\nunits left   " ∷ number is_human (units_left spent) ∷ codes "\n" ∷ [])

-- the flags that are set
abbrev pub flags_text : Bool → Bool → List ℕ
flags_text corrupt full =
    if corrupt && full then codes "corrupt, full"
    else (if corrupt then codes "corrupt" else (if full then codes "full" else codes "none"))

-- whether a histogram is of the kind that has this word
abbrev pub is_of_kind : List ℕ → Histogram → Bool
is_of_kind word hist = bytes_eq (kind_word hist.spec) word

-- how many histograms are of a kind, and its word
abbrev pub kind_text : Bool → List Histogram → List ℕ → List ℕ
kind_text is_human hists word = number is_human (count_by (is_of_kind word) hists) ++ codes " " ++ word

-- the line of the histograms, by kind
abbrev pub kinds_line : Bool → List Histogram → List ℕ
kinds_line is_human hists =
    joined (
    codes "histograms   " ∷ kind_text is_human hists (codes "linear") ∷ codes ", " ∷ kind_text is_human hists (codes "boolean")
    ∷ codes ", " ∷ kind_text is_human hists (codes "custom") ∷ codes ", " ∷ kind_text is_human hists (codes "sparse") ∷ codes "\n" ∷ [])

-- whether the list of records is whole, or why it stops
abbrev pub list_text : Option ImageFault → List ℕ
list_text None = codes "whole"
list_text (Some fault) = codes "stopped: " ++ image_fault_word fault

-- the lines of the flags, the bad records and the list
abbrev pub state_lines : Bool → Reading → List ℕ
state_lines is_human reading =
    joined (
    codes "flags        " ∷ flags_text reading.corrupt reading.full ∷ codes "\nbad records  " ∷ number is_human (length reading.bad)
    ∷ codes "\nlist         " ∷ list_text reading.stopped ∷ codes "\n" ∷ [])

-- all lines
abbrev pub overview : Bool → SegmentHead → Reading → List ℕ
overview is_human head reading =
    head_lines is_human head
    ++ unit_lines is_human (spent_of (is_frozen head) reading.hists)
    ++ kinds_line is_human reading.hists
    ++ state_lines is_human reading
