-- The texts of an image that C is given.
use Rattle.std.specs.Prelude.{◌≡◌, ◌⊎◌, ◌<◌, Bool, false, ◌==◌, if◌then◌else◌, ℕ, List, [], length, drop, ◌++◌, Ok}
use Rattle.bucket_ranges.specs.Reading.{Reading, IsReading}
use Rattle.segment_image.specs.Head.{header_of}
use Rattle.segment_image.specs.declared.head.SegmentHead.{SegmentHead}
use Rattle.image_reader.specs.Keys.{HasMoreKeys}
use Rattle.reading_texts.specs.Text.{IsTextOf}
use Rattle.reading_texts.specs.Exporting.{IsExportOf}
use Rattle.text_styles.specs.declared.choice.Choice.TheVariants.{All}
use Rattle.text_styles.specs.declared.drawn.Drawn.{Drawn}
use Rattle.text_styles.specs.declared.style.Style.{Style}
use Rattle.reading_shows.specs.Showing.{IsShowOf}
use Rattle.text_forms.specs.declared.head.Head.{Head}
use Rattle.text_forms.specs.Forms.{IsReportIn}
use Rattle.povundiri_c.specs.declared.texts.TextAsked.{TextAsked}
use Rattle.povundiri_c.specs.declared.texts.TextAsked.TheVariants.{Report, Export, Show}

-- ---- which text

-- how many cells a line has: as many as are asked for, or 80 if that is 0
abbrev pub width_asked : ℕ → ℕ
width_asked width = if width == 0 then 80 else width

-- how histograms are drawn: in lines of this many cells, and without options
abbrev pub style_asked : ℕ → Style
style_asked width = record {
  width = width_asked width;
  is_ascii = false;
  is_human = false;
  is_log = false;
  shows_all = false;
  shows_redundant = false;
  marks_meanwhile = false;
}

-- what is drawn: all histograms, in lines of this many cells
abbrev pub drawn_asked : ℕ → Drawn
drawn_asked width = record { style = style_asked width; is_by_units = false; choice = All }

-- the metrics of a reading with this prefix, without labels of all lines
abbrev pub IsExportAsked : List ℕ → Reading → List ℕ → Type 0
IsExportAsked prefix = IsExportOf prefix []

-- the text of a reading for people in this width, of all histograms
abbrev pub IsShowAsked : ℕ → Reading → List ℕ → Type 0
IsShowAsked width = IsShowOf (drawn_asked width)

-- the text that is asked for
abbrev pub IsTextAsked : TextAsked → Reading → List ℕ → Type 0
IsTextAsked Report = IsTextOf
IsTextAsked (Export prefix) = IsExportAsked prefix.now
IsTextAsked (Show width) = IsShowAsked width

-- the text of a subject that is asked for; the report of a sum says what that leaves out
abbrev pub IsAskedOf : TextAsked → Head → Reading → List ℕ → Type 0
IsAskedOf Report head = IsReportIn head
IsAskedOf (Export prefix) head = IsExportAsked prefix.now
IsAskedOf (Show width) head = IsShowAsked width

-- ---- what is written of it

-- the text is that of what the words read as
pub record IsTextOfWords (IsOf : Reading → List ℕ → Type 0) (words text : List ℕ) : Type 0 where
  pub head : SegmentHead
  pub head_is : header_of words ≡ Ok head
  pub reading : Reading
  pub reading_is : IsReading words head reading
  pub text_is : IsOf reading text

-- the text of the words is at the front of the array, which had room for it; the bytes after it are unchanged
abbrev pub IsTextWritten : (Reading → List ℕ → Type 0) → List ℕ → List ℕ → List ℕ → ℕ → Type 0
IsTextWritten IsOf words old new needed =
    (text : List ℕ) × IsTextOfWords IsOf words text × (needed ≡ length text) × (new ≡ text ++ drop (length text) old)

-- the array has no room for the text of the words, which has this many bytes
abbrev pub IsTextTooLong : (Reading → List ℕ → Type 0) → List ℕ → List ℕ → ℕ → Type 0
IsTextTooLong IsOf words old needed = (text : List ℕ) × IsTextOfWords IsOf words text × (needed ≡ length text) × (length old < length text)

-- the header of the words has no fault, and they read as more than this many keys, or as no more
abbrev pub SayKeys : List ℕ → ℕ → Bool → Type 0
SayKeys words most more = (head : SegmentHead) × (header_of words ≡ Ok head) × HasMoreKeys words head most more

-- what is returned for words whose header has no fault: their text was written, the array is too short for it, or memory ran out for the
-- text or for the reading
abbrev pub IsSaidOfValid : ℕ → Type 0
IsSaidOfValid status = (status ≡ 0) ⊎ (status ≡ 7) ⊎ (status ≡ 13) ⊎ (status ≡ 513)
