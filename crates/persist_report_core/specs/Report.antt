-- What the report of an image's bytes is, and why there is none.
use Rattle.std.specs.Prelude.{◌≡◌, ◌≢◌, ℕ, ◌%◌, ◌^◌, ◌<◌, ◌≤◌, List, length, All, Ok, Err, ⊤}
use Rattle.segment_image.specs.Words.{bytes_of_words}
use Rattle.segment_image.specs.Head.{header_of}
use Rattle.segment_image.specs.declared.head.SegmentHead.{SegmentHead}
use Rattle.bucket_ranges.specs.Reading.{Reading, IsReading}
use Rattle.persist_report_core.specs.Input.{image_in, most_bytes}
use Rattle.persist_report_core.specs.declared.fault.CliFault.{CliFault}
use Rattle.persist_report_core.specs.declared.fault.CliFault.TheVariants.{Read, Write, TooLong, NotWords, Image, BadLine, Refused, Gate, Merge, NoThread, NoMemory, Adopt, NoSegment, NoHistogram, Bad, Stopped, Changed, Clash}
use Rattle.reading_texts.specs.Text.{IsTextOf}

-- The words of the image in an input with these bytes. The input's words have 64 bits: a larger number would have the bytes of another
-- word.
pub record AreWordsOf (bytes words : List ℕ) : Type 0 where
  pub all : List ℕ
  pub fit : All (λ word. word < 2 ^ 64) all
  pub bytes_are : bytes_of_words all ≡ bytes
  pub image_is : words ≡ image_in all

-- this is the reading of the image in an input with these bytes
pub record IsReadingOf (bytes : List ℕ) (reading : Reading) : Type 0 where
  pub words : List ℕ
  pub words_are : AreWordsOf bytes words
  pub head : SegmentHead
  pub head_is : header_of words ≡ Ok head
  pub reading_is : IsReading words head reading

-- the text is one of this kind of that reading
pub record IsOfBytes (IsOf : Reading → List ℕ → Type 0) (bytes text : List ℕ) : Type 0 where
  pub reading : Reading
  pub reading_is : IsReadingOf bytes reading
  pub text_is : IsOf reading text

-- the text is the report of that reading
abbrev pub IsReportOfBytes : List ℕ → List ℕ → Type 0
IsReportOfBytes bytes text = IsOfBytes IsTextOf bytes text

-- A fault has its cause in the bytes of the image. Failing devices and running out of memory have no cause there. The faults of scripts,
-- merges, workers, looks and images that are recorded into again never come from a report; nor do those of a reading that has a text.
abbrev pub IsCausedByImage : List ℕ → CliFault → Type 0
IsCausedByImage bytes Read = ⊤
IsCausedByImage bytes Write = ⊤
IsCausedByImage bytes TooLong = most_bytes bytes < length bytes
IsCausedByImage bytes NotWords = (length bytes ≤ most_bytes bytes) × (length bytes % 8 ≢ 0)
IsCausedByImage bytes (Image fault) = (words : List ℕ) × AreWordsOf bytes words × (header_of words ≡ Err fault)
IsCausedByImage bytes (BadLine number) = ⊥
IsCausedByImage bytes (Refused number why) = ⊥
IsCausedByImage bytes Gate = ⊥
IsCausedByImage bytes (Merge name why) = ⊥
IsCausedByImage bytes NoThread = ⊥
IsCausedByImage bytes NoMemory = ⊤
IsCausedByImage bytes (Adopt fault) = ⊥
IsCausedByImage bytes NoSegment = ⊥
IsCausedByImage bytes (NoHistogram name) = ⊥
IsCausedByImage bytes (Bad reference fault) = ⊥
IsCausedByImage bytes (Stopped fault) = ⊥
IsCausedByImage bytes Changed = ⊥
IsCausedByImage bytes (Clash first second) = ⊥
