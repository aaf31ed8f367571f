-- What is written of the words that a replay leaves.
use Rattle.std.specs.Prelude.{ℕ, List}
use Rattle.bucket_ranges.specs.Reading.{Reading, IsReading}
use Rattle.reading_texts.specs.Text.{IsTextOf}
use Rattle.segment_image.specs.Head.{head_of}

-- a text is the report of what words read as
abbrev pub IsReportOf : List ℕ → List ℕ → Type 0
IsReportOf words text = (reading : Reading) × IsReading words (head_of words) reading × IsTextOf reading text
