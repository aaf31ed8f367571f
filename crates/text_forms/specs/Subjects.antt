-- What a subject is: the image in an input, or a sum.
use Rattle.std.specs.Prelude.{◌≡◌, ℕ, List, Ok}
use Rattle.segment_image.specs.Head.{header_of}
use Rattle.segment_image.specs.declared.head.SegmentHead.{SegmentHead}
use Rattle.bucket_ranges.specs.Reading.{Reading, IsReading}
use Rattle.persist_report_core.specs.Report.{AreWordsOf}
use Rattle.reading_sums.specs.declared.sums.Sums.{Sums}
use Rattle.sum_texts.specs.Endings.{IsOfSum}
use Rattle.text_forms.specs.declared.head.Head.{Head}
use Rattle.text_forms.specs.declared.head.Head.TheVariants.{Image, Sum}
use Rattle.text_forms.specs.declared.head.SumSaid.{SumSaid}
use Rattle.text_forms.specs.Heads.{IsSaidOf}

-- what words with a valid header say: their header, and their reading
pub record IsHeadAndReading (words : List ℕ) (head : SegmentHead) (reading : Reading) : Type 0 where
  pub head_is : header_of words ≡ Ok head
  pub reading_is : IsReading words head reading

-- the subject that is the image in an input with these bytes
pub record IsImageIn (bytes : List ℕ) (head : Head) (reading : Reading) : Type 0 where
  pub words : List ℕ
  pub words_are : AreWordsOf bytes words
  pub header : SegmentHead
  pub header_is : head ≡ Image header
  pub image_is : IsHeadAndReading words header reading

-- the subject that is a sum of which this many inputs were left out: the reading of the sum, which has no id, and what it leaves out
pub record IsSubjectOfSum (sums : Sums) (left : ℕ) (head : Head) (reading : Reading) : Type 0 where
  pub said : SumSaid
  pub head_is : head ≡ Sum said
  pub said_is : IsSaidOf sums left said
  pub reading_is : IsOfSum sums reading
  pub id : reading.id ≡ 0
