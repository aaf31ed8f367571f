-- What is written for the bytes of an image, in each form, and why nothing is.
use Rattle.std.specs.Prelude.{ℕ, List}
use Rattle.segment_image.specs.declared.head.SegmentHead.{SegmentHead}
use Rattle.bucket_ranges.specs.Reading.{Reading}
use Rattle.persist_report_core.specs.Report.{AreWordsOf, IsCausedByImage, IsReadingOf}
use Rattle.persist_report_core.specs.declared.fault.CliFault.{CliFault}
use Rattle.persist_report_core.specs.declared.fault.CliFault.TheVariants.{Clash}
use Rattle.text_forms.specs.declared.form.Form.{Form}
use Rattle.text_forms.specs.declared.head.Head.TheVariants.{Image}
use Rattle.text_forms.specs.Forms.{ClashIn, IsTextIn}
use Rattle.text_forms.specs.Subjects.{IsHeadAndReading}

-- the text in this form of the image in an input with these bytes
pub record IsWrittenFrom (form : Form) (bytes text : List ℕ) : Type 0 where
  pub words : List ℕ
  pub words_are : AreWordsOf bytes words
  pub head : SegmentHead
  pub reading : Reading
  pub image_is : IsHeadAndReading words head reading
  pub text_is : IsTextIn form (Image head) reading text

-- these names clash in a form of the image in an input with these bytes
pub record ClashFrom (form : Form) (bytes first second : List ℕ) : Type 0 where
  pub reading : Reading
  pub reading_is : IsReadingOf bytes reading
  pub clash : ClashIn form reading first second

-- the image in an input with these bytes has no text in a form for this reason: its histograms clash, or the fault is caused by the bytes
abbrev pub HasNoTextFrom : Form → List ℕ → CliFault → Type 0
HasNoTextFrom form bytes (Clash first second) = ClashFrom form bytes first.items second.items
HasNoTextFrom form bytes fault = IsCausedByImage bytes fault
