use Rattle.std.proofs.Common.{arith, refl, ◌≡◌, ◌∙◌}
use Rattle.bucket_ranges.specs.Reading.{IsReading}
use Rattle.segment_image.specs.Head.{header_of}
use Rattle.segment_image.specs.declared.head.SegmentHead.{SegmentHead}
use Rattle.segment_image.specs.declared.fault.ImageFault.TheVariants.{NoMemory}
use Rattle.image_reader.specs.declared.reading.Reading.{Reading}
use Rattle.image_reader.specs.Views.{reading_view}
use Rattle.povundiri_c.specs.Reports.{IsTextAsked}
use Rattle.povundiri_c.proofs.Reporting.{asked_of_subject, fault_of, in_front, text_of_words, said_of_valid}
use Rattle.povundiri_c.proofs.texts.write_text.Goals as goal

pub returns-in-Err-clause-fault : goal.returns-in-Err-clause-fault
returns-in-Err-clause-fault c =
    fault_of (header_of c.args.words.now) c.read.result c.in-Err.fault c.of_image_fault.result
    (λ (head : SegmentHead) (reading : Reading). IsReading c.args.words.now head (reading_view reading)) (λ fault. fault ≡ NoMemory)
    c.read.ensures.answer c.in-Err.is c.of_image_fault.ensures

pub returns-in-Err-clause-valid : goal.returns-in-Err-clause-valid
returns-in-Err-clause-valid c =
    said_of_valid (header_of c.args.words.now) c.read.result c.in-Err.fault c.of_image_fault.result
    (λ (head : SegmentHead) (reading : Reading). IsReading c.args.words.now head (reading_view reading))
    c.read.ensures.answer c.in-Err.is c.of_image_fault.ensures

pub returns-then-text-len-clause-short : goal.returns-then-text-len-clause-short
returns-then-text-len-clause-short c = λ _. (
  c.in-Ok-text_of.found.items,
  text_of_words (IsTextAsked c.args.asked) c.args.words.now (header_of c.args.words.now) c.read.result c.in-Ok.reading c.in-Ok-text_of.found.items (λ fault. fault ≡ NoMemory)
      refl c.read.ensures.answer c.in-Ok.is
      (asked_of_subject c.args.asked c.of_reading-subject.result c.in-Ok.reading c.in-Ok-text_of.found.items c.of_reading-subject.ensures.reading c.of_reading-subject.ensures.head c.in-Ok-text_of.ensures.text),
  c.len.ensures ∙ c.in-Ok-text_of.found.ok.0,
  omega (arith, c.len.ensures, c.len-2.ensures, c.in-Ok-text_of.found.ok.0, c.if-text-len.true),
)

pub returns-clause-done : goal.returns-clause-done
returns-clause-done c = λ _. (
  c.in-Ok-text_of.found.items,
  text_of_words (IsTextAsked c.args.asked) c.args.words.now (header_of c.args.words.now) c.read.result c.in-Ok.reading c.in-Ok-text_of.found.items (λ fault. fault ≡ NoMemory)
      refl c.read.ensures.answer c.in-Ok.is
      (asked_of_subject c.args.asked c.of_reading-subject.result c.in-Ok.reading c.in-Ok-text_of.found.items c.of_reading-subject.ensures.reading c.of_reading-subject.ensures.head c.in-Ok-text_of.ensures.text),
  c.len.ensures ∙ c.in-Ok-text_of.found.ok.0,
  in_front _ _ c.args.text.now _ (c.copy_from_slice.ensures.after ∙ c.deref.ensures.value) (c.len-3.ensures ∙ c.in-Ok-text_of.found.ok.0),
)
