use Rattle.std.proofs.Common.{◌≡◌, Bool, refl, subst}
use Rattle.bucket_ranges.specs.Reading.{IsReading}
use Rattle.segment_image.specs.Head.{header_of}
use Rattle.segment_image.specs.declared.fault.ImageFault.TheVariants.{NoMemory}
use Rattle.segment_image.specs.declared.head.SegmentHead.{SegmentHead}
use Rattle.image_reader.specs.Keys.{HasMoreKeys}
use Rattle.image_reader.specs.declared.reading.Reading.{Reading}
use Rattle.image_reader.specs.Views.{reading_view}
use Rattle.povundiri_c.specs.Reports.{SayKeys}
use Rattle.povundiri_c.proofs.Reading.{is_read, not_read}
use Rattle.povundiri_c.proofs.Reporting.{keys_said}
use Rattle.povundiri_c.proofs.merging.read_within.Goals as goal

pub returns-in-Err : goal.returns-in-Err
returns-in-Err c =
    not_read c.args.words.now c.args.most_keys (header_of c.args.words.now) c.has_more_keys.result c.in-Err.fault c.of_image_fault.result
    (λ (head : SegmentHead) (more : Bool). HasMoreKeys c.args.words.now head c.args.most_keys more)
    c.has_more_keys.ensures.answer c.in-Err.is c.of_image_fault.ensures

pub returns-in-Ok : goal.returns-in-Ok
returns-in-Ok c =
    is_read c.args.words.now c.args.most_keys (header_of c.args.words.now) c.read.result c.in-Ok.reading (λ fault. fault ≡ NoMemory) refl
    c.read.ensures.answer c.in-Ok.is
    (subst (SayKeys c.args.words.now c.args.most_keys) c.in-Ok-false.field-0-test
    (keys_said c.args.words.now (header_of c.args.words.now) c.has_more_keys.result c.args.most_keys c.in-Ok-false.field-0 refl c.has_more_keys.ensures.answer c.in-Ok-false.is))

pub returns-in-Err-read : goal.returns-in-Err-read
returns-in-Err-read c =
    not_read c.args.words.now c.args.most_keys (header_of c.args.words.now) c.read.result c.in-Err-read.fault c.of_image_fault-in-Err-read.result
    (λ (head : SegmentHead) (reading : Reading). IsReading c.args.words.now head (reading_view reading))
    c.read.ensures.answer c.in-Err-read.is c.of_image_fault-in-Err-read.ensures
