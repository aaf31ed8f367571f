use Rattle.std.proofs.Common.{◌≡◌, refl}
use Rattle.bucket_ranges.specs.Reading.{IsReading}
use Rattle.segment_image.specs.Head.{header_of}
use Rattle.segment_image.specs.declared.head.SegmentHead.{SegmentHead}
use Rattle.segment_image.specs.declared.fault.ImageFault.TheVariants.{NoMemory}
use Rattle.image_reader.specs.declared.reading.Reading.{Reading}
use Rattle.image_reader.specs.Views.{reading_view}
use Rattle.povundiri_c.proofs.Reporting.{fault_of}
use Rattle.povundiri_c.proofs.Summing.{image_added, said_of_adding}
use Rattle.povundiri_c.proofs.sums.add_image.Goals as goal

pub returns-in-Err-clause-fault : goal.returns-in-Err-clause-fault
returns-in-Err-clause-fault c =
    fault_of (header_of c.args.words.now) c.read.result c.in-Err.fault c.of_image_fault.result
    (λ (head : SegmentHead) (reading : Reading). IsReading c.args.words.now head (reading_view reading)) (λ fault. fault ≡ NoMemory)
    c.read.ensures.answer c.in-Err.is c.of_image_fault.ensures

pub returns-in-Err-clause-valid : goal.returns-in-Err-clause-valid
returns-in-Err-clause-valid c =
    said_of_adding (header_of c.args.words.now) c.read.result c.in-Err.fault c.of_image_fault.result
    (λ (head : SegmentHead) (reading : Reading). IsReading c.args.words.now head (reading_view reading))
    c.read.ensures.answer c.in-Err.is c.of_image_fault.ensures

pub returns-in-Ok-add-clause-added : goal.returns-in-Ok-add-clause-added
returns-in-Ok-add-clause-added c = λ _.
    image_added c.args.number c.args.words.now (header_of c.args.words.now) c.read.result c.in-Ok.reading c.args.sums.now c.add.new.self (λ fault. fault ≡ NoMemory)
    refl c.read.ensures.answer c.in-Ok.is (record { sum = c.in-Ok-add.ensures.added; well_formed = c.in-Ok-add.ensures.well_formed })
