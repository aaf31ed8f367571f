-- The keys are counted first.
use Rattle.std.proofs.Common.{◌≡◌, Bool, inl, inr, refl, subst, arith}
use Rattle.segment_image.specs.Head.{header_of}
use Rattle.segment_image.specs.declared.fault.ImageFault.TheVariants.{NoMemory}
use Rattle.segment_image.specs.declared.head.SegmentHead.{SegmentHead}
use Rattle.image_reader.specs.Keys.{HasMoreKeys}
use Rattle.povundiri_c.specs.Reports.{SayKeys}
use Rattle.povundiri_c.proofs.Reporting.{fault_of, keys_said, no_fault_of, or_valid, said_of_valid}
use Rattle.povundiri_c.proofs.exports.reporting.povundiri_proved_report_bounded.Goals as goal

pub returns-in-Err-clause-fault : goal.returns-in-Err-clause-fault
returns-in-Err-clause-fault c =
    fault_of (header_of c.args.words.now) c.has_more_keys.result c.in-Err.fault c.of_image_fault.result
    (λ (head : SegmentHead) (more : Bool). HasMoreKeys c.args.words.now head c.args.most_keys more) (λ fault. fault ≡ NoMemory)
    c.has_more_keys.ensures.answer c.in-Err.is c.of_image_fault.ensures

pub returns-in-Err-clause-valid : goal.returns-in-Err-clause-valid
returns-in-Err-clause-valid c = or_valid (header_of c.args.words.now) c.of_image_fault.result (
    said_of_valid (header_of c.args.words.now) c.has_more_keys.result c.in-Err.fault c.of_image_fault.result
    (λ (head : SegmentHead) (more : Bool). HasMoreKeys c.args.words.now head c.args.most_keys more)
    c.has_more_keys.ensures.answer c.in-Err.is c.of_image_fault.ensures)

pub returns-in-Err-clause-many : goal.returns-in-Err-clause-many
returns-in-Err-clause-many c = λ same. absurd (omega (arith, c.of_image_fault.ensures, same))

pub returns-in-Err-clause-few : goal.returns-in-Err-clause-few
returns-in-Err-clause-few c = λ either. elim either [
  | inl same ↦ absurd (omega (arith, c.of_image_fault.ensures, same))
  | inr same ↦ absurd (omega (arith, c.of_image_fault.ensures, same))
]

pub returns-then-more-clause-fault : goal.returns-then-more-clause-fault
returns-then-more-clause-fault c =
    no_fault_of c.args.words.now c.args.most_keys c.in-Ok.more 17
    (keys_said c.args.words.now (header_of c.args.words.now) c.has_more_keys.result c.args.most_keys c.in-Ok.more refl c.has_more_keys.ensures.answer c.in-Ok.is)

pub returns-then-more-clause-many : goal.returns-then-more-clause-many
returns-then-more-clause-many c = λ _.
    subst (SayKeys c.args.words.now c.args.most_keys) c.if-more.true
    (keys_said c.args.words.now (header_of c.args.words.now) c.has_more_keys.result c.args.most_keys c.in-Ok.more refl c.has_more_keys.ensures.answer c.in-Ok.is)

pub returns-then-more-clause-few : goal.returns-then-more-clause-few
returns-then-more-clause-few c = λ either. elim either [ inl same ↦ absurd (omega (arith, same)) | inr same ↦ absurd (omega (arith, same)) ]

pub returns-clause-many : goal.returns-clause-many
returns-clause-many c = λ same. absurd (c.write_text.ensures.not_many same)

pub returns-clause-few : goal.returns-clause-few
returns-clause-few c = λ _.
    subst (SayKeys c.args.words.now c.args.most_keys) c.if-more.false
    (keys_said c.args.words.now (header_of c.args.words.now) c.has_more_keys.result c.args.most_keys c.in-Ok.more refl c.has_more_keys.ensures.answer c.in-Ok.is)
