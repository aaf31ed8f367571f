-- Why the header of an image is refused.
use Rattle.std.proofs.Common.{◌≡◌, ℕ, List, Err}
use Rattle.segment_image.specs.Head.{header_of}
use Rattle.segment_image.specs.declared.fault.ImageFault.{ImageFault}
use Rattle.segment_image.specs.declared.fault.ImageFault.TheVariants as image
use Rattle.persist_report_core.specs.Fault.{fault_of_image}
use Rattle.persist_report_core.specs.Report.{AreWordsOf, IsCausedByImage}

-- a fault of the header of an image is caused by its bytes
pub header_cause : (bytes words : List ℕ) (fault : ImageFault) → AreWordsOf bytes words → header_of words ≡ Err fault → IsCausedByImage bytes (fault_of_image fault)
header_cause bytes words image.NoMemory same is = tt
header_cause bytes words fault same is = (words, same, is)
