-- The numbers that exports return.
use Rattle.std.specs.Prelude.{ℕ, ◌+◌}
use Rattle.bucket_ranges.specs.Fault.{spec_fault_number}
use Rattle.segment_calls.specs.declared.refusal.Refusal.{Refusal}
use Rattle.segment_calls.specs.declared.refusal.Refusal.TheVariants.{BadSpec}
use Rattle.segment_calls.specs.Refusal.{refusal_number}
use Rattle.segment_image.specs.declared.fault.ImageFault.{ImageFault}
use Rattle.segment_image.specs.Fault.{image_fault_number}
use Rattle.segment_calls.specs.declared.adopt_fault.AdoptFault.{AdoptFault}
use Rattle.segment_calls.specs.declared.adopt_fault.AdoptFault.TheVariants.{Image}
use Rattle.segment_calls.specs.Faults.{adopt_fault_number}
use Rattle.segment_calls.specs.declared.open_fault.OpenFault.{OpenFault}
use Rattle.segment_calls.specs.Faults.{open_fault_number}
use Rattle.reading_sums.specs.declared.fault.SumsFault.{SumsFault}
use Rattle.reading_sums.specs.declared.fault.SumsFault.TheVariants.{NoMemory, TooMany}

-- of a call that is refused; for a spec with a fault, that fault's own
abbrev pub status_of_refusal : Refusal → ℕ
status_of_refusal (BadSpec fault) = 400 + spec_fault_number fault
status_of_refusal why = 100 + refusal_number why

-- of a segment that was not made
abbrev pub status_of_open_fault : OpenFault → ℕ
status_of_open_fault fault = 200 + open_fault_number fault

-- of a header with a fault
abbrev pub status_of_image_fault : ImageFault → ℕ
status_of_image_fault fault = 500 + image_fault_number fault

-- of an image that was not adopted; for a header with a fault, that fault's own
abbrev pub status_of_adopt_fault : AdoptFault → ℕ
status_of_adopt_fault (Image fault) = status_of_image_fault fault
status_of_adopt_fault fault = 300 + adopt_fault_number fault

-- of a sum that was not added to
abbrev pub status_of_sums_fault : SumsFault → ℕ
status_of_sums_fault NoMemory = 13
status_of_sums_fault TooMany = 19
