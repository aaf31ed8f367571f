-- The numbers of the faults.
use Rattle.std.specs.Prelude.{ℕ}
use Rattle.bucket_ranges.specs.declared.spec.SpecFault.{SpecFault}
use Rattle.bucket_ranges.specs.declared.spec.SpecFault.TheVariants as spec
use Rattle.bucket_ranges.specs.declared.reading.RecordFault.{RecordFault}
use Rattle.bucket_ranges.specs.declared.reading.RecordFault.TheVariants as records

-- the number of what is wrong with a spec
abbrev pub spec_fault_number : SpecFault → ℕ
spec_fault_number spec.BadMin = 1
spec_fault_number spec.BadMax = 2
spec_fault_number spec.TooFew = 3
spec_fault_number spec.TooMany = 4
spec_fault_number spec.BadRange = 5
spec_fault_number spec.Empty = 6
spec_fault_number spec.NoMemory = 7

-- the number of why a record is not read
abbrev pub record_fault_number : RecordFault → ℕ
record_fault_number records.BadKind = 1
record_fault_number records.BadName = 2
record_fault_number records.BadSpec = 3
record_fault_number records.BadCounts = 4
record_fault_number records.BadSingle = 5
record_fault_number records.BadMark = 6
record_fault_number records.BadSum = 7
record_fault_number records.BadSample = 8
