-- Why a call is refused.
use Rattle.std.specs.Prelude.{ℕ}
use Rattle.bucket_ranges.specs.declared.spec.SpecFault.{SpecFault}
use Rattle.bucket_ranges.specs.declared.spec.SpecFault.TheVariants as spec
use Rattle.segment_calls.specs.declared.refusal.Refusal.{Refusal}
use Rattle.segment_calls.specs.declared.refusal.Refusal.TheVariants.{BadName, BadSpec, ZeroCount, NoUnits, TooMany, NoMemory, TooLarge, Corrupt, Full, OtherSpec}

-- the number of a refusal
abbrev pub refusal_number : Refusal → ℕ
refusal_number BadName = 1
refusal_number (BadSpec fault) = 2
refusal_number ZeroCount = 3
refusal_number NoUnits = 4
refusal_number TooMany = 5
refusal_number NoMemory = 6
refusal_number TooLarge = 7
refusal_number Corrupt = 8
refusal_number Full = 9
refusal_number OtherSpec = 10

-- the refusal of a spec that has a fault: running out of memory is no fault of the spec
abbrev pub refusal_of_spec : SpecFault → Refusal
refusal_of_spec spec.NoMemory = NoMemory
refusal_of_spec fault = BadSpec fault
