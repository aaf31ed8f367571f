-- Why a world does not make a move.
use Rattle.std.specs.Prelude.{ℕ}
use Rattle.hist_core.specs.declared.fault.WorldFault.{WorldFault}
use Rattle.hist_core.specs.declared.fault.WorldFault.TheVariants.{BadShape, NoActor, Busy, Idle, Unknown, NoMemory, Adopt}
use Rattle.segment_calls.specs.declared.adopt_fault.AdoptFault.{AdoptFault}
use Rattle.segment_calls.specs.declared.adopt_fault.AdoptFault.TheVariants as adopt

-- the number of a fault
abbrev pub world_fault_number : WorldFault → ℕ
world_fault_number BadShape = 1
world_fault_number NoActor = 2
world_fault_number Busy = 3
world_fault_number Idle = 4
world_fault_number Unknown = 5
world_fault_number NoMemory = 6
world_fault_number (Adopt fault) = 7

-- what a fault of a check of an image becomes: `NoMemory` is no fault of the image
abbrev pub fault_of_adoption : AdoptFault → WorldFault
fault_of_adoption adopt.NoMemory = NoMemory
fault_of_adoption fault = Adopt fault
