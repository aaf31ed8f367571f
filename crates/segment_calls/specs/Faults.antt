-- Why there is no segment, and why an image may not be adopted.
use Rattle.std.specs.Prelude.{ℕ}
use Rattle.segment_calls.specs.declared.open_fault.OpenFault.{OpenFault}
use Rattle.segment_calls.specs.declared.open_fault.OpenFault.TheVariants as opening
use Rattle.segment_calls.specs.declared.adopt_fault.AdoptFault.{AdoptFault}
use Rattle.segment_calls.specs.declared.adopt_fault.AdoptFault.TheVariants as adopting

-- the number of a fault for which a segment was not made
abbrev pub open_fault_number : OpenFault → ℕ
open_fault_number opening.BadShape = 1
open_fault_number opening.BadCursors = 2
open_fault_number opening.NoMemory = 3

-- the number of a fault for which an image may not be adopted
abbrev pub adopt_fault_number : AdoptFault → ℕ
adopt_fault_number (adopting.Image fault) = 1
adopt_fault_number adopting.OldVersion = 2
adopt_fault_number adopting.Corrupt = 3
adopt_fault_number adopting.Damaged = 4
adopt_fault_number adopting.NoUnits = 5
adopt_fault_number adopting.BadCursors = 6
adopt_fault_number adopting.NoMemory = 7
