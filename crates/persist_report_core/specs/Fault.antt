-- The faults of a call, and what they come from.
use Rattle.std.specs.Prelude.{ℕ}
use Rattle.segment_image.specs.declared.fault.ImageFault.{ImageFault}
use Rattle.segment_image.specs.declared.fault.ImageFault.TheVariants as image
use Rattle.segment_image.specs.declared.fault.ReadFault.{ReadFault}
use Rattle.segment_image.specs.declared.fault.ReadFault.TheVariants as reading
use Rattle.segment_calls.specs.declared.adopt_fault.AdoptFault.{AdoptFault}
use Rattle.segment_calls.specs.declared.adopt_fault.AdoptFault.TheVariants as adopting
use Rattle.persist_report_core.specs.declared.fault.CliFault.{CliFault}
use Rattle.persist_report_core.specs.declared.fault.CliFault.TheVariants as cli

-- the number of a fault
abbrev pub cli_fault_number : CliFault → ℕ
cli_fault_number cli.Read = 1
cli_fault_number cli.Write = 2
cli_fault_number cli.TooLong = 3
cli_fault_number cli.NotWords = 4
cli_fault_number (cli.Image fault) = 5
cli_fault_number (cli.BadLine number) = 6
cli_fault_number (cli.Refused number why) = 7
cli_fault_number cli.Gate = 8
cli_fault_number (cli.Merge name why) = 9
cli_fault_number cli.NoThread = 10
cli_fault_number cli.NoMemory = 11
cli_fault_number (cli.Adopt fault) = 12
cli_fault_number cli.NoSegment = 13
cli_fault_number (cli.NoHistogram name) = 14
cli_fault_number (cli.Bad reference fault) = 15
cli_fault_number (cli.Stopped fault) = 16
cli_fault_number cli.Changed = 17
cli_fault_number (cli.Clash first second) = 18

-- the fault of a call whose reading of words failed
abbrev pub fault_of_read : ReadFault → CliFault
fault_of_read reading.NoMemory = cli.NoMemory
fault_of_read reading.Device = cli.Read
fault_of_read reading.TooLong = cli.TooLong
fault_of_read reading.NotWords = cli.NotWords

-- the fault of a call whose image was refused; running out of memory is not a fault of the image
abbrev pub fault_of_image : ImageFault → CliFault
fault_of_image image.NoMemory = cli.NoMemory
fault_of_image fault = cli.Image fault

-- the fault of a call whose image cannot be recorded into again; running out of memory is not a fault of the image
abbrev pub fault_of_adoption : AdoptFault → CliFault
fault_of_adoption adopting.NoMemory = cli.NoMemory
fault_of_adoption fault = cli.Adopt fault
