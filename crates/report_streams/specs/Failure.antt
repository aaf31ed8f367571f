-- Why the program did not do what it was asked to, and its exit status then.
use Rattle.std.specs.Prelude.{◌≡◌, ⊤, ℕ}
use Rattle.persist_report_core.specs.declared.fault.CliFault.{CliFault}
use Rattle.sum_commands.specs.declared.fault.InputFault.{InputFault}
use Rattle.sum_commands.specs.declared.fault.InputFault.TheVariants as of_input
use Rattle.persist_report_core.specs.declared.fault.CliFault.TheVariants.{Read, Write, TooLong, NotWords, Image, BadLine, Refused, Gate, Merge, NoThread, NoMemory, Adopt, NoSegment, NoHistogram, Bad, Stopped, Changed, Clash}
use Rattle.report_streams.specs.declared.failure.Failure.{Failure}
use Rattle.report_streams.specs.declared.failure.Failure.TheVariants.{Usage, Fault, Explained, Busy, Scale, Input, Since, TooMany, NotWhole, Left, Reported}
use Rattle.report_streams.specs.declared.lock.Unopened.{Unopened}
use Rattle.report_streams.specs.declared.lock.Unopened.TheVariants as unopened

-- the status of a fault: 3 if the bytes are no image or no script, what they ask for is refused, or what they should have is
-- not there; 4 if a device failed; 5 if a thread could not be started or memory ran out
abbrev pub fault_status : CliFault → ℕ
fault_status Read = 4
fault_status Write = 4
fault_status TooLong = 3
fault_status NotWords = 3
fault_status (Image fault) = 3
fault_status (BadLine number) = 3
fault_status (Refused number why) = 3
fault_status Gate = 3
fault_status (Merge name why) = 3
fault_status NoThread = 5
fault_status NoMemory = 5
fault_status (Adopt fault) = 3
fault_status NoSegment = 3
fault_status (NoHistogram name) = 3
fault_status (Bad reference fault) = 3
fault_status (Stopped fault) = 3
fault_status Changed = 3
fault_status (Clash first second) = 3

-- that of a fault of an input: of one that is no totals, and of one with which a total would not fit, it is 3
abbrev pub input_status : InputFault → ℕ
input_status (of_input.Image fault) = fault_status fault
input_status (of_input.BadTotals line) = 3
input_status of_input.TooMany = 3

-- the status of a failure: 2 for a mistake in the command line, 4 for a file that another process has
-- locked, and 3 for a scale that has a fault, for a sum to subtract that is not part of the other, for a
-- difference that does not fit, for an image that is not whole, and for inputs that were left out; of what was reported, the
-- one that was kept
abbrev pub failure_status : Failure → ℕ
failure_status (Usage wrong) = 2
failure_status (Fault fault) = fault_status fault
failure_status (Explained fault lines) = fault_status fault
failure_status (Busy lines) = 4
failure_status (Scale fault lines) = 3
failure_status (Input fault name lines) = input_status fault
failure_status (Since fault name lines) = 3
failure_status (TooMany lines) = 3
failure_status (NotWhole lines) = 3
failure_status Left = 3
failure_status (Reported kept) = kept.status

-- a failure that ends a command which writes its text again and again: a mistake in the command line, or a fault of what is
-- written
abbrev pub EndsRounds : Failure → Type 0
EndsRounds (Usage wrong) = ⊤
EndsRounds (Fault fault) = fault ≡ Write
EndsRounds (Explained fault lines) = fault ≡ Write
EndsRounds (Busy lines) = ⊥
EndsRounds (Scale fault lines) = ⊥
EndsRounds (Input fault name lines) = ⊥
EndsRounds (Since fault name lines) = ⊥
EndsRounds (TooMany lines) = ⊥
EndsRounds (NotWhole lines) = ⊥
EndsRounds Left = ⊥
EndsRounds (Reported kept) = ⊥

-- a failure that was reported, so that nothing is said of it
abbrev pub IsReported : Failure → Type 0
IsReported (Usage wrong) = ⊥
IsReported (Fault fault) = ⊥
IsReported (Explained fault lines) = ⊥
IsReported (Busy lines) = ⊥
IsReported (Scale fault lines) = ⊥
IsReported (Input fault name lines) = ⊥
IsReported (Since fault name lines) = ⊥
IsReported (TooMany lines) = ⊥
IsReported (NotWhole lines) = ⊥
IsReported Left = ⊤
IsReported (Reported kept) = ⊤

-- why a file is not locked: another process has its lock, or the system cannot lock it
abbrev pub IsBusyOrWrite : Unopened → Type 0
IsBusyOrWrite unopened.Busy = ⊤
IsBusyOrWrite (unopened.Failed cause) = cause.fault ≡ Write
