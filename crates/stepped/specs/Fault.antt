-- Why a schedule is not replayed to its end, and the status with which the program then ends.
use Rattle.std.specs.Prelude.{ℕ}
use Rattle.hist_core.specs.declared.fault.WorldFault.{WorldFault}
use Rattle.hist_core.specs.declared.fault.WorldFault.TheVariants as of_world
use Rattle.schedule.specs.declared.fault.ScheduleFault.{ScheduleFault}
use Rattle.schedule.specs.declared.fault.ScheduleFault.TheVariants as of_schedule
use Rattle.segment_image.specs.declared.fault.ReadFault.{ReadFault}
use Rattle.segment_image.specs.declared.fault.ReadFault.TheVariants as of_read
use Rattle.stepped.specs.declared.fault.ReplayFault.{ReplayFault}
use Rattle.stepped.specs.declared.fault.ReplayFault.TheVariants.{Read, Write, TooLong, NotWords, BadLine, World, NoMemory}

-- 3 if the bytes are no schedule or no words, or a world does not take it; 4 if a device failed; 5 if memory ran out
abbrev pub replay_status : ReplayFault → ℕ
replay_status Read = 4
replay_status Write = 4
replay_status TooLong = 3
replay_status NotWords = 3
replay_status (BadLine number) = 3
replay_status (World number fault) = 3
replay_status NoMemory = 5

-- the fault of a replay for a fault of the world at the record of a number: out of memory is no fault of the record
abbrev pub fault_of_world : ℕ → WorldFault → ReplayFault
fault_of_world number of_world.NoMemory = NoMemory
fault_of_world number fault = World number fault

-- the fault of a replay for a fault of the schedule
abbrev pub fault_of_schedule : ScheduleFault → ReplayFault
fault_of_schedule of_schedule.Read = Read
fault_of_schedule of_schedule.TooLong = TooLong
fault_of_schedule of_schedule.NoMemory = NoMemory
fault_of_schedule (of_schedule.BadLine number) = BadLine number

-- the fault of a replay for a fault of an image's bytes
abbrev pub fault_of_read : ReadFault → ReplayFault
fault_of_read of_read.NoMemory = NoMemory
fault_of_read of_read.Device = Read
fault_of_read of_read.TooLong = TooLong
fault_of_read of_read.NotWords = NotWords
