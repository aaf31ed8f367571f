-- Why a run stops, and which of several stops is reported.
use Rattle.std.specs.Prelude.{◌≡◌, ◌≢◌, ◌+◌, ◌≤◌, ℕ, List, Result, Ok, Err, ⊤}
use Rattle.std.specs.List.{All, Contains}
use Rattle.segment_calls.specs.declared.refusal.Refusal.TheVariants as refusal
use Rattle.persist_report_core.specs.declared.fault.CliFault.{CliFault}
use Rattle.persist_report_core.specs.declared.fault.CliFault.TheVariants as cli
use Rattle.persist_commands.specs.declared.stop.Stop.{Stop}
use Rattle.persist_commands.specs.declared.stop.Stop.TheVariants.{NoThread, NoMemory, Gate, Refused}

-- the fault of a run that has stopped
abbrev pub fault_of_stop : Stop → CliFault
fault_of_stop NoThread = cli.NoThread
fault_of_stop NoMemory = cli.NoMemory
fault_of_stop Gate = cli.Gate
fault_of_stop (Refused number why) = cli.Refused number why

-- A fault reports out of memory as such: if it refuses a record, the refusal has another cause.
abbrev pub TellsWant : CliFault → Type 0
TellsWant (cli.Refused number why) = why ≢ refusal.NoMemory
TellsWant _ = ⊤

-- so does a stop
abbrev pub StopTellsWant : Stop → Type 0
StopTellsWant stop = TellsWant (fault_of_stop stop)

-- the place of a stop in the order in which stops are reported: no thread, out of memory, the gate, and refusals in the order of their
-- records
abbrev pub rank_of : Stop → ℕ
rank_of NoThread = 0
rank_of NoMemory = 1
rank_of Gate = 2
rank_of (Refused number why) = 3 + number

-- How workers that ended so have ended together: well if all have; else with a stop of one of them, and none has one that is reported
-- before it.
abbrev pub EndTogether : List (Result ⊤ Stop) → Result ⊤ Stop → Type 0
EndTogether outcomes (Ok done) = All (λ outcome. outcome ≡ Ok tt) outcomes
EndTogether outcomes (Err stop) = Contains outcomes (Err stop) × ((other : Stop) → Contains outcomes (Err other) → rank_of stop ≤ rank_of other)
