use Rattle.std.proofs.Common.{◌≡◌, map, take}
use Rattle.segment_machine.specs.Entry.{item_entry}
use Rattle.hist_core.specs.ActorRun.{entry_of as machine_entry}
use Rattle.hist_core.proofs.call_entries.batch_entries.Given as goal

abbrev pub invariant-loop-value : goal.invariant-loop-value
invariant-loop-value l = map machine_entry l.entries.items ≡ map (item_entry l.known.name.items l.known.ranges) (take l.value-index l.items)
