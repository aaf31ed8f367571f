use Rattle.std.proofs.Common.{pos, take}
use Rattle.std.specs.List.{AllZip}
use Rattle.hist_core.specs.Add.{IsStarted}
use Rattle.hist_core.specs.ActorRun.{known_of}
use Rattle.hist_core.proofs.call_entries.new_items.Given as goal

abbrev pub invariant-loop-value : goal.invariant-loop-value
invariant-loop-value l = AllZip (λ item add. IsStarted l.shape l.version (known_of l.known) item.0 item.1 (pos 0) add) (take l.value-index l.items) l.adds.items
