-- What a running call is not.
use Rattle.std.specs.Prelude.{Option, Some, ⊤}
use Rattle.hist_core.specs.declared.actor_run.Running.{Running}
use Rattle.hist_core.specs.declared.actor_run.Running.TheVariants.{Hist, Add, SetCorrupt, Snapshot, Batch}

abbrev pub asks_not : Option Running → Type 0
asks_not (Some (Hist hist)) = ⊥
asks_not running = ⊤

abbrev pub sets_not : Option Running → Type 0
sets_not (Some SetCorrupt) = ⊥
sets_not running = ⊤

abbrev pub adds_not : Option Running → Type 0
adds_not (Some (Add add)) = ⊥
adds_not running = ⊤

abbrev pub looks_not : Option Running → Type 0
looks_not (Some (Snapshot snapshot_call)) = ⊥
looks_not running = ⊤

abbrev pub batches_not : Option Running → Type 0
batches_not (Some (Batch batch)) = ⊥
batches_not running = ⊤
