-- The exchange that the next event of an actor is, if it is one.
use Rattle.std.specs.Prelude.{ℕ, ◌+◌, Option, Some, None}
use mathlib.Core.Option as maybe
use mathlib.Core.Option.{some, none}
use lib.ListN.{get_elem?}
use Rattle.segment_image.specs.declared.layout.TheConstants.{HISTOGRAM_COUNTS, HISTOGRAM_SINGLE}
use Rattle.alloc_core.specs.declared.attempt.Attempt.{Attempt}
use Rattle.alloc_core.specs.Event.Access.{exchange}
use Rattle.alloc_core.specs.Attempt.{attempt_of}
use Rattle.alloc_core.specs.Alloc as alloc
use Rattle.list_core.specs.Publish as publish
use Rattle.segment_machine.specs.Form.{off_word}
use Rattle.hist_core.specs.declared.new_record.NewRecordStage.{NewRecordStage}
use Rattle.hist_core.specs.declared.new_record.NewRecordStage.TheVariants as new_record
use Rattle.hist_core.specs.declared.sample_search.SampleSearchStage.{SampleSearchStage}
use Rattle.hist_core.specs.declared.sample_search.SampleSearchStage.TheVariants as sample_search
use Rattle.hist_core.specs.declared.add.Add.{Add}
use Rattle.hist_core.specs.declared.add.AddStage.{AddStage}
use Rattle.hist_core.specs.declared.add.AddStage.TheVariants as adding
use Rattle.hist_core.specs.declared.hist.HistStage.{HistStage}
use Rattle.hist_core.specs.declared.hist.HistStage.TheVariants as asking
use Rattle.hist_core.specs.declared.actor_run.Running.{Running}
use Rattle.hist_core.specs.declared.actor_run.Running.TheVariants as runs
use Rattle.hist_core.specs.declared.actor_run.ActorRun.{ActorRun}
use Rattle.hist_core.specs.declared.world_state.WorldState.{WorldState}

-- the exchange that is the next event of a new record: of the free pointer, when its words are claimed; of a next or of the tail,
-- when it is put on the list
abbrev pub new_record_attempt : NewRecordStage → Option Attempt
new_record_attempt (new_record.Allocating allocation) = attempt_of (alloc.next_event allocation)
new_record_attempt (new_record.Filling at index) = None
new_record_attempt (new_record.Publishing publishing) = attempt_of (publish.next_event publishing)

-- the exchange that is the next event of a search for a sample: one of a new sample
abbrev pub sample_search_attempt : SampleSearchStage → Option Attempt
sample_search_attempt (sample_search.Making m) = new_record_attempt m.stage
sample_search_attempt _ = None

-- the exchange that is the next event of an `add`: of the single word, when it packs its units there or disables it; of the counts
-- reference, when it mounts counts; or one of its claim or of its search for a sample
abbrev pub add_attempt : Add → AddStage → Option Attempt
add_attempt add (adding.Packing old new) = attempt_of (Some (exchange (add.histogram + HISTOGRAM_SINGLE) old new))
add_attempt add (adding.Mounting at) = attempt_of (Some (exchange (add.histogram + HISTOGRAM_COUNTS) 0 at))
add_attempt add (adding.Disabling counts old) = attempt_of (Some (exchange (add.histogram + HISTOGRAM_SINGLE) old (off_word add.version old)))
add_attempt add (adding.Allocating allocation) = attempt_of (alloc.next_event allocation)
add_attempt add (adding.Sampling s) = sample_search_attempt s.stage
add_attempt add _ = None

-- the exchange that is the next event of a `hist`: one of its new record
abbrev pub hist_attempt : HistStage → Option Attempt
hist_attempt (asking.Making m) = new_record_attempt m.stage
hist_attempt _ = None

-- the exchange that is the next event of a `batch`: that of the item that it counts next
abbrev pub item_attempt : maybe.Option Add → Option Attempt
item_attempt none = None
item_attempt (some add) = add_attempt add add.stage

-- the exchange that is the next event of a running call
abbrev pub running_attempt : Option Running → Option Attempt
running_attempt (Some (runs.Hist hist)) = hist_attempt hist.stage
running_attempt (Some (runs.Add add)) = add_attempt add add.stage
running_attempt (Some (runs.Batch batch)) = item_attempt (get_elem? batch.items.items batch.added)
running_attempt _ = None

-- the exchange that is the next event of an actor; one that is not there has none
abbrev pub run_attempt : maybe.Option ActorRun → Option Attempt
run_attempt none = None
run_attempt (some actor_run) = running_attempt actor_run.running

-- the exchange that is the next event of an actor of a world: the word, and the value that is expected there
abbrev pub next_attempt : WorldState → ℕ → Option Attempt
next_attempt world_state actor = run_attempt (get_elem? world_state.actor_runs.items actor)
