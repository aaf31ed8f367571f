-- An actor of a world at run time, and the actor of the machine that it stands for.
use Rattle.std.specs.Prelude.{◌≡◌, ◌≢◌, ◌≤◌, ◌<◌, ℕ, ℤ, pos, ◌+◌, ◌-◌, ◌*◌, ◌⊎◌, Bool, true, false, List, [], ◌∷◌, ◌++◌, map, take, drop, length, Option, Some, None, option_to_list, bit_or, ⊤, Result, Ok, Err, vec_len, vec_capacity, unsigned_abs}
use Rattle.std.specs.List.{All, AllZip, Contains}
use mathlib.Core.Option.{some}
use lib.ListN.{get_elem?}
use Rattle.bucket_ranges.specs.Ranges.{boundaries_of}
use Rattle.bucket_ranges.specs.Reading.{is_name}
use Rattle.bucket_ranges.specs.Tally.{amount_of}
use Rattle.bucket_ranges.specs.Spec.{spec_fault, buckets_of, SameSpec}
use Rattle.bucket_ranges.specs.declared.spec.Spec.{Spec}
use Rattle.bucket_ranges.specs.declared.spec.Spec.TheVariants.{Sparse}
use Rattle.segment_image.specs.Words.{word_at}
use Rattle.segment_image.specs.Shape.{Dimensions}
use Rattle.segment_image.specs.declared.layout.TheConstants.{BLOCK_HEADER, FLAG_CORRUPT, FLAGS_WORD, HEADER_WORDS, HISTOGRAM_NAME}
use Rattle.segment_machine.specs.declared.entry.Entry.{Entry as MachineEntry}
use Rattle.segment_machine.specs.declared.actor.Actor.{Actor}
use Rattle.segment_machine.specs.declared.place.Place.TheVariants.{Spent}
use Rattle.segment_machine.specs.declared.actor.Taken.{Taken as MachineTaken}
use Rattle.segment_machine.specs.Actor.{is_opener, units_listed}
use Rattle.segment_machine.specs.Entry.{batch_entries}
use Rattle.segment_machine.specs.Note.{MayNote, SawAll, TookAll, noted, begins}
use Rattle.segment_machine.specs.Seats.{giver}
use Rattle.segment_machine.specs.declared.actor.Answered.{Answered}
use Rattle.segment_machine.specs.declared.actor.Known.{Known}
use Rattle.hist_core.specs.StepsBy.{SharedEffect, DoesOnly, StepsBy, HasMetKnown, IsFree}
use Rattle.hist_core.specs.Add.{SawNeedOfBlock, IsAdd, alone, block_words, counted_entry, IsStarted}
use Rattle.hist_core.specs.Add.{serves_counted as add_serves}
use Rattle.hist_core.specs.Batch.{IsBatch, IsSameBatch, counted_entries}
use Rattle.hist_core.specs.Batch.{serves_counted as batch_serves, sample_of}
use Rattle.hist_core.specs.declared.batch.Batch.{Batch as BatchCall}
use Rattle.hist_core.specs.declared.batch.BatchStep.{BatchStep}
use Rattle.hist_core.specs.declared.batch.BatchStep.TheVariants as batch
use Rattle.hist_core.specs.declared.add.Add.{Add as AddCall}
use Rattle.hist_core.specs.declared.add.AddStep.{AddStep}
use Rattle.hist_core.specs.declared.add.AddStep.TheVariants as add
use Rattle.hist_core.specs.Hist.{IsHist, IsHistBegun, IsHistCause, serves_asked}
use Rattle.hist_core.specs.NewRecord.{IsCause, is_full}
use Rattle.hist_core.specs.SnapshotCall.{IsSnapshotCall, IsStarted as IsSnapshotCallStarted, LooksAnew}
use Rattle.segment_calls.specs.declared.answer.Snapshot.{Snapshot as SnapshotAnswer}
use Rattle.hist_core.specs.declared.snapshot_call.SnapshotCall.{SnapshotCall}
use Rattle.hist_core.specs.declared.snapshot_call.SnapshotCallStep.{SnapshotCallStep}
use Rattle.hist_core.specs.declared.snapshot_call.SnapshotCallStep.TheVariants as look
use Rattle.segment_calls.specs.declared.asked.Asked.{Asked}
use Rattle.segment_calls.specs.declared.refusal.Refusal.{Refusal}
use Rattle.segment_calls.specs.declared.refusal.Refusal.TheVariants as why
use Rattle.hist_core.specs.declared.call.Answer.{Answer}
use Rattle.hist_core.specs.declared.call.Begun.{Begun}
use Rattle.hist_core.specs.declared.call.Begun.TheVariants.{Going, Ended}
use Rattle.std.specs.declared.alloc.AllocError.{AllocError}
use Rattle.std.specs.declared.alloc.Global.{Global}
use Rattle.std.specs.declared.vec.Vec.{Vec}
use Rattle.hist_core.specs.declared.hist.Hist.{Hist as HistCall}
use Rattle.hist_core.specs.declared.hist.HistStep.{HistStep}
use Rattle.hist_core.specs.declared.hist.HistStep.TheVariants as hist
use Rattle.hist_core.specs.declared.hist.KnownHist.{KnownHist}
use Rattle.hist_core.specs.declared.entry.Entry.{Entry}
use Rattle.hist_core.specs.declared.entry.Taken.{Taken}
use Rattle.hist_core.specs.DeltaCall.{HasBegun, insert_by_key, IsFirstStage, IsDeltaCall, IsStarted as IsDeltaCallStarted}
use Rattle.segment_calls.specs.declared.answer.Delta.{Delta as DeltaAnswer}
use Rattle.segment_promises.specs.Calls.{AreUnits}
use Rattle.hist_core.specs.declared.delta_call.DeltaCall.{DeltaCall}
use Rattle.hist_core.specs.declared.delta_call.DeltaCallStep.{DeltaCallStep}
use Rattle.hist_core.specs.declared.delta_call.DeltaCallStep.TheVariants as take_step
use Rattle.hist_core.specs.declared.call.Answer.TheVariants as answer
use Rattle.hist_core.specs.declared.call.Stepped.{Stepped}
use Rattle.hist_core.specs.declared.call.Stepped.TheVariants.{More, Done}
use Rattle.hist_core.specs.declared.actor_run.Running.{Running}
use Rattle.hist_core.specs.declared.actor_run.Running.TheVariants.{SetCorrupt, Hist, Add, Delta, Snapshot, Batch}
use Rattle.hist_core.specs.declared.actor_run.ActorRun.{ActorRun}

-- ---- what it shows

-- an entry as the machine has it
abbrev pub entry_of : Entry → MachineEntry
entry_of e = record { name = e.name.items; key = e.key; units = e.units; amount = e.amount }

-- the entries of its ended calls
abbrev pub ended_by : ActorRun → List Entry
ended_by actor_run = take actor_run.ended actor_run.entries.items

-- the entries that have begun: those of ended calls, and of the running one from its first event on
abbrev pub begun_by : ActorRun → List Entry
begun_by actor_run = take actor_run.begun actor_run.entries.items

-- what the running call is to count: the entries after those of ended calls
abbrev pub pending_by : ActorRun → List Entry
pending_by actor_run = drop actor_run.ended actor_run.entries.items

-- an actor that has done nothing
pub record IsFreshRun (actor_run : ActorRun) : Type 0 where
  pub entries : actor_run.entries.items ≡ []
  pub ended : actor_run.ended ≡ 0
  pub begun : actor_run.begun ≡ 0
  pub taken : actor_run.taken.items ≡ []
  pub known : actor_run.known.items ≡ []
  pub rests : actor_run.running ≡ None

-- ---- what it knows

-- a known histogram as the machine has it
abbrev pub known_of : KnownHist → Known
known_of known = record { name = known.name.items; spec = known.spec; reference = known.reference }

-- Its name and its spec are valid, it has the ranges of the spec, its counts fit in a page, and its record lies in the segment.
pub record IsKnown (shape : Dimensions) (known : KnownHist) : Type 0 where
  pub name : is_name known.name.items ≡ true
  pub lawful : spec_fault known.spec ≡ None
  pub ranges : known.ranges ≡ boundaries_of known.spec
  pub fits : BLOCK_HEADER + 2 * buckets_of known.spec ≤ shape.page
  pub within : known.reference + HISTOGRAM_NAME ≤ shape.size

-- the histogram of a name is at a place among those that are known
abbrev pub IsKnownAt : List KnownHist → ℕ → List ℕ → Type 0
IsKnownAt list i name = (known : KnownHist) × (get_elem? list i ≡ some known) × (known.name.items ≡ name)

-- What an actor knows at a place is valid, and has the ranges of its spec.
pub record KnowsAt (actor_run : ActorRun) (i : ℕ) : Type 0 where
  pub near : i < vec_len actor_run.known
  pub lawful : (known : KnownHist) → get_elem? actor_run.known.items i ≡ some known → spec_fault known.spec ≡ None
  pub ranges : (known : KnownHist) → get_elem? actor_run.known.items i ≡ some known → known.ranges ≡ boundaries_of known.spec

-- none of these known histograms has this name
abbrev pub NoneHasName : List KnownHist → List ℕ → Type 0
NoneHasName list name = (i : ℕ) (known : KnownHist) → get_elem? list i ≡ some known → known.name.items ≢ name

-- no two of these known histograms have the same name
abbrev pub HaveOwnNames : List KnownHist → Type 0
HaveOwnNames [] = ⊤
HaveOwnNames (known ∷ rest) = NoneHasName rest known.name.items × HaveOwnNames rest

-- ---- what its deltas took

-- A delta is shown as the machine has it: of the same histogram, with as many units of each key, and as much of the sum. Its keys ascend,
-- each with units.
pub record IsDeltaShown (taken : Taken) (machine : MachineTaken) : Type 0 where
  pub name : taken.name.items ≡ machine.name
  pub sum : taken.sum ≡ machine.sum
  pub counts : (key : ℤ) → units_listed taken.counts.items key ≡ units_listed machine.counts key
  pub units : AreUnits taken.counts.items

-- these deltas are shown as the machine has them, in order
abbrev pub AreDeltasShown : List Taken → List MachineTaken → Type 0
AreDeltasShown [] [] = ⊤
AreDeltasShown [] (machine ∷ rest) = ⊥
AreDeltasShown (taken ∷ list) [] = ⊥
AreDeltasShown (taken ∷ list) (machine ∷ rest) = IsDeltaShown taken machine × AreDeltasShown list rest

-- the last of these
abbrev pub IsLast : List Taken → Taken → Type 0
IsLast list taken = get_elem? list (length list - 1) ≡ some taken

-- what a running delta is shown as: it lists what the call has taken, with as much room, and nothing of the sum yet
abbrev pub IsDeltaDraft : DeltaCall → Taken → Type 0
IsDeltaDraft delta_call taken =
    (taken.counts.items ≡ delta_call.counts.items) × (vec_capacity taken.counts ≡ vec_capacity delta_call.counts) × (taken.sum ≡ pos 0)

-- until its first event there is room for what a running delta is shown as; from then on that is the last one
abbrev pub HasDraft : Option Running → Vec Taken Global → Type 0
HasDraft (Some (Delta delta_call (Some fresh))) taken = (vec_len taken < vec_capacity taken) × IsDeltaDraft delta_call fresh
HasDraft (Some (Delta delta_call None)) taken = (0 < vec_len taken) × ((last : Taken) → IsLast taken.items last → IsDeltaDraft delta_call last)
HasDraft running taken = ⊤

-- until its first event it holds the name that it is to be shown with
abbrev pub IsTimely : Known → DeltaCall → Option Taken → Type 0
IsTimely known delta_call (Some fresh) = IsFirstStage delta_call.stage × (fresh.name.items ≡ known.name)
IsTimely known delta_call None = HasBegun delta_call.stage

-- ---- what it stands for

-- A call that counts nothing: no entries are pending, its actor has none that run, holds no units, has no share, and takes nothing.
pub record CountsNoEntries (pending : List Entry) (a : Actor) : Type 0 where
  pub none : pending ≡ []
  pub runs : a.entries.running ≡ []
  pub holds : a.units.held ≡ []
  pub share : a.units.share ≡ 0
  pub takes : a.deltas.taking ≡ false

-- A call that counts entries, before its first event: its actor has just the units of the call. With that event it may begin to count, and
-- `standing` holds of it then.
pub record IsBefore (name : List ℕ) (cost : ℕ) (entries : List MachineEntry) (standing : Actor → Type 0) (a : Actor) : Type 0 where
  pub share : a.units.share ≡ cost
  pub may : MayNote a (begins name cost entries)
  pub stands : standing (noted a (begins name cost entries))

-- A call that counts entries, before or after its first event. The entries are pending.
pub record IsGhostNoting (pending : List Entry) (name : List ℕ) (cost : ℕ) (entries : List MachineEntry) (standing : Actor → Type 0) (a : Actor) : Type 0 where
  pub pending_are : map entry_of pending ≡ entries
  pub stands : IsBefore name cost entries standing a ⊎ ((a.units.share ≡ 0) × standing a)

-- an `add` counts one entry
abbrev pub IsAdding : Dimensions → List Entry → AddCall → Actor → Type 0
IsAdding shape pending add a =
    (known : Known) × IsGhostNoting pending known.name add.units (counted_entry known add ∷ []) (IsAdd shape known (alone add) add) a

-- a `batch` counts an entry for each item, and one for its sum unless that is 0
abbrev pub IsBatching : Dimensions → List Entry → BatchCall → Actor → Type 0
IsBatching shape pending batch a =
    (known : Known) × IsGhostNoting pending known.name batch.cost (counted_entries known batch) (IsBatch shape known batch) a

-- an actor, except for the delta that it takes
abbrev pub apart_from_delta : Actor → Actor
apart_from_delta a = record a { deltas = record a.deltas { taking = false } }

-- A `delta`: its actor counts nothing, and takes a delta of a histogram, after the earlier ones.
abbrev pub IsDrawing : Dimensions → List Entry → DeltaCall → Option Taken → Actor → Type 0
IsDrawing shape pending delta_call fresh a =
    CountsNoEntries pending (apart_from_delta a)
    × ((known : Known) × (earlier : List MachineTaken) × IsDeltaCall shape known earlier delta_call a × IsTimely known delta_call fresh)

-- Where the machine's actor is that runs this call, or none. A `hist` asks for a histogram that is not known.
abbrev pub StandsIn : Dimensions → List KnownHist → List Entry → Option Running → Actor → Type 0
StandsIn shape known pending None a = IsFree a × CountsNoEntries pending a
StandsIn shape known pending (Some SetCorrupt) a = IsFree a × CountsNoEntries pending a
StandsIn shape known pending (Some (Hist hist)) a = IsHist shape hist a × CountsNoEntries pending a × NoneHasName known hist.asked.name.items
StandsIn shape known pending (Some (Add add)) a = IsAdding shape pending add a
StandsIn shape known pending (Some (Delta delta_call fresh)) a = IsDrawing shape pending delta_call fresh a
StandsIn shape known pending (Some (Batch batch)) a = IsBatching shape pending batch a
StandsIn shape known pending (Some (Snapshot snapshot_call)) a = CountsNoEntries pending a × ((seen : Known) × IsSnapshotCall shape seen snapshot_call a)

-- there is room for the histogram that a `hist` asks for, in addition to those that are known
abbrev pub HasRoomForHist : Option Running → ℕ → ℕ → Type 0
HasRoomForHist (Some (Hist hist)) known capacity = known < capacity
HasRoomForHist running known capacity = ⊤

-- An actor of a segment of this shape and version is a recorder: its log is the entries of ended calls, and it has begun those of the
-- running call that have begun; its deltas took what is shown; it knows the same histograms, no two of one name, has visited the record of
-- each, and is where the running call is.
pub record IsActorRunOf (shape : Dimensions) (version : ℕ) (actor_run : ActorRun) (a : Actor) : Type 0 where
  pub records : is_opener a.role ≡ false
  pub segment : a.segment ≡ record { shape = shape; version = version; cursors = 0 }
  pub first : a.entries.first ≡ []
  pub within : (actor_run.ended ≤ actor_run.begun) × (actor_run.begun ≤ length actor_run.entries.items)
  pub ended : map entry_of (ended_by actor_run) ≡ map (λ c. c.entry) a.entries.log
  pub begun : map entry_of (begun_by actor_run) ≡ map (λ c. c.entry) (a.entries.log ++ a.entries.running)
  pub taken : AreDeltasShown actor_run.taken.items a.deltas.taken
  pub names : map known_of actor_run.known.items ≡ a.answers.names
  pub lawful : All (IsKnown shape) actor_run.known.items
  pub once : HaveOwnNames actor_run.known.items
  pub met : HasMetKnown a
  pub stands : StandsIn shape actor_run.known.items (pending_by actor_run) actor_run.running a
  pub room : HasRoomForHist actor_run.running (vec_len actor_run.known) (vec_capacity actor_run.known)
  pub draft : HasDraft actor_run.running actor_run.taken

-- an actor that stands for some actor of the machine, in a segment of `n` words
abbrev pub IsSomeRun : ℕ → ActorRun → Type 0
IsSomeRun n actor_run = (shape : Dimensions) × (version : ℕ) × (a : Actor) × (n ≡ shape.size) × (HEADER_WORDS ≤ n) × IsActorRunOf shape version actor_run a

-- ---- how it continues

-- the units of the pool that its running call would give back: those that no counted item of it has spent
abbrev pub held_by : Option Running → ℕ
held_by (Some (Add add)) = add.units
held_by (Some (Batch batch)) = batch.left
held_by running = 0

-- those of them that come back: all if the call is refused, and else none
abbrev pub returned_by : Stepped → ℕ → ℕ
returned_by (Done (answer.Refused why)) held = held
returned_by (Done (answer.BatchRefused refusal)) held = held
returned_by said held = 0

-- the record of the histogram of which a running call takes a delta or a snapshot
abbrev pub looked_by : Option Running → ℕ
looked_by (Some (Delta delta_call fresh)) = delta_call.histogram
looked_by (Some (Snapshot snapshot_call)) = snapshot_call.histogram
looked_by running = 0

-- A snapshot of the histogram of a record is the last that was returned to its actor, and is what the actor saw since it began. The values
-- of a sparse histogram ascend, each with units.
pub record IsAnswer (histogram : ℕ) (snapshot : SnapshotAnswer) (a : Actor) : Type 0 where
  pub known : Known
  pub knows : Contains a.answers.names known
  pub reference : known.reference ≡ histogram
  pub before : List Answered
  pub answered : Answered
  pub snapshots : a.deltas.snapshots ≡ before ++ answered ∷ []
  pub name : answered.name ≡ known.name
  pub counts : answered.counts ≡ snapshot.counts.items
  pub sum : answered.sum ≡ snapshot.sum
  pub redundant : answered.redundant ≡ snapshot.redundant
  pub saw : SawAll a known answered
  pub values : known.spec ≡ Sparse → AreUnits snapshot.counts.items

-- A delta of the histogram of a record is the last of what its actor's deltas took, and took all that the actor saw since it began.
pub record IsTook (histogram : ℕ) (delta : DeltaAnswer) (a : Actor) : Type 0 where
  pub known : Known
  pub knows : Contains a.answers.names known
  pub reference : known.reference ≡ histogram
  pub before : List MachineTaken
  pub last : MachineTaken
  pub deltas : a.deltas.taken ≡ before ++ last ∷ []
  pub name : last.name ≡ known.name
  pub counts : (key : ℤ) → units_listed delta.counts.items key ≡ units_listed last.counts key
  pub ascending : AreUnits delta.counts.items
  pub sum : delta.sum ≡ last.sum
  pub took : TookAll a known

-- Units that are to be counted in the histogram of a record are refused the block that they need there: its counts, or the sample of a
-- value. Their actor has found no counts, and only a call that has found some moves units of another call: so it has moved nothing.
abbrev pub SawLackOfBlock : ℕ → ℤ × ℕ → Refusal → Actor → Actor → Type 0
SawLackOfBlock histogram sample cause a b =
    (known : Known) × Contains b.answers.names known × (known.reference ≡ histogram) × IsCause cause (block_words known) a b × SawNeedOfBlock known sample b

-- Why a running call is refused, by its last event: the block that it needs is refused, which for a batch is that of its next item; or its
-- actor has seen that the first record of the name that a `hist` asks for has another spec. No other call is refused.
abbrev pub IsRefusedBy : Option Running → Refusal → Actor → Actor → Type 0
IsRefusedBy (Some (Hist hist)) cause a b = IsHistCause hist.asked.name.items hist.asked.spec cause a b
IsRefusedBy (Some (Add add)) cause a b = SawLackOfBlock add.histogram (add.value, add.units) cause a b
IsRefusedBy (Some (Batch batch)) cause a b =
    (sample : ℤ × ℕ) × (get_elem? (map sample_of batch.items.items) batch.added ≡ some sample) × SawLackOfBlock batch.histogram sample cause a b
IsRefusedBy running cause a b = ⊥

-- where an actor lands if its call is refused: it gives back the units that are left of the call
abbrev pub LandsBack : Dimensions → ℕ → ℕ → ActorRun → Actor → Type 0
LandsBack shape version units new b = (b.hand.place ≢ Spent) × (units ≤ b.units.share) × IsActorRunOf shape version new (giver b units)

-- Where its actor lands: a call that is refused gives units back, and has a cause; a snapshot returns what was seen, and a delta what it
-- took; a call that sets the corrupt flag has done so.
abbrev pub Lands : Dimensions → ℕ → ActorRun → ActorRun → Stepped → Actor → Actor → Type 0
Lands shape version old new (Done (answer.Refused cause)) a b = LandsBack shape version (held_by old.running) new b × IsRefusedBy old.running cause a b
Lands shape version old new (Done (answer.BatchRefused refusal)) a b =
    LandsBack shape version (held_by old.running) new b × IsRefusedBy old.running refusal.why a b
Lands shape version old new (Done (answer.Delta delta)) a b = IsActorRunOf shape version new b × IsTook (looked_by old.running) delta b
Lands shape version old new (Done (answer.Snapshot snapshot)) a b = IsActorRunOf shape version new b × IsAnswer (looked_by old.running) snapshot b
Lands shape version old new (Done answer.Flagged) a b = IsActorRunOf shape version new b × (b.done.spoiled ≡ true)
Lands shape version old new said a b = IsActorRunOf shape version new b

-- since when a running snapshot looks: its first event sets that, and no other event changes it
abbrev pub LooksSince : Option Running → Actor → Actor → Type 0
LooksSince (Some (Snapshot snapshot_call)) a b = LooksAnew snapshot_call.stage a b
LooksSince running a b = ⊤

-- its step says that it has set the corrupt flag
abbrev pub is_flagged : Stepped → Bool
is_flagged (Done answer.Flagged) = true
is_flagged said = false

-- its step says that a block was refused since the segment is full
abbrev pub lacks_room : Stepped → Bool
lacks_room (Done (answer.Refused cause)) = is_full cause
lacks_room (Done (answer.BatchRefused refusal)) = is_full refusal.why
lacks_room said = false

-- What a running call of an actor may do: a `hist` makes a record of the name and the spec that it asks for; a call that counts makes a
-- sample of a value that it counts, in its histogram, or claims the counts of that. If it raises the free pointer, the actor has seen that
-- it needs the block.
abbrev pub Serves : Option Running → Actor → SharedEffect → Type 0
Serves (Some (Hist hist)) a deed = serves_asked hist a deed
Serves (Some (Add add)) a deed = (known : Known) × Contains a.answers.names known × (known.reference ≡ add.histogram) × add_serves known add a deed
Serves (Some (Batch batch)) a deed = (known : Known) × Contains a.answers.names known × (known.reference ≡ batch.histogram) × batch_serves known batch a deed
Serves running a deed = ⊥

-- Its event sets the corrupt flag only with `Flagged`, and the full one only with a refusal `Full`; a record that it links is one that its
-- call is for, and the block for which it raises the free pointer is the one that its call needs.
abbrev pub DoesAsSaid : Option Running → Stepped → Actor → Actor → Type 0
DoesAsSaid running said a b = DoesOnly (is_flagged said) (lacks_room said) (Serves running a) a b

-- It performs one event, and so does the actor for which it stands.
abbrev pub Advances : Dimensions → ℕ → ActorRun → List ℕ → ActorRun → List ℕ → Stepped → Actor → Type 0
Advances shape version old words new new_words said a = StepsBy shape.size version a words new_words
    (λ b. Lands shape version old new said a b × LooksSince old.running a b × DoesAsSaid old.running said a b)

-- it still asks for the same histogram
abbrev pub AsksOn : Option Running → Option Running → Type 0
AsksOn old new = (asked : HistCall) → old ≡ Some (Hist asked) → (now : HistCall) × (new ≡ Some (Hist now)) × (now.asked ≡ asked.asked)

-- a known histogram has the name and the spec that a call asks for
abbrev pub IsAskedBy : Option Running → KnownHist → Type 0
IsAskedBy running known =
    (call : HistCall) × (running ≡ Some (Hist call)) × let asked = call.asked in (known.name ≡ asked.name) × (known.spec ≡ asked.spec)

-- How its entries change: from the first event of its call on all of them have begun; if the call is accepted, all have ended; of a refused
-- batch those of the first items have; else those that have ended are the same.
abbrev pub EntriesGo : ActorRun → ActorRun → Stepped → Type 0
EntriesGo old new More = (ended_by new ≡ ended_by old) × (begun_by new ≡ ended_by old ++ pending_by old) × (pending_by new ≡ pending_by old)
EntriesGo old new (Done answer.Added) = (ended_by new ≡ ended_by old ++ pending_by old) × (begun_by new ≡ ended_by new)
EntriesGo old new (Done (answer.BatchRefused refusal)) = (ended_by new ≡ ended_by old ++ take refusal.added (pending_by old)) × (begun_by new ≡ ended_by new)
EntriesGo old new (Done answered) = (ended_by new ≡ ended_by old) × (begun_by new ≡ ended_by new)

-- it continues the same `add`
abbrev pub AddsOn : Option Running → Option Running → Type 0
AddsOn old new = (add : AddCall) → old ≡ Some (Add add) → (now : AddCall) × (new ≡ Some (Add now)) × (now.units ≡ add.units)

-- it continues the same snapshot
abbrev pub SnapshotGoesOn : Option Running → Option Running → Type 0
SnapshotGoesOn old new = (snapshot_call : SnapshotCall) → old ≡ Some (Snapshot snapshot_call) → (now : SnapshotCall) × (new ≡ Some (Snapshot now)) × (now.histogram ≡ snapshot_call.histogram)

-- it continues the same delta, whose first event has happened
abbrev pub DeltaGoesOn : Option Running → Option Running → Type 0
DeltaGoesOn old new = (delta_call : DeltaCall) (fresh : Option Taken) → old ≡ Some (Delta delta_call fresh)
    → (now : DeltaCall) × (new ≡ Some (Delta now None)) × (now.histogram ≡ delta_call.histogram)

-- it continues the same batch
abbrev pub BatchesOn : Option Running → Option Running → Type 0
BatchesOn old new = (batch : BatchCall) → old ≡ Some (Batch batch) → (now : BatchCall) × (new ≡ Some (Batch now)) × IsSameBatch batch now

-- it counts: it runs an `add` or a `batch`
abbrev pub RunsAddOrBatch : Option Running → Type 0
RunsAddOrBatch running = ((add : AddCall) × (running ≡ Some (Add add))) ⊎ ((batch : BatchCall) × (running ≡ Some (Batch batch)))

-- a call, other than a batch, that may be refused by one of its events
abbrev pub MayBeRefused : Option Running → Type 0
MayBeRefused (Some (Hist hist)) = ⊤
MayBeRefused (Some (Add add)) = ⊤
MayBeRefused running = ⊥

-- What its call says, and what it knows then: it continues; the corrupt flag is set by the one event of its call; a `hist` returns the
-- histogram that it asked for, which is the last that is known; an `add` or a `batch` is accepted; a delta or a snapshot returns; a batch
-- is refused after its first items; or a `hist` or an `add` is refused.
abbrev pub Tells : ActorRun → List ℕ → ActorRun → List ℕ → Stepped → Type 0
Tells old words new new_words More =
    (new.known.items ≡ old.known.items) × AsksOn old.running new.running × AddsOn old.running new.running × SnapshotGoesOn old.running new.running
    × DeltaGoesOn old.running new.running × BatchesOn old.running new.running × (old.running ≢ Some SetCorrupt)
Tells old words new new_words (Done answer.Flagged) =
    (old.running ≡ Some SetCorrupt) × (word_at new_words FLAGS_WORD ≡ bit_or (word_at words FLAGS_WORD) FLAG_CORRUPT) × (new.running ≡ None) × (new.known.items ≡ old.known.items)
Tells old words new new_words (Done (answer.Hist reference)) =
    (known : KnownHist) × IsAskedBy old.running known × (known.reference ≡ reference) × (new.known.items ≡ old.known.items ++ known ∷ []) × (new.running ≡ None)
Tells old words new new_words (Done answer.Added) =
    RunsAddOrBatch old.running × (new.running ≡ None) × (new.known.items ≡ old.known.items)
Tells old words new new_words (Done (answer.Delta delta)) =
    ((delta_call : DeltaCall) × (fresh : Option Taken) × (old.running ≡ Some (Delta delta_call fresh))) × (new.running ≡ None) × (new.known.items ≡ old.known.items)
Tells old words new new_words (Done (answer.Snapshot snapshot)) =
    ((snapshot_call : SnapshotCall) × (old.running ≡ Some (Snapshot snapshot_call))) × (new.running ≡ None) × (new.known.items ≡ old.known.items)
Tells old words new new_words (Done (answer.BatchRefused refusal)) =
    ((batch : BatchCall) × (old.running ≡ Some (Batch batch)) × (refusal.added ≡ batch.added)) × (new.running ≡ None) × (new.known.items ≡ old.known.items)
Tells old words new new_words (Done (answer.Refused why)) = MayBeRefused old.running × (new.running ≡ None) × (new.known.items ≡ old.known.items)

-- what the ended deltas of an actor took
abbrev pub ended_deltas : Option Running → List Taken → List Taken
ended_deltas (Some (Delta delta_call None)) list = take (length list - 1) list
ended_deltas running list = list

-- What a delta is shown as after an event: what it had taken, with what that event took; once it has ended, what it returns.
abbrev pub TakesMore : DeltaCall → Stepped → Taken → Type 0
TakesMore delta_call More last =
    (last.sum ≡ pos 0)
    × ((last.counts.items ≡ delta_call.counts.items) ⊎ ((one : ℤ × ℕ) × (last.counts.items ≡ insert_by_key one delta_call.counts.items)))
TakesMore delta_call (Done (answer.Delta delta)) last = (last.counts.items ≡ delta.counts.items) × (last.sum ≡ delta.sum)
TakesMore delta_call said last = ⊥

-- What its deltas took, after an event. A running one is last, after those that have ended; no other call changes it.
abbrev pub TakenGoes : Option Running → List Taken → List Taken → Stepped → Type 0
TakenGoes (Some (Delta delta_call fresh)) old new said =
    (last : Taken) × (new ≡ ended_deltas (Some (Delta delta_call fresh)) old ++ last ∷ []) × TakesMore delta_call said last
TakenGoes running old new said = new ≡ old

-- what its call says, and how its entries and what its deltas took change
abbrev pub Answers : ActorRun → List ℕ → ActorRun → List ℕ → Stepped → Type 0
Answers old words new new_words said =
    Tells old words new new_words said × EntriesGo old new said × TakenGoes old.running old.taken.items new.taken.items said

-- it asks for a histogram
abbrev pub AsksForOne : Option Running → Type 0
AsksForOne (Some (Hist hist)) = ⊤
AsksForOne running = ⊥

-- what a step of its `hist` leads to: it continues, or knows the histogram, or is refused
abbrev pub IsHistAnnounced : ActorRun → HistStep → ActorRun → Stepped → Type 0
IsHistAnnounced old hist.More new result = (new ≡ old) × (result ≡ More)
IsHistAnnounced old hist.Done new result =
    (asked : HistCall) × (old.running ≡ Some (Hist asked))
    × (new ≡ record old { known = new.known; running = None })
    × (new.known.items ≡ old.known.items ++ (let known = asked.asked in record known { reference = asked.reference }) ∷ [])
    × (result ≡ Done (answer.Hist asked.reference))
IsHistAnnounced old (hist.Refused why) new result = (new ≡ record old { running = None }) × (result ≡ Done (answer.Refused why))

-- ---- an `add`

-- it counts
abbrev pub RunsAdd : Option Running → Type 0
RunsAdd (Some (Add add)) = ⊤
RunsAdd running = ⊥

-- what a step of its `add` leads to: it continues; its entry has ended; or it is refused, and the entry is gone
abbrev pub IsAddAnnounced : ActorRun → AddStep → ActorRun → Stepped → Type 0
IsAddAnnounced old add.More new result = (new ≡ record old { begun = length old.entries.items }) × (result ≡ More)
IsAddAnnounced old add.Done new result =
    let all = length old.entries.items in (new ≡ record old { begun = all; ended = all; running = None }) × (result ≡ Done answer.Added)
IsAddAnnounced old (add.Refused why) new result =
    (new ≡ record old { entries = new.entries; begun = old.ended; running = None }) × (new.entries.items ≡ take old.ended old.entries.items)
    × (result ≡ Done (answer.Refused why))

-- it begins a call that counts these entries: they are pending
pub record BeginsToCount (entries : List MachineEntry) (running : Running) (old new : ActorRun) : Type 0 where
  pub pending : List Entry
  pub pending_are : map entry_of pending ≡ entries
  pub entries_are : new.entries.items ≡ old.entries.items ++ pending
  pub is : new ≡ record old { entries = new.entries; running = Some running }

-- it begins an `add` in a known histogram
pub record BeginsAdd (shape : Dimensions) (version : ℕ) (known : KnownHist) (value : ℤ) (units : ℕ) (old new : ActorRun) : Type 0 where
  pub add : AddCall
  pub started : IsStarted shape version (known_of known) value units (amount_of (boundaries_of known.spec) (value, units)) add
  pub small : unsigned_abs add.amount ≤ 2147483648 * units
  pub begins : BeginsToCount (counted_entry (known_of known) add ∷ []) (Add add) old new

-- ---- a `batch`

-- it counts items
abbrev pub RunsBatch : Option Running → Type 0
RunsBatch (Some (Batch batch)) = ⊤
RunsBatch running = ⊥

-- What a step of its `batch` leads to: it continues; its entries have ended; or it is refused, and those of its first items have ended, and
-- the others are gone.
abbrev pub IsBatchAnnounced : ActorRun → BatchStep → ActorRun → Stepped → Type 0
IsBatchAnnounced old batch.More new result = (new ≡ record old { begun = length old.entries.items }) × (result ≡ More)
IsBatchAnnounced old batch.Done new result =
    let all = length old.entries.items in (new ≡ record old { begun = all; ended = all; running = None }) × (result ≡ Done answer.Added)
IsBatchAnnounced old (batch.Refused refusal) new result =
    let ended = old.ended + refusal.added in
    (new ≡ record old { entries = new.entries; begun = ended; ended = ended; running = None }) × (new.entries.items ≡ take ended old.entries.items)
    × (result ≡ Done (answer.BatchRefused refusal))

-- it begins a `batch` of a known histogram: no item has begun
pub record BeginsBatch (shape : Dimensions) (version : ℕ) (known : KnownHist) (items : List (ℤ × ℕ)) (sum : ℤ) (cost : ℕ) (old new : ActorRun) : Type 0 where
  pub call : BatchCall
  pub started : AllZip (λ item add. IsStarted shape version (known_of known) item.0 item.1 (pos 0) add) items call.items.items
  pub fresh : call ≡ record call { histogram = known.reference; added = 0; sum = sum; cost = cost; left = cost }
  pub begins : BeginsToCount (batch_entries known.name.items (boundaries_of known.spec) items sum) (Batch call) old new

-- ---- a `delta`

-- it takes a delta of a histogram
abbrev pub TakesOfOne : Option Running → Type 0
TakesOfOne (Some (Delta delta_call fresh)) = ⊤
TakesOfOne running = ⊥

-- there is room to show what a step of it says
abbrev pub HasRoomForStep : DeltaCallStep → Taken → Type 0
HasRoomForStep (take_step.Took key units) taken = vec_len taken.counts < vec_capacity taken.counts
HasRoomForStep said taken = ⊤

-- what a running delta is shown as has room for what a step says: it is the last one, or there is room for it
abbrev pub HasDraftRoom : DeltaCallStep → Option Running → Vec Taken Global → Type 0
HasDraftRoom said (Some (Delta delta_call (Some fresh))) taken = (vec_len taken < vec_capacity taken) × HasRoomForStep said fresh
HasDraftRoom said (Some (Delta delta_call None)) taken = (0 < vec_len taken) × ((last : Taken) → IsLast taken.items last → HasRoomForStep said last)
HasDraftRoom said running taken = ⊥

-- how a step changes what it is shown as
abbrev pub Becomes : DeltaCallStep → Taken → Taken → Type 0
Becomes take_step.More last now = now ≡ last
Becomes (take_step.Took key units) last now =
    (now ≡ record last { counts = now.counts }) × (now.counts.items ≡ insert_by_key (key, units) last.counts.items)
    × (vec_capacity now.counts ≡ vec_capacity last.counts)
Becomes (take_step.Done sum) last now = now ≡ record last { sum = sum }

-- the last of these becomes this, and all before it stay
abbrev pub LastBecomes : DeltaCallStep → List Taken → List Taken → Type 0
LastBecomes said old new = (before : List Taken) × (last now : Taken) × (old ≡ before ++ last ∷ []) × (new ≡ before ++ now ∷ []) × Becomes said last now

-- it is shown from its first event on
abbrev pub IsNowShown : DeltaCall → Option Taken → ActorRun → ActorRun → Type 0
IsNowShown delta_call fresh old new =
    (new ≡ record old { taken = new.taken; running = Some (Delta delta_call None) }) × (new.taken.items ≡ old.taken.items ++ option_to_list fresh)

-- it has ended, with this of the sum, and returns what it listed
abbrev pub HasEndedDelta : DeltaCall → ℤ → ActorRun → ActorRun → Stepped → Type 0
HasEndedDelta delta_call sum old new result =
    LastBecomes (take_step.Done sum) old.taken.items new.taken.items × (new ≡ record old { taken = new.taken; running = None })
    × (result ≡ Done (answer.Delta (record { counts = delta_call.counts; sum = sum })))

-- what a step of its `delta` leads to: it continues, and is shown; or it returns what it listed and this of the sum
abbrev pub IsDeltaAnnounced : DeltaCall → Option Taken → ActorRun → DeltaCallStep → ActorRun → Stepped → Type 0
IsDeltaAnnounced delta_call fresh old (take_step.Done sum) new result =
    LastBecomes (take_step.Done sum) (old.taken.items ++ option_to_list fresh) new.taken.items × (new ≡ record old { taken = new.taken; running = None })
    × (result ≡ Done (answer.Delta (record { counts = delta_call.counts; sum = sum })))
IsDeltaAnnounced delta_call fresh old said new result =
    LastBecomes said (old.taken.items ++ option_to_list fresh) new.taken.items
    × (new ≡ record old { taken = new.taken; running = Some (Delta delta_call None) }) × (result ≡ More)

-- It begins a `delta` of a known histogram. What it is to be shown as is ready, and there is room for it.
pub record BeginsDelta (shape : Dimensions) (version : ℕ) (known : KnownHist) (old new : ActorRun) : Type 0 where
  pub delta_call : DeltaCall
  pub fresh : Taken
  pub started : IsDeltaCallStarted shape version (known_of known) delta_call
  pub named : fresh.name.items ≡ known.name.items
  pub draft : IsDeltaDraft delta_call fresh
  pub taken : new.taken.items ≡ old.taken.items
  pub room : vec_len new.taken < vec_capacity new.taken
  pub is : new ≡ record old { taken = new.taken; running = Some (Delta delta_call (Some fresh)) }

-- ---- a `snapshot`

-- it takes a snapshot of a histogram
abbrev pub LooksAtOne : Option Running → Type 0
LooksAtOne (Some (Snapshot snapshot_call)) = ⊤
LooksAtOne running = ⊥

-- what a step of its `snapshot` leads to: it continues, or returns the totals, the sum and the redundant count
abbrev pub IsSnapshotAnnounced : ActorRun → SnapshotCallStep → ActorRun → Stepped → Type 0
IsSnapshotAnnounced old look.More new result = (new ≡ old) × (result ≡ More)
IsSnapshotAnnounced old (look.Done sum redundant) new result =
    (snapshot_call : SnapshotCall) × (old.running ≡ Some (Snapshot snapshot_call)) × (new ≡ record old { running = None })
    × (result ≡ Done (answer.Snapshot (record { counts = snapshot_call.totals; sum = sum; redundant = redundant })))

-- it begins a `snapshot` of a known histogram
abbrev pub BeginsSnapshot : Dimensions → ℕ → KnownHist → ActorRun → ActorRun → Type 0
BeginsSnapshot shape version known old new =
    (snapshot_call : SnapshotCall) × IsSnapshotCallStarted shape version (known_of known) snapshot_call × (new ≡ record old { running = Some (Snapshot snapshot_call) })

-- ---- how it begins a `hist`

-- What a `hist` of a known name returns: the known reference if the spec is the same, and else that it has another.
abbrev pub IsKnownAnswer : List KnownHist → List ℕ → Spec → Answer → Type 0
IsKnownAnswer list name spec (answer.Hist reference) =
    (i : ℕ) × (known : IsKnownAt list i name) × SameSpec known.0.spec spec × (known.0.reference ≡ reference)
IsKnownAnswer list name spec (answer.Refused why.OtherSpec) = (i : ℕ) × (known : IsKnownAt list i name) × (¬ (SameSpec known.0.spec spec))
IsKnownAnswer list name spec answered = ⊥

-- it is unchanged, except for the room for entries, for histograms that it may know, and for deltas
abbrev pub IsAsItWas : ActorRun → ActorRun → Type 0
IsAsItWas old new =
    (new ≡ record old { entries = new.entries; known = new.known; taken = new.taken }) × (new.entries.items ≡ old.entries.items)
    × (new.known.items ≡ old.known.items) × (new.taken.items ≡ old.taken.items)

-- It asks for a histogram that it does not know, with room for it; or the call returns at once; or there was no memory for the room.
abbrev pub BeginsHist : Dimensions → Asked → ActorRun → ActorRun → Result Begun AllocError → Type 0
BeginsHist shape asked old new (Ok Going) =
    (hist : HistCall) × IsHistBegun shape asked hist × (new ≡ record old { known = new.known; running = Some (Hist hist) })
    × (new.known.items ≡ old.known.items) × (vec_len new.known < vec_capacity new.known) × NoneHasName old.known.items asked.name.items
BeginsHist shape asked old new (Ok (Ended answered)) = (new ≡ old) × IsKnownAnswer old.known.items asked.name.items asked.spec answered
BeginsHist shape asked old new (Err error) = IsAsItWas old new
