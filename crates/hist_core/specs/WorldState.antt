-- The words of a segment with its actors, and the states of the machine that they stand for.
use Rattle.std.specs.Prelude.{◌≡◌, ◌≢◌, ◌⊎◌, ◌<◌, ◌≤◌, ℕ, ℤ, pos, map, ◌+◌, true, false, List, [], ◌∷◌, take, bit_and, IsSome, Option, Some, None, Result, Ok, Err, All, vec_len, ⊤}
use mathlib.Core.Option.{some}
use lib.ListN.{get_elem?}
use Rattle.std.specs.List.{Contains}
use Rattle.segment_image.specs.Shape.{Dimensions}
use Rattle.segment_image.specs.Head.{head_of}
use Rattle.bucket_ranges.specs.Reading.{Histogram, IsListed, Reading, IsReading, reading_along}
use Rattle.alloc_core.specs.Layout.{render, fresh}
use Rattle.segment_machine.specs.declared.place.Place.TheVariants.{FreeLoaded, Idle}
use Rattle.segment_machine.specs.declared.actor.Actor.{Actor}
use Rattle.segment_image.specs.Words.{word_at}
use Rattle.segment_image.specs.declared.layout.TheConstants.{FLAG_CORRUPT, FLAG_FULL, FLAGS_WORD, FREE_WORD, HISTOGRAM_REDUNDANT, VERSION_FROZEN}
use Rattle.segment_machine.specs.Actor.{accepted_since, is_opener, offered_of, units_listed}
use Rattle.segment_machine.specs.Event.{Event}
use Rattle.segment_machine.specs.State.{State, IsStep}
use Rattle.segment_machine.specs.Reached.{IsLent, IsReturned}
use Rattle.segment_machine.specs.Reached as machine
use Rattle.bucket_ranges.specs.Reading.{is_name, spec_of}
use Rattle.bucket_ranges.specs.Spec.{SameSpec, spec_fault}
use Rattle.list_core.specs.Chain.{IsChain}
use Rattle.segment_invariant.specs.Consistent.{IsConsistent, IsHistogram, units_taken}
use Rattle.segment_promises.specs.Adoption.{IsAdoptable, used_of}
use Rattle.segment_invariant.specs.Invariant.{Invariant}
use Rattle.segment_invariant.specs.Keeps.{opening_of}
use Rattle.segment_promises.specs.Deltas.{IsEnough}
use Rattle.segment_promises.specs.Reads.{HasNoFault, ReadsHead, ReadsNames, ReadsUnits, ReadsAmounts, noted_at_opening}
use Rattle.segment_calls.specs.declared.answer.Delta.{Delta as DeltaAnswer}
use Rattle.segment_calls.specs.declared.answer.Snapshot.{Snapshot as SnapshotAnswer}
use Rattle.hist_core.specs.declared.call.Stepped.{Stepped}
use Rattle.hist_core.specs.declared.call.Stepped.TheVariants.{Done}
use Rattle.hist_core.specs.declared.actor_run.ActorRun.{ActorRun}
use Rattle.hist_core.specs.declared.world_state.WorldState.{WorldState}
use Rattle.bucket_ranges.specs.declared.spec.Spec.{Spec}
use Rattle.std.specs.declared.alloc.AllocError.{AllocError}
use Rattle.hist_core.specs.declared.call.Answer.{Answer}
use Rattle.hist_core.specs.declared.call.Answer.TheVariants as answer
use Rattle.hist_core.specs.declared.call.Begun.{Begun}
use Rattle.hist_core.specs.declared.call.Begun.TheVariants.{Going, Ended}
use Rattle.hist_core.specs.declared.hist.KnownHist.{KnownHist}
use Rattle.segment_calls.specs.declared.refusal.Refusal.TheVariants as refusal
use Rattle.hist_core.specs.declared.actor_run.Running.{Running}
use Rattle.hist_core.specs.declared.actor_run.Running.TheVariants.{Hist, Add, Delta, Snapshot, Batch, SetCorrupt}
use Rattle.segment_calls.specs.Asked.{IsRefusedFor, IsTooLarge}
use Rattle.hist_core.specs.ActorRun.{IsFreshRun, IsActorRunOf, IsAsItWas, IsAnswer, IsTook, IsKnownAnswer, IsRefusedBy, DoesAsSaid, LooksSince, Answers, entry_of, looked_by, pending_by, ended_by, begun_by}
use Rattle.segment_machine.specs.Entry.{batch_cost, batch_entries, sample_entry, tally_noted}
use Rattle.segment_machine.specs.declared.entry.Entry.{Entry as MachineEntry}
use Rattle.hist_core.specs.Batch.{sample_of}
use Rattle.hist_core.specs.SnapshotCall.{HasJustBegun}
use Rattle.hist_core.specs.Start.{IsImageStart, MayStart, Start, new_start, start_state}
use Rattle.hist_core.specs.StepsBy.{has_pointer}
use Rattle.segment_calls.specs.declared.refusal.Refusal.{Refusal}
use Rattle.bucket_ranges.specs.Ranges.{boundaries_of}

-- a new segment with this many actors, which have done nothing
pub record IsNewWorldState (shape : Dimensions) (version id actors : ℕ) (world_state : WorldState) : Type 0 where
  pub shaped : world_state.shape ≡ shape
  pub versioned : world_state.version ≡ version
  pub words : world_state.words.items ≡ render shape (fresh shape version id)
  pub count : vec_len world_state.actor_runs ≡ actors
  pub rest : All IsFreshRun world_state.actor_runs.items
  pub units : world_state.units ≡ 4294967295

-- an image that may be adopted, with this many actors, which have done nothing; the pool has the units that the image has not used
pub record IsAdoptedWorldState (words : List ℕ) (actors : ℕ) (world_state : WorldState) : Type 0 where
  pub references : List ℕ
  pub listed : IsListed words (head_of words) references
  pub adoptable : IsAdoptable words references (reading_along words (head_of words) references)
  pub shaped : world_state.shape ≡ (head_of words).shape
  pub versioned : world_state.version ≡ VERSION_FROZEN
  pub words_are : world_state.words.items ≡ words
  pub count : vec_len world_state.actor_runs ≡ actors
  pub rest : All IsFreshRun world_state.actor_runs.items
  pub units : world_state.units + used_of (reading_along words (head_of words) references) ≡ 4294967295

-- ---- the state of the machine

-- each actor of a world stands for a recorder, in the same order
abbrev pub AreRun : Dimensions → ℕ → List ActorRun → List Actor → Type 0
AreRun shape version [] [] = ⊤
AreRun shape version [] (a ∷ rest) = ⊥
AreRun shape version (actor_run ∷ actor_runs) [] = ⊥
AreRun shape version (actor_run ∷ actor_runs) (a ∷ rest) = IsActorRunOf shape version actor_run a × AreRun shape version actor_runs rest

-- The words are those of a state of the machine, without shared cursors. Its first actor is the opener, which has made the others: a
-- recorder for each actor of the world.
pub record Shows (world_state : WorldState) (state : State) : Type 0 where
  pub words : state.words ≡ world_state.words.items
  pub cursors : state.cursors ≡ []
  pub opener : Actor
  pub recorders : List Actor
  pub actors : state.actors ≡ opener ∷ recorders
  pub opens : is_opener opener.role ≡ true
  pub waits : opener.hand.place ≡ Idle
  pub offers : offered_of opener.role ≡ 0
  pub pool : opener.units.share ≡ world_state.units
  pub runs : AreRun world_state.shape world_state.version world_state.actor_runs.items recorders

-- A state that the machine reaches from a start, and that these words and actors stand for. Its opener's entries, deltas and answers are
-- those that it had at the start, and no more.
pub record IsReachedAs (start : Start) (world_state : WorldState) (state : State) : Type 0 where
  pub starts : MayStart world_state.shape world_state.version start
  pub reached : machine.IsReached world_state.version (start_state start) state
  pub shows : Shows world_state state
  pub entries : shows.opener.entries ≡ start.opener.entries
  pub deltas : shows.opener.deltas ≡ start.opener.deltas
  pub answers : shows.opener.answers ≡ start.opener.answers

-- the machine reaches such a state from a start
abbrev pub IsReachedFrom : Start → WorldState → Type 0
IsReachedFrom start world_state = (state : State) × IsReachedAs start world_state state

-- the machine reaches such a state from some start
abbrev pub IsReachable : WorldState → Type 0
IsReachable world_state = (start : Start) × (state : State) × IsReachedAs start world_state state

-- the machine reaches such a state from a new segment of a shape, a version and an id
abbrev pub IsReachedFromNew : Dimensions → ℕ → ℕ → WorldState → Type 0
IsReachedFromNew shape version id world_state = IsReachedFrom (new_start shape version id) world_state

-- the machine reaches such a state from an image
abbrev pub IsReachedFromImage : List ℕ → WorldState → Type 0
IsReachedFromImage words world_state =
    (references : List ℕ) × (start : Start) × IsImageStart words references start × IsReachedFrom start world_state

-- ---- the actors

-- a call of an actor is running
abbrev pub IsBusy : WorldState → ℕ → Type 0
IsBusy world_state actor = (actor_run : ActorRun) → get_elem? world_state.actor_runs.items actor ≡ some actor_run → IsSome actor_run.running

-- the opener lends units to the actor, or nothing happens
abbrev pub LendsOrNothing : ℕ → State → State → Type 0
LendsOrNothing actor old new = (new ≡ old) ⊎ ((units : ℕ) × IsLent old 0 (actor + 1) units new)

-- units of the actor come back to the opener, or nothing happens
abbrev pub GivesBack : ℕ → State → State → Type 0
GivesBack actor old new = (new ≡ old) ⊎ ((units : ℕ) × IsReturned old 0 (actor + 1) units new)

-- the begin of a call takes its units from the pool, if it has any; no word changes
abbrev pub BeginsFrom : Start → State → ℕ → WorldState → Type 0
BeginsFrom start state actor new = (then_is : State) × LendsOrNothing actor state then_is × IsReachedAs start new then_is

-- A snapshot of the histogram of a record is what its actor saw since it began. Of each key it has at least the units that the actor had
-- accepted and those that it had seen before; so has its redundant count, together with what an image had.
pub record HasSeenEnough (actor histogram : ℕ) (snapshot : SnapshotAnswer) (start : Start) (world_state : WorldState) (state : State)
    (reach : IsReachedAs start world_state state) : Type 0 where
  pub recorder : Actor
  pub there : get_elem? state.actors (actor + 1) ≡ some recorder
  pub answer : IsAnswer histogram snapshot recorder
  pub kept : Invariant world_state.shape start.opened state
  pub enough : IsEnough state.words kept.anatomy.records recorder answer.known (units_listed snapshot.counts.items)
  pub noted : noted_at_opening start.opened answer.known.name + tally_noted (accepted_since reach.shows.opener recorder) answer.known.name ≤ snapshot.redundant
  pub rising : (count : ℕ) → Contains (take recorder.since.counts recorder.seen.counts) (record { at = histogram + HISTOGRAM_REDUNDANT; word = count })
      → count ≤ snapshot.redundant

-- A delta of the histogram of a record took all that its actor saw since it began. Together with it, all deltas took of each key at least
-- the units that the actor had accepted and those that it had seen before.
pub record HasTakenEnough (actor histogram : ℕ) (delta : DeltaAnswer) (start : Start) (world_state : WorldState) (state : State)
    (reach : IsReachedAs start world_state state) : Type 0 where
  pub recorder : Actor
  pub there : get_elem? state.actors (actor + 1) ≡ some recorder
  pub answer : IsTook histogram delta recorder
  pub kept : Invariant world_state.shape start.opened state
  pub enough : IsEnough state.words kept.anatomy.records recorder answer.known (units_taken state.actors answer.known.name)

-- the flag is set that a call is refused for
abbrev pub IsFlagSet : Refusal → List ℕ → Type 0
IsFlagSet refusal.Full words = bit_and (word_at words FLAGS_WORD) FLAG_FULL ≡ FLAG_FULL
IsFlagSet refusal.Corrupt words = bit_and (word_at words FLAGS_WORD) FLAG_CORRUPT ≡ FLAG_CORRUPT
IsFlagSet cause words = ⊤

-- A running call is refused for what its last event has shown its actor; if that is `Full` or `Corrupt`, the words have the flag.
pub record IsDue (actor : ℕ) (running : Option Running) (cause : Refusal) (state : State) (world_state : WorldState) (last : State) : Type 0 where
  pub before : Actor
  pub was : get_elem? state.actors (actor + 1) ≡ some before
  pub recorder : Actor
  pub there : get_elem? last.actors (actor + 1) ≡ some recorder
  pub refused : IsRefusedBy running cause before recorder
  pub flagged : IsFlagSet cause world_state.words.items

-- the recorder of the actor has set the corrupt flag
abbrev pub HasSpoiled : ℕ → State → Type 0
HasSpoiled actor state = (recorder : Actor) × (get_elem? state.actors (actor + 1) ≡ some recorder) × (recorder.done.spoiled ≡ true)

-- Once the recorder of the actor has set the corrupt flag, an event of it claims no block.
abbrev pub ClaimsNothing : ℕ → State → State → Type 0
ClaimsNothing actor state last = (a b : Actor) → get_elem? state.actors (actor + 1) ≡ some a → get_elem? last.actors (actor + 1) ≡ some b
    → a.done.spoiled ≡ true → (b.done.spoiled ≡ true) × (b.done.claimed ≡ a.done.claimed)

-- If the recorder of the actor holds a free pointer after an event, it held that before, or has loaded it from the words.
abbrev pub LoadsPointer : ℕ → List ℕ → State → State → Type 0
LoadsPointer actor words state last = (a b : Actor) → get_elem? state.actors (actor + 1) ≡ some a → get_elem? last.actors (actor + 1) ≡ some b
    → (free : ℕ) → b.hand.place ≡ FreeLoaded free → (a.hand.place ≡ FreeLoaded free) ⊎ (word_at words FREE_WORD ≡ free)

-- The event of the actor's call sets the corrupt flag only with `Flagged`, and the full one only with a refusal `Full`; a record that it
-- links is one that the call is for, and the block for which it raises the free pointer is the one that the call needs.
abbrev pub DoesOnlySo : WorldState → ℕ → State → Stepped → State → Type 0
DoesOnlySo old actor state said last = (before : ActorRun) (a b : Actor) → get_elem? old.actor_runs.items actor ≡ some before
    → get_elem? state.actors (actor + 1) ≡ some a → get_elem? last.actors (actor + 1) ≡ some b → DoesAsSaid before.running said a b

-- what an answer promises of the states before and after it, by what the call was to do
abbrev pub IsPromised : WorldState → ℕ → State → Stepped → (start : Start) (new : WorldState) (last : State) → IsReachedAs start new last → Type 0
IsPromised old actor state (Done (answer.Delta delta)) start new last reach =
    (before : ActorRun) → get_elem? old.actor_runs.items actor ≡ some before → HasTakenEnough actor (looked_by before.running) delta start new last reach
IsPromised old actor state (Done (answer.Snapshot snapshot)) start new last reach =
    (before : ActorRun) → get_elem? old.actor_runs.items actor ≡ some before → HasSeenEnough actor (looked_by before.running) snapshot start new last reach
IsPromised old actor state (Done (answer.Refused cause)) start new last reach =
    (before : ActorRun) → get_elem? old.actor_runs.items actor ≡ some before → IsDue actor before.running cause state new last
IsPromised old actor state (Done (answer.BatchRefused refused)) start new last reach =
    (before : ActorRun) → get_elem? old.actor_runs.items actor ≡ some before → IsDue actor before.running refused.why state new last
IsPromised old actor state (Done answer.Flagged) start new last reach = HasSpoiled actor last
IsPromised old actor state said start new last reach = ⊤

-- since when an actor looks whose running call is a snapshot, before and after an event of it
abbrev pub LooksFrom : WorldState → ℕ → State → State → Type 0
LooksFrom old actor state last = (before : ActorRun) (a b : Actor) → get_elem? old.actor_runs.items actor ≡ some before
    → get_elem? state.actors (actor + 1) ≡ some a → get_elem? last.actors (actor + 1) ≡ some b → LooksSince before.running a b

-- One event of the actor leads from a state to another; then the units of a call that is refused come back. What the call says is as
-- promised, of the state that it leads to. A snapshot looks since its first event. After it has set the corrupt flag an actor claims
-- nothing, and it holds no free pointer that it has not loaded. It sets a flag only as the call says, and links only what the call is for.
abbrev pub StepsTo : WorldState → ℕ → Start → State → WorldState → Stepped → Type 0
StepsTo old actor start state new said =
    (event : Event) × (then_is : State) × IsStep old.version state (actor + 1) event then_is
    × ((last : State) × GivesBack actor then_is last
    × ((reach : IsReachedAs start new last) × IsPromised old actor state said start new last reach × LooksFrom old actor state last × ClaimsNothing actor state last
    × LoadsPointer actor old.words.items state last × DoesOnlySo old actor state said last))

-- the shape and the version stay, and so do all other actors
pub record OthersStay (actor : ℕ) (old new : WorldState) : Type 0 where
  pub shape : new.shape ≡ old.shape
  pub version : new.version ≡ old.version
  pub count : vec_len new.actor_runs ≡ vec_len old.actor_runs
  pub others : (other : ℕ) → other ≢ actor → get_elem? new.actor_runs.items other ≡ get_elem? old.actor_runs.items other

-- all is unchanged, except for the room for entries, for histograms that actors may know, and for deltas
pub record IsAsBefore (old new : WorldState) : Type 0 where
  pub units : new.units ≡ old.units
  pub shape : new.shape ≡ old.shape
  pub version : new.version ≡ old.version
  pub words : new.words ≡ old.words
  pub count : vec_len new.actor_runs ≡ vec_len old.actor_runs
  pub actor_runs : (i : ℕ) (before behind : ActorRun) → get_elem? old.actor_runs.items i ≡ some before → get_elem? new.actor_runs.items i ≡ some behind
      → IsAsItWas before behind

-- ---- the begin of a call

-- The actor holds no free pointer. So if a call of it holds one later, it has loaded that itself (`LoadsPointer`).
abbrev pub HoldsNoPointer : ℕ → WorldState → Type 0
HoldsNoPointer actor world_state =
    (start : Start) (state : State) → IsReachedAs start world_state state → (recorder : Actor) → get_elem? state.actors (actor + 1) ≡ some recorder → has_pointer recorder.hand.place ≡ false

-- ---- what an actor knows

-- an actor that is there
pub record IsThere (world_state : WorldState) (actor : ℕ) (actor_run : ActorRun) : Type 0 where
  pub near : actor < vec_len world_state.actor_runs
  pub at : get_elem? world_state.actor_runs.items actor ≡ some actor_run

-- an actor that is there and rests
pub record IsResting (world_state : WorldState) (actor : ℕ) (actor_run : ActorRun) : Type 0 where
  pub near : actor < vec_len world_state.actor_runs
  pub at : get_elem? world_state.actor_runs.items actor ≡ some actor_run
  pub rests : actor_run.running ≡ None

-- an actor that rests knows the histogram of a name, at this place
pub record KnowsHistAt (world_state : WorldState) (actor : ℕ) (name : List ℕ) (place : ℕ) : Type 0 where
  pub actor_run : ActorRun
  pub resting : IsResting world_state actor actor_run
  pub known : KnownHist
  pub there : get_elem? actor_run.known.items place ≡ some known
  pub named : known.name.items ≡ name

-- ---- how a `hist` begins

-- a histogram may be asked for in a segment of a shape: name and spec are valid, and its record and its counts fit in a page
abbrev pub MayBeAsked : Dimensions → List ℕ → Spec → Type 0
MayBeAsked shape name spec = (is_name name ≡ true) × (spec_fault spec ≡ None) × ¬ (IsTooLarge shape.page name spec)

-- What it returns without an event, and why: the name or the spec is not valid, or a record or its counts would be too large; or it may be
-- asked for, and the actor knows a histogram of that name, with the same spec or with another.
abbrev pub IsAnsweredAtOnce : Dimensions → List KnownHist → List ℕ → Spec → Answer → Type 0
IsAnsweredAtOnce shape known name spec (answer.Refused refusal.OtherSpec) =
    IsKnownAnswer known name spec (answer.Refused refusal.OtherSpec) × MayBeAsked shape name spec
IsAnsweredAtOnce shape known name spec (answer.Refused refusal.NoMemory) = ⊥
IsAnsweredAtOnce shape known name spec (answer.Refused why) = IsRefusedFor shape name spec why
IsAnsweredAtOnce shape known name spec answered = IsKnownAnswer known name spec answered × MayBeAsked shape name spec

-- the histogram of a name and a spec that a running call asks for
abbrev pub RunsHistOf : List ℕ → Spec → Option Running → Type 0
RunsHistOf name spec (Some (Hist hist)) = (hist.asked.name.items ≡ name) × (hist.asked.spec ≡ spec)
RunsHistOf name spec running = ⊥

-- It runs, asking for the histogram; or it returns at once; or there was no memory.
abbrev pub HistBegins : ℕ → List ℕ → Spec → WorldState → WorldState → Result Begun AllocError → Type 0
HistBegins actor name spec old new (Ok Going) = (actor_run : ActorRun) × (get_elem? new.actor_runs.items actor ≡ some actor_run) × RunsHistOf name spec actor_run.running
HistBegins actor name spec old new (Ok (Ended answered)) =
    IsAsBefore old new × ((actor_run : ActorRun) → get_elem? old.actor_runs.items actor ≡ some actor_run → IsAnsweredAtOnce old.shape actor_run.known.items name spec answered)
HistBegins actor name spec old new (Err error) = IsAsBefore old new

-- ---- how an `add` begins

-- a running call counts `units` units of a value
abbrev pub CountsValue : ℤ → ℕ → Option Running → Type 0
CountsValue value units (Some (Add add)) = (add.value ≡ value) × (add.units ≡ units)
CountsValue value units running = ⊥

-- A call of a histogram of this name runs that is to count entries, which its boundaries determine: its units are out of the pool, and the
-- entries are pending, none of which has begun.
pub record IsCountBegun (actor : ℕ) (name : List ℕ) (cost : ℕ) (entries : List ℕ → List MachineEntry) (runs : Option Running → Type 0) (old new : WorldState)
    : Type 0 where
  pub words : new.words ≡ old.words
  pub pool : new.units + cost ≡ old.units
  pub before : ActorRun
  pub behind : ActorRun
  pub was : get_elem? old.actor_runs.items actor ≡ some before
  pub is : get_elem? new.actor_runs.items actor ≡ some behind
  pub known : KnownHist
  pub knows : Contains before.known.items known
  pub named : known.name.items ≡ name
  pub counts : runs behind.running
  pub pending : map entry_of (pending_by behind) ≡ entries (boundaries_of known.spec)
  pub ended : ended_by behind ≡ ended_by before
  pub begun : begun_by behind ≡ begun_by before

-- an `add` counts one entry
abbrev pub IsAddBegun : ℕ → List ℕ → ℤ → ℕ → WorldState → WorldState → Type 0
IsAddBegun actor name value units old new =
    IsCountBegun actor name units (λ boundaries. sample_entry name boundaries (value, units) ∷ []) (CountsValue value units) old new

-- What the begin of an `add` says: it runs; or it is refused at once, and then all is unchanged.
abbrev pub AddBegins : ℕ → List ℕ → ℤ → ℕ → WorldState → WorldState → Begun → Type 0
AddBegins actor name value units old new Going = (0 < units) × (units ≤ old.units) × IsAddBegun actor name value units old new
AddBegins actor name value units old new (Ended (answer.Refused refusal.ZeroCount)) = IsAsBefore old new × (units ≡ 0)
AddBegins actor name value units old new (Ended (answer.Refused refusal.NoUnits)) = IsAsBefore old new × (old.units < units)
AddBegins actor name value units old new (Ended answered) = ⊥

-- ---- how a `batch` begins

-- there is nothing to count
abbrev pub IsNothingToCount : List (ℤ × ℕ) → ℤ → Type 0
IsNothingToCount items sum = (items ≡ []) × (sum ≡ pos 0)

-- a running call counts these items and adds this sum
abbrev pub CountsItems : List (ℤ × ℕ) → ℤ → Option Running → Type 0
CountsItems items sum (Some (Batch batch)) = (map sample_of batch.items.items ≡ items) × (batch.sum ≡ sum)
CountsItems items sum running = ⊥

-- a `batch` counts one entry for each item, and one for its sum unless that is 0
abbrev pub IsBatchBegun : ℕ → List ℕ → List (ℤ × ℕ) → ℤ → WorldState → WorldState → Type 0
IsBatchBegun actor name items sum old new =
    IsCountBegun actor name (batch_cost items sum) (λ boundaries. batch_entries name boundaries items sum) (CountsItems items sum) old new

-- no item has a count of 0
abbrev pub AreSome : List (ℤ × ℕ) → Type 0
AreSome items = All (λ item. 1 ≤ item.1) items

-- why it is refused at once: an item has a count of 0, or it costs more units than the pool has
abbrev pub IsTooMuch : WorldState → List (ℤ × ℕ) → ℤ → Refusal → Type 0
IsTooMuch old items sum refusal.ZeroCount = ¬ (AreSome items)
IsTooMuch old items sum refusal.NoUnits = AreSome items × (old.units < batch_cost items sum)
IsTooMuch old items sum why = ⊥

-- What the begin of a `batch` says: it runs; or it counts nothing, and has ended; or it is refused at once, with no item counted. If it
-- does not run, all is unchanged.
abbrev pub BatchBegins : ℕ → List ℕ → List (ℤ × ℕ) → ℤ → WorldState → WorldState → Begun → Type 0
BatchBegins actor name items sum old new Going =
    AreSome items × (¬ (IsNothingToCount items sum)) × (batch_cost items sum ≤ old.units) × IsBatchBegun actor name items sum old new
BatchBegins actor name items sum old new (Ended answer.Added) = IsAsBefore old new × IsNothingToCount items sum
BatchBegins actor name items sum old new (Ended (answer.BatchRefused refused)) =
    IsAsBefore old new × (refused.added ≡ 0) × IsTooMuch old items sum refused.why
BatchBegins actor name items sum old new (Ended answered) = ⊥

-- ---- how a `delta` and a `snapshot` begin

-- a running call is a delta of the histogram of a record
abbrev pub TakesOf : ℕ → Option Running → Type 0
TakesOf reference (Some (Delta delta_call fresh)) = delta_call.histogram ≡ reference
TakesOf reference running = ⊥

-- a running call is a snapshot of the histogram of a record, and has looked at nothing yet
abbrev pub BeginsSnapshotOf : ℕ → Option Running → Type 0
BeginsSnapshotOf reference (Some (Snapshot snapshot_call)) = (snapshot_call.histogram ≡ reference) × HasJustBegun snapshot_call.stage
BeginsSnapshotOf reference running = ⊥

-- It runs, with a histogram of the name that the actor knows. No word has changed, nor has what is shown of the actor's deltas.
abbrev pub GoesWith : (ℕ → Option Running → Type 0) → ℕ → List ℕ → WorldState → WorldState → Begun → Type 0
GoesWith IsOf actor name old new Going =
    (new.words ≡ old.words) × ((before behind : ActorRun) × (get_elem? old.actor_runs.items actor ≡ some before) × (get_elem? new.actor_runs.items actor ≡ some behind)
    × (behind.taken.items ≡ before.taken.items)
    × ((known : KnownHist) × Contains behind.known.items known × (known.name.items ≡ name) × IsOf known.reference behind.running))
GoesWith IsOf actor name old new (Ended answered) = ⊥

-- a delta begins
abbrev pub DeltaBegins : ℕ → List ℕ → WorldState → WorldState → Begun → Type 0
DeltaBegins = GoesWith TakesOf

-- a snapshot begins
abbrev pub SnapshotBegins : ℕ → List ℕ → WorldState → WorldState → Begun → Type 0
SnapshotBegins = GoesWith BeginsSnapshotOf

-- ---- how a call that sets the corrupt flag begins

-- a call that sets the corrupt flag runs
abbrev pub SetCorruptBegins : ℕ → WorldState → Begun → Type 0
SetCorruptBegins actor new Going = (actor_run : ActorRun) × (get_elem? new.actor_runs.items actor ≡ some actor_run) × (actor_run.running ≡ Some SetCorrupt)
SetCorruptBegins actor new (Ended answered) = ⊥

-- ---- a step

-- what the call of the actor says
abbrev pub Says : ℕ → WorldState → WorldState → Stepped → Type 0
Says actor old new said = (before behind : ActorRun) → get_elem? old.actor_runs.items actor ≡ some before → get_elem? new.actor_runs.items actor ≡ some behind
    → Answers before old.words.items behind new.words.items said

-- ---- at any moment

-- each state is consistent, in all eight parts, relative to the words of its start and the blocks that were claimed there
abbrev pub IsConsistentAs : WorldState → Type 0
IsConsistentAs world_state = (start : Start) (state : State) → IsReachedAs start world_state state
    → IsConsistent (opening_of world_state.shape start.opened) state

-- If all stops here, the words read back as exactly the histograms that were published, each once. No bucket holds a unit that was not
-- begun, and each holds all ended units except those in transit. The histograms of an image are there too, and what it counted is begun and
-- ended.
abbrev pub ReadsBack : WorldState → Type 0
ReadsBack world_state = (start : Start) (state : State) → IsReachedAs start world_state state → (kept : Invariant world_state.shape start.opened state)
    × ((reading : Reading) → IsReading state.words (head_of state.words) reading
    → HasNoFault reading × ReadsHead start.opened state reading × ReadsNames kept.anatomy.records reading
    × ((h : Histogram) → Contains reading.hists h → ReadsUnits world_state.version state h × ReadsAmounts start.opened state h))

-- the words of version 2 may be adopted, unless the corrupt flag is set: any stop can be continued
abbrev pub MayBeAdopted : WorldState → Type 0
MayBeAdopted world_state = world_state.version ≡ VERSION_FROZEN → (head_of world_state.words.items).corrupt ≡ false
    → (references : List ℕ) → IsListed world_state.words.items (head_of world_state.words.items) references
    → ∥ IsAdoptable world_state.words.items references (reading_along world_state.words.items (head_of world_state.words.items) references) ∥₁

-- Each histogram that a resting actor knows, because a `hist` returned it, is the first of its name on the list, and the spec of its record
-- is the same.
abbrev pub AreKnownFirst : WorldState → Type 0
AreKnownFirst world_state = (chain : List ℕ) → IsChain world_state.words.items (head_of world_state.words.items) chain
    → (i : ℕ) (actor_run : ActorRun) (known : KnownHist) → get_elem? world_state.actor_runs.items i ≡ some actor_run → actor_run.running ≡ None → Contains actor_run.known.items known
    → ∥ IsHistogram world_state.words.items chain known.name.items known.reference × SameSpec (spec_of world_state.words.items known.reference) known.spec ∥₁
