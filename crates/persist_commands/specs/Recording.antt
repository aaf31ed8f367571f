-- What the recorders of a run have done.
use Rattle.std.specs.Prelude.{◌≡◌, false, ℕ, ◌+◌, List, [], ◌∷◌, ◌++◌, map, length, slice_get, Option, Some, Ok, IfErr, OnOk}
use Rattle.std.specs.List.{All, Contains, flat_map, range_with_len}
use Rattle.atomic_table.specs.Seated.{TableId}
use Rattle.bucket_ranges.specs.Spec.{SameSpec}
use Rattle.segment_machine.specs.declared.actor.Actor.{Actor}
use Rattle.segment_machine.specs.declared.actor.Known.{Known}
use Rattle.segment_machine.specs.declared.actor.Role.{Role}
use Rattle.segment_machine.specs.declared.actor.Taken.{Taken}
use Rattle.segment_machine.specs.Actor.{log_of, made_of, outstanding_of}
use Rattle.segment_machine.specs.Seats.{joined}
use Rattle.live_segment.specs.declared.recorder.Hist.{Hist}
use Rattle.live_segment.specs.declared.recorder.Recorder.{Recorder}
use Rattle.live_segment.specs.RecorderState.{IsNamed}
use Rattle.live_segment.specs.Holders.{view_of_recorder}
use Rattle.persist_report_core.specs.declared.script.Script as code
use Rattle.persist_report_core.specs.Script.{HistRecord, Script, script_view}
use Rattle.persist_commands.specs.declared.worker.Part.{Part}
use Rattle.persist_commands.specs.declared.worker.Ended.{Ended}
use Rattle.persist_commands.specs.Entries.{ScriptAction, Takes, deeds_of, deltas_among, entries_among}
use Rattle.persist_commands.specs.Parts.{part_of}
use Rattle.persist_commands.specs.Stop.{StopTellsWant}

-- ---- one recorder

-- a recorder has done nothing
pub record IsFresh (a : Actor) : Type 0 where
  pub first : a.entries.first ≡ []
  pub log : a.entries.log ≡ []
  pub names : a.answers.names ≡ []
  pub spoiled : a.done.spoiled ≡ false
  pub filled : a.done.filled ≡ false
  pub first_taken : a.deltas.first_taken ≡ []
  pub taken : a.deltas.taken ≡ []

-- a histogram that a recorder knows is that of a `hist` record
abbrev pub IsAskedIn : List HistRecord → Known → Type 0
IsAskedIn hists known = (hist : HistRecord) × Contains hists hist × (known.name ≡ hist.name) × SameSpec known.spec hist.spec

-- It has taken a delta of a name, which began when its log had this many entries, and after that deltas of these names.
pub record HasDelta (name : List ℕ) (entries : ℕ) (later : List (List ℕ)) (a : Actor) : Type 0 where
  pub front : List Taken
  pub delta : Taken
  pub behind : List Taken
  pub split : a.deltas.taken ≡ front ++ delta ∷ behind
  pub named : delta.name ≡ name
  pub begun : delta.moment.log ≡ entries
  pub rest : map (λ t. t.name) behind ≡ later

-- deltas began at a recorder of this role
abbrev pub BeganAtRole : Role → List Taken → Type 0
BeganAtRole role taken = All (λ t. (t.moment.before ≡ made_of role) × (t.moment.outstanding ≡ outstanding_of role)) taken

-- A recorder, or an opener, has done these deeds: the entries are at the end of its log, and the deltas after those that it had taken, each
-- with what was in the log when it began. All histograms that it came to know are those of `hist` records, and it has set no flag.
pub record WentOn (hists : List HistRecord) (deeds : List ScriptAction) (old new : Actor) : Type 0 where
  pub first : new.entries.first ≡ old.entries.first
  pub first_noted : new.entries.first_noted ≡ old.entries.first_noted
  pub logged : log_of new ≡ log_of old ++ entries_among deeds
  pub first_taken : new.deltas.first_taken ≡ old.deltas.first_taken
  pub took : (more : List Taken) × (new.deltas.taken ≡ old.deltas.taken ++ more) × (map (λ t. t.name) more ≡ deltas_among deeds)
  pub deltas : (front behind : List ScriptAction) (name : List ℕ) → deeds ≡ front ++ Takes name ∷ behind
      → HasDelta name (length (log_of old) + length (entries_among front)) (deltas_among behind) new
  pub names : (more : List Known) × (new.answers.names ≡ old.answers.names ++ more) × All (IsAskedIn hists) more
  pub spoiled : new.done.spoiled ≡ old.done.spoiled
  pub filled : new.done.filled ≡ old.done.filled

-- a recorder has done these deeds and has the same role: each delta that it took is its own
pub record HasRecorded (hists : List HistRecord) (deeds : List ScriptAction) (old new : Actor) : Type 0 where
  pub went : WentOn hists deeds old new
  pub role : new.role ≡ old.role
  pub own : BeganAtRole old.role old.deltas.taken → BeganAtRole old.role new.deltas.taken

-- it knows the histogram of a `hist` record
abbrev pub KnowsOf : Actor → HistRecord → Type 0
KnowsOf a hist = (known : Known) × Contains a.answers.names known × (known.name ≡ hist.name) × SameSpec known.spec hist.spec

-- the histograms that a recorder has asked for, each at the index of its `hist` record
abbrev pub HaveMet : List HistRecord → Recorder → List (Option Hist) → Type 0
HaveMet hists recorder met = (i : ℕ) (histogram : Hist) → slice_get met i ≡ Some (Some histogram)
    → (hist : HistRecord) × (slice_get hists i ≡ Some hist) × IsNamed hist.name hist.spec recorder.state histogram

-- a recorder has asked for all histograms of `hist` records, and has recorded nothing
abbrev pub HasAsked : List HistRecord → Actor → Actor → Type 0
HasAsked hists old new = WentOn hists [] old new × All (KnowsOf new) hists

-- ---- an opener

-- it has made this many recorders, and nothing else has changed
pub record HandsOut (recorders : ℕ) (old new : Actor) : Type 0 where
  pub entries : new.entries ≡ old.entries
  pub answers : new.answers ≡ old.answers
  pub done : new.done ≡ old.done
  pub deltas : new.deltas ≡ old.deltas
  pub made : made_of new.role ≡ made_of old.role + recorders
  pub outstanding : outstanding_of new.role ≡ outstanding_of old.role + recorders

-- the histograms of `hist` records were made, by a recorder that is joined
pub record HasOpened (hists : List HistRecord) (old new : Actor) : Type 0 where
  pub went : WentOn hists [] old new
  pub knows : All (KnowsOf new) hists
  pub back : outstanding_of new.role ≡ outstanding_of old.role

-- ---- workers

-- what one of several workers does
abbrev pub deeds_of_part : Script → ℕ → ℕ → List ScriptAction
deeds_of_part script workers part = deeds_of script.hists (part_of workers part script.calls)

-- a worker has made all of its calls
abbrev pub HasWorked : Script → ℕ → ℕ → Actor → Actor → Type 0
HasWorked script workers part old new = HasRecorded script.hists (deeds_of_part script workers part) old new

-- a worker that is to be started: its number, the script, and a recorder of a segment that has done nothing; as many recorders as its
-- number were made before it and are outstanding, besides those that its opener had made
pub record IsWorkerReady (segment : TableId) (opener : Actor) (script : code.Script) (workers number : ℕ) (part : Part) (has : code.Script) (recorder : Recorder) : Type 0 where
  pub number_is : part.part ≡ number
  pub workers_are : part.workers ≡ workers
  pub script_is : has ≡ script
  pub at : recorder.state.seat.table_id ≡ segment
  pub fresh : IsFresh (view_of_recorder recorder)
  pub before : made_of (view_of_recorder recorder).role ≡ made_of opener.role + number
  pub outstanding : outstanding_of (view_of_recorder recorder).role ≡ outstanding_of opener.role + number

-- a worker that was started has ended: its recorder has the same segment, and if it ended well it has made all of its calls; else it
-- reports out of memory as such
pub record WorkerHasEnded (script : code.Script) (part : Part) (old : Recorder) (ended : Ended) : Type 0 where
  pub kept : ended.recorder.segment ≡ old.segment
  pub worked : OnOk ended.outcome (HasWorked (script_view script) part.workers part.part (view_of_recorder old) (view_of_recorder ended.recorder))
  pub tells : IfErr ended.outcome StopTellsWant

-- ---- all workers

-- what a worker that has ended has done
abbrev pub view_of_ended : Ended → Actor
view_of_ended ended = view_of_recorder ended.recorder

-- it ended well
abbrev pub EndedWell : Ended → Type 0
EndedWell ended = ended.outcome ≡ Ok tt

-- it is of a segment
abbrev pub EndedAt : TableId → Ended → Type 0
EndedAt segment ended = ended.recorder.state.seat.table_id ≡ segment

-- recorders are joined, one after the other
abbrev pub all_joined : Actor → List Actor → Actor
all_joined opener [] = opener
all_joined opener (recorder ∷ rest) = all_joined (joined opener recorder) rest

-- what all workers do, the deeds of each one after the other
abbrev pub deeds_of_all : Script → ℕ → List ScriptAction
deeds_of_all script workers = flat_map (deeds_of_part script workers) (range_with_len 0 workers)

-- The calls of a script were made by this many workers, whose recorders are joined. A single worker's deltas are all of the youngest
-- recorder, taken when no more were outstanding than before.
pub record HasRun (script : Script) (workers : ℕ) (old new : Actor) : Type 0 where
  pub recorded : WentOn script.hists (deeds_of_all script workers) old new
  pub knows : All (KnowsOf old) script.hists → All (KnowsOf new) script.hists
  pub back : outstanding_of new.role ≡ outstanding_of old.role
  pub alone : workers ≡ 1 → old.deltas.taken ≡ []
      → All (λ t. (t.moment.before + 1 ≡ made_of new.role) × (t.moment.outstanding ≡ outstanding_of old.role)) new.deltas.taken
