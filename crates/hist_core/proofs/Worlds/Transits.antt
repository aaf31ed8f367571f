-- Whose units are on their way out of a single word.
use Rattle.segment_invariant.proofs.Prelude.Std.{◌≡◌, ℕ, true, false, true≢false, List, [], ◌∷◌, inl, inr, ⊎_elim, sym, ap, subst, ◌∙◌, Option, Some, None, some-injective}
use Rattle.segment_invariant.proofs.Prelude.Machine.{Dimensions, Actor, Made, Look, Moving, is_bound, MayTurn, noted, begins}
use Rattle.alloc_core.specs.Alloc.{Allocation}
use Rattle.alloc_core.specs.declared.alloc.AllocStage.{AllocStage}
use Rattle.alloc_core.specs.declared.alloc.AllocStage.TheVariants.{LoadFlags, LoadFree, ExchangeFree, StoreSize, StoreCookie, StoreType, SetFull, Claimed, Full, Corrupt}
use Rattle.list_core.specs.declared.publish.PubStage.{PubStage}
use Rattle.list_core.specs.declared.publish.PubStage.TheVariants.{StoreOwnNext, LoadTail, Link, MoveTail, Published, Strayed}
use Rattle.segment_machine.specs.declared.actor.Known.{Known}
use Rattle.segment_machine.specs.Stages.{StandsAtAllocStage, PublishesAt}
use Rattle.hist_core.specs.declared.add.Add.{Add as AddCall}
use Rattle.hist_core.specs.declared.add.AddStage.{AddStage}
use Rattle.hist_core.specs.declared.add.AddStage.TheVariants as adds
use Rattle.hist_core.specs.declared.batch.Batch.{Batch as BatchCall}
use Rattle.hist_core.specs.declared.entry.Entry.{Entry}
use Rattle.hist_core.specs.declared.hist.Hist.{Hist as HistCall}
use Rattle.hist_core.specs.declared.hist.KnownHist.{KnownHist}
use Rattle.hist_core.specs.declared.hist.HistStage.{HistStage}
use Rattle.hist_core.specs.declared.hist.HistStage.TheVariants as hists
use Rattle.hist_core.specs.declared.new_record.NewRecordStage.{NewRecordStage}
use Rattle.hist_core.specs.declared.new_record.NewRecordStage.TheVariants.{Allocating, Filling, Publishing}
use Rattle.hist_core.specs.declared.sample_search.SampleSearch.{SampleSearch}
use Rattle.hist_core.specs.declared.sample_search.SampleSearchStage.{SampleSearchStage}
use Rattle.hist_core.specs.declared.sample_search.SampleSearchStage.TheVariants as samples
use Rattle.hist_core.specs.declared.actor_run.Running.{Running}
use Rattle.hist_core.specs.declared.actor_run.Running.TheVariants.{SetCorrupt, Hist, Add, Delta, Snapshot, Batch}
use Rattle.hist_core.specs.declared.world_state.WorldState.{WorldState}
use Rattle.hist_core.specs.Add as add
use Rattle.hist_core.specs.Add.{Amid, IsAdd}
use Rattle.hist_core.specs.Batch.{IsBatch, amid_of, counted_entries}
use Rattle.hist_core.specs.Hist as hist
use Rattle.hist_core.specs.Hist.{IsHist, wanted_of}
use Rattle.hist_core.specs.NewRecord as new_record
use Rattle.hist_core.specs.NewRecord.{IsNewRecord, Wanted}
use Rattle.hist_core.specs.SampleSearch as sample_search
use Rattle.hist_core.specs.SampleSearch.{IsSampleSearch}
use Rattle.hist_core.specs.StepsBy.{IsFree}
use Rattle.hist_core.specs.ActorRun.{StandsIn, pending_by}
use Rattle.hist_core.specs.Transit.{CountsInRecord, MoveTheirOwn}
use Rattle.hist_core.proofs.Worlds.Free.{free_turns}
use Rattle.hist_core.proofs.Worlds.WorldStates.{its_recorder}

module _ (a : Actor) (look : Look) (bucket units : ℕ) (at : a.hand.place ≡ Moving look bucket units) where
  -- ---- where no call is then

  -- an actor that may turn is not there
  turned : {X : Type 0} → MayTurn a → X
  turned turns = absurd (true≢false (sym (ap is_bound at) ∙ turns))

  freed : {X : Type 0} → IsFree a → X
  freed free = turned (free_turns a.hand.place free)

  claims_not : {X : Type 0} (allocation : Allocation) (stage : AllocStage) → StandsAtAllocStage a allocation stage → X
  claims_not allocation LoadFlags stands = turned stands
  claims_not allocation LoadFree stands = cc (sym stands ∙ at)
  claims_not allocation (ExchangeFree next wants) stands = cc (sym stands.0 ∙ at)
  claims_not allocation (StoreSize from size wants) stands = cc (sym stands ∙ at)
  claims_not allocation (StoreCookie from size wants) stands = cc (sym stands ∙ at)
  claims_not allocation (StoreType from size) stands = cc (sym stands ∙ at)
  claims_not allocation SetFull stands = cc (sym stands ∙ at)
  claims_not allocation (Claimed from size) stands = cc (sym stands.0 ∙ at)
  claims_not allocation Full stands = cc (sym stands.0 ∙ at)
  claims_not allocation Corrupt stands = cc (sym stands.0 ∙ at)

  publishes_not : {X : Type 0} (reference : ℕ) (made : Made) (stage : PubStage) → PublishesAt a reference made stage → X
  publishes_not reference made StoreOwnNext stands = turned stands.0
  publishes_not reference made LoadTail stands = turned stands.0
  publishes_not reference made (Link tail) stands = cc (sym stands.0 ∙ at)
  publishes_not reference made (MoveTail old new true) stands = cc (sym stands.0 ∙ at)
  publishes_not reference made (MoveTail old new false) stands = cc (sym stands.0 ∙ at)
  publishes_not reference made Published stands = cc (sym stands.0 ∙ at)
  publishes_not reference made Strayed stands = absurd stands

  makes_not : {X : Type 0} (shape : Dimensions) (wanted : Wanted) (stage : NewRecordStage) → new_record.StandsAtStage shape wanted a stage → X
  makes_not shape wanted (Allocating allocation) stands = claims_not allocation allocation.stage stands.0.stands
  makes_not shape wanted (Filling from index) stands = freed stands.0
  makes_not shape wanted (Publishing publishing) stands = publishes_not publishing.reference wanted.made publishing.stage stands.0

  asks_none : {X : Type 0} (shape : Dimensions) (h : HistCall) (given : List ℕ) (stage : HistStage) → hist.StandsAtStage shape h a given stage → X
  asks_none shape h given hists.Walking stands = freed stands.0
  asks_none shape h given (hists.Comparing same) stands = freed stands.0
  asks_none shape h given (hists.Making m) stands = makes_not shape (wanted_of h) m.stage stands.3.stands

  samples_not : {X : Type 0} (shape : Dimensions) (s : SampleSearch) (behind : List ℕ) (stage : SampleSearchStage) → sample_search.StandsAtStage shape s a behind stage → X
  samples_not shape s behind samples.Walking stands = freed stands.0
  samples_not shape s behind (samples.LoadingType from) stands = freed stands.free
  samples_not shape s behind (samples.LoadingHistogram from) stands = freed stands.0.free
  samples_not shape s behind (samples.LoadingValue from of) stands = freed stands.0.free
  samples_not shape s behind (samples.Making m) stands = makes_not shape (sample_search.wanted_of s) m.stage stands.1.stands

  -- ---- where it counts

  module _ (shape : Dimensions) (known : Known) (amid : Amid) (call : AddCall) (is : IsAdd shape known amid call a) where
    here : (stage : AddStage) → add.StandsAtStage shape known amid call a stage → call.histogram ≡ look.histogram
    here adds.LoadingSingle stands = turned stands.2
    here (adds.Packing old new) stands = cc (sym stands.2.0.1 ∙ at)
    here adds.LoadingCounts stands = cc (sym stands.2.2 ∙ at)
    here adds.SeekingCounts stands = turned stands.2.0
    here (adds.Allocating allocation) stands = claims_not allocation allocation.stage stands.2.0.stands
    here (adds.Mounting from) stands = turned stands.2.0
    here (adds.Purging from counts) stands = cc (sym stands.2.1 ∙ at)
    here (adds.LoadingAgain counts) stands = cc (sym stands.2.1.1 ∙ at)
    here (adds.Disabling counts old) stands = cc (sym stands.2.1 ∙ at)
    here (adds.Moving counts b n) stands =
        let same : known.reference ≡ look.histogram = cc (sym stands.2.2.2 ∙ at) in
        sym is.counting.reference ∙ same
    here (adds.Sampling s) stands = samples_not shape s stands.4.behind s.stage stands.4.stands
    here (adds.Counting spot) (has, inl (off, looks, is_at), within) = cc (sym looks.0 ∙ at)
    here (adds.Counting spot) (has, inr (sample, turns, sparse, first, is_at), within) = turned turns
    here adds.Summing stands = turned stands.0
    here adds.Noting stands = turned stands.0

    pub counts_here : call.histogram ≡ look.histogram
    counts_here = here call.stage is.stands

  batches_here : (shape : Dimensions) (known : Known) (call : BatchCall) → IsBatch shape known call a → call.histogram ≡ look.histogram
  batches_here shape known call is = ⊎_elim
      (λ counts. sym is.reference ∙ (counts.stands.counting.reference ∙ counts_here shape known (amid_of known call counts.done counts.rest) counts.item counts.stands))
      (λ sums. turned sums.turns) is.stands

-- the call of an actor that is there counts in that histogram
stands_here : (shape : Dimensions) (known : List KnownHist) (pending : List Entry) (running : Option Running) (a : Actor) → StandsIn shape known pending running a
    → (look : Look) (bucket units : ℕ) → a.hand.place ≡ Moving look bucket units → CountsInRecord look.histogram running
stands_here shape known pending None a stands look bucket units at = freed a look bucket units at stands.0
stands_here shape known pending (Some SetCorrupt) a stands look bucket units at = freed a look bucket units at stands.0
stands_here shape known pending (Some (Hist h)) a stands look bucket units at = asks_none a look bucket units at shape h stands.0.given h.stage stands.0.stands
stands_here shape known pending (Some (Add call)) a (of, telling) look bucket units at = ⊎_elim
    (λ before. counts_here (noted a (begins of.name call.units (add.counted_entry of call ∷ []))) look bucket units at shape of (add.alone call) call before.stands)
    (λ (none, counts). counts_here a look bucket units at shape of (add.alone call) call counts) telling.stands
stands_here shape known pending (Some (Delta delta_call fresh)) a (quiet, (of, earlier, is, timely)) look bucket units at = turned a look bucket units at is.turns
stands_here shape known pending (Some (Snapshot snapshot_call)) a (quiet, (of, is)) look bucket units at = turned a look bucket units at is.turns
stands_here shape known pending (Some (Batch call)) a (of, telling) look bucket units at = ⊎_elim
    (λ before. batches_here (noted a (begins of.name call.cost (counted_entries of call))) look bucket units at shape of call before.stands)
    (λ (none, counts). batches_here a look bucket units at shape of call counts) telling.stands

pub move_their_own : (world_state : WorldState) → MoveTheirOwn world_state
move_their_own world_state start state reach actor r a at there look bucket units moves =
    let (b, mine, run) = its_recorder start world_state state reach actor r at in
    stands_here world_state.shape r.known.items (pending_by r) r.running a
    (subst (StandsIn world_state.shape r.known.items (pending_by r) r.running) (some-injective b a (sym mine ∙ there)) run.stands) look bucket units moves
