-- Where the running calls of a world are on the list of its words.
use Rattle.segment_invariant.proofs.Prelude.Std.{◌≡◌, ◌≢◌, ℕ, ℤ, ◌+◌, true, false, List, [], ◌∷◌, ◌++◌, length, inl, inr, ⊎_elim, refl, sym, ap, subst, ◌∙◌, arith, length-append, props, Contains, Contains-append_right, below_length, ∥∥₁_elim, some, none, some-injective, get_elem?, Option, Some, None}
use Rattle.segment_invariant.proofs.Prelude.Machine.{Dimensions, is_reference, IsStop, IsPrefix, Actor, Known, Made, Seen, State, SawSample, is_bound}
use Rattle.segment_invariant.proofs.Prelude.Invariant.{layout_of, order_of, Invariant, Body, Piece, Sample, Stands, is_claimed, sample, StandsRight}
use Rattle.alloc_core.proofs.Layouts.{length_shown}
use Rattle.list_core.specs.declared.publish.PubStage.{PubStage}
use Rattle.list_core.specs.declared.publish.PubStage.TheVariants.{StoreOwnNext, LoadTail, Link, MoveTail, Published, Strayed}
use Rattle.list_core.proofs.Prefixes.{prefix_of_prefix}
use Rattle.list_core.specs.Walk.{stands_behind}
use Rattle.list_core.proofs.Walks.{place_of}
use Rattle.segment_machine.specs.Note.{begins, noted}
use Rattle.segment_machine.specs.Stages.{PublishesAt}
use mathlib.Core.Option as maybe
use Rattle.segment_invariant.proofs.Walking.Room.{list_fits}
use Rattle.segment_invariant.proofs.Walking.Walks.{block_within, stop_reference, stop_stands}
use Rattle.segment_invariant.proofs.Walking.Nexts.{front_stop}
use Rattle.segment_invariant.proofs.Blocks.Pieces.{one_index}
use Rattle.segment_invariant.proofs.Counting.Samples.{sample_met}
use Rattle.segment_machine.specs.declared.actor.Hand.{Hand}
use Rattle.segment_promises.specs.Values.{ComesTo, first_of}
use Rattle.hist_core.specs.declared.new_record.NewRecord.{NewRecord}
use Rattle.hist_core.specs.declared.new_record.NewRecordStage.{NewRecordStage}
use Rattle.hist_core.specs.declared.new_record.NewRecordStage.TheVariants.{Allocating, Filling, Publishing}
use Rattle.hist_core.specs.declared.hist.Hist.{Hist as HistCall}
use Rattle.hist_core.specs.declared.hist.HistStage.{HistStage}
use Rattle.hist_core.specs.declared.hist.HistStage.TheVariants.{Walking, Comparing, Making}
use Rattle.hist_core.specs.declared.hist.KnownHist.{KnownHist}
use Rattle.hist_core.specs.declared.entry.Entry.{Entry}
use Rattle.hist_core.specs.declared.call.Stepped.{Stepped}
use Rattle.hist_core.specs.declared.call.Stepped.TheVariants.{More, Done}
use Rattle.hist_core.specs.declared.actor_run.ActorRun.{ActorRun}
use Rattle.hist_core.specs.declared.actor_run.Running.{Running}
use Rattle.hist_core.specs.declared.actor_run.Running.TheVariants.{SetCorrupt, Hist, Add, Delta, Snapshot, Batch}
use Rattle.hist_core.specs.declared.world_state.WorldState.{WorldState}
use Rattle.hist_core.specs.declared.sample_search.SampleSearch.{SampleSearch}
use Rattle.hist_core.specs.declared.sample_search.SampleSearchStage.{SampleSearchStage}
use Rattle.hist_core.specs.declared.sample_search.SampleSearchStage.TheVariants as searching
use Rattle.hist_core.specs.declared.add.Add.{Add as AddCall}
use Rattle.hist_core.specs.declared.add.AddStage.{AddStage}
use Rattle.hist_core.specs.declared.add.AddStage.TheVariants as adding
use Rattle.hist_core.specs.declared.batch.Batch.{Batch as BatchCall}
use Rattle.hist_core.specs.declared.walk.SampleWalk.{SampleWalk}
use Rattle.hist_core.specs.declared.walk.SampleWalk.TheVariants as along
use Rattle.hist_core.specs.declared.delta_call.DeltaCall.{DeltaCall}
use Rattle.hist_core.specs.declared.delta_call.DeltaStage.{DeltaStage}
use Rattle.hist_core.specs.declared.delta_call.DeltaStage.TheVariants as taking
use Rattle.hist_core.specs.declared.snapshot_call.SnapshotCall.{SnapshotCall}
use Rattle.hist_core.specs.declared.snapshot_call.SnapshotStage.{SnapshotStage}
use Rattle.hist_core.specs.declared.snapshot_call.SnapshotStage.TheVariants as looking
use Rattle.segment_machine.specs.declared.actor.Taken.{Taken as MachineTaken}
use Rattle.hist_core.specs.Add.{Amid, IsAdd}
use Rattle.hist_core.specs.Add as adds
use Rattle.hist_core.specs.Batch.{amid_of, counted_entries, CountsItem, IsBatch, SumsUp}
use Rattle.hist_core.specs.DeltaCall.{IsDeltaCall}
use Rattle.hist_core.specs.DeltaCall as deltas
use Rattle.hist_core.specs.SampleSearch.{IsSampleSearch}
use Rattle.hist_core.specs.SampleSearch as searches
use Rattle.hist_core.specs.SnapshotCall.{IsSnapshotCall}
use Rattle.hist_core.specs.SnapshotCall as snapshots
use Rattle.hist_core.specs.Walk.{OfPassed, StandsBehind, WalksAt}
use Rattle.hist_core.specs.ActorRun.{StandsIn, pending_by}
use Rattle.hist_core.specs.Hist.{IsHist, StandsAtStage, wanted_of}
use Rattle.hist_core.specs.NewRecord.{IsNewRecord, Wanted}
use Rattle.hist_core.specs.NewRecord as new_record
use Rattle.hist_core.specs.Start.{Start}
use Rattle.hist_core.specs.StepsBy.{IsFree}
use Rattle.hist_core.specs.WorldState.{IsReachable, IsReachedAs}
use Rattle.hist_core.specs.Left.{AddIsOn, DeltaIsOn, GoesDown, LeadsAlong, HistIsOn, ItemIsOn, PublishIsOn, RecordIsOn, RunningIsOn, RunningLowers, SearchIsOn, SnapshotIsOn, WalkIsOn}
use Rattle.hist_core.proofs.Worlds.Free.{free_turns}
use Rattle.hist_core.proofs.Worlds.Quiet.{not_spent}
use Rattle.hist_core.proofs.Worlds.Starts.{kept_there}
use Rattle.hist_core.proofs.Worlds.WorldStates.{its_recorder}

-- what comes after a front
at_behind : {X : Type 0} (xs : List X) (x : X) (ys : List X) → get_elem? (xs ++ x ∷ ys) (length xs) ≡ some x
at_behind [] x ys = refl
at_behind (y ∷ xs) x ys = at_behind xs x ys

module _ (start : Start) (world_state : WorldState) (state : State) (reach : IsReachedAs start world_state state) where
  kept : Invariant world_state.shape start.opened state
  kept = kept_there start world_state state reach

  abbrev order : List ℕ
  order = order_of kept.anatomy

  -- ---- the list

  has_list : LeadsAlong world_state.words.items order
  has_list = subst (λ (l : List ℕ). LeadsAlong l order) reach.shows.words (record {
    linked = kept.list.linked;
    few = let fits = list_fits world_state.shape state.words kept.anatomy kept.shown kept.blocks kept.list.standing kept.list.linked in omega (arith, fits, long);
    references = λ at stop. subst (λ (n : ℕ). is_reference n at ≡ true) (sym long) (stop_reference world_state.shape start.opened state kept at stop);
  })
    where
      long : length state.words ≡ world_state.shape.size
      long = length_shown world_state.shape state.words (layout_of kept.anatomy) kept.shown

  -- ---- the recorder of an actor, and what it stands for

  module _ (id : ℕ) (r : Actor) (there : get_elem? state.actors id ≡ some r) where
    -- A call stands for it, or for what it is with the next note: that has seen and holds the same.
    module _ (a : Actor) (seen : a.seen ≡ r.seen) (hand : a.hand ≡ r.hand) where
      walked : is_bound a.hand.place ≡ false → IsPrefix a.seen.chain order
      walked turns =
          subst (λ (s : Seen). IsPrefix s.chain order) (sym seen)
          ((kept.each id r there (not_spent r.hand.place (subst (λ (h : Hand). is_bound h.place ≡ false) hand turns))).sees.walked)

      -- a walk that has given a front of what was seen is at a stop
      given_stop : is_bound a.hand.place ≡ false → (given : List ℕ) (walk : ℕ) → walk ≡ stands_behind given → IsPrefix given a.seen.chain → IsStop order walk
      given_stop turns given walk stands front =
          let (rest, whole) = prefix_of_prefix given a.seen.chain order front (walked turns) in
          let long = ap length whole ∙ length-append given rest in
          (length given, omega (arith, long), place_of given rest order whole ∙ sym stands)

      -- a record that was seen is a stop
      seen_stop : is_bound a.hand.place ≡ false → (at : ℕ) → Contains a.seen.chain at → IsStop order at
      seen_stop turns at met = front_stop a.seen.chain order at (walked turns) met

      publish_on : (reference : ℕ) (made : Made) (stage : PubStage) → PublishesAt a reference made stage → PublishIsOn order stage
      publish_on reference made StoreOwnNext stands = tt
      publish_on reference made LoadTail stands = tt
      publish_on reference made (Link tail) stands = tt
      publish_on reference made (MoveTail old new true) stands = tt
      publish_on reference made (MoveTail old new false) stands =
          let found = subst (StandsRight world_state.shape kept.anatomy id r) (sym (ap (λ (h : Hand). h.place) hand) ∙ stands.0) (kept.standing id r there) in found.0
      publish_on reference made Published stands = tt
      publish_on reference made Strayed stands = tt

      record_on : (shape : Dimensions) (wanted : Wanted) (m : NewRecord) → IsNewRecord shape wanted m a → RecordIsOn order m.stage
      record_on shape wanted m is = by m.stage is.stands
        where
          by : (stage : NewRecordStage) → new_record.StandsAtStage shape wanted a stage → RecordIsOn order stage
          by (Allocating x) stands = tt
          by (Filling at index) stands = tt
          by (Publishing x) stands = publish_on x.reference wanted.made x.stage stands.0

      hist_on : (shape : Dimensions) (h : HistCall) → IsHist shape h a → HistIsOn order h h.stage
      hist_on shape h is = by h.stage is.stands
        where
          stop : IsFree a → IsStop order h.walk
          stop free = given_stop (free_turns a.hand.place free) is.given h.walk is.walk is.front

          by : (stage : HistStage) → StandsAtStage shape h a is.given stage → HistIsOn order h stage
          by Walking stands = stop stands.0
          by (Comparing same) stands = stop stands.0
          by (Making m) stands = record_on shape (wanted_of h) m stands.3

      search_on : (shape : Dimensions) (s : SampleSearch) → IsSampleSearch shape s a → SearchIsOn order s s.stage
      search_on shape s is = by s.stage is.stands
        where
          stop : IsFree a → IsStop order s.walk
          stop free = given_stop (free_turns a.hand.place free) (is.front ++ s.histogram ∷ is.behind) s.walk is.walk is.chain

          by : (stage : SampleSearchStage) → searches.StandsAtStage shape s a is.behind stage → SearchIsOn order s stage
          by searching.Walking stands = stop stands.0
          by (searching.LoadingType at) stands = stop stands.free
          by (searching.LoadingHistogram at) stands = stop stands.0.free
          by (searching.LoadingValue at of) stands = stop stands.0.free
          by (searching.Making m) stands = record_on shape (searches.wanted_of s) m stands.1

      add_on : (shape : Dimensions) (known : Known) (amid : Amid) (add : AddCall) → IsAdd shape known amid add a → AddIsOn order add.stage
      add_on shape known amid add is = by add.stage is.stands
        where
          by : (stage : AddStage) → adds.StandsAtStage shape known amid add a stage → AddIsOn order stage
          by adding.LoadingSingle stands = tt
          by (adding.Packing old new) stands = tt
          by adding.LoadingCounts stands = tt
          by adding.SeekingCounts stands = tt
          by (adding.Allocating x) stands = tt
          by (adding.Mounting at) stands = tt
          by (adding.Purging at counts) stands = tt
          by (adding.LoadingAgain counts) stands = tt
          by (adding.Disabling counts old) stands = tt
          by (adding.Moving counts bucket units) stands = tt
          by (adding.Sampling s) stands = search_on shape s stands.4
          by (adding.Counting at) stands = tt
          by adding.Summing stands = tt
          by adding.Noting stands = tt

      batch_on : (shape : Dimensions) (known : Known) (batch : BatchCall) → IsBatch shape known batch a → ItemIsOn order (get_elem? batch.items.items batch.added)
      batch_on shape known batch is = ⊎_elim counted summed is.stands
        where
          counted : CountsItem shape known batch a → ItemIsOn order (get_elem? batch.items.items batch.added)
          counted c = subst (ItemIsOn order) (sym ((λ i. get_elem? (c.are i) (c.added i)) ∙ at_behind c.done c.item c.rest))
              (add_on shape known (amid_of known batch c.done c.rest) c.item c.stands)

          none_on : batch.added ≡ length batch.items.items → (found : maybe.Option AddCall) → get_elem? batch.items.items batch.added ≡ found → ItemIsOn order found
          none_on all none is = tt
          none_on all (some item) is = absurd (let below = below_length batch.items.items batch.added item is in omega (arith, below, all))

          summed : SumsUp known batch a → ItemIsOn order (get_elem? batch.items.items batch.added)
          summed sums = none_on sums.added (get_elem? batch.items.items batch.added) refl

      -- ---- walks along samples

      -- the record to which a walk has come was seen
      come_to : (known : Known) (passed : List ℕ) (at : ℕ) → ComesTo known.reference passed at a → at ≢ 12 → Contains a.seen.chain at
      come_to known passed at comes miss = by comes.behind comes.chain comes.stands
        where
          by : (behind : List ℕ) → a.seen.chain ≡ comes.front ++ known.reference ∷ (passed ++ behind) → at ≡ first_of behind → Contains a.seen.chain at
          by [] chain stands = absurd (miss stands)
          by (x ∷ rest) chain stands =
              subst (λ (l : List ℕ). Contains l at) (sym chain)
              (Contains-append_right comes.front (known.reference ∷ (passed ++ x ∷ rest)) at
              (Contains-append_right (known.reference ∷ passed) (x ∷ rest) at (0, omega arith, sym stands)))

      stands_stop : is_bound a.hand.place ≡ false → (known : Known) (holds : OfPassed) (at : ℕ) (seen : List ℕ → List ℕ) → StandsBehind known holds at seen a → IsStop order at
      stands_stop turns known holds at seen stands = seen_stop turns at (come_to known stands.passed at stands.way.comes stands.record_there)

      walk_on : (shape : Dimensions) (known : Known) (holds : OfPassed) (histogram : ℕ) (walk : SampleWalk) → known.reference ≡ histogram → is_bound a.hand.place ≡ false
          → WalksAt shape known holds walk a → WalkIsOn order histogram walk
      walk_on shape known holds histogram along.LoadingFirst is turns stands =
          let (front, behind, chain) = stands.0.met in
          subst (IsStop order) is (seen_stop turns known.reference (subst (λ (l : List ℕ). Contains l known.reference) (sym chain)
          (Contains-append_right front (known.reference ∷ behind) known.reference (0, omega arith, refl))))
      walk_on shape known holds histogram (along.LoadingType at) is turns stands = stands_stop turns known holds at (λ passed. passed) stands
      walk_on shape known holds histogram (along.LoadingHistogram at) is turns stands = stands_stop turns known holds at (λ passed. passed) stands.0
      walk_on shape known holds histogram (along.LoadingValue at of) is turns stands = stands_stop turns known holds at (λ passed. passed) stands.0
      walk_on shape known holds histogram (along.LoadingNext at) is turns stands = stands_stop turns known holds at (λ passed. passed ++ at ∷ []) stands

    -- the mark of a sample that it has visited is the next of no stop
    mark_apart : is_bound r.hand.place ≡ false → (at of : ℕ) (value : ℤ) → Contains r.seen.chain at → SawSample r.seen of value at
        → (stop : ℕ) → IsStop order stop → stop + 3 ≢ at + 7
    mark_apart turns at of value met saw stop is_stop same =
        let (s, (k, here), of_it, valued) = sample_met world_state.shape start.opened state kept id r there (not_spent r.hand.place turns) at of value met saw in
        let place = block_within world_state.shape start.opened state kept at (sample s) (k, here) refl in
        elim (stop_stands world_state.shape start.opened state kept stop is_stop) [
          | inl queue ↦ ⊎_elim (λ first. omega (arith, same, queue, first)) (λ least. omega (arith, same, queue, least)) place.0
          | inr stands ↦ apart s k here stands.0 stands.1 stands.2
        ]
      where
        apart : (s : Sample) (k : ℕ) → get_elem? kept.anatomy.pieces k ≡ some (record { at = at; owner = none; body = sample s }) → (body : Body)
            → Stands kept.anatomy.pieces stop none body → is_claimed body ≡ true → ⊥
        apart s k here body (j, near) claimed =
            let five = (block_within world_state.shape start.opened state kept stop body (j, near) claimed).1 in
            let p : Piece = record { at = stop; owner = none; body = body } in
            let q : Piece = record { at = at; owner = none; body = sample s } in
            let one : j ≡ k = one_index world_state.shape state.words kept.anatomy kept.shown j k p q 3 7 near here (omega (arith, five)) (omega arith) same in
            let both : p ≡ q = some-injective p q (sym near ∙ (ap (get_elem? kept.anatomy.pieces) one ∙ here)) in
            let place : stop ≡ at = ap (λ (x : Piece). x.at) both in
            omega (arith, same, place)

    delta_on : (shape : Dimensions) (known : Known) (earlier : List MachineTaken) (call : DeltaCall) → IsDeltaCall shape known earlier call r → DeltaIsOn order call.histogram call.stage
    delta_on shape known earlier call is = by call.stage is.stands
      where
        by : (stage : DeltaStage) → deltas.StandsAtStage shape known earlier call r stage → DeltaIsOn order call.histogram stage
        by taking.LoadingSingle stands = tt
        by (taking.TakingPacked bucket units) stands = tt
        by (taking.LoadingCounts packed units) stands = tt
        by (taking.LoadingCount mounted bucket) stands = tt
        by (taking.Raising mounted bucket total) stands = tt
        by (taking.Walking walk) stands = walk_on r refl refl shape known (deltas.ListsTaken known call) call.histogram walk is.reference is.turns stands.1
        by (taking.LoadingSample at value) stands = stands_stop r refl refl is.turns known (deltas.ListsTaken known call) at (λ passed. passed) stands.1.0
        by (taking.RaisingSample at value count) stands =
            let met = stands.1.met in (
              stands_stop r refl refl is.turns known (deltas.ListsTaken known call) at (λ passed. passed) met.0,
              mark_apart is.turns at known.reference value (come_to r refl refl known met.0.passed at met.0.way.comes met.0.record_there) met.2,
            )
        by taking.LoadingSum stands = tt
        by (taking.Swapping sum) stands = tt

    snapshot_on : (shape : Dimensions) (known : Known) (call : SnapshotCall) → IsSnapshotCall shape known call r → SnapshotIsOn order call.histogram call.stage
    snapshot_on shape known call is = by call.stage is.stands
      where
        by : (stage : SnapshotStage) → snapshots.StandsAtStage shape known call r stage → SnapshotIsOn order call.histogram stage
        by looking.LoadingSingle stands = tt
        by (looking.LoadingCounts packed units) stands = tt
        by (looking.LoadingCount mounted bucket) stands = tt
        by (looking.Walking walk) stands = walk_on r refl refl shape known (snapshots.ListsSeen known call) call.histogram walk is.reference is.turns stands.1
        by (looking.LoadingSample at value) stands = stands_stop r refl refl is.turns known (snapshots.ListsSeen known call) at (λ passed. passed) stands.1.0
        by looking.LoadingSum stands = tt
        by (looking.LoadingRedundant sum) stands = tt

    running_on : (shape : Dimensions) (known : List KnownHist) (pending : List Entry) (running : Option Running) → StandsIn shape known pending running r → RunningIsOn order running
    running_on shape known pending None stands = tt
    running_on shape known pending (Some SetCorrupt) stands = tt
    running_on shape known pending (Some (Hist h)) stands = hist_on r refl refl shape h stands.0
    running_on shape known pending (Some (Add add)) stands =
        let of : Known = stands.0 in
        ⊎_elim
        (λ before. add_on (noted r (begins of.name add.units (adds.counted_entry of add ∷ []))) refl refl shape of (adds.alone add) add before.stands)
        (λ (share, is). add_on r refl refl shape of (adds.alone add) add is)
        stands.1.stands
    running_on shape known pending (Some (Batch batch)) stands =
        let of : Known = stands.0 in
        ⊎_elim
        (λ before. batch_on (noted r (begins of.name batch.cost (counted_entries of batch))) refl refl shape of batch before.stands)
        (λ (share, is). batch_on r refl refl shape of batch is)
        stands.1.stands
    running_on shape known pending (Some (Delta call fresh)) stands = delta_on shape stands.1.0 stands.1.1 call stands.1.2
    running_on shape known pending (Some (Snapshot call)) stands = snapshot_on shape stands.1.0 call stands.1.1

  -- what a step of the call of an actor leaves is less
  pub down_there : (actor : ℕ) (r : ActorRun) → get_elem? world_state.actor_runs.items actor ≡ some r → (new : Option Running) (new_words : List ℕ) (said : Stepped)
      → RunningLowers r.running world_state.words.items new new_words said → GoesDown r.running world_state.words.items new new_words said
  down_there actor r at new new_words said lowers =
      let (a, there, run) = its_recorder start world_state state reach actor r at in
      lowers order has_list (running_on (actor + 1) a there world_state.shape r.known.items (pending_by r) r.running run.stands)

-- less is left in one way at most
one_way : (old : Option Running) (words : List ℕ) (new : Option Running) (new_words : List ℕ) (said : Stepped) → IsProp (GoesDown old words new new_words said)
one_way old words new new_words More = hlevel props
one_way old words new new_words (Done answered) = hlevel props

pub goes_down : (world_state : WorldState) → ∥ IsReachable world_state ∥₁ → (actor : ℕ) (r : ActorRun) → get_elem? world_state.actor_runs.items actor ≡ some r
    → (new : Option Running) (new_words : List ℕ) (said : Stepped) → RunningLowers r.running world_state.words.items new new_words said
    → GoesDown r.running world_state.words.items new new_words said
goes_down world_state reached actor r at new new_words said lowers =
    ∥∥₁_elim reached (one_way r.running world_state.words.items new new_words said)
    (λ (start, state, reach). down_there start world_state state reach actor r at new new_words said lowers)
