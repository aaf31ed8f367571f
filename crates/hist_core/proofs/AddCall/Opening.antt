-- A call of an actor that counts begins: what it counts, and that it may.
use Rattle.segment_invariant.proofs.Prelude.Std.{◌≡◌, ◌≢◌, ◌≤◌, ◌<◌, ◌+◌, ◌*◌, ℕ, zero, suc, ℤ, pos, ◌+ℤ◌, Bool, true, false, not, ◌==◌, ◌⊎◌, List, [], ◌∷◌, ◌++◌, map, length, take, drop, fold, Contains, inl, refl, sym, ap, subst, ◌∙◌, arith, length-append, Option, Some, None, unsigned_abs, if◌then◌else◌, vec_len, vec_capacity, All-nil, Contains-append_left, bytes_eq, int_eq, +ℤ_idl, ne_eqb, drop-append-le, some, some-injective, some-ne-none, get_elem?}
use Rattle.segment_invariant.proofs.Prelude.Machine.{IsShape, boundaries_of, Dimensions, Actor, Spent, known_at, has_ended, key_of, noted, begins, State, is_reference}
use Rattle.segment_invariant.proofs.Prelude.Invariant.{Anatomy, order_of, Invariant, IsFirst, IsRightlyKnown}
use Rattle.std.proofs.lemmas.List.{take-append-le, drop_all}
use Rattle.segment_image.specs.declared.layout.TheConstants.{BLOCK_HEADER, HISTOGRAM_NAME}
use Rattle.segment_machine.specs.declared.actor.Known.{Known}
use Rattle.segment_machine.specs.declared.entry.Entry.{Entry as MachineEntry}
use Rattle.segment_machine.specs.Calls.{IsKeyOfBucket}
use Rattle.segment_machine.specs.Entry.{AreWithin}
use Rattle.segment_machine.specs.Seats.{getter}
use Rattle.segment_invariant.proofs.Consistency.Books.{one_name}
use Rattle.segment_invariant.proofs.Consistency.Totals.{find_known}
use Rattle.segment_invariant.proofs.Lists.Elements.{all_at, all_from, at_from, contains_at, each_of_one, from_map, index_at}
use Rattle.segment_invariant.proofs.Lists.Maps.{contains_map}
use Rattle.hist_core.specs.declared.add.Add.{Add as AddCall}
use Rattle.hist_core.specs.declared.hist.KnownHist.{KnownHist}
use Rattle.hist_core.specs.declared.entry.Entry.{Entry}
use Rattle.hist_core.specs.declared.actor_run.Running.{Running}
use Rattle.hist_core.specs.declared.actor_run.Running.TheVariants.{Add}
use Rattle.hist_core.specs.declared.actor_run.ActorRun.{ActorRun}
use Rattle.hist_core.specs.declared.world_state.WorldState.{WorldState}
use Rattle.hist_core.specs.Start.{Start}
use Rattle.hist_core.specs.WorldState.{IsReachable, IsReachedAs, BeginsFrom, IsCountBegun}
use Rattle.hist_core.proofs.Worlds.Starts.{kept_there, shape_there, versions_there}
use Rattle.hist_core.proofs.Worlds.Beginnings.{IsPlaced, IsTurned, is_now}
use Rattle.hist_core.proofs.Worlds.WorldStates.{lends, is_long, quiet_now}
use Rattle.hist_core.proofs.HistCall.Asking.{place_below}
use Rattle.hist_core.specs.Add.{alone, counted_entry, IsAdd, IsCounting, IsStarted}
use Rattle.hist_core.specs.ActorRun.{entry_of, known_of, pending_by, IsKnown, HaveOwnNames, CountsNoEntries, HasDraft, HasRoomForHist, StandsIn, IsActorRunOf, IsGhostNoting, BeginsToCount, BeginsAdd}
use Rattle.hist_core.proofs.Worlds.Free.{free_turns}
use Rattle.hist_core.proofs.AddCall.Samples.{stands_first}
use Rattle.hist_core.specs.StepsBy.{IsFree}
use Rattle.segment_invariant.proofs.Walking.Walks.{stop_reference}
use Rattle.hist_core.proofs.Worlds.Quiet.{not_spent, all_ended, met_split}

-- ---- what an actor knows

-- a name is there once
own_one : (list : List KnownHist) → HaveOwnNames list → (i j : ℕ) (x y : KnownHist) → get_elem? list i ≡ some x → get_elem? list j ≡ some y → x.name.items ≡ y.name.items
    → x ≡ y
own_one [] own i j x y here there same = absurd (some-ne-none x (sym here))
own_one (first ∷ rest) own zero zero x y here there same = some-injective x y (sym here ∙ there)
own_one (first ∷ rest) own zero (suc j) x y here there same =
    absurd (own.0 j y there (sym same ∙ ap (λ (k : KnownHist). k.name.items) (sym (some-injective first x here))))
own_one (first ∷ rest) own (suc i) zero x y here there same =
    absurd (own.0 i x here (same ∙ ap (λ (k : KnownHist). k.name.items) (sym (some-injective first y there))))
own_one (first ∷ rest) own (suc i) (suc j) x y here there same = own_one rest own.1 i j x y here there same

-- what it knows is among what its actor knows
pub known_inside : (list : List KnownHist) (names : List Known) (known : KnownHist) → map known_of list ≡ names → (i : ℕ) → get_elem? list i ≡ some known
    → Contains names (known_of known)
known_inside list names known same i at =
    subst (λ (l : List Known). Contains l (known_of known)) same (contains_map known_of list known (contains_at list i known at))

-- in a kept state no two histograms that an actor knows have one reference
module _ (shape : Dimensions) (opened : Anatomy) (state : State) (kept : Invariant shape opened state) (id : ℕ) (a : Actor)
    (mine : get_elem? state.actors id ≡ some a) (lives : a.hand.place ≢ Spent) (list : List KnownHist) (own : HaveOwnNames list)
    (names : map known_of list ≡ a.answers.names) where
  pub alone_there : (i : ℕ) (known : KnownHist) → get_elem? list i ≡ some known → known_at a.answers.names known.reference ≡ Some (known_of known)
  alone_there i known at =
      let inside = known_inside list a.answers.names known names i at in
      let there = at_from a.answers.names (known_of known) inside in
      let (found, is, among, refers) = find_known a.answers.names known.reference there.0 (known_of known) there.1 refl in
      let knows : (k : Known) → Contains a.answers.names k → IsRightlyKnown kept.anatomy k = λ k inside.
      (let (j, at_j) = at_from a.answers.names k inside in all_at (IsRightlyKnown kept.anatomy) a.answers.names j k (kept.each id a mine lives).names at_j) in
      let its = knows (known_of known) inside in
      let other = knows found among in
      let same : found.name ≡ known.name.items = one_name shape opened state kept found.name known.name.items other.first_spec its.first_spec found.reference other.first
      (subst (λ (n : ℕ). IsFirst kept.anatomy.records known.name.items its.first_spec n) (sym refers) its.first) in
      let (j, at_j) = at_from a.answers.names found among in
      let (k, at_k, k_is) = from_map known_of list j found (ap (λ (l : List Known). get_elem? l j) names ∙ at_j) in
      is ∙ ap Some (sym k_is ∙ ap known_of (own_one list own j i k known at_k at (ap (λ (m : Known). m.name) k_is ∙ same)))

-- a record that it has visited is one that a list can have
pub reference_there : (shape : Dimensions) (opened : Anatomy) (state : State) (kept : Invariant shape opened state) (id : ℕ) (a : Actor)
    → get_elem? state.actors id ≡ some a → a.hand.place ≢ Spent → (at : ℕ) → Contains a.seen.chain at → is_reference shape.size at ≡ true
reference_there shape opened state kept id a mine lives at met =
    let (rest, walked) = (kept.each id a mine lives).sees.walked in
    let order : List ℕ = order_of kept.anatomy in
    let (k, there) = at_from order at (subst (λ (l : List ℕ). Contains l at) (sym walked) (Contains-append_left a.seen.chain rest at met)) in
    stop_reference shape opened state kept at (suc k, place_below order k at there, index_at order k at 0 there)

-- ---- it begins

-- a call of an actor that rests, which counts entries: they are pending, and it stands for the same actor, with the units of the call
module _ (shape : Dimensions) (version : ℕ) (old new : ActorRun) (entries : List MachineEntry) (running : Running) (starts : BeginsToCount entries running old new)
    (rests : old.running ≡ None) (a : Actor) (run : IsActorRunOf shape version old a) where
  pub stands : IsFree a × CountsNoEntries (pending_by old) a
  stands = subst (λ running. StandsIn shape old.known.items (pending_by old) running a) rests run.stands

  none_left : length old.entries.items ≡ old.ended
  none_left = all_ended shape version old a run stands.1.none

  module _ (cost : ℕ) where
    has_units : (getter a cost).units.share ≡ cost
    has_units = let none = stands.1.share in omega (arith, none)

    -- it may begin to count them, if they are within its cost
    pub before_it : (known : Known) → Contains a.answers.names known → AreWithin known.name cost entries → (standing : Actor → Type 0)
        → standing (noted (getter a cost) (begins known.name cost entries)) → IsGhostNoting starts.pending known.name cost entries standing (getter a cost)
    before_it known inside within standing is = record {
      pending_are = starts.pending_are;
      stands = inl (record {
        share = has_units;
        may = (
          not_spent a.hand.place (free_turns a.hand.place stands.0),
          run.records,
          stands.1.runs,
          stands.1.holds,
          stands.1.takes,
          (let share = has_units in omega (arith, share)),
          contains_map (λ (k : Known). k.name) a.answers.names known inside,
          within,
        );
        stands = is;
      });
    }

    pub begins_with : StandsIn shape old.known.items starts.pending (Some running) (getter a cost) → HasRoomForHist (Some running) (vec_len old.known) (vec_capacity old.known)
        → HasDraft (Some running) old.taken → IsActorRunOf shape version new (getter a cost)
    begins_with stood room draft = subst (λ (r : ActorRun). IsActorRunOf shape version r (getter a cost)) (sym starts.is) (record {
      records = run.records;
      segment = run.segment;
      first = run.first;
      within = (run.within.0, (let longer = ap length starts.entries_are ∙ length-append old.entries.items starts.pending in let within = run.within in omega (arith, longer, within)));
      ended = ap (map entry_of) (ap (take old.ended) starts.entries_are ∙ take-append-le old.ended old.entries.items starts.pending (let w = run.within in omega (arith, w))) ∙ run.ended;
      begun = ap (map entry_of) (ap (take old.begun) starts.entries_are ∙ take-append-le old.begun old.entries.items starts.pending run.within.1) ∙ run.begun;
      taken = run.taken;
      names = run.names;
      lawful = run.lawful;
      once = run.once;
      met = run.met;
      stands = subst (λ (l : List Entry). StandsIn shape old.known.items l (Some running) (getter a cost)) (sym pending_is) stood;
      room = room;
      draft = draft;
    })
      where
        pending_is : drop old.ended new.entries.items ≡ starts.pending
        pending_is = ap (drop old.ended) starts.entries_are
            ∙ (drop-append-le old.ended old.entries.items starts.pending (let none = none_left in omega (arith, none)) ∙ ap (λ l. l ++ starts.pending) stands.1.none)

-- ---- an `add`

-- its entry is within its units
within : (name : List ℕ) (its : MachineEntry) → its.name ≡ name → unsigned_abs its.amount ≤ 2147483648 * its.units → AreWithin name its.units (its ∷ [])
within name its named small = record {
  of_name = all_from (λ (e : MachineEntry). e.name ≡ name) (its ∷ []) (each_of_one its (λ i (e : MachineEntry). e.name ≡ name) named);
  units = least (bytes_eq its.name name);
  one = few (int_eq its.amount (pos 0));
  amount = sized (bytes_eq its.name name);
}
  where
    least : (b : Bool) → 0 + (if b then its.units else 0) ≤ its.units
    least true = omega arith
    least false = omega arith

    few : (b : Bool) → length (if not b then its ∷ [] else []) ≤ 1
    few true = omega arith
    few false = omega arith

    sized : (b : Bool) → unsigned_abs (fold ◌+ℤ◌ (pos 0) ((if b then its.amount else pos 0) ∷ [])) ≤ 2147483648 * its.units
    sized true = subst (λ (n : ℤ). unsigned_abs n ≤ 2147483648 * its.units) (sym (+ℤ_idl its.amount)) small
    sized false = omega arith

-- what is started counts units of a value in a histogram that is known
pub counts_so : (shape : Dimensions) (version : ℕ) (known : KnownHist) (value : ℤ) (units : ℕ) (amount : ℤ) (add : AddCall)
    → IsStarted shape version (known_of known) value units amount add → IsKnown shape known → (version ≡ 1) ⊎ (version ≡ 2) → 0 < units
    → IsCounting shape (known_of known) add
counts_so shape version known value units amount add started its versions some_units = record {
  shaped = started.shaped;
  versions = subst (λ v. (v ≡ 1) ⊎ (v ≡ 2)) (sym started.versioned) versions;
  reference = sym started.reference;
  within = subst (λ n. n + HISTOGRAM_NAME ≤ shape.size) (sym started.reference) its.within;
  some = ap (λ n. n == 0) started.holds ∙ ne_eqb units 0 (λ none. omega (arith, some_units, none));
  lawful = its.lawful;
  buckets = started.buckets;
  fits = subst (λ n. BLOCK_HEADER + 2 * n ≤ shape.page) (sym started.buckets) its.fits;
  bucket = λ has. subst (λ v. IsKeyOfBucket (known_of known) add.bucket (key_of (boundaries_of known.spec) v)) (sym started.counts) (started.bucket has);
}

module _ (shape : Dimensions) (version : ℕ) (known : KnownHist) (value : ℤ) (units : ℕ) (old new : ActorRun) (starts : BeginsAdd shape version known value units old new)
    (i : ℕ) (at : get_elem? old.known.items i ≡ some known) (some_units : 0 < units) (rests : old.running ≡ None) (a : Actor) (run : IsActorRunOf shape version old a) (lawful : IsShape shape) (versions : (version ≡ 1) ⊎ (version ≡ 2))
    (alone_there : known_at a.answers.names known.reference ≡ Some (known_of known)) (reach : is_reference shape.size known.reference ≡ true) where
  abbrev add : AddCall
  add = starts.add

  abbrev machine : Known
  machine = known_of known

  pub add_stands : StandsIn shape old.known.items starts.begins.pending (Some (Add add)) (getter a units)
  add_stands = subst (λ (n : ℕ). StandsIn shape old.known.items starts.begins.pending (Some (Add add)) (getter a n)) starts.started.holds (
    machine,
    before_it shape version old new (counted_entry machine add ∷ []) (Add add) starts.begins rests a run add.units machine inside
        (within machine.name (counted_entry machine add) refl (subst (λ (n : ℕ). unsigned_abs add.amount ≤ 2147483648 * n) (sym starts.started.holds) starts.small))
        (IsAdd shape machine (alone add) add) (record {
          counting = counts_so shape version known value units _ add starts.started its_known versions some_units;
          segment = ap (λ s. s.shape) run.segment;
          version = ap (λ s. s.version) run.segment ∙ sym starts.started.versioned;
          lawful_shape = lawful;
          knows = inside;
          alone = alone_there;
          rests = free.1.takes;
          held = refl;
          over = All-nil (λ c. has_ended c ≡ true);
          stands = stands_first shape machine (alone add) add (noted (getter a add.units) (begins machine.name add.units (counted_entry machine add ∷ []))) add.stage
              starts.started.opens (ap (λ s. s.shape) run.segment) lawful inside reach (met_split a.seen.chain known.reference (run.met machine inside)) refl free.0;
        }),
  )
    where
      free : IsFree a × CountsNoEntries (pending_by old) a
      free = stands shape version old new (counted_entry machine add ∷ []) (Add add) starts.begins rests a run

      its_known : IsKnown shape known
      its_known = all_at (IsKnown shape) old.known.items i known run.lawful at

      inside : Contains a.answers.names machine
      inside = known_inside old.known.items a.answers.names known run.names i at

-- ---- on a world_state

-- one actor begins a call that counts, in a histogram that it knows
module _ (old new : WorldState) (reached : ∥ IsReachable old ∥₁) (actor : ℕ) (name : List ℕ) (place : ℕ) (r now : ActorRun) (its : IsPlaced old actor name place r)
    (turned : IsTurned old new actor now) (entries : List MachineEntry) (running : Running) (cost : ℕ) (starts : BeginsToCount entries running r now)
    (pooled : new.units + cost ≡ old.units) where
  abbrev known : KnownHist
  known = its.known

  pub count_begins : HasRoomForHist (Some running) (vec_len r.known) (vec_capacity r.known) → HasDraft (Some running) r.taken
      → ((a : Actor) → IsActorRunOf old.shape old.version r a → IsShape old.shape → (old.version ≡ 1) ⊎ (old.version ≡ 2)
      → known_at a.answers.names known.reference ≡ Some (known_of known) → is_reference old.shape.size known.reference ≡ true → StandsIn old.shape r.known.items starts.pending (Some running) (getter a cost))
      → (start : Start) (state : State) → IsReachedAs start old state → BeginsFrom start state actor new
  count_begins room draft stood start state reach =
      let kept = kept_there start old state reach in
      lends start old state reach (is_long old reached) actor r now new its.resting.at turned.shape turned.version turned.actor_runs cost (ap (λ w. w.items) turned.words) pooled (λ a there run.
      let free = free_turns a.hand.place (subst (λ running. StandsIn old.shape r.known.items (pending_by r) running a) its.resting.rests run.stands).0 in
      let lives = not_spent a.hand.place free in (
        lives,
        begins_with old.shape old.version r now entries running starts its.resting.rests a run cost (stood a run (shape_there start old state reach) (versions_there start old state reach)
            (alone_there old.shape start.opened state kept (actor + 1) a there lives r.known.items run.once run.names place known its.there)
            (reference_there old.shape start.opened state kept (actor + 1) a there lives known.reference (run.met (known_of known) (known_inside r.known.items a.answers.names known run.names place its.there)))) room draft,
      ))

  pub count_begun : (runs : Option Running → Type 0) → runs (Some running) → (told : List ℕ → List MachineEntry) → entries ≡ told (boundaries_of known.spec)
      → (price : ℕ) → cost ≡ price → IsCountBegun actor name price told runs old new
  count_begun runs runs_so told told_are price price_is = record {
    words = turned.words;
    pool = ap (λ (n : ℕ). new.units + n) (sym price_is) ∙ pooled;
    before = r;
    behind = now;
    was = its.resting.at;
    is = is_now old new actor r now its.resting turned;
    known = known;
    knows = contains_at r.known.items place known its.there;
    named = its.named;
    counts = subst runs (sym (ap (λ (x : ActorRun). x.running) starts.is)) runs_so;
    pending = ap (map entry_of) pending_is ∙ (starts.pending_are ∙ told_are);
    ended = (λ j. take (starts.is j).ended now.entries.items)
        ∙ (ap (take r.ended) starts.entries_are ∙ take-append-le r.ended r.entries.items starts.pending (let all = quiet.0 in omega (arith, all)));
    begun = (λ j. take (starts.is j).begun now.entries.items)
        ∙ (ap (take r.begun) starts.entries_are ∙ take-append-le r.begun r.entries.items starts.pending (let all = quiet.0 in let begun = quiet.1 in omega (arith, all, begun)));
  }
    where
      quiet : (length r.entries.items ≡ r.ended) × (r.begun ≡ r.ended)
      quiet = quiet_now old reached actor r its.resting.at its.resting.rests

      pending_is : pending_by now ≡ starts.pending
      pending_is = (λ j. drop (starts.is j).ended now.entries.items)
          ∙ (ap (drop r.ended) starts.entries_are ∙ (drop-append-le r.ended r.entries.items starts.pending (let all = quiet.0 in omega (arith, all))
          ∙ ap (λ l. l ++ starts.pending) (drop_all r.ended r.entries.items (let all = quiet.0 in omega (arith, all)))))
