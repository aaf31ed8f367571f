-- A `batch` begins: what it counts, and that it may.
use Rattle.segment_invariant.proofs.Prelude.Std.{◌≡◌, ◌≤◌, ◌<◌, ◌+◌, ◌*◌, ℕ, ℤ, pos, ◌+ℤ◌, Bool, true, false, not, ◌==◌, ◌&&◌, true≢false, ◌⊎◌, List, [], ◌∷◌, ◌++◌, map, filter, length, fold, All, Contains, inl, inr, refl, sym, ap, subst, ◌∙◌, arith, Some, None, if◌then◌else◌, unsigned_abs, ne_eqb, eqb-false, and_parts, bytes_eq, int_eq, +ℤ_idl, +ℤ_idr, Decides-int_eq, bytes_eq-Decides, All-nil, All-cons, All-append, All-head, All-tail, filter-append, sum_by-cons, sum_by-append, map-append, get_elem?, some}
use Rattle.segment_invariant.proofs.Prelude.Machine.{IsShape, boundaries_of, Dimensions, Actor, known_at, fresh, has_ended, is_of, key_of, tally_noted, tally_sum, noted, begins, is_reference}
use Rattle.std.proofs.Common.{negsuc}
use Rattle.std.specs.List.{AllZip, list_all}
use Rattle.std.proofs.lemmas.List.Sums.{fold-append}
use Rattle.bucket_ranges.specs.Tally.{units_of}
use Rattle.segment_image.specs.declared.layout.TheConstants.{HISTOGRAM_NAME}
use Rattle.segment_invariant.proofs.Lists.Elements.{all_at}
use Rattle.segment_machine.specs.declared.actor.Known.{Known}
use Rattle.segment_machine.specs.declared.entry.Entry.{Entry as MachineEntry}
use Rattle.segment_machine.specs.Entry.{AreWithin, batch_cost, batch_entries, item_entry, sum_entry}
use Rattle.segment_machine.specs.Seats.{getter}
use Rattle.hist_core.specs.declared.add.Add.{Add}
use Rattle.hist_core.specs.declared.batch.Batch.{Batch as BatchCall}
use Rattle.hist_core.specs.declared.hist.KnownHist.{KnownHist}
use Rattle.hist_core.specs.declared.actor_run.Running.TheVariants.{Batch}
use Rattle.hist_core.specs.declared.actor_run.ActorRun.{ActorRun}
use Rattle.hist_core.specs.Add.{IsStarted, counted_entry, ended_entry}
use Rattle.hist_core.specs.Batch.{IsBatch, IsItem, CountsItem, SumsUp, amid_of, counted_entries, sample_of, sum_entries, units_among, ItemWaits}
use Rattle.hist_core.specs.WorldState.{AreSome}
use Rattle.hist_core.specs.ActorRun.{known_of, pending_by, IsKnown, CountsNoEntries, IsGhostNoting, StandsIn, IsActorRunOf, BeginsBatch}
use Rattle.hist_core.proofs.BatchCall.Entries.{one_sum}
use Rattle.hist_core.proofs.AddCall.Samples.{stands_first as begins_first}
use Rattle.hist_core.proofs.Worlds.Free.{free_turns}
use Rattle.hist_core.proofs.Worlds.Quiet.{met_split}
use Rattle.hist_core.specs.StepsBy.{IsFree}
use Rattle.hist_core.proofs.AddCall.Opening.{before_it, counts_so, known_inside, stands}
use Rattle.hist_core.proofs.Worlds.Zips.{zip_all}

-- ---- its entries are within its cost

module _ (name boundaries : List ℕ) where
  abbrev of_item : ℤ × ℕ → MachineEntry
  of_item = item_entry name boundaries

  abbrev noted_by : MachineEntry → ℕ
  noted_by entry = if is_of name entry then entry.units else 0

  abbrev amount_by : MachineEntry → ℤ
  amount_by entry = if is_of name entry then entry.amount else pos 0

  same_name : bytes_eq name name ≡ true
  same_name = (bytes_eq-Decides name name).1 refl

  noted_items : (items : List (ℤ × ℕ)) → tally_noted (map of_item items) name ≡ units_of items
  noted_items [] = refl
  noted_items (x ∷ items) = sum_by-cons noted_by (of_item x) (map of_item items)
      ∙ ((λ i. (if same_name i then x.1 else 0) + noted_items items i) ∙ sym (sum_by-cons (λ (item : ℤ × ℕ). item.1) x items))

  named_items : (items : List (ℤ × ℕ)) → All (λ entry. entry.name ≡ name) (map of_item items)
  named_items [] = All-nil (λ (entry : MachineEntry). entry.name ≡ name)
  named_items (x ∷ items) = All-cons (λ (entry : MachineEntry). entry.name ≡ name) (of_item x) (map of_item items) refl (named_items items)

  none_large : (items : List (ℤ × ℕ)) → filter (λ entry. not (int_eq entry.amount (pos 0))) (map of_item items) ≡ []
  none_large [] = refl
  none_large (x ∷ items) = none_large items

  no_amount : (b : Bool) → (if b then pos 0 else pos 0) ≡ pos 0
  no_amount true = refl
  no_amount false = refl

  amounts_none : (items : List (ℤ × ℕ)) (first : ℤ) → fold ◌+ℤ◌ first (map amount_by (map of_item items)) ≡ first
  amounts_none [] first = refl
  amounts_none (x ∷ items) first =
      ap (λ (n : ℤ). fold ◌+ℤ◌ n (map amount_by (map of_item items))) (ap (λ n. first +ℤ n) (no_amount (bytes_eq name name)) ∙ +ℤ_idr first) ∙ amounts_none items first

  module _ (items : List (ℤ × ℕ)) (sum : ℤ) where
    abbrev cost : ℕ
    cost = batch_cost items sum

    -- with its sum, if that is not 0
    with_sum : (sums : List MachineEntry) → All (λ entry. entry.name ≡ name) sums → tally_noted sums name ≡ 0
        → length (filter (λ entry. not (int_eq entry.amount (pos 0))) sums) ≤ 1 → unsigned_abs (tally_sum sums name) ≤ 2147483648 * cost
        → AreWithin name cost (map of_item items ++ sums)
    with_sum sums named none one small = record {
      of_name = All-append (λ (entry : MachineEntry). entry.name ≡ name) (map of_item items) sums (named_items items) named;
      units = (let both = sum_by-append noted_by (map of_item items) sums in let units = noted_items items in omega (arith, both, units, none));
      one = subst (λ (l : List MachineEntry). length l ≤ 1)
          (sym (filter-append (λ (entry : MachineEntry). not (int_eq entry.amount (pos 0))) (map of_item items) sums
          ∙ ap (λ (l : List MachineEntry). l ++ filter (λ entry. not (int_eq entry.amount (pos 0))) sums) (none_large items))) one;
      amount = subst (λ (n : ℤ). unsigned_abs n ≤ 2147483648 * cost)
          (sym (ap (fold ◌+ℤ◌ (pos 0)) (map-append amount_by (map of_item items) sums)
          ∙ (fold-append ◌+ℤ◌ (pos 0) (map amount_by (map of_item items)) (map amount_by sums)
          ∙ ap (λ (n : ℤ). fold ◌+ℤ◌ n (map amount_by sums)) (amounts_none items (pos 0))))) small;
    }

    pub within_cost : AreWithin name cost (batch_entries name boundaries items sum)
    within_cost = by (int_eq sum (pos 0))
      where
        sized : (b : Bool) → unsigned_abs (fold ◌+ℤ◌ (pos 0) ((if b then sum else pos 0) ∷ [])) ≤ 2147483648 * cost
        sized true = subst (λ (n : ℤ). unsigned_abs n ≤ 2147483648 * cost) (sym (+ℤ_idl sum)) (omega arith)
        sized false = omega arith

        nothing : (b : Bool) → 0 + (if b then 0 else 0) ≡ 0
        nothing true = refl
        nothing false = refl

        few : (b : Bool) → length (if not b then sum_entry name sum ∷ [] else []) ≤ 1
        few true = omega arith
        few false = omega arith

        by : (none : Bool) → AreWithin name cost (map of_item items ++ (if none then [] else sum_entry name sum ∷ []))
        by true = with_sum [] (All-nil (λ (entry : MachineEntry). entry.name ≡ name)) refl (omega arith) (omega arith)
        by false = with_sum (sum_entry name sum ∷ [])
            (All-cons (λ (entry : MachineEntry). entry.name ≡ name) (sum_entry name sum) [] refl (All-nil (λ (entry : MachineEntry). entry.name ≡ name)))
            (nothing (bytes_eq name name)) (few (int_eq sum (pos 0))) (sized (bytes_eq name name))

-- ---- what is started counts the items

module _ (shape : Dimensions) (version : ℕ) (known : KnownHist) where
  abbrev Starts : ℤ × ℕ → Add → Type 0
  Starts item add = IsStarted shape version (known_of known) item.0 item.1 (pos 0) add

  pub samples_are : (items : List (ℤ × ℕ)) (adds : List Add) → AllZip Starts items adds → map sample_of adds ≡ items
  samples_are [] [] zip = refl
  samples_are [] (y ∷ adds) zip = absurd zip
  samples_are (x ∷ items) [] zip = absurd zip
  samples_are (x ∷ items) (y ∷ adds) zip = λ i. (zip.0.counts i, zip.0.holds i) ∷ samples_are items adds zip.1 i

  entries_are : (items : List (ℤ × ℕ)) (adds : List Add) → AllZip Starts items adds
      → map (item_entry known.name.items (boundaries_of known.spec)) items ≡ map (counted_entry (known_of known)) adds
  entries_are [] [] zip = refl
  entries_are [] (y ∷ adds) zip = absurd zip
  entries_are (x ∷ items) [] zip = absurd zip
  entries_are (x ∷ items) (y ∷ adds) zip = λ i.
      record { name = known.name.items; key = key_of (boundaries_of known.spec) (sym zip.0.counts i); units = sym zip.0.holds i; amount = sym zip.0.amounts i } ∷ entries_are items adds zip.1 i

  units_are : (items : List (ℤ × ℕ)) (adds : List Add) → AllZip Starts items adds → units_among adds ≡ units_of items
  units_are [] [] zip = refl
  units_are [] (y ∷ adds) zip = absurd zip
  units_are (x ∷ items) [] zip = absurd zip
  units_are (x ∷ items) (y ∷ adds) zip = sum_by-cons (λ (add : Add). add.units) y adds
      ∙ ((λ i. zip.0.holds i + units_are items adds zip.1 i) ∙ sym (sum_by-cons (λ (item : ℤ × ℕ). item.1) x items))

-- a sum of 0 costs nothing
costs_none : (items : List (ℤ × ℕ)) (sum : ℤ) → items ≡ [] → 0 < batch_cost items sum → int_eq sum (pos 0) ≡ false
costs_none items sum none least = by (int_eq sum (pos 0)) refl
  where
    by : (b : Bool) → int_eq sum (pos 0) ≡ b → b ≡ false
    by false e = refl
    by true e =
        let zero_sum : sum ≡ pos 0 = (Decides-int_eq sum (pos 0)).0 e in
        let nothing : batch_cost items sum ≡ 0 = (λ i. batch_cost (none i) (zero_sum i)) in absurd (omega (arith, least, nothing))

module _ (shape : Dimensions) (version : ℕ) (known : KnownHist) (items : List (ℤ × ℕ)) (sum : ℤ) (cost : ℕ) (old new : ActorRun)
    (starts : BeginsBatch shape version known items sum cost old new) (i : ℕ) (at : get_elem? old.known.items i ≡ some known) (are_some : AreSome items)
    (cost_is : cost ≡ batch_cost items sum) (some_units : 0 < cost) (rests : old.running ≡ None)
    (a : Actor) (run : IsActorRunOf shape version old a) (lawful : IsShape shape) (versions : (version ≡ 1) ⊎ (version ≡ 2))
    (alone_there : known_at a.answers.names known.reference ≡ Some (known_of known)) (reach : is_reference shape.size known.reference ≡ true) where
  abbrev call : BatchCall
  call = starts.call

  abbrev machine : Known
  machine = known_of known

  abbrev told : List MachineEntry
  told = batch_entries known.name.items (boundaries_of known.spec) items sum

  abbrev b : Actor
  b = noted (getter a cost) (begins machine.name cost told)

  free : IsFree a × CountsNoEntries (pending_by old) a
  free = stands shape version old new told (Batch call) starts.begins rests a run

  its_known : IsKnown shape known
  its_known = all_at (IsKnown shape) old.known.items i known run.lawful at

  inside : Contains a.answers.names machine
  inside = known_inside old.known.items a.answers.names known run.names i at

  sum_same : call.sum ≡ sum
  sum_same = ap (λ (x : BatchCall). x.sum) starts.fresh

  told_are : told ≡ counted_entries machine call
  told_are j = entries_are shape version known items call.items.items starts.started j ++ sum_entries known.name.items (sym sum_same j)

  abbrev IsOne : Add → Type 0
  IsOne = IsItem shape a.segment.version machine

  all_one : All IsOne call.items.items
  all_one = zip_all (Starts shape version known) (λ (item : ℤ × ℕ). 1 ≤ item.1) IsOne (λ item add started some. record {
    counting = counts_so shape version known item.0 item.1 (pos 0) add started its_known versions (omega (arith, some));
    versioned = ap (λ s. s.version) run.segment ∙ sym started.versioned;
    amount = started.amounts;
  }) items call.items.items starts.started are_some

  all_wait : All (ItemWaits shape machine) call.items.items
  all_wait = zip_all (Starts shape version known) (λ (item : ℤ × ℕ). 1 ≤ item.1) (ItemWaits shape machine) (λ item add started some. started.opens) items call.items.items
      starts.started are_some

  stands_first : CountsItem shape machine call b ⊎ SumsUp machine call b
  stands_first = by call.items.items refl
    where
      by : (adds : List Add) → call.items.items ≡ adds → CountsItem shape machine call b ⊎ SumsUp machine call b
      by [] are = inr (record {
        added = ap (λ (x : BatchCall). x.added) starts.fresh ∙ ap length (sym are);
        turns = free_turns a.hand.place free.0;
        some = some_sum;
        runs = ap (map fresh) told_are
            ∙ ((λ j. map fresh (map (counted_entry machine) (are j) ++ one_sum known.name.items call.sum some_sum j))
            ∙ ap (λ (l : List Add). map (ended_entry machine) l ++ fresh (sum_entry known.name.items call.sum) ∷ []) (sym are));
      })
        where
          no_items : items ≡ []
          no_items = sym (samples_are shape version known items call.items.items starts.started) ∙ ap (map sample_of) are

          some_sum : int_eq call.sum (pos 0) ≡ false
          some_sum = ap (λ n. int_eq n (pos 0)) sum_same ∙ costs_none items sum no_items (subst (λ n. 0 < n) cost_is some_units)
      by (x ∷ rest) are = inl (record {
        done = [];
        item = x;
        rest = rest;
        are = are;
        added = ap (λ (y : BatchCall). y.added) starts.fresh;
        left = (let same : call.left ≡ call.cost = ap (λ (y : BatchCall). y.left) starts.fresh ∙ sym (ap (λ (y : BatchCall). y.cost) starts.fresh) in omega (arith, same));
        waits = All-tail (ItemWaits shape machine) x rest (subst (All (ItemWaits shape machine)) are all_wait);
        stands = record {
          counting = its.counting;
          segment = ap (λ s. s.shape) run.segment;
          version = its.versioned;
          lawful_shape = lawful;
          knows = inside;
          alone = alone_there;
          rests = free.1.takes;
          held = ap (λ (n : ℕ). record { name = machine.name; units = n } ∷ []) (sym (ap (λ (y : BatchCall). y.cost) starts.fresh));
          over = All-nil (λ c. has_ended c ≡ true);
          stands = begins_first shape machine (amid_of machine call [] rest) x b x.stage (All-head (ItemWaits shape machine) x rest (subst (All (ItemWaits shape machine)) are all_wait))
              (ap (λ s. s.shape) run.segment) lawful inside reach (met_split a.seen.chain known.reference (run.met machine inside))
              (ap (map fresh) told_are ∙ ap (λ (l : List Add). map fresh (map (counted_entry machine) l ++ sum_entries known.name.items call.sum)) are) free.0;
        };
      })
        where
          its : IsOne x
          its = All-head IsOne x rest (subst (All IsOne) are all_one)

  is_batch : IsBatch shape machine call b
  is_batch = record {
    reference = sym (ap (λ (x : BatchCall). x.histogram) starts.fresh);
    within = subst (λ n. n + HISTOGRAM_NAME ≤ shape.size) (sym (ap (λ (x : BatchCall). x.histogram) starts.fresh)) its_known.within;
    segment = ap (λ s. s.shape) run.segment;
    lawful_shape = lawful;
    knows = inside;
    alone = alone_there;
    reach = reach;
    met = run.met machine inside;
    rests = free.1.takes;
    held = ap (λ (n : ℕ). record { name = machine.name; units = n } ∷ []) (sym (ap (λ (x : BatchCall). x.cost) starts.fresh));
    items = all_one;
    enough =
        let units = units_are shape version known items call.items.items starts.started in let same = ap (λ (x : BatchCall). x.cost) starts.fresh in
        omega (arith, units, same, cost_is);
    stands = stands_first;
  }

  pub batch_stands : StandsIn shape old.known.items starts.begins.pending (Some (Batch call)) (getter a cost)
  batch_stands = (
    machine,
    subst (λ (p : ℕ × List MachineEntry). IsGhostNoting starts.begins.pending machine.name p.0 p.1 (IsBatch shape machine call) (getter a cost))
        (λ j. (sym (ap (λ (x : BatchCall). x.cost) starts.fresh) j, told_are j))
        (before_it shape version old new told (Batch call) starts.begins rests a run cost machine inside
        (subst (λ (n : ℕ). AreWithin machine.name n told) (sym cost_is) (within_cost known.name.items (boundaries_of known.spec) items sum))
        (IsBatch shape machine call) is_batch),
  )

-- ---- what is refused at once, or counts nothing

some_one : (n : ℕ) → 1 ≤ n → not (n == 0) ≡ true
some_one n least = ap not (ne_eqb n 0 (λ none. omega (arith, least, none)))

one_some : (n : ℕ) → not (n == 0) ≡ true → 1 ≤ n
one_some n apart = by (n == 0) refl apart
  where
    by : (none : Bool) → (n == 0) ≡ none → not none ≡ true → 1 ≤ n
    by true e there = absurd (true≢false (sym there))
    by false e there = (let differs = eqb-false n 0 e in omega (arith, differs))

pub some_all : (items : List (ℤ × ℕ)) → AreSome items → list_all (λ item. not (item.1 == 0)) items ≡ true
some_all [] all = refl
some_all (x ∷ items) all = λ i. some_one x.1 (All-head (λ (item : ℤ × ℕ). 1 ≤ item.1) x items all) i && some_all items (All-tail (λ (item : ℤ × ℕ). 1 ≤ item.1) x items all) i

pub all_some : (items : List (ℤ × ℕ)) → list_all (λ item. not (item.1 == 0)) items ≡ true → AreSome items
all_some [] all = All-nil (λ (item : ℤ × ℕ). 1 ≤ item.1)
all_some (x ∷ items) all =
    let parts = and_parts (not (x.1 == 0)) (list_all (λ item. not (item.1 == 0)) items) all in
    All-cons (λ (item : ℤ × ℕ). 1 ≤ item.1) x items (one_some x.1 parts.0) (all_some items parts.1)

-- a batch that costs nothing has no item, and its sum is 0
pub counts_nothing : (items : List (ℤ × ℕ)) (sum : ℤ) → AreSome items → batch_cost items sum ≡ 0 → (items ≡ []) × (sum ≡ pos 0)
counts_nothing [] sum all none = (refl, abs_none sum (omega (arith, none)))
  where
    abs_none : (n : ℤ) → unsigned_abs n ≡ 0 → n ≡ pos 0
    abs_none (pos n) e = ap pos e
    abs_none (negsuc n) e = absurd (omega (arith, e))
counts_nothing (x ∷ items) sum all none =
    let some = All-head (λ (item : ℤ × ℕ). 1 ≤ item.1) x items all in let units = sum_by-cons (λ (item : ℤ × ℕ). item.1) x items in
    absurd (omega (arith, some, units, none))
