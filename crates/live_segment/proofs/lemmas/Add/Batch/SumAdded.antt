-- The sum of a batch is added after its items, and the batch ends.
use Rattle.std.proofs.Common.{◌≡◌, ◌≢◌, ℕ, ◌+◌, ◌-◌, ◌≤◌, not, ◌||◌, ◌&&◌, Bool, true, false, true≢false, if◌then◌else◌, ℤ, pos, List, [], ◌∷◌, ◌++◌, map, filter, All, refl, sym, ap, ◌∙◌, subst, arith}
use Rattle.std.specs.Ordering.{int_eq}
use Rattle.std.specs.Str.{bytes_eq}
use Rattle.std.proofs.lemmas.Bool.Decides.{Decides-int_eq}
use Rattle.std.proofs.lemmas.List.{append_assoc, map-append}
use Rattle.std.proofs.lemmas.List.Elements.{All-nil, All-cons, All-append}
use Rattle.std.proofs.lemmas.List.Sums.{sum_by-append}
use Rattle.segment_invariant.proofs.Lists.Maps.{contains_map}
use Rattle.bucket_ranges.specs.Ranges.{boundaries_of}
use Rattle.bucket_ranges.specs.Tally.{units_of}
use Rattle.segment_machine.specs.declared.actor.Actor.{Actor}
use Rattle.segment_machine.specs.declared.actor.Cost.{Cost}
use Rattle.segment_machine.specs.declared.actor.Entries.{Entries}
use Rattle.segment_machine.specs.declared.actor.Known.{Known}
use Rattle.segment_machine.specs.declared.actor.Units.{Units}
use Rattle.segment_machine.specs.declared.entry.EntryProgress.{EntryProgress}
use Rattle.segment_machine.specs.declared.entry.Entry.{Entry}
use Rattle.segment_machine.specs.Actor.{cost_of, is_bound, is_opener, known_at}
use Rattle.segment_machine.specs.Calls.{change_next}
use Rattle.segment_machine.specs.Counting.{add_sum}
use Rattle.segment_machine.specs.Entry.{AreWithin, batch_cost, batch_entries, fresh, has_ended, sum_entry}
use Rattle.segment_machine.specs.Event.{counting_event, next}
use Rattle.segment_machine.specs.Note.{Note, begins, ends, goes_on}
use Rattle.segment_promises.specs.Follows.{MayNoteAll, noted_by}
use Rattle.live_segment.specs.Alloc.Claims.{KeepsBlocks}
use Rattle.live_segment.specs.Add.Batch.{HasItems, IsBatched, ended_item}
use Rattle.segment_promises.specs.Onward.{DoesOn, GoesOn, SeesOn, is_holding}
use Rattle.segment_promises.proofs.Growing.{grows_not}
use Rattle.live_segment.specs.Steps.{IsAtRest, IsSame, Pass}
use Rattle.live_segment.specs.Steps.GhostNotes.{HasSum, KnowsAlone, MaySum, Noted, opening_notes, sum_cost, sum_notes}
use Rattle.live_segment.proofs.lemmas.Add.Beginning.{known_there}
use Rattle.live_segment.proofs.lemmas.Add.Ended.{changed_behind, goes_on_with, next_behind}
use Rattle.live_segment.proofs.lemmas.Add.Batch.Items.{entries}
use Rattle.live_segment.proofs.lemmas.Add.Batch.ItemsCounted.{all_over, ended_items, entries_ended, running, some_run}
use Rattle.live_segment.proofs.lemmas.Add.Batch.SumWithin.{enough_for, is_cost, least_for, sum_within}

module _ (known : Known) (sum : ℤ) (old : Actor) (seat : Pass) (rest : IsAtRest old) (alone : KnowsAlone old known) (some_sum : sum ≢ pos 0) where
  abbrev a : Actor
  a = seat.me.0

  abbrev entry : Entry
  entry = sum_entry known.name sum

  abbrev x : Actor
  x = noted_by a (sum_notes a known sum)

  abbrev over : List (ℤ × ℕ) → List EntryProgress
  over items = map (ended_item known) items

  is_some : int_eq sum (pos 0) ≡ false
  is_some = by_test (int_eq sum (pos 0)) refl
    where
      by_test : (b : Bool) → int_eq sum (pos 0) ≡ b → b ≡ false
      by_test true e = absurd (some_sum ((Decides-int_eq sum (pos 0)).0 e))
      by_test false e = refl

  -- it has not ended before it is added
  waits_sum : has_ended (fresh entry) ≡ false
  waits_sum = ap (λ (b : Bool). true && (false || b) && true) is_some

  -- ---- it begins

  record Begins (items : List (ℤ × ℕ)) : Type 0 where
    pub tells : MayNoteAll a (sum_notes a known sum)
    pub units_are : x.units ≡ record old.units { share = old.units.share - batch_cost items sum; held = record { name = known.name; units = batch_cost items sum } ∷ [] }
    pub entries_are : x.entries ≡ record old.entries { running = over items ++ fresh entry ∷ [] }
    pub else_as : x ≡ record a { units = x.units; entries = x.entries }

  module _ (items : List (ℤ × ℕ)) (has : HasItems known items old a) where
    recorder : is_opener a.role ≡ false
    recorder = ap (λ (y : Actor). is_opener y.role) has.proceeds.same ∙ rest.recorder

    takes : a.deltas.taking ≡ false
    takes = ap (λ (y : Actor). y.deltas.taking) has.proceeds.same ∙ rest.takes

    alone_here : KnowsAlone a known
    alone_here = ap (λ (y : Actor). known_at y.answers.names known.reference) has.proceeds.same ∙ alone

  less : (s n m : ℕ) → s - n - m ≡ s - (n + m)
  less s n m = omega arith

  begins_sum : (items : List (ℤ × ℕ)) → HasItems known items old a → batch_cost items sum ≤ old.units.share → Begins items
  begins_sum [] has enough =
      let runs : a.entries.running ≡ [] = ap (λ (e : Entries). e.running) has.entries_are in
      let held : a.units.held ≡ [] = ap (λ (u : Units). u.held) has.units_are ∙ rest.holds in
      let cost : sum_cost a sum ≡ batch_cost [] sum = ap (λ (l : List Cost). least_for sum - Rattle.segment_machine.specs.Actor.cost_total l) held ∙ is_cost_none in
      let ns : sum_notes a known sum ≡ begins known.name (batch_cost [] sum) (entry ∷ []) ∷ [] =
      ap (λ (r : List EntryProgress). opening_notes r entry (sum_cost a sum)) runs ∙ ap (λ (n : ℕ). begins known.name n (entry ∷ []) ∷ []) cost in
      let share = ap (λ (u : Units). u.share) has.units_are in record {
        tells = subst (MayNoteAll a) (sym ns) (
          (
            λ e. true≢false (sym (ap is_bound e) ∙ has.proceeds.free),
            recorder [] has,
            runs,
            held,
            takes [] has,
            omega (arith, share, enough),
            contains_map (λ (k : Known). k.name) a.answers.names known (known_there a.answers.names known.reference known (alone_here [] has)).0,
            sum_within known.name (boundaries_of known.spec) sum [] (batch_cost [] sum) (omega arith) (enough_for (batch_cost [] sum) sum (omega arith)),
          ),
          refl,
        );
        units_are = ap (λ (l : List Note). (noted_by a l).units) ns
            ∙ ap (λ (u : Units). record u { share = u.share - batch_cost [] sum; held = record { name = known.name; units = batch_cost [] sum } ∷ [] }) has.units_are;
        entries_are = ap (λ (l : List Note). (noted_by a l).entries) ns ∙ ap (λ (e : Entries). record e { running = fresh entry ∷ [] }) has.entries_are;
        else_as = subst (λ (l : List Note). noted_by a l ≡ record a { units = (noted_by a l).units; entries = (noted_by a l).entries }) (sym ns) refl;
      }
    where
      is_cost_none : least_for sum - 0 ≡ batch_cost [] sum
      is_cost_none = omega arith
  begins_sum (y ∷ ys) has enough =
      let items = y ∷ ys in
      let u = units_of items in
      let more = least_for sum - u in
      let total = is_cost items sum in
      let held : a.units.held ≡ record { name = known.name; units = u } ∷ [] = ap (λ (z : Units). z.held) has.units_are in
      let cost : sum_cost a sum ≡ more = ap (λ (l : List Cost). least_for sum - Rattle.segment_machine.specs.Actor.cost_total l) held ∙ ap (λ (n : ℕ). least_for sum - n) (none_before u) in
      let share = ap (λ (z : Units). z.share) has.units_are in
      let ns : sum_notes a known sum ≡ goes_on entry more ∷ [] =
      goes_on_with a.entries.running entry (sum_cost a sum) (some_run known item old a rest y ys has) (all_over known item old a rest y ys has).ended
      ∙ ap (λ (n : ℕ). goes_on entry n ∷ []) cost in record {
        tells = subst (MayNoteAll a) (sym ns) (
          (
            some_run known item old a rest y ys has,
            (all_over known item old a rest y ys has).ended,
            omega (arith, share, enough, total),
            (
              known.name,
              u,
              held,
              subst (λ (l : List Entry). AreWithin known.name (u + more) (l ++ entry ∷ []))
                  (sym (ap (map (λ (c : EntryProgress). c.entry)) (running known item old a rest y ys has) ∙ entries_ended known items))
                  (sum_within known.name (boundaries_of known.spec) sum items (u + more) (omega arith) (enough_for (u + more) sum (omega arith))),
            ),
          ),
          refl,
        );
        units_are = ap (λ (l : List Note). (noted_by a l).units) ns
            ∙ (ap (λ (z : Units). record z { share = z.share - more; held = map (λ (h : Cost). record h { units = h.units + more }) z.held }) has.units_are
            ∙ (ap (λ (n : ℕ). record old.units { share = n; held = record { name = known.name; units = u + more } ∷ [] }) (less old.units.share u more)
            ∙ ap (λ (n : ℕ). record old.units { share = old.units.share - n; held = record { name = known.name; units = n } ∷ [] }) total));
        entries_are = ap (λ (l : List Note). (noted_by a l).entries) ns ∙ ap (λ (e : Entries). record e { running = e.running ++ fresh entry ∷ [] }) has.entries_are;
        else_as = subst (λ (l : List Note). noted_by a l ≡ record a { units = (noted_by a l).units; entries = (noted_by a l).entries }) (sym ns) refl;
      }
    where
      item : ℤ × ℕ
      item = y

      none_before : (n : ℕ) → 0 + n ≡ n
      none_before n = omega arith

  -- ---- it is added

  abbrev added_sum : EntryProgress
  added_sum = record (fresh entry) { summed = true }

  module _ (items : List (ℤ × ℕ)) (has : HasItems known items old a) (enough : batch_cost items sum ≤ old.units.share) where
    begun : Begins items
    begun = begins_sum items has enough

    runs_begun : x.entries.running ≡ over items ++ fresh entry ∷ []
    runs_begun = ap (λ (e : Entries). e.running) begun.entries_are

    runs_added : change_next (λ c. record c { summed = true }) x.entries.running ≡ over items ++ added_sum ∷ []
    runs_added = ap (change_next (λ c. record c { summed = true })) runs_begun
        ∙ changed_behind (fresh entry) waits_sum (λ c. record c { summed = true }) (over items) (ended_items known items).ended

    all_ended : All (λ c. has_ended c ≡ true) (over items ++ added_sum ∷ [])
    all_ended = All-append (λ c. has_ended c ≡ true) (over items) (added_sum ∷ []) (ended_items known items).ended
        (All-cons (λ c. has_ended c ≡ true) added_sum [] refl (All-nil _))

    pub may_sum : MaySum seat known.reference sum
    may_sum = (
      record { known = known; amount = sum },
      (refl, alone_here items has, refl),
      record {
        recorder = recorder items has;
        may = begun.tells;
        ready = (
          ap (λ (y : Actor). is_bound y.hand.place) begun.else_as ∙ has.proceeds.free,
          fresh entry,
          known,
          (
            ([], ap (filter (λ (c : EntryProgress). not (has_ended c))) runs_begun ∙ next_behind (fresh entry) waits_sum (over items) (ended_items known items).ended),
            refl,
            ap (λ (b : Bool). false || b) is_some,
          ),
          refl,
          subst (λ (y : Actor). Rattle.std.specs.List.Contains y.answers.names known) (sym begun.else_as)
              (known_there a.answers.names known.reference known (alone_here items has)).0,
          refl,
          refl,
        );
        goes = λ found learned. ((refl, subst (All (λ c. has_ended c ≡ true)) (sym runs_added) all_ended), refl);
      },
    )

    module _ (found : ℕ) (after : Pass) (summed : HasSum seat known.reference sum found after) where
      told : Noted seat (sum_notes a known sum) (counting_event (add_sum known.reference sum)) (ends ∷ []) found after
      told = summed (record { known = known; amount = sum }) (refl, alone_here items has, refl)

      pub same_summed : (first : Pass) → IsSame first seat → IsSame first after
      same_summed first same = (told.same.0 ∙ same.0, told.same.1 ∙ same.1, told.same.2 ∙ same.2)

      pub sum_view : after.me.0 ≡ noted_by (next (record a {
        units = record old.units { share = old.units.share - batch_cost items sum; held = record { name = known.name; units = batch_cost items sum } ∷ [] };
        entries = record old.entries { running = over items ++ fresh entry ∷ [] };
      }) (counting_event (add_sum known.reference sum)) found) (ends ∷ [])
      sum_view = told.view
          ∙ ap (λ (y : Actor). noted_by (next y (counting_event (add_sum known.reference sum)) found) (ends ∷ []))
          (begun.else_as ∙ (λ i. record a { units = begun.units_are i; entries = begun.entries_are i }))

      abbrev new : Actor
      new = after.me.0

      pub keeps_summed : KeepsBlocks a new
      keeps_summed = subst (KeepsBlocks a) (sym sum_view) (record { segment = refl; done = refl; own = refl; chain = refl; words = refl; ends = grows_not a.seen.ends })

      as_before : new ≡ record a { units = new.units; entries = new.entries; hand = new.hand; since = new.since }
      as_before = subst (λ (y : Actor). y ≡ record a { units = y.units; entries = y.entries; hand = y.hand; since = y.since }) (sym sum_view) refl

      entries_after : new.entries ≡ record old.entries { log = old.entries.log ++ (over items ++ added_sum ∷ []); running = [] }
      entries_after = ap (λ (y : Actor). y.entries) sum_view
          ∙ ap (λ (l : List EntryProgress). record old.entries { log = old.entries.log ++ l; running = [] })
          (changed_behind (fresh entry) waits_sum (λ c. record c { summed = true }) (over items) (ended_items known items).ended)

      sum_onward : GoesOn old new
      sum_onward =
          let same = has.proceeds.same in
          let entries_are : new.entries ≡ record old.entries { log = new.entries.log } =
          subst (λ (e : Entries). e ≡ record old.entries { log = e.log }) (sym entries_after)
          (ap (λ (l : List EntryProgress). record old.entries { log = old.entries.log ++ (over items ++ added_sum ∷ []); running = l }) (sym rest.runs)) in record {
            same = as_before
                ∙ ((λ i. record (same i) { units = new.units; entries = entries_are i; hand = new.hand; since = new.since })
                ∙ sym (ap (λ (y : Actor). record old {
                  units = new.units;
                  entries = record old.entries { log = new.entries.log };
                  hand = new.hand;
                  done = y.done;
                  seen = y.seen;
                  since = new.since;
                }) as_before));
            done = subst (DoesOn old.done) (sym (ap (λ (y : Actor). y.done) as_before)) has.proceeds.done;
            seen = subst (SeesOn old.seen) (sym (ap (λ (y : Actor). y.seen) as_before)) has.proceeds.seen;
          }

      pub sum_rests : IsAtRest new
      sum_rests = let kept = sum_onward.same in record {
        recorder = ap (λ (y : Actor). is_opener y.role) kept ∙ rest.recorder;
        free = ap (λ (y : Actor). is_bound y.hand.place) sum_view;
        apart = ap (λ (y : Actor). is_holding y.hand.place) sum_view;
        holds = ap (λ (y : Actor). y.units.held) sum_view;
        runs = ap (λ (e : Entries). e.running) entries_after;
        takes = ap (λ (y : Actor). y.deltas.taking) kept ∙ rest.takes;
        owes = ap (λ (y : Actor). y.answers.owed) kept ∙ rest.owes;
      }

      of_batch : map (λ (c : EntryProgress). c.entry) (over items ++ added_sum ∷ []) ≡ batch_entries known.name (boundaries_of known.spec) items sum
      of_batch = map-append (λ (c : EntryProgress). c.entry) (over items) (added_sum ∷ [])
          ∙ (ap (λ (l : List Entry). l ++ entry ∷ []) (entries_ended known items)
          ∙ ap (λ (b : Bool). entries known.name (boundaries_of known.spec) items ++ (if b then [] else entry ∷ [])) (sym is_some))

      pub batched : IsBatched known items sum old new
      batched = record {
        logged = ap (λ (e : Entries). e.first ++ map (λ (c : EntryProgress). c.entry) e.log) entries_after
            ∙ (ap (λ (l : List Entry). old.entries.first ++ l)
            (map-append (λ (c : EntryProgress). c.entry) old.entries.log (over items ++ added_sum ∷ [])
            ∙ ap (λ (l : List Entry). map (λ (c : EntryProgress). c.entry) old.entries.log ++ l) of_batch)
            ∙ sym (append_assoc old.entries.first (map (λ (c : EntryProgress). c.entry) old.entries.log) (batch_entries known.name (boundaries_of known.spec) items sum)));
        pays = record {
          share = let share : new.units.share ≡ old.units.share - batch_cost items sum = ap (λ (y : Actor). y.units.share) sum_view in omega (arith, share, enough);
          spent = λ other.
              let costs : cost_of new.units.costs other ≡ cost_of (old.units.costs ++ record { name = known.name; units = batch_cost items sum } ∷ []) other =
              ap (λ (y : Actor). cost_of y.units.costs other) sum_view in
              let both = sum_by-append (λ (c : Cost). if bytes_eq c.name other then c.units else 0) old.units.costs
              (record { name = known.name; units = batch_cost items sum } ∷ []) in omega (arith, costs, both);
        };
        filled = ap (λ (y : Actor). y.done.filled) as_before ∙ has.filled;
        onward = sum_onward;
        nothing = λ none zero. absurd (some_sum zero);
      }
