-- A batch that stops at an item: those before it are in the log and their units are spent, and it takes back what it had begun with.
use Rattle.std.proofs.Common.{◌≡◌, ◌⊎◌, ℕ, ◌+◌, ◌-◌, ◌<◌, ◌≤◌, Bool, true, false, if◌then◌else◌, ℤ, List, [], ◌∷◌, ◌++◌, map, take, length, get_or, inl, inr, refl, sym, ap, ◌∙◌, subst, arith}
use Rattle.std.specs.Str.{bytes_eq}
use Rattle.std.proofs.lemmas.List.{append_assoc, append-nil, map-append}
use Rattle.std.proofs.lemmas.List.Sums.{sum_by-append}
use Rattle.std.proofs.Math.Seq.{take-append_seam}
use Rattle.segment_invariant.proofs.Lists.Pairs.{element_at}
use Rattle.segment_calls.specs.declared.refusal.Refusal.{Refusal}
use Rattle.bucket_ranges.specs.Ranges.{boundaries_of}
use Rattle.bucket_ranges.specs.Tally.{units_of}
use Rattle.segment_machine.specs.declared.actor.Actor.{Actor}
use Rattle.segment_machine.specs.declared.actor.Cost.{Cost}
use Rattle.segment_machine.specs.declared.actor.Entries.{Entries}
use Rattle.segment_machine.specs.declared.actor.Known.{Known}
use Rattle.segment_machine.specs.declared.actor.Units.{Units}
use Rattle.segment_machine.specs.declared.entry.EntryProgress.{EntryProgress}
use Rattle.segment_machine.specs.declared.entry.Entry.{Entry}
use Rattle.segment_machine.specs.Actor.{cost_of, is_bound, is_opener}
use Rattle.segment_machine.specs.Entry.{fresh, tally_noted}
use Rattle.segment_machine.specs.Note.{refused, units_running}
use Rattle.segment_promises.specs.Follows.{noted_by}
use Rattle.live_segment.specs.Alloc.Claims.{ClaimsForEach}
use Rattle.live_segment.specs.Add.Batch.{HasItems, StopsAtItem, ended_item, holding}
use Rattle.live_segment.specs.Add.Finish.{item_of}
use Rattle.segment_promises.specs.Onward.{DoesOn, GoesOn, SeesOn, is_holding}
use Rattle.live_segment.specs.Add.Refusal.{IsNotCounted, given_up, how_many_ended, refusing_notes}
use Rattle.live_segment.specs.Steps.{IsAtRest}
use Rattle.live_segment.specs.Add.Progress.{HasBegunEntry, LooksFor, FrameOfCall}
use Rattle.live_segment.proofs.lemmas.Add.Blocks.{keeps_none}
use Rattle.live_segment.proofs.lemmas.Add.Batch.Blocks.{claims_all}
use Rattle.live_segment.proofs.lemmas.Add.Ended.{how_many_before, how_many, still_open}
use Rattle.live_segment.proofs.lemmas.Add.Batch.Items.{entries, items_noted, one_more}
use Rattle.live_segment.proofs.lemmas.Add.Batch.ItemsCounted.{ended_items, entries_begun, entries_ended, units_begun}
use Rattle.live_segment.proofs.lemmas.Steps.Proceeding.{proceeds_on}

abbrev over : Known → List (ℤ × ℕ) → List EntryProgress
over known items = map (ended_item known) items

-- the units of what has ended are those of the items
running_units : (known : Known) (items : List (ℤ × ℕ)) → units_running (over known items) known.name ≡ units_of items
running_units known items =
    ap (λ (l : List Entry). tally_noted l known.name) (entries_ended known items) ∙ items_noted known.name (boundaries_of known.spec) items

nothing : (b : Bool) → ◌≡◌ {A = ℕ} (if b then 0 else 0) 0
nothing true = refl
nothing false = refl

-- a call with entries is refused by a note
notes_refused : (before : List EntryProgress) (c : EntryProgress) → refusing_notes (before ++ c ∷ []) ≡ refused (how_many_ended (before ++ c ∷ [])) ∷ []
notes_refused [] c = refl
notes_refused (x ∷ xs) c = refl

-- what a call that has begun with one more holds
pub holds_more : (name : List ℕ) (items : List (ℤ × ℕ)) (item : ℤ × ℕ) (u : Units)
    → holding name (items ++ item ∷ []) u
    ≡ record u { share = u.share - units_of (items ++ item ∷ []); held = record { name = name; units = units_of (items ++ item ∷ []) } ∷ [] }
holds_more name [] item u = refl
holds_more name (x ∷ xs) item u = refl

-- the items are in the log, and their units are spent for their name
pub record IsBack (known : Known) (items : List (ℤ × ℕ)) (old last new : Actor) : Type 0 where
  pub share : new.units.share + units_of items ≡ old.units.share
  pub costs : (other : List ℕ) → cost_of new.units.costs other ≡ cost_of old.units.costs other + (if bytes_eq known.name other then units_of items else 0)
  pub held : new.units.held ≡ []
  pub entries_are : new.entries ≡ record old.entries { log = old.entries.log ++ over known items; running = [] }
  pub else_as_last : new ≡ record last { units = new.units; entries = new.entries; since = new.since }

-- a call that held these units notes that it is refused
module _ (known : Known) (items : List (ℤ × ℕ)) (old last new : Actor) (held k : ℕ) (running : List EntryProgress)
    (units_are : last.units ≡ record old.units { share = old.units.share - held; held = record { name = known.name; units = held } ∷ [] })
    (entries_are : last.entries ≡ record old.entries { running = running }) (first : take k running ≡ over known items) (least : units_of items ≤ held)
    (enough : held ≤ old.units.share) (ends : new ≡ noted_by last (refused k ∷ [])) where
  view : new ≡ noted_by (record last {
    units = record old.units { share = old.units.share - held; held = record { name = known.name; units = held } ∷ [] };
    entries = record old.entries { running = running };
  }) (refused k ∷ [])
  view = ends ∙ (λ i. noted_by (record last { units = units_are i; entries = entries_are i }) (refused k ∷ []))

  spent : units_running (take k running) known.name ≡ units_of items
  spent = ap (λ (l : List EntryProgress). units_running l known.name) first ∙ running_units known items

  pub back_refused : IsBack known items old last new
  back_refused = record {
    share =
        let share : new.units.share ≡ old.units.share - held + (0 + held - (0 + units_running (take k running) known.name)) = ap (λ (x : Actor). x.units.share) view in
        let same = spent in omega (arith, share, same, least, enough);
    costs = λ other.
        let costs : cost_of new.units.costs other ≡ cost_of (old.units.costs ++ record { name = known.name; units = units_running (take k running) known.name } ∷ []) other =
        ap (λ (x : Actor). cost_of x.units.costs other) view in
        let both = sum_by-append (λ (c : Cost). if bytes_eq c.name other then c.units else 0) old.units.costs
        (record { name = known.name; units = units_running (take k running) known.name } ∷ []) in
        let same = ap (λ (n : ℕ). if bytes_eq known.name other then n else 0) spent in omega (arith, costs, both, same);
    held = ap (λ (x : Actor). x.units.held) view;
    entries_are = ap (λ (x : Actor). x.entries) view ∙ ap (λ (l : List EntryProgress). record old.entries { log = old.entries.log ++ l; running = [] }) first;
    else_as_last = subst (λ (x : Actor). x ≡ record last { units = x.units; entries = x.entries; since = x.since }) (sym view) refl;
  }

-- ---- what becomes of a call that is refused

module _ (known : Known) (item : ℤ × ℕ) (old a last new : Actor) (rest : IsAtRest old) (one : 1 ≤ item.1) (looks : LooksFor (item_of known item.0 item.1) a last)
    (ends : new ≡ given_up last) where
  abbrev entry : Entry
  entry = item_of known item.0 item.1

  -- it had not begun with the item
  module _ (units_are : last.units ≡ a.units) (entries_are : last.entries ≡ a.entries) where
    before_it : (items : List (ℤ × ℕ)) → HasItems known items old a → units_of items ≤ old.units.share → IsBack known items old last new
    before_it [] has enough =
        let e = entries_are ∙ has.entries_are in
        let u = units_are ∙ has.units_are in
        let is : new ≡ last = ends ∙ ap (λ (e : Entries). noted_by last (refusing_notes e.running)) e in record {
          share = let share = ap (λ (x : Actor). x.units.share) is ∙ ap (λ (x : Units). x.share) u in omega (arith, share);
          costs = λ other. let costs = ap (λ (x : Actor). cost_of x.units.costs other) is ∙ ap (λ (x : Units). cost_of x.costs other) u in
              let none = nothing (bytes_eq known.name other) in omega (arith, costs, none);
          held = ap (λ (x : Actor). x.units.held) is ∙ (ap (λ (x : Units). x.held) u ∙ rest.holds);
          entries_are = ap (λ (x : Actor). x.entries) is ∙ (e ∙ ap (λ (l : List EntryProgress). record old.entries { log = l; running = [] }) (sym (append-nil old.entries.log)));
          else_as_last = subst (λ (x : Actor). x ≡ record last { units = x.units; entries = x.entries; since = x.since }) (sym is) refl;
        }
    before_it (x ∷ xs) has enough =
        let items = x ∷ xs in
        let e = entries_are ∙ has.entries_are in
        let all = how_many (over known items) (ended_items known items).ended in
        back_refused known items old last new (units_of items) (how_many_ended (over known items)) (over known items) (units_are ∙ has.units_are) e
        (ap (λ (n : ℕ). take n (over known items)) all ∙ taken_all (over known items)) (omega arith) enough
        (ends ∙ ap (λ (y : Entries). noted_by last (refusing_notes y.running)) e)
      where
        taken_all : (l : List EntryProgress) → take (length l) l ≡ l
        taken_all l = ap (take (length l)) (sym (append-nil l)) ∙ take-append_seam l []

  -- it had
  begun_with : (items : List (ℤ × ℕ)) → HasItems known items old a → units_of items + item.1 ≤ old.units.share → HasBegunEntry entry a last
      → IsBack known items old last new
  begun_with items has enough (units_are, entries_are) =
      let running = over known items ++ fresh entry ∷ [] in
      let e = entries_are ∙ entries_begun known item old a rest items has enough in
      let more = one_more known.name (boundaries_of known.spec) items item in
      let many = how_many_before (fresh entry) (still_open (fresh entry) refl one) (over known items) (ended_items known items).ended in
      back_refused known items old last new (units_of (items ++ item ∷ [])) (how_many_ended running) running
      (units_are ∙ (units_begun known item old a rest items has enough ∙ holds_more known.name items item old.units)) e
      (ap (λ (n : ℕ). take n running) many ∙ take-append_seam (over known items) (fresh entry ∷ [])) (omega (arith, more)) (omega (arith, more, enough))
      (ends ∙ (ap (λ (y : Entries). noted_by last (refusing_notes y.running)) e ∙ ap (noted_by last) (notes_refused (over known items) (fresh entry))))

  pub back : (items : List (ℤ × ℕ)) → HasItems known items old a → units_of items + item.1 ≤ old.units.share → IsBack known items old last new
  back items has enough = by looks.begun
    where
      by : ((last.units ≡ a.units) × (last.entries ≡ a.entries)) ⊎ HasBegunEntry entry a last → IsBack known items old last new
      by (inl (units_are, entries_are)) = before_it units_are entries_are items has (omega (arith, enough))
      by (inr begun) = begun_with items has enough begun

-- ---- the batch stops there

module _ (known : Known) (all : List (ℤ × ℕ)) (k : ℕ) (d : ℤ × ℕ) (old a new : Actor) (why : Refusal) (below : k < length all) (rest : IsAtRest old)
    (has : HasItems known (take k all) old a) (one : 1 ≤ (get_or all k d).1) (enough : units_of (take k all) + (get_or all k d).1 ≤ old.units.share)
    (not : IsNotCounted why known (get_or all k d).0 (get_or all k d).1 a new) (each : ClaimsForEach known (take k all) old a) where
  abbrev items : List (ℤ × ℕ)
  items = take k all

  is_back : IsBack known items old not.last new
  is_back = back known (get_or all k d) old a not.last new rest one not.looks not.ends items has enough

  on : FrameOfCall old not.last
  on = proceeds_on old a not.last has.proceeds not.looks.proceeds

  stops_onward : GoesOn old new
  stops_onward =
      let of_last = is_back.else_as_last in
      let same = on.same in
      let running : new.entries ≡ record old.entries { log = new.entries.log } =
      subst (λ (e : Entries). e ≡ record old.entries { log = e.log }) (sym is_back.entries_are)
      (ap (λ (l : List EntryProgress). record old.entries { log = old.entries.log ++ over known items; running = l }) (sym rest.runs)) in record {
        same = of_last
            ∙ ((λ i. record (same i) { units = new.units; entries = running i; since = new.since })
            ∙ sym (ap (λ (x : Actor). record old {
              units = new.units;
              entries = record old.entries { log = new.entries.log };
              hand = x.hand;
              done = x.done;
              seen = x.seen;
              since = new.since;
            }) of_last));
        done = subst (DoesOn old.done) (sym (ap (λ (x : Actor). x.done) of_last)) on.done;
        seen = subst (SeesOn old.seen) (sym (ap (λ (x : Actor). x.seen) of_last)) on.seen;
      }

  stops_rests : IsAtRest new
  stops_rests = let kept = stops_onward.same in record {
    recorder = ap (λ (x : Actor). is_opener x.role) kept ∙ rest.recorder;
    free = ap is_bound not.idle;
    apart = ap is_holding not.idle;
    holds = is_back.held;
    runs = ap (λ (e : Entries). e.running) is_back.entries_are;
    takes = ap (λ (x : Actor). x.deltas.taking) kept ∙ rest.takes;
    owes = ap (λ (x : Actor). x.answers.owed) kept ∙ rest.owes;
  }

  pub stops_at : StopsAtItem known all (record { added = k; why = why }) old new
  stops_at = (
    record {
      item = get_or all k d;
      there = element_at all k d below;
      logged = ap (λ (e : Entries). e.first ++ map (λ (c : EntryProgress). c.entry) e.log) is_back.entries_are
          ∙ (ap (λ (l : List Entry). old.entries.first ++ l)
          (map-append (λ (c : EntryProgress). c.entry) old.entries.log (over known items)
          ∙ ap (λ (l : List Entry). map (λ (c : EntryProgress). c.entry) old.entries.log ++ l) (entries_ended known items))
          ∙ sym (append_assoc old.entries.first (map (λ (c : EntryProgress). c.entry) old.entries.log) (entries known.name (boundaries_of known.spec) items)));
      pays = record { share = is_back.share; spent = is_back.costs };
      at = a;
      counted = (has.proceeds.done, has.proceeds.seen);
      claims = claims_all known items old a a each (keeps_none a);
      lacks = not.lacks;
      onward = stops_onward;
    },
    stops_rests,
  )
