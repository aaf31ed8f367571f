-- Items are counted one after the other: a call that has counted some may count the next, and has then counted one more.
use Rattle.std.proofs.Common.{◌≡◌, ◌≢◌, ℕ, ◌+◌, ◌-◌, ◌≤◌, true, false, ℤ, List, [], ◌∷◌, ◌++◌, map, All, inl, inr, refl, sym, ap, ◌∙◌, subst, arith}
use Rattle.std.proofs.lemmas.List.{map-append}
use Rattle.std.proofs.lemmas.List.Elements.{All-nil, All-cons}
use Rattle.bucket_ranges.specs.Ranges.{boundaries_of}
use Rattle.bucket_ranges.specs.Tally.{units_of}
use Rattle.segment_machine.specs.declared.actor.Actor.{Actor}
use Rattle.segment_machine.specs.declared.actor.Cost.{Cost}
use Rattle.segment_machine.specs.declared.actor.Entries.{Entries}
use Rattle.segment_machine.specs.declared.actor.Known.{Known}
use Rattle.segment_machine.specs.declared.actor.Units.{Units}
use Rattle.segment_machine.specs.declared.entry.EntryProgress.{EntryProgress}
use Rattle.segment_machine.specs.declared.entry.Entry.{Entry}
use Rattle.segment_machine.specs.Actor.{is_opener, known_at}
use Rattle.segment_machine.specs.Entry.{AreWithin, fresh, has_ended, item_entry}
use Rattle.segment_machine.specs.Note.{Note}
use Rattle.segment_promises.specs.Follows.{noted_by}
use Rattle.live_segment.specs.Add.Batch.{HasItems, HasNoted, ended_item, holding, noted_next}
use Rattle.live_segment.specs.Add.Finish.{counted_entry, item_of}
use Rattle.live_segment.specs.Steps.{IsAtRest}
use Rattle.live_segment.specs.Steps.GhostNotes.{KnowsAlone, entry_notes}
use Rattle.live_segment.specs.Add.Progress.{CountsAlone, HasNotBegun, HaveEnded, IsOpenTo, counted_next}
use Rattle.live_segment.proofs.lemmas.Add.Beginning.{notes_new}
use Rattle.live_segment.proofs.lemmas.Add.Ended.{changed_behind, goes_on_with, still_open}
use Rattle.live_segment.proofs.lemmas.Add.Batch.Items.{entries, one_more, within_with}
use Rattle.live_segment.proofs.lemmas.Steps.Proceeding.{does_not, proceeds_on, sees_not}

-- their entries have ended
pub ended_items : (known : Known) (items : List (ℤ × ℕ)) → HaveEnded (map (ended_item known) items)
ended_items known items = record { ended = all items; unsummed = none items }
  where
    all : (l : List (ℤ × ℕ)) → All (λ c. has_ended c ≡ true) (map (ended_item known) l)
    all [] = All-nil _
    all (x ∷ xs) = All-cons (λ (c : EntryProgress). has_ended c ≡ true) (ended_item known x) (map (ended_item known) xs) refl (all xs)

    none : (l : List (ℤ × ℕ)) → All (λ c. c.summed ≡ false) (map (ended_item known) l)
    none [] = All-nil _
    none (x ∷ xs) = All-cons (λ (c : EntryProgress). c.summed ≡ false) (ended_item known x) (map (ended_item known) xs) refl (none xs)

-- and are those of the items
pub entries_ended : (known : Known) (items : List (ℤ × ℕ))
    → map (λ (c : EntryProgress). c.entry) (map (ended_item known) items) ≡ entries known.name (boundaries_of known.spec) items
entries_ended known [] = refl
entries_ended known (x ∷ xs) = ap (λ (l : List Entry). item_entry known.name (boundaries_of known.spec) x ∷ l) (entries_ended known xs)

-- ---- the first

pub no_items : (known : Known) (a : Actor) → IsAtRest a → HasItems known [] a a
no_items known a rest = record {
  proceeds = record { same = refl; free = rest.free; done = does_not a.done; seen = sees_not a.seen };
  units_are = refl;
  entries_are = ap (λ (l : List EntryProgress). record a.entries { running = l }) rest.runs;
  filled = refl;
}

module _ (known : Known) (item : ℤ × ℕ) (old a : Actor) (rest : IsAtRest old) where
  abbrev entry : Entry
  entry = item_of known item.0 item.1

  -- what a call that continues holds
  module _ (first : ℤ × ℕ) (behind : List (ℤ × ℕ)) (has : HasItems known (first ∷ behind) old a) where
    abbrev items : List (ℤ × ℕ)
    items = first ∷ behind

    pub running : a.entries.running ≡ map (ended_item known) items
    running = ap (λ (e : Entries). e.running) has.entries_are

    pub some_run : a.entries.running ≢ []
    some_run none = absurd (cc (sym running ∙ none))

    pub all_over : HaveEnded a.entries.running
    all_over = subst HaveEnded (sym running) (ended_items known items)

  -- it may count one more
  pub open_to : (items : List (ℤ × ℕ)) → HasItems known items old a → units_of items + item.1 ≤ old.units.share → IsOpenTo a entry
  open_to [] has enough = inl (
    ap (λ (e : Entries). e.running) has.entries_are,
    ap (λ (u : Units). u.held) has.units_are ∙ rest.holds,
    let share = ap (λ (u : Units). u.share) has.units_are in omega (arith, share, enough),
  )
  open_to (x ∷ xs) has enough = inr (inl (record {
    runs = some_run x xs has;
    ended = all_over x xs has;
    enough = let share = ap (λ (u : Units). u.share) has.units_are in omega (arith, share, enough);
    spent = units_of (x ∷ xs);
    holds = ap (λ (u : Units). u.held) has.units_are;
    within = subst (λ (l : List Entry). AreWithin known.name (units_of (x ∷ xs) + item.1) (l ++ entry ∷ []))
        (sym (ap (map (λ (c : EntryProgress). c.entry)) (running x xs has) ∙ entries_ended known (x ∷ xs)))
        (within_with known.name (boundaries_of known.spec) (x ∷ xs) item);
  }))

  pub may_next : (items : List (ℤ × ℕ)) → KnowsAlone old known → HasItems known items old a → 1 ≤ item.1
      → units_of items + item.1 ≤ old.units.share → CountsAlone a known entry
  may_next items alone has some enough = record {
    recorder = ap (λ (x : Actor). is_opener x.role) has.proceeds.same ∙ rest.recorder;
    free = has.proceeds.free;
    takes = ap (λ (x : Actor). x.deltas.taking) has.proceeds.same ∙ rest.takes;
    begun = open_to items has enough;
    alone = ap (λ (x : Actor). known_at x.answers.names known.reference) has.proceeds.same ∙ alone;
    named = refl;
    some = some;
    amount = refl;
  }

  -- ---- one more is begun with

  none_before : (n : ℕ) → 0 + n ≡ n
  none_before n = omega arith

  less : (s n m : ℕ) → s - n - m ≡ s - (n + m)
  less s n m = omega arith

  pub units_begun : (items : List (ℤ × ℕ)) → HasItems known items old a → units_of items + item.1 ≤ old.units.share
      → (noted_by a (entry_notes a entry)).units ≡ holding known.name (items ++ item ∷ []) old.units
  units_begun [] has enough =
      let new : HasNotBegun a item.1 = (
        ap (λ (e : Entries). e.running) has.entries_are,
        ap (λ (u : Units). u.held) has.units_are ∙ rest.holds,
        let share = ap (λ (u : Units). u.share) has.units_are in omega (arith, share, enough),
      ) in
      ap (λ (ns : List Note). (noted_by a ns).units) (notes_new a entry new)
      ∙ (ap (λ (u : Units). record u { share = u.share - item.1; held = record { name = known.name; units = item.1 } ∷ [] }) has.units_are
      ∙ ap (λ (n : ℕ). record old.units { share = old.units.share - n; held = record { name = known.name; units = n } ∷ [] }) (sym (none_before item.1)))
  units_begun (x ∷ xs) has enough =
      ap (λ (ns : List Note). (noted_by a ns).units) (goes_on_with a.entries.running entry item.1 (some_run x xs has) (all_over x xs has).ended)
      ∙ (ap (λ (u : Units). record u { share = u.share - item.1; held = map (λ (h : Cost). record h { units = h.units + item.1 }) u.held }) has.units_are
      ∙ (ap (λ (n : ℕ). record old.units { share = n; held = record { name = known.name; units = units_of (x ∷ xs) + item.1 } ∷ [] })
      (less old.units.share (units_of (x ∷ xs)) item.1)
      ∙ ap (λ (n : ℕ). record old.units { share = old.units.share - n; held = record { name = known.name; units = n } ∷ [] })
      (sym (one_more known.name (boundaries_of known.spec) (x ∷ xs) item))))

  pub entries_begun : (items : List (ℤ × ℕ)) → HasItems known items old a → units_of items + item.1 ≤ old.units.share
      → (noted_by a (entry_notes a entry)).entries ≡ record old.entries { running = map (ended_item known) items ++ fresh entry ∷ [] }
  entries_begun [] has enough =
      let new : HasNotBegun a item.1 = (
        ap (λ (e : Entries). e.running) has.entries_are,
        ap (λ (u : Units). u.held) has.units_are ∙ rest.holds,
        let share = ap (λ (u : Units). u.share) has.units_are in omega (arith, share, enough),
      ) in
      ap (λ (ns : List Note). (noted_by a ns).entries) (notes_new a entry new)
      ∙ ap (λ (e : Entries). record e { running = fresh entry ∷ [] }) has.entries_are
  entries_begun (x ∷ xs) has enough =
      ap (λ (ns : List Note). (noted_by a ns).entries) (goes_on_with a.entries.running entry item.1 (some_run x xs has) (all_over x xs has).ended)
      ∙ ap (λ (e : Entries). record e { running = e.running ++ fresh entry ∷ [] }) has.entries_are

  -- and is counted and noted
  pub one_counted : (items : List (ℤ × ℕ)) (b : Actor) → HasItems known items old a → 1 ≤ item.1 → units_of items + item.1 ≤ old.units.share
      → HasNoted entry a b → HasItems known (items ++ item ∷ []) old b
  one_counted items b has some enough noted =
      let before = map (ended_item known) items in
      let ended = (ended_items known items).ended in record {
        proceeds = proceeds_on old a b has.proceeds noted.proceeds;
        units_are = noted.units_are ∙ units_begun items has enough;
        entries_are = noted.entries_are
            ∙ (ap (λ (e : Entries). noted_next (counted_next e)) (entries_begun items has enough)
            ∙ (ap (λ (l : List EntryProgress). noted_next (record old.entries { running = l }))
            (changed_behind (fresh entry) (still_open (fresh entry) refl some) (λ c. record c { counted = true }) before ended)
            ∙ (ap (λ (l : List EntryProgress). record old.entries { running = l })
            (changed_behind (counted_entry entry false) (still_open (counted_entry entry false) refl some) (λ c. record c { noted = true }) before ended)
            ∙ ap (λ (l : List EntryProgress). record old.entries { running = l }) (sym (map-append (ended_item known) items (item ∷ []))))));
        filled = noted.filled ∙ has.filled;
      }
