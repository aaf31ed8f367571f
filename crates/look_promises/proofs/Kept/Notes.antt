-- What is noted of a running call is counted: if it is so at one state, it is so at each that is reached from there. And the opener keeps
-- the entries that it began with.
use Rattle.segment_invariant.proofs.Prelude.Std.{◌≡◌, ℕ, ◌==◌, Bool, true, false, List, [], ◌∷◌, refl, sym, ap, subst, ◌∙◌, All, All-nil, All-cons, All-tail, All-push, all_at, map}
use Rattle.segment_invariant.proofs.Prelude.Machine.{Entry, EntryProgress, Actor, offered_of, is_opener, Event, Ready, next, allocating_event, publishing_event, walking_event, counting_event, taking_event, packing_event, load_flags, load_free, exchange_free, store_size, store_cookie, store_type, store_payload, set_corrupt, set_full, store_own_next, load_tail, link, move_tail, after_link, load_next, load_published, load_counts, add_count, add_sum, load_count, raise_mark, load_sum, swap_sum_mark, load_redundant, raise_single_mark, load_single, pack, mount_counts, purge_block, disable, add_moved, after_pack, after_mount, after_disable, Note, Notes, noted, begins, purse, State}
use Rattle.std.proofs.lemmas.List.Elements.{All-set}
use Rattle.segment_machine.specs.Event.{cursor_event}
use Rattle.segment_machine.specs.Allocating.{after_free}
use Rattle.segment_machine.specs.Calls.{IsNext, change_last, change_next}
use Rattle.segment_machine.specs.Counting.{add_redundant}
use Rattle.segment_machine.specs.Cursors.{load_cursor, move_cursor, after_cursor}
use Rattle.segment_machine.specs.Entry.{fresh}
use Rattle.segment_machine.specs.Note.{goes_on, amounts, asks, knows, takes, has_taken, looks, answers, ends, refused, declines}
use Rattle.segment_machine.specs.Reached.{IsReached, started, stepped, announced, offered, split, lent, returned, purse_filled, purse_poured, joined_in}
use Rattle.segment_machine.specs.Seats.{joined, lender, newcomer, offering, parent, giver, getter, spent}
use Rattle.segment_invariant.proofs.Counting.Running.{next_of, all_replaced}
use Rattle.look_promises.specs.OneMoment.{CountsFirst, IsCountedFirst}

-- ---- running entries

-- the entry that is next becomes another, for which this holds too
next_changed : (a : Actor) (c : EntryProgress) (f : EntryProgress → EntryProgress) → IsNext a c → IsCountedFirst (f c) → CountsFirst a
    → All IsCountedFirst (change_next f a.entries.running)
next_changed a c f (rest, is) mine all =
    let next = next_of a.entries.running c rest is in
    subst (All IsCountedFirst) (sym (next.changed f))
    (all_replaced IsCountedFirst next.front next.behind c (f c) (subst (All IsCountedFirst) next.is all) mine)

-- the last one has another amount
last_changed : (f : EntryProgress → EntryProgress) → ((c : EntryProgress) → IsCountedFirst c → IsCountedFirst (f c)) → (list : List EntryProgress)
    → All IsCountedFirst list → All IsCountedFirst (change_last f list)
last_changed f keeps [] all = all
last_changed f keeps (c ∷ []) all = All-cons IsCountedFirst (f c) [] (keeps c (all_at IsCountedFirst (c ∷ []) 0 c all refl)) (All-nil IsCountedFirst)
last_changed f keeps (c ∷ d ∷ rest) all =
    All-cons IsCountedFirst c (change_last f (d ∷ rest)) (all_at IsCountedFirst (c ∷ d ∷ rest) 0 c all refl)
    (last_changed f keeps (d ∷ rest) (All-tail IsCountedFirst c (d ∷ rest) all))

all_fresh : (entries : List Entry) → All IsCountedFirst (map fresh entries)
all_fresh [] = All-nil IsCountedFirst
all_fresh (e ∷ rest) = All-cons IsCountedFirst (fresh e) (map fresh rest) (λ is. absurd (cc is)) (all_fresh rest)

-- ---- an actor continues

-- it has the role that it had, and began with the same, and what it notes is counted
record Goes (a b : Actor) : Type 0 where
  pub role : b.role ≡ a.role
  pub first : b.entries.first ≡ a.entries.first
  pub counts : CountsFirst a → CountsFirst b

rests : (a b : Actor) → b.role ≡ a.role → b.entries ≡ a.entries → Goes a b
rests a b role same = record {
  role = role;
  first = λ i. (same i).first;
  counts = subst (λ e. All IsCountedFirst e.running) (sym same);
}

module _ (a : Actor) where
  freed : (b : Bool) (old new wanted found : ℕ) → Goes a (after_free b a old new wanted found)
  freed true old new wanted found = rests a _ refl refl
  freed false old new wanted found = rests a _ refl refl

  linked : (b : Bool) (tail at found : ℕ) → Goes a (after_link b a tail at found)
  linked true tail at found = rests a _ refl refl
  linked false tail at found = rests a _ refl refl

  packed : (b : Bool) (histogram new found : ℕ) (c : EntryProgress) → IsNext a c → Goes a (after_pack b a histogram new found)
  packed true histogram new found c is = record {
    role = refl;
    first = refl;
    counts = next_changed a c (λ c. record c { counted = true }) is (λ noted. refl);
  }
  packed false histogram new found c is = rests a _ refl refl

  mounted : (b : Bool) (histogram at found : ℕ) → Goes a (after_mount b a histogram at found)
  mounted true histogram at found = rests a _ refl refl
  mounted false histogram at found = rests a _ refl refl

  disabled : (b : Bool) (histogram old found : ℕ) → Goes a (after_disable b a histogram old found)
  disabled true histogram old found = rests a _ refl refl
  disabled false histogram old found = rests a _ refl refl

  gave : (b : Bool) (cursor new found : ℕ) → Goes a (after_cursor b a cursor new found)
  gave true cursor new found = rests a _ refl refl
  gave false cursor new found = rests a _ refl refl

  event_goes : (event : Event) (found : ℕ) → Ready a event → Goes a (next a event found)
  event_goes (allocating_event load_flags) found ready = rests a _ refl refl
  event_goes (allocating_event load_free) found ready = rests a _ refl refl
  event_goes (allocating_event (exchange_free old new wanted)) found ready = freed (found == old) old new wanted found
  event_goes (allocating_event (store_size at size)) found ready = rests a _ refl refl
  event_goes (allocating_event (store_cookie at cookie)) found ready = rests a _ refl refl
  event_goes (allocating_event (store_type at tag)) found ready = rests a _ refl refl
  event_goes (allocating_event (store_payload at index value)) found ready = rests a _ refl refl
  event_goes (allocating_event set_corrupt) found ready = rests a _ refl refl
  event_goes (allocating_event (set_full wanted)) found ready = rests a _ refl refl
  event_goes (publishing_event (store_own_next at)) found ready = rests a _ refl refl
  event_goes (publishing_event load_tail) found ready = rests a _ refl refl
  event_goes (publishing_event (link tail at)) found ready = linked (found == 12) tail at found
  event_goes (publishing_event (move_tail old new)) found ready = rests a _ refl refl
  event_goes (walking_event (load_next at)) found ready = rests a _ refl refl
  event_goes (walking_event (load_published at index)) found ready = rests a _ refl refl
  event_goes (counting_event (load_counts histogram)) found ready = rests a _ refl refl
  event_goes (counting_event (add_count at units)) found ready = record {
    role = refl;
    first = refl;
    counts = next_changed a ready.0 (λ c. record c { counted = true }) ready.2.0 (λ noted. refl);
  }
  event_goes (counting_event (add_sum histogram amount)) found ready = record {
    role = refl;
    first = refl;
    counts = next_changed a ready.1 (λ c. record c { summed = true }) ready.3.0 (λ noted. ready.3.1);
  }
  event_goes (counting_event (add_redundant histogram units)) found ready = record {
    role = refl;
    first = refl;
    counts = next_changed a ready.1 (λ c. record c { noted = true }) ready.3.0 (λ noted. ready.3.1);
  }
  event_goes (taking_event (load_count at)) found ready = rests a _ refl refl
  event_goes (taking_event (raise_mark at least)) found ready = rests a _ refl refl
  event_goes (taking_event (load_sum histogram)) found ready = rests a _ refl refl
  event_goes (taking_event (swap_sum_mark histogram sum)) found ready = rests a _ refl refl
  event_goes (taking_event (load_redundant histogram)) found ready = rests a _ refl refl
  event_goes (taking_event (raise_single_mark histogram least)) found ready = rests a _ refl refl
  event_goes (packing_event (load_single histogram)) found ready = rests a _ refl refl
  event_goes (packing_event (pack histogram old new)) found ready = packed (found == old) histogram new found ready.0 ready.4.0
  event_goes (packing_event (mount_counts histogram at)) found ready = mounted (found == 0) histogram at found
  event_goes (packing_event (purge_block at)) found ready = rests a _ refl refl
  event_goes (packing_event (disable histogram old)) found ready = disabled (found == old) histogram old found
  event_goes (packing_event (add_moved counts bucket units)) found ready = rests a _ refl refl
  event_goes (cursor_event (load_cursor cursor)) found ready = rests a _ refl refl
  event_goes (cursor_event (move_cursor cursor old new)) found ready = gave (found == old) cursor new found

  note_goes : (note : Note) → Goes a (noted a note)
  note_goes (begins name cost entries) = record { role = refl; first = refl; counts = λ all. all_fresh entries }
  note_goes (goes_on entry cost) = record {
    role = refl;
    first = refl;
    counts = λ all. All-push IsCountedFirst a.entries.running (fresh entry) all (λ is. absurd (cc is));
  }
  note_goes (amounts amount) = record {
    role = refl;
    first = refl;
    counts = last_changed (λ c. let entry = c.entry in record c { entry = record entry { amount = amount } }) (λ c keeps. keeps) a.entries.running;
  }
  note_goes (asks at made) = rests a _ refl refl
  note_goes (knows known) = rests a _ refl refl
  note_goes (declines mine) = rests a _ refl refl
  note_goes (takes name) = rests a _ refl refl
  note_goes has_taken = rests a _ refl refl
  note_goes looks = rests a _ refl refl
  note_goes (answers answered) = rests a _ refl refl
  note_goes ends = record { role = refl; first = refl; counts = λ all. All-nil IsCountedFirst }
  note_goes (refused added) = record { role = refl; first = refl; counts = λ all. All-nil IsCountedFirst }

-- ---- all actors

module _ (F : List Entry) where
  -- what holds of each actor: what it notes is counted, and if it is the opener, it began with these
  abbrev pub Holds : Actor → Type 0
  Holds a = CountsFirst a × (is_opener a.role ≡ true → a.entries.first ≡ F)

  goes_on_so : (a b : Actor) → Goes a b → Holds a → Holds b
  goes_on_so a b goes (counts, began) = (goes.counts counts, λ opens. goes.first ∙ began (sym (ap is_opener goes.role) ∙ opens))

  notes_on : (notes : List Note) (a b : Actor) → Notes a notes b → Holds a → Holds b
  notes_on [] a b same has = subst Holds same has
  notes_on (note ∷ rest) a b (may, more) has = notes_on rest (noted a note) b more (goes_on_so a (noted a note) (note_goes a note) has)

  -- an actor that has begun nothing, and is no opener
  of_nobody : (a : Actor) → a.entries.running ≡ [] → is_opener a.role ≡ false → Holds a
  of_nobody a runs role = (subst (All IsCountedFirst) (sym runs) (All-nil IsCountedFirst), λ opens. absurd (cc (role, opens)))

  pub all_hold : (version : ℕ) (start : State) → All Holds start.actors → (state : State) → IsReached version start state → All Holds state.actors
  all_hold version start holds state started = holds
  all_hold version start holds state (stepped old new id event before step) =
      let all = all_hold version start holds old before in
      let at_event = notes_on step.before step.actor step.at step.notes_before (all_at Holds old.actors id step.actor all step.there) in
      let behind = notes_on step.behind (next step.at event _) step.then_is step.notes_behind
      (goes_on_so step.at (next step.at event _) (event_goes step.at event _ step.ready) at_event) in
      subst (All Holds) (sym step.actors_are) (All-set Holds old.actors id step.then_is behind all)
  all_hold version start holds state (announced old new id before (a, b, notes, there, recorder, noting, is)) =
      let all = all_hold version start holds old before in
      subst (All Holds) (sym (ap (λ (s : State). s.actors) is))
      (All-set Holds old.actors id b (notes_on notes a b noting (all_at Holds old.actors id a all there)) all)
  all_hold version start holds state (offered old new id units before (a, there, may, is)) =
      let all = all_hold version start holds old before in
      let has = all_at Holds old.actors id a all there in
      subst (All Holds) (sym (ap (λ (s : State). s.actors) is))
      (All-set Holds old.actors id (offering a units) (has.0, λ opens. has.1 may.1) all)
  all_hold version start holds state (split old new id before (a, there, may, is)) =
      let all = all_hold version start holds old before in
      let has = all_at Holds old.actors id a all there in
      subst (All Holds) (sym (ap (λ (s : State). s.actors) is))
      (All-push Holds _ (newcomer a) (All-set Holds old.actors id (parent a) (has.0, λ opens. has.1 may.1) all) (of_nobody (newcomer a) refl refl))
  all_hold version start holds state (lent old new id other units before (a, b, apart, there, beside, may, is)) =
      let all = all_hold version start holds old before in
      subst (All Holds) (sym (ap (λ (s : State). s.actors) is))
      (All-set Holds _ other (getter b units) (all_at Holds old.actors other b all beside)
      (All-set Holds old.actors id (giver a units) (all_at Holds old.actors id a all there) all))
  all_hold version start holds state (returned old new id other units before (a, b, apart, there, beside, may, is)) =
      let all = all_hold version start holds old before in
      subst (All Holds) (sym (ap (λ (s : State). s.actors) is))
      (All-set Holds _ other (giver b units) (all_at Holds old.actors other b all beside)
      (All-set Holds old.actors id (getter a units) (all_at Holds old.actors id a all there) all))
  all_hold version start holds state (purse_filled old new id before (a, there, may, is)) =
      let all = all_hold version start holds old before in
      let has = all_at Holds old.actors id a all there in
      subst (All Holds) (sym (ap (λ (s : State). s.actors) is))
      (All-push Holds _ (purse (offered_of a.role))
      (All-set Holds old.actors id (lender a) (has.0, λ opens. has.1 may.1) all) (of_nobody (purse (offered_of a.role)) refl refl))
  all_hold version start holds state (purse_poured old new id other before (b, c, apart, there, beside, may, is)) =
      let all = all_hold version start holds old before in
      subst (All Holds) (sym (ap (λ (s : State). s.actors) is))
      (All-set Holds _ other spent (of_nobody spent refl refl)
      (All-set Holds old.actors id (getter b c.units.share) (all_at Holds old.actors id b all there) all))
  all_hold version start holds state (joined_in old new id other before (a, b, apart, there, beside, may, is)) =
      let all = all_hold version start holds old before in
      let has = all_at Holds old.actors id a all there in
      subst (All Holds) (sym (ap (λ (s : State). s.actors) is))
      (All-set Holds _ other spent (of_nobody spent refl refl)
      (All-set Holds old.actors id (joined a b) (has.0, λ opens. has.1 may.1) all))
