-- Amounts that were added stay added: by any weights of entries of which one without an amount has none, what all actors have added only
-- becomes heavier.
use Rattle.segment_invariant.proofs.Prelude.Std.{◌≡◌, ◌≢◌, ◌||◌, ◌&&◌, ℕ, zero, suc, ◌+◌, ◌<◌, ◌≤◌, ◌==◌, ℤ, pos, Bool, true, false, cond, not, if◌then◌else◌, List, [], ◌∷◌, ◌++◌, map, filter, flat_map, take, drop, take-append-drop, sum_by, sum_by-append, sum_by-cons, refl, sym, ap, subst, ◌∙◌, arith, int_eq, Decides-int_eq, and_parts, All, All-head, All-tail, All-weaker, some, some-injective, get_elem?, dite, ℕ_discrete, set, set_else, sum_beside}
use Rattle.segment_invariant.proofs.Prelude.Machine.{Dimensions, State, Entry, EntryProgress, Actor, is_summed, is_untouched, all_summed, summed_of, offered_of, is_opener, Event, Ready, next, allocating_event, publishing_event, walking_event, counting_event, taking_event, packing_event, load_flags, load_free, exchange_free, store_size, store_cookie, store_type, store_payload, set_corrupt, set_full, store_own_next, load_tail, link, move_tail, after_link, load_next, load_published, load_counts, add_count, add_sum, load_count, raise_mark, load_sum, swap_sum_mark, load_redundant, raise_single_mark, load_single, pack, mount_counts, purge_block, disable, add_moved, after_pack, after_mount, after_disable, Note, Notes, noted, begins, purse, fresh}
use Rattle.segment_invariant.proofs.Prelude.Invariant.{Anatomy, Invariant}
use Rattle.segment_machine.specs.Event.{cursor_event}
use Rattle.segment_machine.specs.Allocating.{after_free}
use Rattle.segment_machine.specs.Calls.{IsNext, change_last, change_next}
use Rattle.segment_machine.specs.Counting.{add_redundant}
use Rattle.segment_machine.specs.Cursors.{load_cursor, move_cursor, after_cursor}
use Rattle.segment_machine.specs.Entry.{summed_among}
use Rattle.segment_machine.specs.Note.{MayNote, goes_on, amounts, asks, knows, takes, has_taken, looks, answers, ends, refused, declines}
use Rattle.segment_machine.specs.Reached.{IsReached, started, stepped, announced, offered, split, lent, returned, purse_filled, purse_poured, joined_in}
use Rattle.segment_machine.specs.Seats.{joined, lender, newcomer, offering, parent, giver, getter, spent}
use Rattle.segment_invariant.proofs.Counting.Running.{next_of}
use Rattle.segment_promises.proofs.Reached.{states_rise}

module _ (weight : Entry → ℕ) (light : (e : Entry) → e.amount ≡ pos 0 → weight e ≡ 0) where
  -- ---- what was added of entries

  abbrev of_one : EntryProgress → ℕ
  of_one c = if c.summed then weight c.entry else 0

  abbrev of_list : List EntryProgress → ℕ
  of_list list = sum_by of_one list

  -- of an actor's
  abbrev added : Actor → ℕ
  added a = sum_by weight a.entries.first + (of_list a.entries.log + of_list a.entries.running)

  one_is : (c : EntryProgress) → (if is_summed c then weight c.entry else 0) ≡ of_one c
  one_is c = by_flag c.summed (int_eq c.entry.amount (pos 0)) (λ none. light c.entry ((Decides-int_eq c.entry.amount (pos 0)).0 none))
    where
      by_flag : (s t : Bool) → (t ≡ true → weight c.entry ≡ 0) → (if s || t then weight c.entry else 0) ≡ (if s then weight c.entry else 0)
      by_flag true t none = refl
      by_flag false true none = none refl
      by_flag false false none = refl

  among_is : (list : List EntryProgress) → sum_by weight (summed_among list) ≡ of_list list
  among_is [] = refl
  among_is (c ∷ rest) =
      let one = one_is c in
      let others = among_is rest in
      let whole = sum_by-cons of_one c rest in
      let front = by_test (is_summed c) in
      omega (arith, one, others, whole, front)
    where
      by_test : (b : Bool) → sum_by weight (map (λ c. c.entry) (cond b (c ∷ filter is_summed rest) (filter is_summed rest)))
          ≡ (if b then weight c.entry else 0) + sum_by weight (summed_among rest)
      by_test true = sum_by-cons weight c.entry (summed_among rest)
      by_test false = omega arith

  of_actor : (a : Actor) → sum_by weight (summed_of a) ≡ added a
  of_actor a =
      let parts = sum_by-append weight a.entries.first (summed_among (a.entries.log ++ a.entries.running)) in
      let progress = among_is (a.entries.log ++ a.entries.running) in
      let both = sum_by-append of_one a.entries.log a.entries.running in
      omega (arith, parts, progress, both)

  of_all : (actors : List Actor) → sum_by weight (all_summed actors) ≡ sum_by added actors
  of_all [] = refl
  of_all (a ∷ rest) =
      let parts = sum_by-append weight (summed_of a) (all_summed rest) in
      let first = of_actor a in
      let others = of_all rest in
      let whole = sum_by-cons added a rest in
      omega (arith, parts, first, others, whole)

  -- ---- an actor goes on

  -- what does not touch its entries leaves it as it is
  rests : (n : ℕ) → n ≤ n
  rests n = omega arith

  -- the entry that is next becomes another one, of which no less was added
  next_changed : (a : Actor) (c : EntryProgress) (f : EntryProgress → EntryProgress) → IsNext a c → of_one c ≤ of_one (f c)
      → of_list a.entries.running ≤ of_list (change_next f a.entries.running)
  next_changed a c f (rest, is) more =
      let next = next_of a.entries.running c rest is in
      let was = ap of_list next.is in
      let now = ap of_list (next.changed f) in
      let p = sum_by-append of_one next.front (c ∷ next.behind) in
      let q = sum_by-append of_one next.front (f c ∷ next.behind) in
      let r = sum_by-cons of_one c next.behind in
      let s = sum_by-cons of_one (f c) next.behind in
      omega (arith, more, was, now, p, q, r, s)

  summed_more : (c : EntryProgress) → of_one c ≤ of_one (record c { summed = true })
  summed_more c = by_flag c.summed
    where
      by_flag : (b : Bool) → (if b then weight c.entry else 0) ≤ weight c.entry
      by_flag true = omega arith
      by_flag false = omega arith

  -- entries of which nothing was added
  none_fresh : (entries : List Entry) → of_list (map fresh entries) ≡ 0
  none_fresh [] = refl
  none_fresh (e ∷ rest) =
      let others = none_fresh rest in
      let whole = sum_by-cons of_one (fresh e) (map fresh rest) in
      omega (arith, others, whole)

  none_of : (list : List EntryProgress) → All (λ c. of_one c ≡ 0) list → of_list list ≡ 0
  none_of [] all = refl
  none_of (c ∷ rest) all =
      let first = All-head (λ c. of_one c ≡ 0) c rest all in
      let others = none_of rest (All-tail (λ c. of_one c ≡ 0) c rest all) in
      let whole = sum_by-cons of_one c rest in
      omega (arith, first, others, whole)

  unsummed : (c : EntryProgress) → c.summed ≡ false → of_one c ≡ 0
  unsummed c is = ap (λ (b : Bool). if b then weight c.entry else 0) is

  no_amount : (c : EntryProgress) → c.entry.amount ≡ pos 0 → of_one c ≡ 0
  no_amount c none = by_flag c.summed (light c.entry none)
    where
      by_flag : (b : Bool) → weight c.entry ≡ 0 → (if b then weight c.entry else 0) ≡ 0
      by_flag true is = is
      by_flag false is = refl

  untouched : (c : EntryProgress) → is_untouched c ≡ true → of_one c ≡ 0
  untouched c is = by_flag c.summed refl (and_parts (not c.counted && not c.summed) (not c.noted) is).0
    where
      by_flag : (b : Bool) → c.summed ≡ b → (not c.counted && not c.summed) ≡ true → of_one c ≡ 0
      by_flag false none both = unsummed c none
      by_flag true some_summed both =
          let not_so = (and_parts (not c.counted) (not c.summed) both).1 in
          absurd (cc (some_summed, not_so))

  module _ (a : Actor) where
    freed : (b : Bool) (old new wanted found : ℕ) → added a ≤ added (after_free b a old new wanted found)
    freed true old new wanted found = rests (added a)
    freed false old new wanted found = rests (added a)

    linked : (b : Bool) (tail at found : ℕ) → added a ≤ added (after_link b a tail at found)
    linked true tail at found = rests (added a)
    linked false tail at found = rests (added a)

    packed : (b : Bool) (histogram new found : ℕ) (c : EntryProgress) → IsNext a c → added a ≤ added (after_pack b a histogram new found)
    packed true histogram new found c is =
        let more = next_changed a c (λ c. record c { counted = true }) is (omega arith) in
        omega (arith, more)
    packed false histogram new found c is = rests (added a)

    mounted : (b : Bool) (histogram at found : ℕ) → added a ≤ added (after_mount b a histogram at found)
    mounted true histogram at found = rests (added a)
    mounted false histogram at found = rests (added a)

    disabled : (b : Bool) (histogram old found : ℕ) → added a ≤ added (after_disable b a histogram old found)
    disabled true histogram old found = rests (added a)
    disabled false histogram old found = rests (added a)

    gave : (b : Bool) (cursor new found : ℕ) → added a ≤ added (after_cursor b a cursor new found)
    gave true cursor new found = rests (added a)
    gave false cursor new found = rests (added a)

    event_adds : (event : Event) (found : ℕ) → Ready a event → added a ≤ added (next a event found)
    event_adds (allocating_event load_flags) found ready = rests (added a)
    event_adds (allocating_event load_free) found ready = rests (added a)
    event_adds (allocating_event (exchange_free old new wanted)) found ready = freed (found == old) old new wanted found
    event_adds (allocating_event (store_size at size)) found ready = rests (added a)
    event_adds (allocating_event (store_cookie at cookie)) found ready = rests (added a)
    event_adds (allocating_event (store_type at tag)) found ready = rests (added a)
    event_adds (allocating_event (store_payload at index value)) found ready = rests (added a)
    event_adds (allocating_event set_corrupt) found ready = rests (added a)
    event_adds (allocating_event (set_full wanted)) found ready = rests (added a)
    event_adds (publishing_event (store_own_next at)) found ready = rests (added a)
    event_adds (publishing_event load_tail) found ready = rests (added a)
    event_adds (publishing_event (link tail at)) found ready = linked (found == 12) tail at found
    event_adds (publishing_event (move_tail old new)) found ready = rests (added a)
    event_adds (walking_event (load_next at)) found ready = rests (added a)
    event_adds (walking_event (load_published at index)) found ready = rests (added a)
    event_adds (counting_event (load_counts histogram)) found ready = rests (added a)
    event_adds (counting_event (add_count at units)) found ready =
        let more = next_changed a ready.0 (λ c. record c { counted = true }) ready.2.0 (omega arith) in
        omega (arith, more)
    event_adds (counting_event (add_sum histogram amount)) found ready =
        let more = next_changed a ready.1 (λ c. record c { summed = true }) ready.3.0 (summed_more ready.1) in
        omega (arith, more)
    event_adds (counting_event (add_redundant histogram units)) found ready =
        let more = next_changed a ready.1 (λ c. record c { noted = true }) ready.3.0 (omega arith) in
        omega (arith, more)
    event_adds (taking_event (load_count at)) found ready = rests (added a)
    event_adds (taking_event (raise_mark at least)) found ready = rests (added a)
    event_adds (taking_event (load_sum histogram)) found ready = rests (added a)
    event_adds (taking_event (swap_sum_mark histogram sum)) found ready = rests (added a)
    event_adds (taking_event (load_redundant histogram)) found ready = rests (added a)
    event_adds (taking_event (raise_single_mark histogram least)) found ready = rests (added a)
    event_adds (packing_event (load_single histogram)) found ready = rests (added a)
    event_adds (packing_event (pack histogram old new)) found ready = packed (found == old) histogram new found ready.0 ready.4.0
    event_adds (packing_event (mount_counts histogram at)) found ready = mounted (found == 0) histogram at found
    event_adds (packing_event (purge_block at)) found ready = rests (added a)
    event_adds (packing_event (disable histogram old)) found ready = disabled (found == old) histogram old found
    event_adds (packing_event (add_moved counts bucket units)) found ready = rests (added a)
    event_adds (cursor_event (load_cursor cursor)) found ready = rests (added a)
    event_adds (cursor_event (move_cursor cursor old new)) found ready = gave (found == old) cursor new found

    note_adds : (note : Note) → MayNote a note → added a ≤ added (noted a note)
    note_adds (begins name cost entries) may =
        let none = ap of_list may.2 in
        let none_yet = none_fresh entries in
        omega (arith, none, none_yet)
    note_adds (goes_on entry cost) may =
        let both = sum_by-append of_one a.entries.running (fresh entry ∷ []) in
        omega (arith, both)
    note_adds (amounts amount) may =
        let none = none_of a.entries.running (All-weaker (λ c. c.entry.amount ≡ pos 0) (λ c. of_one c ≡ 0) (λ c is. no_amount c is) a.entries.running may.1) in
        omega (arith, none)
    note_adds (asks at made) may = rests (added a)
    note_adds (knows known) may = rests (added a)
    note_adds (declines mine) may = rests (added a)
    note_adds (takes name) may = rests (added a)
    note_adds has_taken may = rests (added a)
    note_adds looks may = rests (added a)
    note_adds (answers answered) may = rests (added a)
    note_adds ends may =
        let both = sum_by-append of_one a.entries.log a.entries.running in
        omega (arith, both)
    note_adds (refused few) may =
        let both = sum_by-append of_one a.entries.log (take few a.entries.running) in
        let split = ap of_list (take-append-drop few a.entries.running) in
        let parts = sum_by-append of_one (take few a.entries.running) (drop few a.entries.running) in
        let none = none_of (drop few a.entries.running) (All-weaker (λ c. is_untouched c ≡ true) (λ c. of_one c ≡ 0) (λ c is. untouched c is) (drop few a.entries.running) may.2) in
        omega (arith, both, split, parts, none)

  notes_add : (notes : List Note) (a b : Actor) → Notes a notes b → added a ≤ added b
  notes_add [] a b same = let e = ap added same in omega (arith, e)
  notes_add (note ∷ rest) a b (may, more) =
      let first = note_adds a note may in
      let others = notes_add rest (noted a note) b more in
      omega (arith, first, others)

  step_adds : (a at then_is : Actor) (before behind : List Note) (event : Event) (found : ℕ) → Notes a before at → Ready at event
      → Notes (next at event found) behind then_is → added a ≤ added then_is
  step_adds a at then_is before behind event found first ready last =
      let notes_first = notes_add before a at first in
      let mid = event_adds at event found ready in
      let notes_last = notes_add behind (next at event found) then_is last in
      omega (arith, notes_first, mid, notes_last)

  -- ---- all actors

  -- one of them goes on
  one_adds : (actors : List Actor) (id : ℕ) (a b : Actor) → get_elem? actors id ≡ some a → added a ≤ added b → sum_by added actors ≤ sum_by added (set actors id b)
  one_adds actors id a b there more = let beside = sum_beside added actors id a b there in omega (arith, more, beside)

  -- what two of them have, one of them has
  two_add : (actors : List Actor) (id other : ℕ) (a b c d : Actor) → id ≢ other → get_elem? actors id ≡ some a → get_elem? actors other ≡ some b
      → added a + added b ≤ added c + added d → sum_by added actors ≤ sum_by added (set (set actors id c) other d)
  two_add actors id other a b c d apart there beside more =
      let first = sum_beside added actors id a c there in
      let second = sum_beside added (set actors id c) other b d (set_else actors id other c (λ same. apart (sym same)) ∙ beside) in
      omega (arith, more, first, second)

  -- one more has nothing to take away
  pushed : (actors : List Actor) (a : Actor) → sum_by added actors ≤ sum_by added (actors ++ a ∷ [])
  pushed actors a = let both = sum_by-append added actors (a ∷ []) in omega (arith, both)

  module _ (shape : Dimensions) (opened : Anatomy) (start : State) (kept : Invariant shape opened start) where
    -- a recorder began with nothing
    began_empty : (state : State) → IsReached opened.version start state → (id : ℕ) (a : Actor) → get_elem? state.actors id ≡ some a → is_opener a.role ≡ false
        → a.entries.first ≡ []
    began_empty state reached id a there recorder =
        let roles = (states_rise shape opened start state kept reached).0.roles in
        dite (ℕ_discrete id 0)
        (λ zero_is.
        let here : get_elem? state.actors 0 ≡ some a = subst (λ (n : ℕ). get_elem? state.actors n ≡ some a) zero_is there in
        let same : a ≡ roles.opener = some-injective a roles.opener (sym here ∙ roles.stands) in
        let opens : is_opener a.role ≡ true = ap (λ (b : Actor). is_opener b.role) same ∙ roles.opens in
        absurd (cc (opens, recorder)))
        (λ ne. (roles.only id a there ne).1)

    adds_on : (state : State) → IsReached opened.version start state → sum_by added start.actors ≤ sum_by added state.actors
    adds_on state started = omega arith
    adds_on state (stepped old new id event before step) =
        let all = adds_on old before in
        let more = step_adds step.actor step.at step.then_is step.before step.behind event _ step.notes_before step.ready step.notes_behind in
        let one = one_adds old.actors id step.actor step.then_is step.there more in
        let is = ap (sum_by added) step.actors_are in
        omega (arith, all, one, is)
    adds_on state (announced old new id before (a, b, notes, there, recorder, noting, is)) =
        let all = adds_on old before in
        let one = one_adds old.actors id a b there (notes_add notes a b noting) in
        let same = ap (λ (s : State). sum_by added s.actors) is in
        omega (arith, all, one, same)
    adds_on state (offered old new id units before (a, there, may, is)) =
        let all = adds_on old before in
        let one = one_adds old.actors id a (offering a units) there (rests (added a)) in
        let same = ap (λ (s : State). sum_by added s.actors) is in
        omega (arith, all, one, same)
    adds_on state (split old new id before (a, there, may, is)) =
        let all = adds_on old before in
        let one = one_adds old.actors id a (parent a) there (rests (added a)) in
        let more = pushed (set old.actors id (parent a)) (newcomer a) in
        let same = ap (λ (s : State). sum_by added s.actors) is in
        omega (arith, all, one, more, same)
    adds_on state (lent old new id other units before (a, b, apart, there, beside, may, is)) =
        let all = adds_on old before in
        let two = two_add old.actors id other a b (giver a units) (getter b units) apart there beside (omega arith) in
        let same = ap (λ (s : State). sum_by added s.actors) is in
        omega (arith, all, two, same)
    adds_on state (returned old new id other units before (a, b, apart, there, beside, may, is)) =
        let all = adds_on old before in
        let two = two_add old.actors id other a b (getter a units) (giver b units) apart there beside (omega arith) in
        let same = ap (λ (s : State). sum_by added s.actors) is in
        omega (arith, all, two, same)
    adds_on state (purse_filled old new id before (a, there, may, is)) =
        let all = adds_on old before in
        let one = one_adds old.actors id a (lender a) there (rests (added a)) in
        let more = pushed (set old.actors id (lender a)) (purse (offered_of a.role)) in
        let same = ap (λ (s : State). sum_by added s.actors) is in
        omega (arith, all, one, more, same)
    adds_on state (purse_poured old new id other before (b, c, apart, there, beside, may, is)) =
        let all = adds_on old before in
        let empty = ap added may.2 in
        let two = two_add old.actors id other b c (getter b c.units.share) spent apart there beside (omega (arith, empty)) in
        let same = ap (λ (s : State). sum_by added s.actors) is in
        omega (arith, all, two, same)
    adds_on state (joined_in old new id other before (a, b, apart, there, beside, may, is)) =
        let all = adds_on old before in
        let none = ap (sum_by weight) (began_empty old before other b beside may.4) in
        let at_rest = ap of_list may.6 in
        let both = sum_by-append of_one a.entries.log b.entries.log in
        let two = two_add old.actors id other a b (joined a b) spent apart there beside (omega (arith, none, at_rest, both)) in
        let same = ap (λ (s : State). sum_by added s.actors) is in
        omega (arith, all, two, same)

    pub added_rises : (state : State) → IsReached opened.version start state → sum_by weight (all_summed start.actors) ≤ sum_by weight (all_summed state.actors)
    added_rises state reached =
        let before = of_all start.actors in
        let after = of_all state.actors in
        let rises = adds_on state reached in
        omega (arith, before, after, rises)
