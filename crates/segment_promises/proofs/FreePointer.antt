-- The free pointer is raised by exchanges that note it, and by nothing else.
use Rattle.segment_invariant.proofs.Prelude.Std.{◌≡◌, ◌≢◌, ◌⊎◌, ℕ, ◌+◌, ◌-◌, ◌≤◌, ◌<◌, Bool, true, false, List, [], ◌∷◌, ◌++◌, length, set, take, inl, inr, refl, sym, ap, subst, ◌∙◌, ⊎_elim, arith, max, Contains, All-contains, Contains-append_right, sum_by, sum_by-append, none, flat_map, length-append, sum_by-cons, get_or_append_left, set-get_or, some, get_elem?, eqb-true, set_else, sum_beside, sum_at_least, if◌then◌else◌}
use Rattle.segment_invariant.proofs.Prelude.Machine.{Dimensions, IsShape, word_at, Actor, Own, Place, Spent, IsStop, Event, Ready, next, spot, allocating_event, publishing_event, walking_event, counting_event, taking_event, packing_event, load_flags, load_free, exchange_free, store_size, store_cookie, store_type, store_payload, set_corrupt, set_full, store_own_next, load_tail, link, move_tail, after_link, load_next, load_published, load_counts, add_count, add_sum, load_count, raise_mark, load_sum, swap_sum_mark, load_redundant, raise_single_mark, load_single, pack, mount_counts, purge_block, disable, add_moved, after_pack, after_mount, after_disable, back, sight, Note, Notes, noted, begins, is_opener, offered_of, purse, State}
use Rattle.segment_invariant.proofs.Prelude.Invariant.{Anatomy, Body, layout_of, order_of, Stands, WasCounter, StandsRight, HoldsOwn, Invariant, found_at}
use Rattle.std.proofs.Common.{eqb}
use Rattle.std.proofs.lemmas.List.{get_or-set_other, get_or-set_same, get_or-take}
use Rattle.std.proofs.lemmas.List.Sums.{sum_by_push}
use Rattle.alloc_core.proofs.Layouts.{length_shown}
use Rattle.alloc_core.proofs.Owners.{set_at}
use Rattle.segment_machine.specs.declared.seen.Sighting.{Sighting}
use Rattle.segment_machine.specs.declared.place.Place.TheVariants as places
use Rattle.segment_machine.specs.declared.actor.Rise.{Rise}
use mathlib.Core.Option as logic
use Rattle.segment_machine.specs.Event.{after, change, cursor_event}
use Rattle.segment_machine.specs.Allocating.{after_free}
use Rattle.segment_machine.specs.Counting.{add_redundant}
use Rattle.segment_machine.specs.Cursors.{load_cursor, move_cursor, after_cursor}
use Rattle.segment_machine.specs.Note.{goes_on, amounts, asks, knows, takes, has_taken, looks, answers, ends, refused, declines}
use Rattle.segment_machine.specs.Reached.{IsJoined, IsReached, started, stepped, announced, offered, split, lent, returned, purse_filled, purse_poured, joined_in}
use Rattle.segment_machine.specs.Seats.{parent, newcomer, getter, giver, joined, lender, offering, spent}
use Rattle.segment_machine.specs.State.{memory, IsStep}
use Rattle.segment_invariant.specs.Keeps.{happened}
use Rattle.segment_invariant.proofs.Allocating.Rises.{rise_of}
use Rattle.segment_invariant.proofs.Blocks.Pieces.{piece_from, free_least, free_within}
use Rattle.segment_invariant.proofs.Blocks.Stops.{stop_open}
use Rattle.segment_invariant.proofs.Events.{events_keep}
use Rattle.segment_invariant.proofs.Frames.Spending.{spent_or_not}
use Rattle.segment_invariant.proofs.Notes.Announcements.{with_actor, notes_follow}
use Rattle.segment_promises.specs.FreePointer.{raised_by, all_raised, FreePointerIsRaised}
use Rattle.segment_promises.proofs.Joined.{gathered}
use Rattle.segment_promises.proofs.Reached.{reached_states_follow}
use Rattle.segment_promises.proofs.Steps.{words_of_memory}

-- ---- where events act

module _ (shape : Dimensions) (opened : Anatomy) (state : State) (kept : Invariant shape opened state) where
  -- a block begins at word 12 or later
  from : (at : ℕ) (owner : logic.Option ℕ) (body : Body) → Stands kept.anatomy.pieces at owner body → 12 ≤ at
  from at owner body (k, there) =
      ⊎_elim (λ (e : at ≡ 12). omega (arith, e)) (λ (low : 16 ≤ at). omega (arith, low)) (piece_from shape state.words kept.anatomy kept.shown k _ there)

  -- so does a counter that was seen
  counter_from : (s : Sighting) → WasCounter kept.anatomy.pieces s → 12 ≤ s.at
  counter_from s (at, i, body, stands, is, counter, least) = let low = from at none body stands in omega (arith, is, low)

  -- and a stop of the list
  stop_from : (at : ℕ) → IsStop (order_of kept.anatomy) at → 12 ≤ at
  stop_from at stop =
      let open_one = stop_open shape state.words kept.anatomy kept.shown kept.list.standing at stop in
      let begins = open_one.begins in
      ⊎_elim (λ (e : open_one.piece.at ≡ 12). omega (arith, e, begins)) (λ (low : 16 ≤ open_one.piece.at). omega (arith, low, begins))
      (piece_from shape state.words kept.anatomy kept.shown open_one.index open_one.piece open_one.there)

  -- the words go beyond those of the header
  pub many_words : 16 ≤ length state.words
  many_words =
      let least = free_least shape state.words kept.anatomy kept.shown in
      let most = free_within shape state.words kept.anatomy kept.shown in
      let long = length_shown shape state.words (layout_of kept.anatomy) kept.shown in
      omega (arith, least, most, long)

-- it is at some place once it went back
back_lives : (p : Place) → back p ≢ Spent
back_lives (places.Losing look at) is = cc is
back_lives (places.Moving look bucket units) is = cc is
back_lives (places.CountLoaded look bucket count) is = cc is
back_lives (places.Looking look) is = cc is
back_lives p is = cc is

module _ (shape : Dimensions) (opened : Anatomy) (state : State) (kept : Invariant shape opened state) (id : ℕ) (a : Actor)
    (mine : get_elem? state.actors id ≡ some a) (records : is_opener a.role ≡ false) where
  abbrev size : ℕ
  size = length state.words

  stands_at : (p : Place) → a.hand.place ≡ p → StandsRight shape kept.anatomy id a p
  stands_at p is = subst (StandsRight shape kept.anatomy id a) is (kept.standing id a mine)

  -- so do the blocks in its hands
  own_from : (own : Own) → Contains a.hand.own own → 12 ≤ own.at
  own_from own there = ⊎_elim
      (λ is_spent.
      let none_there : Contains [] own = subst (λ (x : Actor). Contains x.hand.own own) (stands_at Spent is_spent) there in
      let below = none_there.1 in
      absurd (omega (arith, below)))
      (λ lives. from shape opened state kept own.at _ _ (All-contains (HoldsOwn shape kept.anatomy.pieces id) a.hand.own own (kept.each id a mine lives).own there).stands)
      (spent_or_not a.hand.place)

  -- so does a counter that it saw at an event
  sight_from : (event : Event) → Ready a event → (at word : ℕ) (before : List Sighting) → (next a event (found_at state event)).hand.place ≢ Spent
      → (next a event (found_at state event)).seen.counts ≡ before ++ sight at word → 12 ≤ at
  sight_from event ready at word before lives is =
      let acted : Actor = next a event (found_at state event) in
      let new : State = happened opened.version state id a event in
      let on : Invariant shape opened new = (events_keep event shape opened state id a kept mine records ready).0.0 in
      let last : Sighting = record { at = at; word = word } in
      let among : Contains acted.seen.counts last =
      subst (λ (list : List Sighting). Contains list last) (sym is) (Contains-append_right before (sight at word) last (0, omega arith, refl)) in
      counter_from shape opened new on last
      (All-contains (WasCounter on.anatomy.pieces) acted.seen.counts last (on.each id acted (set_at state.actors id a acted mine) lives).sees.counters among)

  -- an event changes no word, or another one than the free pointer
  abbrev Leaves : Event → Type 0
  Leaves event = ((n : ℕ) → change opened.version event n ≡ n) ⊎ (spot size event ≢ 7)

  -- or it exchanges the free pointer
  abbrev Exchanges : Event → Type 0
  Exchanges event = (old new wanted : ℕ) × (event ≡ allocating_event (exchange_free old new wanted))

  leaves : (event : Event) → Ready a event → Leaves event ⊎ Exchanges event
  leaves (allocating_event load_flags) ready = inl (inl (λ n. refl))
  leaves (allocating_event load_free) ready = inl (inl (λ n. refl))
  leaves (allocating_event (exchange_free old new wanted)) ready = inr (old, new, wanted, refl)
  leaves (allocating_event (store_size at words)) (wanted, placed) =
      let low = from shape opened state kept at _ _ (stands_at (places.Raised at words wanted) placed).1 in
      inl (inr (λ (is : at ≡ 7). omega (arith, is, low)))
  leaves (allocating_event (store_cookie at cookie)) (words, wanted, placed, said) =
      let low = from shape opened state kept at _ _ (stands_at (places.Sized at words wanted) placed).1 in
      inl (inr (λ (is : at + 1 ≡ 7). omega (arith, is, low)))
  leaves (allocating_event (store_type at tag)) ((words, placed), least, most) =
      let low = from shape opened state kept at _ _ (stands_at (places.Marked at words) placed).1 in
      inl (inr (λ (is : at + 2 ≡ 7). omega (arith, is, low)))
  leaves (allocating_event (store_payload at index value)) (own, fills, place, least, most) =
      let low = own_from own fills.0 in
      inl (inr (λ (is : at + (4 + index) ≡ 7). omega (arith, is, low, place)))
  leaves (allocating_event set_corrupt) ready = inl (inr (λ (is : 6 ≡ 7). omega (arith, is)))
  leaves (allocating_event (set_full wanted)) ready = inl (inr (λ (is : 6 ≡ 7). omega (arith, is)))
  leaves (publishing_event (store_own_next at)) (own, fills, place) =
      let low = own_from own fills.0 in
      inl (inr (λ (is : at + 3 ≡ 7). omega (arith, is, low, place)))
  leaves (publishing_event load_tail) ready = inl (inl (λ n. refl))
  leaves (publishing_event (link tail at)) ready =
      let reached = (stands_at (places.TailLoaded tail) ready.2).1 in
      let low = stop_from shape opened state kept tail (reached.0, reached.2, reached.3) in
      inl (inr (λ (is : tail + 3 ≡ 7). omega (arith, is, low)))
  leaves (publishing_event (move_tail old new)) ready = inl (inr (λ (is : 8 ≡ 7). omega (arith, is)))
  leaves (walking_event (load_next at)) ready = inl (inl (λ n. refl))
  leaves (walking_event (load_published at index)) ready = inl (inl (λ n. refl))
  leaves (counting_event (load_counts histogram)) ready = inl (inl (λ n. refl))
  leaves (counting_event (add_count at units)) ready =
      let low = sight_from (counting_event (add_count at units)) ready at (found_at state (counting_event (add_count at units)) + units) a.seen.counts (λ is. cc is) refl in
      inl (inr (λ (is : at ≡ 7). omega (arith, is, low)))
  leaves (counting_event (add_sum histogram amount)) ready = inl (inr (λ (is : histogram + 11 ≡ 7). omega (arith, is)))
  leaves (counting_event (add_redundant histogram units)) ready = inl (inr (λ (is : histogram + 13 ≡ 7). omega (arith, is)))
  leaves (taking_event (load_count at)) ready = inl (inl (λ n. refl))
  leaves (taking_event (raise_mark at least)) ready =
      let low = sight_from (taking_event (raise_mark at least)) ready at (max (found_at state (taking_event (raise_mark at least))) least) a.seen.counts
      (back_lives a.hand.place) refl in
      inl (inr (λ (is : at ≡ 7). omega (arith, is, low)))
  leaves (taking_event (raise_single_mark histogram least)) ready = inl (inr (λ (is : histogram + 10 ≡ 7). omega (arith, is)))
  leaves (taking_event (load_sum histogram)) ready = inl (inl (λ n. refl))
  leaves (taking_event (swap_sum_mark histogram sum)) ready = inl (inr (λ (is : histogram + 12 ≡ 7). omega (arith, is)))
  leaves (taking_event (load_redundant histogram)) ready = inl (inl (λ n. refl))
  leaves (packing_event (load_single histogram)) ready = inl (inl (λ n. refl))
  leaves (packing_event (pack histogram old new)) ready = inl (inr (λ (is : histogram + 9 ≡ 7). omega (arith, is)))
  leaves (packing_event (mount_counts histogram at)) ready = inl (inr (λ (is : histogram + 8 ≡ 7). omega (arith, is)))
  leaves (packing_event (purge_block at)) (look, placed) =
      let (right, some_counts, apart, (own, there, place, tagged)) = stands_at (places.Losing look at) placed in
      let low = own_from own there in
      inl (inr (λ (is : at + 2 ≡ 7). omega (arith, is, low, place)))
  leaves (packing_event (disable histogram old)) ready = inl (inr (λ (is : histogram + 9 ≡ 7). omega (arith, is)))
  leaves (packing_event (add_moved counts bucket units)) ready =
      let low = sight_from (packing_event (add_moved counts bucket units)) ready (counts + 4 + bucket)
      (found_at state (packing_event (add_moved counts bucket units)) + units) a.seen.counts (back_lives a.hand.place) refl in
      inl (inr (λ (is : counts + 4 + bucket ≡ 7). omega (arith, is, low)))
  leaves (cursor_event (load_cursor cursor)) ready = inl (inl (λ n. refl))
  leaves (cursor_event (move_cursor cursor old new)) ready =
      let many = many_words shape opened state kept in
      inl (inr (λ (is : size + cursor ≡ 7). omega (arith, is, many)))

-- ---- what actors note

-- what becomes of an actor whose exchange succeeded or failed has raised no more, if it was not that of the free pointer
module _ (a : Actor) where
  linked : (b : Bool) (tail at found : ℕ) → raised_by (after_link b a tail at found) ≡ raised_by a
  linked true tail at found = refl
  linked false tail at found = refl

  packed : (b : Bool) (histogram new found : ℕ) → raised_by (after_pack b a histogram new found) ≡ raised_by a
  packed true histogram new found = refl
  packed false histogram new found = refl

  mounted : (b : Bool) (histogram at found : ℕ) → raised_by (after_mount b a histogram at found) ≡ raised_by a
  mounted true histogram at found = refl
  mounted false histogram at found = refl

  disabled : (b : Bool) (histogram old found : ℕ) → raised_by (after_disable b a histogram old found) ≡ raised_by a
  disabled true histogram old found = refl
  disabled false histogram old found = refl

  gave : (b : Bool) (cursor new found : ℕ) → raised_by (after_cursor b a cursor new found) ≡ raised_by a
  gave true cursor new found = refl
  gave false cursor new found = refl

  -- an event that is no exchange of the free pointer notes no rise
  still : (event : Event) (found : ℕ) → (raised_by (next a event found) ≡ raised_by a)
      ⊎ ((old new wanted : ℕ) × (event ≡ allocating_event (exchange_free old new wanted)))
  still (allocating_event load_flags) found = inl refl
  still (allocating_event load_free) found = inl refl
  still (allocating_event (exchange_free old new wanted)) found = inr (old, new, wanted, refl)
  still (allocating_event (store_size at words)) found = inl refl
  still (allocating_event (store_cookie at cookie)) found = inl refl
  still (allocating_event (store_type at tag)) found = inl refl
  still (allocating_event (store_payload at index value)) found = inl refl
  still (allocating_event set_corrupt) found = inl refl
  still (allocating_event (set_full wanted)) found = inl refl
  still (publishing_event (store_own_next at)) found = inl refl
  still (publishing_event load_tail) found = inl refl
  still (publishing_event (link tail at)) found = inl (linked (eqb found 12) tail at found)
  still (publishing_event (move_tail old new)) found = inl refl
  still (walking_event (load_next at)) found = inl refl
  still (walking_event (load_published at index)) found = inl refl
  still (counting_event (load_counts histogram)) found = inl refl
  still (counting_event (add_count at units)) found = inl refl
  still (counting_event (add_sum histogram amount)) found = inl refl
  still (counting_event (add_redundant histogram units)) found = inl refl
  still (taking_event (load_count at)) found = inl refl
  still (taking_event (raise_mark at least)) found = inl refl
  still (taking_event (raise_single_mark histogram least)) found = inl refl
  still (taking_event (load_sum histogram)) found = inl refl
  still (taking_event (swap_sum_mark histogram sum)) found = inl refl
  still (taking_event (load_redundant histogram)) found = inl refl
  still (packing_event (load_single histogram)) found = inl refl
  still (packing_event (pack histogram old new)) found = inl (packed (eqb found old) histogram new found)
  still (packing_event (mount_counts histogram at)) found = inl (mounted (eqb found 0) histogram at found)
  still (packing_event (purge_block at)) found = inl refl
  still (packing_event (disable histogram old)) found = inl (disabled (eqb found old) histogram old found)
  still (packing_event (add_moved counts bucket units)) found = inl refl
  still (cursor_event (load_cursor cursor)) found = inl refl
  still (cursor_event (move_cursor cursor old new)) found = inl (gave (eqb found old) cursor new found)

-- a ghost note is of no rise
note_still : (a : Actor) (note : Note) → raised_by (noted a note) ≡ raised_by a
note_still a (begins name cost entries) = refl
note_still a (goes_on entry cost) = refl
note_still a (amounts amount) = refl
note_still a (asks at made) = refl
note_still a (knows known) = refl
note_still a (declines known) = refl
note_still a (takes name) = refl
note_still a has_taken = refl
note_still a looks = refl
note_still a (answers answered) = refl
note_still a ends = refl
note_still a (refused added) = refl

notes_still : (notes : List Note) (a b : Actor) → Notes a notes b → raised_by b ≡ raised_by a
notes_still [] a b same = ap raised_by (sym same)
notes_still (note ∷ rest) a b (may, more) = notes_still rest (noted a note) b more ∙ note_still a note

-- ---- an event

module _ (shape : Dimensions) (opened : Anatomy) (state : State) (kept : Invariant shape opened state) (id : ℕ) (a : Actor)
    (mine : get_elem? state.actors id ≡ some a) (records : is_opener a.role ≡ false) where
  abbrev many : ℕ
  many = length state.words

  abbrev all : Event → List ℕ
  all event = after many opened.version event (memory state)

  within : 7 < many
  within = let least = many_words shape opened state kept in omega (arith, least)

  -- the free pointer is one of the segment's words
  front : (event : Event) → word_at (take many (all event)) 7 ≡ word_at (all event) 7
  front event = get_or-take many (all event) 7 0 within

  abbrev found : ℕ
  found = word_at (memory state) 7

  before : found ≡ word_at state.words 7
  before = get_or_append_left state.words state.cursors 0 7 within

  left : (event : Event) → Leaves shape opened state kept id a mine records event → word_at (all event) 7 ≡ word_at (memory state) 7
  left event (inl loads) =
      let at = spot many event in
      ap (λ (list : List ℕ). word_at list 7) (ap (set (memory state) at) (loads (word_at (memory state) at)) ∙ set-get_or (memory state) at 0)
  left event (inr away) =
      let at = spot many event in
      get_or-set_other (memory state) at 7 (change opened.version event (word_at (memory state) at)) 0 (λ e. away (sym e))

  -- where it is after an event, and what the actor has then noted
  abbrev Raised : Event → Type 0
  Raised event = word_at (take many (all event)) 7 + raised_by a ≡ word_at state.words 7 + raised_by (next a event (found_at state event))

  exchanged : (old new wanted : ℕ) → Ready a (allocating_event (exchange_free old new wanted)) → Raised (allocating_event (exchange_free old new wanted))
  exchanged old new wanted (placed, pointer, rise) =
      let shaped = (kept.each id a mine (λ is. cc (sym placed ∙ is))).shaped in
      let five = (rise_of a.segment.shape old new wanted (subst IsShape (sym shaped) kept.shown.sound.lawful) pointer rise).five in
      let ahead = front (allocating_event (exchange_free old new wanted)) in
      let there = by (eqb found old) refl five in
      let was = before in
      omega (arith, ahead, there, was)
    where
      stored : (v : ℕ) → word_at (set (memory state) 7 v) 7 ≡ v
      stored v = get_or-set_same (memory state) 7 v 0 (let long = length-append state.words state.cursors in let least = within in omega (arith, long, least))

      by : (b : Bool) → eqb found old ≡ b → old + 5 ≤ new
          → word_at (set (memory state) 7 (if b then new else found)) 7 + raised_by a ≡ found + raised_by (after_free b a old new wanted found)
      by true is five =
          let same = eqb-true found old is in
          let now = stored new in
          let more = sum_by_push (λ (r : Rise). r.to - r.from) a.done.raised (record { from = old; to = new; wanted = wanted }) in
          omega (arith, same, now, more, five)
      by false is five = let now = stored found in omega (arith, now)

  pub raised : (event : Event) → Ready a event → Raised event
  raised event ready = ⊎_elim
      (λ leaves_it. ⊎_elim
      (λ (same : raised_by (next a event (found_at state event)) ≡ raised_by a).
      let ahead = front event in
      let there = left event leaves_it in
      let was = before in
      omega (arith, ahead, there, was, same))
      (exchanges event ready)
      (still a event (found_at state event)))
      (exchanges event ready)
      (leaves shape opened state kept id a mine records event ready)
    where
      exchanges : (event : Event) → Ready a event → (old new wanted : ℕ) × (event ≡ allocating_event (exchange_free old new wanted)) → Raised event
      exchanges event ready (old, new, wanted, is) = subst Raised (sym is) (exchanged old new wanted (subst (Ready a) is ready))

-- so it is after a step, with what all actors have noted
step_raises : (shape : Dimensions) (opened : Anatomy) (old new : State) (id : ℕ) (event : Event) → Invariant shape opened old
    → IsStep opened.version old id event new → word_at new.words 7 + all_raised old.actors ≡ word_at old.words 7 + all_raised new.actors
step_raises shape opened old new id event kept step =
    let ((noted_on, goes, sums), recorder) = notes_follow shape opened step.before old id step.actor step.at kept step.there step.is_recorder step.notes_before in
    let mid : State = with_actor old id step.at in
    let did = raised shape opened mid noted_on id step.at (set_at old.actors id step.actor step.at step.there) recorder event step.ready in
    let words = ap (λ (list : List ℕ). word_at list 7) (words_of_memory new (length old.words) _ step.size step.memory_is) in
    let first = notes_still step.before step.actor step.at step.notes_before in
    let last = notes_still step.behind (next step.at event (found_at old event)) step.then_is step.notes_behind in
    let beside = sum_beside raised_by old.actors id step.actor step.then_is step.there in
    let actors = ap all_raised step.actors_are in
    omega (arith, did, words, first, last, beside, actors)

-- ---- what is reached

-- one actor has raised no more
one_still : (actors : List Actor) (id : ℕ) (a b : Actor) → get_elem? actors id ≡ some a → raised_by b ≡ raised_by a → all_raised (set actors id b) ≡ all_raised actors
one_still actors id a b there same = let beside = sum_beside raised_by actors id a b there in omega (arith, beside, same)

-- nor has one, and another one that has raised nothing comes after all
one_more : (actors : List Actor) (id : ℕ) (a b c : Actor) → get_elem? actors id ≡ some a → raised_by b ≡ raised_by a → raised_by c ≡ 0
    → all_raised (set actors id b ++ c ∷ []) ≡ all_raised actors
one_more actors id a b c there same none_of =
    let pushed = sum_by_push raised_by (set actors id b) c in
    let beside = one_still actors id a b there same in
    omega (arith, pushed, beside, none_of)

-- two have raised what they had raised together
two_still : (actors : List Actor) (id other : ℕ) (a b c d : Actor) → id ≢ other → get_elem? actors id ≡ some a → get_elem? actors other ≡ some b
    → raised_by c + raised_by d ≡ raised_by a + raised_by b → all_raised (set (set actors id c) other d) ≡ all_raised actors
two_still actors id other a b c d apart there beside same =
    let first = sum_beside raised_by actors id a c there in
    let second = sum_beside raised_by (set actors id c) other b d (set_else actors id other c (λ e. apart (sym e)) ∙ beside) in
    omega (arith, first, second, same)

abbrev RisesFrom : State → State → Type 0
RisesFrom start state = word_at state.words 7 + all_raised start.actors ≡ word_at start.words 7 + all_raised state.actors

pub free_pointer_is_raised : FreePointerIsRaised
free_pointer_is_raised shape opened start state kept reached = go state reached
  where
    same : (old new : State) (actors : List Actor) → RisesFrom start old → new ≡ record old { actors = actors } → all_raised actors ≡ all_raised old.actors
        → RisesFrom start new
    same old new actors was is none_more =
        subst (RisesFrom start) (sym is) (let now : word_at old.words 7 + all_raised start.actors ≡ word_at start.words 7 + all_raised old.actors = was in omega (arith, now, none_more))

    go : (state : State) → IsReached opened.version start state → RisesFrom start state
    go state started = refl
    go state (stepped old new id event before step) =
        let was : RisesFrom start old = go old before in
        let did = step_raises shape opened old new id event (reached_states_follow shape opened start old kept before) step in
        omega (arith, was, did)
    go state (announced old new id before (a, b, notes, there, records, noting, is)) =
        same old new _ (go old before) is (one_still old.actors id a b there (notes_still notes a b noting))
    go state (offered old new id units before (a, there, may, is)) = same old new _ (go old before) is (one_still old.actors id a (offering a units) there refl)
    go state (split old new id before (a, there, may, is)) = same old new _ (go old before) is (one_more old.actors id a (parent a) (newcomer a) there refl refl)
    go state (lent old new id other units before (a, b, apart, there, beside, may, is)) =
        same old new _ (go old before) is (two_still old.actors id other a b (giver a units) (getter b units) apart there beside refl)
    go state (returned old new id other units before (a, b, apart, there, beside, may, is)) =
        same old new _ (go old before) is (two_still old.actors id other a b (getter a units) (giver b units) apart there beside refl)
    go state (purse_filled old new id before (a, there, may, is)) =
        same old new _ (go old before) is (one_more old.actors id a (lender a) (purse (offered_of a.role)) there refl refl)
    go state (purse_poured old new id other before (b, c, apart, there, beside, may, is)) =
        let nothing : raised_by c ≡ 0 = ap raised_by may.2 in
        same old new _ (go old before) is
        (two_still old.actors id other b c (getter b c.units.share) spent apart there beside (omega (arith, nothing)))
    go state (joined_in old new id other before (a, b, apart, there, beside, may, is)) =
        let both = sum_by-append (λ (r : Rise). r.to - r.from) a.done.raised b.done.raised in
        same old new _ (go old before) is (two_still old.actors id other a b (joined a b) spent apart there beside (omega (arith, both)))

-- ---- once all recorders are joined

-- what all have raised is what their rises come to
all_rises : (actors : List Actor) → all_raised actors ≡ sum_by (λ (r : Rise). r.to - r.from) (flat_map (λ (a : Actor). a.done.raised) actors)
all_rises [] = refl
all_rises (a ∷ rest) =
    let first = sum_by-cons raised_by a rest in
    let both = sum_by-append (λ (r : Rise). r.to - r.from) a.done.raised (flat_map (λ (a : Actor). a.done.raised) rest) in
    let behind = all_rises rest in
    omega (arith, first, both, behind)

-- so the opener alone has
pub opener_raised : (shape : Dimensions) (opened : Anatomy) (state : State) (a : Actor) → Invariant shape opened state → IsJoined state a
    → all_raised state.actors ≡ raised_by a
opener_raised shape opened state a kept joins =
    all_rises state.actors ∙ ap (sum_by (λ (r : Rise). r.to - r.from)) (gathered shape opened state a kept joins (λ (a : Actor). a.done.raised) (λ units. refl))

-- and whatever is outstanding, it has raised no more than all
pub opener_within : (state : State) (a : Actor) → get_elem? state.actors 0 ≡ some a → raised_by a ≤ all_raised state.actors
opener_within state a there = sum_at_least raised_by state.actors 0 a there
