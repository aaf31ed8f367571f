-- Blocks in the making: an actor that links a record has had it in hand since its words were claimed. So what nobody has in hand, and what
-- was claimed before, is linked by nobody.
use Rattle.segment_invariant.proofs.Prelude.Std.{◌≡◌, ◌⊎◌, ℕ, ◌==◌, ◌&&◌, not, Bool, true, false, cond, List, [], ◌∷◌, map, filter, inl, inr, ⊎_elim, refl, sym, ap, subst, ◌∙◌, if◌then◌else◌, bit_and, nat_lt, eqb-true, one_in, map-append, Contains, Contains-append_cases, Contains-append_left, Contains-append_right}
use Rattle.segment_invariant.proofs.Prelude.Machine.{Actor, Own, Place, back, Event, Ready, next, spot, allocating_event, publishing_event, walking_event, counting_event, taking_event, packing_event, load_flags, load_free, exchange_free, store_size, store_cookie, store_type, store_payload, set_corrupt, set_full, store_own_next, load_tail, link, move_tail, after_link, load_next, load_published, load_counts, add_count, add_sum, load_count, raise_mark, load_sum, swap_sum_mark, load_redundant, raise_single_mark, load_single, pack, mount_counts, purge_block, disable, add_moved, after_pack, after_mount, after_disable, Note, noted, begins}
use Rattle.segment_machine.specs.declared.place.Place.TheVariants as place
use Rattle.segment_machine.specs.Event.{cursor_event}
use Rattle.segment_machine.specs.Allocating.{after_free, new_own, size_at}
use Rattle.segment_machine.specs.Calls.{change_own}
use Rattle.segment_machine.specs.Walking.{behind}
use Rattle.segment_machine.specs.Counting.{add_redundant}
use Rattle.segment_machine.specs.Taking.{at_count}
use Rattle.segment_machine.specs.Cursors.{load_cursor, move_cursor, after_cursor}
use Rattle.segment_machine.specs.Note.{goes_on, amounts, asks, knows, takes, has_taken, looks, answers, ends, refused, declines}

-- ---- what an actor has in hand

-- the block whose header an allocation is storing
abbrev pub handled : Place → ℕ → Type 0
handled (place.Raised at size wanted) x = at ≡ x
handled (place.Sized at size wanted) x = at ≡ x
handled (place.Marked at size) x = at ≡ x
handled p x = ⊥

-- where blocks are
abbrev pub places : List Own → List ℕ
places own = map (λ (own : Own). own.at) own

-- it has a block at a word in hand
abbrev pub InHand : ℕ → Place → List ℕ → Type 0
InHand x p at = handled p x ⊎ Contains at x

abbrev pub Handles : Actor → ℕ → Type 0
Handles a x = InHand x a.hand.place (places a.hand.own)

-- a block that is changed is where it was
changed_places : (at : ℕ) (change : Own → Own) → ((own : Own) → (change own).at ≡ own.at) → (own : List Own) → places (change_own at change own) ≡ places own
changed_places at change stays [] = refl
changed_places at change stays (y ∷ rest) = by (y.at == at) (changed_places at change stays rest)
  where
    by : (b : Bool) → places (change_own at change rest) ≡ places rest → places (if b then change y ∷ rest else y ∷ change_own at change rest) ≡ places (y ∷ rest)
    by true same = ap (λ (n : ℕ). n ∷ places rest) (stays y)
    by false same = ap (λ (list : List ℕ). y.at ∷ list) same

-- what is left of blocks was there
left_places : (test : Own → Bool) (x : ℕ) (own : List Own) → Contains (places (filter test own)) x → Contains (places own) x
left_places test x [] has = has
left_places test x (y ∷ rest) has = by (test y) (left_places test x rest) has
  where
    by : (b : Bool) → (Contains (places (filter test rest)) x → Contains (places rest) x)
        → Contains (places (cond b (y ∷ filter test rest) (filter test rest))) x → Contains (places (y ∷ rest)) x
    by true on has = ⊎_elim
        (λ first. Contains-append_left (y.at ∷ []) (places rest) x first)
        (λ later. Contains-append_right (y.at ∷ []) (places rest) x (on later))
        (Contains-append_cases (y.at ∷ []) (places (filter test rest)) x has)
    by false on has = Contains-append_right (y.at ∷ []) (places rest) x (on has)

-- ---- places

pub back_free : (p : Place) (x : ℕ) → handled (back p) x → ⊥
back_free (place.Losing look at) x h = h
back_free (place.Moving look bucket units) x h = h
back_free (place.CountLoaded look bucket count) x h = h
back_free (place.Looking look) x h = h
back_free p x h = h

pub counted_free : (p : Place) (at count x : ℕ) → handled (at_count p at count) x → ⊥
counted_free (place.Looking look) at count x h = h
counted_free (place.CountLoaded look bucket before) at count x h = h
counted_free p at count x h = h

pub behind_free : (p : Place) (from found x : ℕ) → handled (behind p from found) x → handled p x
behind_free (place.CursorLoaded cursor at) from found x h = by (from == at) (found == 12) h
  where
    by : (b e : Bool) → handled (if b then (if e then place.Idle else place.BehindCursor cursor at found) else place.CursorLoaded cursor at) x → ⊥
    by true true h = h
    by true false h = h
    by false e h = h
behind_free p from found x h = h

pub either_free : (p q : Place) (x : ℕ) → (handled p x → ⊥) → (handled q x → ⊥) → (b : Bool) → handled (if b then p else q) x → ⊥
either_free p q x one other true h = one h
either_free p q x one other false h = other h

-- ---- events

-- an event that found the free pointer at a word takes the words from there on
abbrev pub Takes : Event → ℕ → ℕ → Type 0
Takes event found x = (found ≡ x) × ((size : ℕ) → spot size event ≡ 7)

module _ (a : Actor) (x : ℕ) where
  -- If the actor stores the header of this block after an event, or has it in hand, it did so before. Or it has just taken the words, or
  -- just completed the header.
  abbrev pub Had : Event → ℕ → Actor → Type 0
  Had event found b =
      (handled b.hand.place x → handled a.hand.place x ⊎ Takes event found x)
      × (Contains (places b.hand.own) x → Contains (places a.hand.own) x ⊎ handled a.hand.place x)

  -- if its place takes up no block, and its blocks are where they were
  rests : (event : Event) (found : ℕ) (b : Actor) → (handled b.hand.place x → handled a.hand.place x) → places b.hand.own ≡ places a.hand.own → Had event found b
  rests event found b place own = (λ here. inl (place here), λ has. inl (subst (λ (list : List ℕ). Contains list x) own has))

  -- if it was at a block of which it stores the header
  stood : (p : Place) → a.hand.place ≡ p → handled p x → handled a.hand.place x
  stood p is = subst (λ (q : Place). handled q x) (sym is)

  freed : (b : Bool) (old new wanted found : ℕ) → (found == old) ≡ b → Had (allocating_event (exchange_free old new wanted)) found (after_free b a old new wanted found)
  freed true old new wanted found same = (λ here. inr (eqb-true found old same ∙ here, λ size. refl), λ has. inl has)
  freed false old new wanted found same =
      rests (allocating_event (exchange_free old new wanted)) found (after_free false a old new wanted found) (λ h. absurd h) refl

  linked : (b : Bool) (tail at found : ℕ) → Had (publishing_event (link tail at)) found (after_link b a tail at found)
  linked true tail at found = (λ here. absurd here, λ has. inl (left_places (λ own. not (own.at == at)) x a.hand.own has))
  linked false tail at found = rests (publishing_event (link tail at)) found (after_link false a tail at found) (λ h. absurd h) refl

  packed : (b : Bool) (event : Event) (histogram new found : ℕ) → Had event found (after_pack b a histogram new found)
  packed true event histogram new found = rests event found (after_pack true a histogram new found) (λ h. absurd h) refl
  packed false event histogram new found = rests event found (after_pack false a histogram new found) (λ h. absurd h) refl

  mounted : (b : Bool) (event : Event) (histogram at found : ℕ) → Had event found (after_mount b a histogram at found)
  mounted true event histogram at found = (λ here. absurd here, λ has. inl (left_places (λ own. not (own.at == at)) x a.hand.own has))
  mounted false event histogram at found = rests event found (after_mount false a histogram at found) (λ h. absurd h) refl

  disabled : (b : Bool) (event : Event) (histogram old found : ℕ) → Had event found (after_disable b a histogram old found)
  disabled true event histogram old found = rests event found (after_disable true a histogram old found)
      (λ h. absurd (either_free (place.Moving _ _ _) (place.Looking _) x (λ h. h) (λ h. h) ((a.segment.version == 1) && nat_lt 0 old) h)) refl
  disabled false event histogram old found = rests event found (after_disable false a histogram old found) (λ h. absurd h) refl

  gave : (b : Bool) (event : Event) (cursor new found : ℕ) → Had event found (after_cursor b a cursor new found)
  gave true event cursor new found = rests event found (after_cursor true a cursor new found) (λ h. absurd h) refl
  gave false event cursor new found = rests event found (after_cursor false a cursor new found) (λ h. absurd h) refl

  typed : (at tag found : ℕ) → Ready a (allocating_event (store_type at tag)) → Had (allocating_event (store_type at tag)) found (next a (allocating_event (store_type at tag)) found)
  typed at tag found ready = (
    λ here. absurd here,
    λ has. ⊎_elim
        (λ before. inl before)
        (λ new. inr (stood (place.Marked at ready.0.0) ready.0.1 (one_in at x new)))
        (Contains-append_cases (places a.hand.own) (at ∷ []) x
        (subst (λ (list : List ℕ). Contains list x) (map-append (λ (own : Own). own.at) a.hand.own (new_own at (size_at a.hand.place) tag ∷ [])) has)),
  )

  marked : (at cookie found size wanted : ℕ) → a.hand.place ≡ place.Sized at size wanted → (b : Bool) (n : ℕ)
      → handled (if b then place.Marked at n else place.Idle) x → handled a.hand.place x
  marked at cookie found size wanted is true n h = stood (place.Sized at size wanted) is h
  marked at cookie found size wanted is false n h = absurd h

  pub had_parts : (event : Event) (found : ℕ) → Ready a event → Had event found (next a event found)
  had_parts (allocating_event load_flags) found ready = rests (allocating_event load_flags) found (next a (allocating_event load_flags) found)
      (λ h. absurd (either_free place.FlagsLoaded place.Idle x (λ h. h) (λ h. h) (bit_and found 1 == 0) h)) refl
  had_parts (allocating_event load_free) found ready = rests (allocating_event load_free) found (next a (allocating_event load_free) found) (λ h. absurd h) refl
  had_parts (allocating_event (exchange_free old new wanted)) found ready = freed (found == old) old new wanted found refl
  had_parts (allocating_event (store_size at size)) found ready = rests (allocating_event (store_size at size)) found (next a (allocating_event (store_size at size)) found)
      (λ h. stood (place.Raised at size ready.0) ready.1 h) refl
  had_parts (allocating_event (store_cookie at cookie)) found ready =
      rests (allocating_event (store_cookie at cookie)) found (next a (allocating_event (store_cookie at cookie)) found)
      (λ h. marked at cookie found ready.0 ready.1 ready.2 (cookie == 0xC8799269) (size_at a.hand.place) h) refl
  had_parts (allocating_event (store_type at tag)) found ready = typed at tag found ready
  had_parts (allocating_event (store_payload at index value)) found ready =
      rests (allocating_event (store_payload at index value)) found (next a (allocating_event (store_payload at index value)) found) (λ h. h)
      (changed_places at _ (λ own. refl) a.hand.own)
  had_parts (allocating_event set_corrupt) found ready = rests (allocating_event set_corrupt) found (next a (allocating_event set_corrupt) found) (λ h. absurd h) refl
  had_parts (allocating_event (set_full wanted)) found ready =
      rests (allocating_event (set_full wanted)) found (next a (allocating_event (set_full wanted)) found) (λ h. absurd h) refl
  had_parts (publishing_event (store_own_next at)) found ready =
      rests (publishing_event (store_own_next at)) found (next a (publishing_event (store_own_next at)) found) (λ h. h)
      (changed_places at _ (λ own. refl) a.hand.own)
  had_parts (publishing_event load_tail) found ready = rests (publishing_event load_tail) found (next a (publishing_event load_tail) found) (λ h. absurd h) refl
  had_parts (publishing_event (link tail at)) found ready = linked (found == 12) tail at found
  had_parts (publishing_event (move_tail old new)) found ready =
      rests (publishing_event (move_tail old new)) found (next a (publishing_event (move_tail old new)) found) (λ h. absurd h) refl
  had_parts (walking_event (load_next at)) found ready =
      rests (walking_event (load_next at)) found (next a (walking_event (load_next at)) found) (behind_free a.hand.place at found x) refl
  had_parts (walking_event (load_published at index)) found ready = rests (walking_event (load_published at index)) found (next a (walking_event (load_published at index)) found) (λ h. h) refl
  had_parts (counting_event (load_counts histogram)) found ready =
      rests (counting_event (load_counts histogram)) found (next a (counting_event (load_counts histogram)) found) (λ h. absurd h) refl
  had_parts (counting_event (add_count at units)) found ready = rests (counting_event (add_count at units)) found (next a (counting_event (add_count at units)) found) (λ h. absurd h) refl
  had_parts (counting_event (add_sum histogram amount)) found ready =
      rests (counting_event (add_sum histogram amount)) found (next a (counting_event (add_sum histogram amount)) found) (λ h. absurd h) refl
  had_parts (counting_event (add_redundant histogram units)) found ready =
      rests (counting_event (add_redundant histogram units)) found (next a (counting_event (add_redundant histogram units)) found) (λ h. absurd h) refl
  had_parts (taking_event (load_count at)) found ready =
      rests (taking_event (load_count at)) found (next a (taking_event (load_count at)) found) (λ h. absurd (counted_free a.hand.place at found x h)) refl
  had_parts (taking_event (raise_mark at least)) found ready =
      rests (taking_event (raise_mark at least)) found (next a (taking_event (raise_mark at least)) found) (λ h. absurd (back_free a.hand.place x h)) refl
  had_parts (taking_event (load_sum histogram)) found ready = rests (taking_event (load_sum histogram)) found (next a (taking_event (load_sum histogram)) found) (λ h. absurd h) refl
  had_parts (taking_event (swap_sum_mark histogram sum)) found ready =
      rests (taking_event (swap_sum_mark histogram sum)) found (next a (taking_event (swap_sum_mark histogram sum)) found) (λ h. absurd h) refl
  had_parts (taking_event (load_redundant histogram)) found ready =
      rests (taking_event (load_redundant histogram)) found (next a (taking_event (load_redundant histogram)) found) (λ h. h) refl
  had_parts (taking_event (raise_single_mark histogram least)) found ready =
      rests (taking_event (raise_single_mark histogram least)) found (next a (taking_event (raise_single_mark histogram least)) found)
      (λ h. absurd (back_free a.hand.place x h)) refl
  had_parts (packing_event (load_single histogram)) found ready =
      rests (packing_event (load_single histogram)) found (next a (packing_event (load_single histogram)) found) (λ h. absurd h) refl
  had_parts (packing_event (pack histogram old new)) found ready = packed (found == old) (packing_event (pack histogram old new)) histogram new found
  had_parts (packing_event (mount_counts histogram at)) found ready = mounted (found == 0) (packing_event (mount_counts histogram at)) histogram at found
  had_parts (packing_event (purge_block at)) found ready =
      rests (packing_event (purge_block at)) found (next a (packing_event (purge_block at)) found) (λ h. absurd (back_free a.hand.place x h))
      (changed_places at _ (λ own. refl) a.hand.own)
  had_parts (packing_event (disable histogram old)) found ready = disabled (found == old) (packing_event (disable histogram old)) histogram old found
  had_parts (packing_event (add_moved counts bucket units)) found ready =
      rests (packing_event (add_moved counts bucket units)) found (next a (packing_event (add_moved counts bucket units)) found)
      (λ h. absurd (back_free a.hand.place x h)) refl
  had_parts (cursor_event (load_cursor cursor)) found ready = rests (cursor_event (load_cursor cursor)) found (next a (cursor_event (load_cursor cursor)) found) (λ h. absurd h) refl
  had_parts (cursor_event (move_cursor cursor old new)) found ready = gave (found == old) (cursor_event (move_cursor cursor old new)) cursor new found

module _ (a : Actor) (x : ℕ) (event : Event) (found : ℕ) (ready : Ready a event) where
  -- so what it has in hand after an event it had before
  pub had : Handles (next a event found) x → Handles a x ⊎ Takes event found x
  had (inl here) = ⊎_elim (λ before. inl (inl before)) (λ takes. inr takes) ((had_parts a x event found ready).0 here)
  had (inr has) = ⊎_elim (λ before. inl (inr before)) (λ stands. inl (inl stands)) ((had_parts a x event found ready).1 has)

-- ---- notes

-- a note leaves what its actor has in hand
note_leaves : (a : Actor) (note : Note) → ((noted a note).hand.place ≡ a.hand.place) × (places (noted a note).hand.own ≡ places a.hand.own)
note_leaves a (begins name cost entries) = (refl, refl)
note_leaves a (goes_on entry cost) = (refl, refl)
note_leaves a (amounts amount) = (refl, refl)
note_leaves a (asks at made) = (refl, changed_places at _ (λ own. refl) a.hand.own)
note_leaves a (knows known) = (refl, refl)
note_leaves a (declines mine) = (refl, refl)
note_leaves a (takes name) = (refl, refl)
note_leaves a has_taken = (refl, refl)
note_leaves a looks = (refl, refl)
note_leaves a (answers answered) = (refl, refl)
note_leaves a ends = (refl, refl)
note_leaves a (refused added) = (refl, refl)

-- so an actor that has it in hand after a note had it before
pub noted_had : (a : Actor) (note : Note) (x : ℕ) → Handles (noted a note) x → Handles a x
noted_had a note x =
    let same = note_leaves a note in
    subst (λ (p : Place × List ℕ). InHand x p.0 p.1) (λ i. (same.0 i, same.1 i))
