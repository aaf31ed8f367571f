-- A word of a block that is linked later: once it is stored it stays, so it is 0, or what the block is linked with.
use Rattle.segment_invariant.proofs.Prelude.Std.{◌≡◌, ◌≢◌, ◌⊎◌, ℕ, ◌+◌, ◌-◌, ◌≤◌, ◌==◌, ◌&&◌, not, nat_lt, bit_and, eqb-true, Bool, true, false, List, [], ◌∷◌, ◌++◌, length, inl, inr, ⊎_elim, refl, sym, ap, subst, ◌∙◌, arith, if◌then◌else◌, replicate, slice_index, get_or_append_left, length-append, All, All-append, All-push, All-cons, All-head, All-tail, All-nil, Some}
use Rattle.segment_invariant.proofs.Prelude.Machine.{Actor, Own, Place, Event, Ready, next, allocating_event, publishing_event, walking_event, counting_event, taking_event, packing_event, load_flags, load_free, exchange_free, store_size, store_cookie, store_type, store_payload, set_corrupt, set_full, store_own_next, load_tail, link, move_tail, after_link, load_next, load_published, load_counts, add_count, add_sum, load_count, raise_mark, load_sum, swap_sum_mark, load_redundant, raise_single_mark, load_single, pack, mount_counts, purge_block, disable, add_moved, after_pack, after_mount, after_disable, Note, noted, begins}
use Rattle.std.proofs.Math.Decide.{dec_lt}
use Rattle.std.proofs.Math.ListN.{get_or-eq_default}
use Rattle.std.proofs.lemmas.List.Elements.{All-filter}
use Rattle.segment_machine.specs.declared.place.Place.TheVariants as place
use Rattle.segment_machine.specs.Event.{cursor_event}
use Rattle.segment_machine.specs.Allocating.{after_free, new_own, size_at, stored}
use Rattle.segment_machine.specs.Calls.{change_own}
use Rattle.segment_machine.specs.Walking.{behind}
use Rattle.segment_machine.specs.Counting.{add_redundant}
use Rattle.segment_machine.specs.Cursors.{load_cursor, move_cursor, after_cursor}
use Rattle.segment_machine.specs.Note.{goes_on, amounts, asks, knows, takes, has_taken, looks, answers, ends, refused, declines}
use Rattle.look_promises.proofs.NewRecords.Hands.{handled, Takes, back_free, counted_free, behind_free, either_free, had_parts}
use Rattle.look_promises.proofs.NewRecords.Carried.{OfHand, IsCarried}

-- what holds of blocks of its own still holds if one is changed and keeps it
change_keeps : (P : Own → Type 0) (at : ℕ) (change : Own → Own) → ((own : Own) → P own → P (change own)) → (own : List Own) → All P own → All P (change_own at change own)
change_keeps P at change stays [] all = all
change_keeps P at change stays (y ∷ rest) all = by (y.at == at) (change_keeps P at change stays rest (All-tail P y rest all))
  where
    by : (b : Bool) → All P (change_own at change rest) → All P (if b then change y ∷ rest else y ∷ change_own at change rest)
    by true on = All-cons P (change y) rest (stays y (All-head P y rest all)) (All-tail P y rest all)
    by false on = All-cons P y (change_own at change rest) (All-head P y rest all) on

-- ---- the size of a block whose header is being stored

module _ (a : Actor) (x : ℕ) where
  abbrev Sized : Actor → Type 0
  Sized b = handled b.hand.place x → size_at b.hand.place ≡ size_at a.hand.place

  freed_size : (b : Bool) (old new wanted found : ℕ) → (found == old) ≡ b → (Takes (allocating_event (exchange_free old new wanted)) found x → ⊥)
      → Sized (after_free b a old new wanted found)
  freed_size true old new wanted found same free here = absurd (free (eqb-true found old same ∙ here, λ size. refl))
  freed_size false old new wanted found same free here = absurd here

  cookie_size : (b : Bool) (at : ℕ) → handled (if b then place.Marked at (size_at a.hand.place) else place.Idle) x
      → size_at (if b then place.Marked at (size_at a.hand.place) else place.Idle) ≡ size_at a.hand.place
  cookie_size true at here = refl
  cookie_size false at here = absurd here

  linked_size : (b : Bool) (tail at found : ℕ) → Sized (after_link b a tail at found)
  linked_size true tail at found here = absurd here
  linked_size false tail at found here = absurd here

  packed_size : (b : Bool) (histogram new found : ℕ) → Sized (after_pack b a histogram new found)
  packed_size true histogram new found here = absurd here
  packed_size false histogram new found here = absurd here

  mounted_size : (b : Bool) (histogram at found : ℕ) → Sized (after_mount b a histogram at found)
  mounted_size true histogram at found here = absurd here
  mounted_size false histogram at found here = absurd here

  disabled_size : (b : Bool) (histogram old found : ℕ) → Sized (after_disable b a histogram old found)
  disabled_size true histogram old found here =
      absurd (either_free (place.Moving _ _ _) (place.Looking _) x (λ h. h) (λ h. h) ((a.segment.version == 1) && nat_lt 0 old) here)
  disabled_size false histogram old found here = absurd here

  gave_size : (b : Bool) (cursor new found : ℕ) → Sized (after_cursor b a cursor new found)
  gave_size true cursor new found here = absurd here
  gave_size false cursor new found here = absurd here

  behind_size : (p : Place) (from found : ℕ) → handled (behind p from found) x → size_at (behind p from found) ≡ size_at p
  behind_size (place.CursorLoaded cursor at) from found here = absurd (behind_free (place.CursorLoaded cursor at) from found x here)
  behind_size p from found here = refl

  -- it stays
  same_size : (event : Event) (found : ℕ) → Ready a event → (Takes event found x → ⊥) → Sized (next a event found)
  same_size (allocating_event load_flags) found ready free here = absurd (either_free place.FlagsLoaded place.Idle x (λ h. h) (λ h. h) (bit_and found 1 == 0) here)
  same_size (allocating_event load_free) found ready free here = absurd here
  same_size (allocating_event (exchange_free old new wanted)) found ready free here = freed_size (found == old) old new wanted found refl free here
  same_size (allocating_event (store_size at size)) found ready free here = sym (ap size_at ready.1)
  same_size (allocating_event (store_cookie at cookie)) found ready free here = cookie_size (cookie == 0xC8799269) at here
  same_size (allocating_event (store_type at tag)) found ready free here = absurd here
  same_size (allocating_event (store_payload at index value)) found ready free here = refl
  same_size (allocating_event set_corrupt) found ready free here = absurd here
  same_size (allocating_event (set_full wanted)) found ready free here = absurd here
  same_size (publishing_event (store_own_next at)) found ready free here = refl
  same_size (publishing_event load_tail) found ready free here = absurd here
  same_size (publishing_event (link tail at)) found ready free here = linked_size (found == 12) tail at found here
  same_size (publishing_event (move_tail old new)) found ready free here = absurd here
  same_size (walking_event (load_next at)) found ready free here = behind_size a.hand.place at found here
  same_size (walking_event (load_published at index)) found ready free here = refl
  same_size (counting_event (load_counts histogram)) found ready free here = absurd here
  same_size (counting_event (add_count at units)) found ready free here = absurd here
  same_size (counting_event (add_sum histogram amount)) found ready free here = absurd here
  same_size (counting_event (add_redundant histogram units)) found ready free here = absurd here
  same_size (taking_event (load_count at)) found ready free here = absurd (counted_free a.hand.place at found x here)
  same_size (taking_event (raise_mark at least)) found ready free here = absurd (back_free a.hand.place x here)
  same_size (taking_event (load_sum histogram)) found ready free here = absurd here
  same_size (taking_event (swap_sum_mark histogram sum)) found ready free here = absurd here
  same_size (taking_event (load_redundant histogram)) found ready free here = refl
  same_size (taking_event (raise_single_mark histogram least)) found ready free here = absurd (back_free a.hand.place x here)
  same_size (packing_event (load_single histogram)) found ready free here = absurd here
  same_size (packing_event (pack histogram old new)) found ready free here = packed_size (found == old) histogram new found here
  same_size (packing_event (mount_counts histogram at)) found ready free here = mounted_size (found == 0) histogram at found here
  same_size (packing_event (purge_block at)) found ready free here = absurd (back_free a.hand.place x here)
  same_size (packing_event (disable histogram old)) found ready free here = disabled_size (found == old) histogram old found here
  same_size (packing_event (add_moved counts bucket units)) found ready free here = absurd (back_free a.hand.place x here)
  same_size (cursor_event (load_cursor cursor)) found ready free here = absurd here
  same_size (cursor_event (move_cursor cursor old new)) found ready free here = gave_size (found == old) cursor new found here

-- A word of a block at a place, which is not 0.
module _ (x p v : ℕ) (some_word : v ≢ 0) where
  -- if a block is there, its payload has this word, or the block is too short for it
  abbrev pub HasStored : Own → Type 0
  HasStored own = own.at ≡ x → (own.size ≤ 4 + p) ⊎ (slice_index own.payload p ≡ v)

  -- this holds of each block there; and a block whose header is being stored has no room either
  abbrev pub Stores : Place → List Own → Type 0
  Stores here own = (handled here x → size_at here ≤ 4 + p) × All HasStored own

  -- more words after it leave it unchanged
  stored_stays : (index value : ℕ) (own : Own) → HasStored own → HasStored (record own { payload = stored own.payload index value })
  stored_stays index value own has here = ⊎_elim (λ short. inl short) stays (has here)
    where
      stays : slice_index own.payload p ≡ v → (own.size ≤ 4 + p) ⊎ (slice_index (stored own.payload index value) p ≡ v)
      stays is = elim (dec_lt p (length own.payload)) [
        | yes below ↦
            let zeros : List ℕ = replicate {A = ℕ} (index - length own.payload) 0 in
            let long = length-append own.payload zeros in
            inr (get_or_append_left (own.payload ++ zeros) (value ∷ []) 0 p (omega (arith, below, long))
            ∙ (get_or_append_left own.payload zeros 0 p below ∙ is))
        | no far ↦ absurd (some_word (sym is ∙ get_or-eq_default own.payload 0 (omega (arith, far))))
      ]

  module _ (a : Actor) (short : handled a.hand.place x → size_at a.hand.place ≤ 4 + p) (all : All HasStored a.hand.own) where
    abbrev Keeps : Actor → Type 0
    Keeps b = All HasStored b.hand.own

    freed : (b : Bool) (old new wanted found : ℕ) → Keeps (after_free b a old new wanted found)
    freed true old new wanted found = all
    freed false old new wanted found = all

    linked : (b : Bool) (tail at found : ℕ) → Keeps (after_link b a tail at found)
    linked true tail at found = All-filter (λ own. not (own.at == at)) HasStored a.hand.own all
    linked false tail at found = all

    packed : (b : Bool) (histogram new found : ℕ) → Keeps (after_pack b a histogram new found)
    packed true histogram new found = all
    packed false histogram new found = all

    mounted : (b : Bool) (histogram at found : ℕ) → Keeps (after_mount b a histogram at found)
    mounted true histogram at found = All-filter (λ own. not (own.at == at)) HasStored a.hand.own all
    mounted false histogram at found = all

    disabled : (b : Bool) (histogram old found : ℕ) → Keeps (after_disable b a histogram old found)
    disabled true histogram old found = all
    disabled false histogram old found = all

    gave : (b : Bool) (cursor new found : ℕ) → Keeps (after_cursor b a cursor new found)
    gave true cursor new found = all
    gave false cursor new found = all

    keeps : (event : Event) (found : ℕ) → Ready a event → Keeps (next a event found)
    keeps (allocating_event load_flags) found ready = all
    keeps (allocating_event load_free) found ready = all
    keeps (allocating_event (exchange_free old new wanted)) found ready = freed (found == old) old new wanted found
    keeps (allocating_event (store_size at size)) found ready = all
    keeps (allocating_event (store_cookie at cookie)) found ready = all
    keeps (allocating_event (store_type at tag)) found ready =
        All-push HasStored a.hand.own (new_own at (size_at a.hand.place) tag) all
        (λ here. inl (short (subst (λ (q : Place). handled q x) (sym ready.0.1) here)))
    keeps (allocating_event (store_payload at index value)) found ready =
        change_keeps HasStored at (λ own. record own { payload = stored own.payload index value }) (stored_stays index value) a.hand.own all
    keeps (allocating_event set_corrupt) found ready = all
    keeps (allocating_event (set_full wanted)) found ready = all
    keeps (publishing_event (store_own_next at)) found ready = change_keeps HasStored at (λ own. record own { next = 12 }) (λ own has. has) a.hand.own all
    keeps (publishing_event load_tail) found ready = all
    keeps (publishing_event (link tail at)) found ready = linked (found == 12) tail at found
    keeps (publishing_event (move_tail old new)) found ready = all
    keeps (walking_event (load_next at)) found ready = all
    keeps (walking_event (load_published at index)) found ready = all
    keeps (counting_event (load_counts histogram)) found ready = all
    keeps (counting_event (add_count at units)) found ready = all
    keeps (counting_event (add_sum histogram amount)) found ready = all
    keeps (counting_event (add_redundant histogram units)) found ready = all
    keeps (taking_event (load_count at)) found ready = all
    keeps (taking_event (raise_mark at least)) found ready = all
    keeps (taking_event (load_sum histogram)) found ready = all
    keeps (taking_event (swap_sum_mark histogram sum)) found ready = all
    keeps (taking_event (load_redundant histogram)) found ready = all
    keeps (taking_event (raise_single_mark histogram least)) found ready = all
    keeps (packing_event (load_single histogram)) found ready = all
    keeps (packing_event (pack histogram old new)) found ready = packed (found == old) histogram new found
    keeps (packing_event (mount_counts histogram at)) found ready = mounted (found == 0) histogram at found
    keeps (packing_event (purge_block at)) found ready = change_keeps HasStored at (λ own. record own { tag = 0 }) (λ own has. has) a.hand.own all
    keeps (packing_event (disable histogram old)) found ready = disabled (found == old) histogram old found
    keeps (packing_event (add_moved counts bucket units)) found ready = all
    keeps (cursor_event (load_cursor cursor)) found ready = all
    keeps (cursor_event (move_cursor cursor old new)) found ready = gave (found == old) cursor new found

  note_keeps : (a : Actor) (note : Note) → OfHand Stores a → OfHand Stores (noted a note)
  note_keeps a (begins name cost entries) has = has
  note_keeps a (goes_on entry cost) has = has
  note_keeps a (amounts amount) has = has
  note_keeps a (asks at made) has = (has.0, change_keeps HasStored at (λ own. record own { made = Some made }) (λ own stays. stays) a.hand.own has.1)
  note_keeps a (knows known) has = has
  note_keeps a (declines mine) has = has
  note_keeps a (takes name) has = has
  note_keeps a has_taken has = has
  note_keeps a looks has = has
  note_keeps a (answers answered) has = has
  note_keeps a ends has = has
  note_keeps a (refused added) has = has

  -- so each block there has the word, whatever happens
  pub stores_carried : IsCarried x Stores
  stores_carried = record {
    event_on = λ a event found ready free has. (
      λ here. ⊎_elim
          (λ before. subst (λ (n : ℕ). n ≤ 4 + p) (sym (same_size a x event found ready free here)) (has.0 before))
          (λ takes. absurd (free takes))
          ((had_parts a x event found ready).0 here),
      keeps a has.0 has.1 event found ready,
    );
    note_on = note_keeps;
    idle = (λ here. absurd here, All-nil HasStored);
    spent = (λ here. absurd here, All-nil HasStored);
    both = λ p q own more one other. (one.0, All-append HasStored own more one.1 other.1);
  }
