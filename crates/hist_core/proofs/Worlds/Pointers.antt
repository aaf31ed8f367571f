-- When an actor holds a free pointer.
use Rattle.segment_invariant.proofs.Prelude.Std.{◌≡◌, ◌≢◌, ◌⊎◌, ℕ, ◌==◌, ◌&&◌, Bool, true, false, inl, inr, refl, sym, if◌then◌else◌, bit_and, nat_lt}
use Rattle.segment_invariant.proofs.Prelude.Machine.{Actor, Place, Idle, back, Event, next, allocating_event, publishing_event, walking_event, counting_event, taking_event, packing_event, load_flags, load_free, exchange_free, store_size, store_cookie, store_type, store_payload, set_corrupt, set_full, store_own_next, load_tail, link, move_tail, after_link, load_next, load_published, load_counts, add_count, add_sum, load_count, raise_mark, load_sum, swap_sum_mark, load_redundant, raise_single_mark, load_single, pack, mount_counts, purge_block, disable, add_moved, after_pack, after_mount, after_disable}
use Rattle.segment_image.specs.declared.layout.TheConstants.{CLAIMED_COOKIE}
use Rattle.segment_machine.specs.declared.place.Place.TheVariants as place
use Rattle.segment_machine.specs.declared.place.Place.TheVariants.{FreeLoaded}
use Rattle.segment_machine.specs.Event.{cursor_event}
use Rattle.segment_machine.specs.Allocating.{after_free, size_at}
use Rattle.segment_machine.specs.Walking.{behind}
use Rattle.segment_machine.specs.Counting.{add_redundant}
use Rattle.segment_machine.specs.Taking.{at_count}
use Rattle.segment_machine.specs.Cursors.{load_cursor, move_cursor, after_cursor}

-- ---- places that are none

module _ (free : ℕ) where
  back_not : {X : Type 0} (p : Place) → back p ≡ FreeLoaded free → X
  back_not (place.Losing look at) is = cc is
  back_not (place.Moving look bucket units) is = cc is
  back_not (place.CountLoaded look bucket count) is = cc is
  back_not (place.Looking look) is = cc is
  back_not p is = cc is

  counted_not : {X : Type 0} (p : Place) (at count : ℕ) → at_count p at count ≡ FreeLoaded free → X
  counted_not (place.Looking look) at count is = cc is
  counted_not (place.CountLoaded look bucket before) at count is = cc is
  counted_not p at count is = cc is

  either_not : {X : Type 0} (b : Bool) (p q : Place) → p ≢ FreeLoaded free → q ≢ FreeLoaded free → (if b then p else q) ≡ FreeLoaded free → X
  either_not true p q one other is = absurd (one is)
  either_not false p q one other is = absurd (other is)

  behind_from : (p : Place) (from found : ℕ) → behind p from found ≡ FreeLoaded free → p ≡ FreeLoaded free
  behind_from (place.CursorLoaded cursor at) from found is = by (from == at) (found == 12) is
    where
      by : (b e : Bool) → (if b then (if e then Idle else place.BehindCursor cursor at found) else place.CursorLoaded cursor at) ≡ FreeLoaded free
          → place.CursorLoaded cursor at ≡ FreeLoaded free
      by true true is = cc is
      by true false is = cc is
      by false e is = cc is
  behind_from p from found is = is

  -- ---- an event

  module _ (a : Actor) where
    -- it held that, or has loaded it
    abbrev From : Event → ℕ → Type 0
    From event found = (a.hand.place ≡ FreeLoaded free) ⊎ ((event ≡ allocating_event load_free) × (free ≡ found))

    linked : {X : Type 0} (b : Bool) (tail at found : ℕ) → (after_link b a tail at found).hand.place ≡ FreeLoaded free → X
    linked true tail at found is = cc is
    linked false tail at found is = cc is

    freed : {X : Type 0} (b : Bool) (old new wanted found : ℕ) → (after_free b a old new wanted found).hand.place ≡ FreeLoaded free → X
    freed true old new wanted found is = cc is
    freed false old new wanted found is = cc is

    packed : {X : Type 0} (b : Bool) (histogram new found : ℕ) → (after_pack b a histogram new found).hand.place ≡ FreeLoaded free → X
    packed true histogram new found is = cc is
    packed false histogram new found is = cc is

    mounted : {X : Type 0} (b : Bool) (histogram at found : ℕ) → (after_mount b a histogram at found).hand.place ≡ FreeLoaded free → X
    mounted true histogram at found is = cc is
    mounted false histogram at found is = cc is

    disabled : {X : Type 0} (b : Bool) (histogram old found : ℕ) → (after_disable b a histogram old found).hand.place ≡ FreeLoaded free → X
    disabled true histogram old found is = either_not ((a.segment.version == 1) && nat_lt 0 old) (place.Moving _ _ _) (place.Looking _) (λ e. cc e) (λ e. cc e) is
    disabled false histogram old found is = cc is

    gave : {X : Type 0} (b : Bool) (cursor new found : ℕ) → (after_cursor b a cursor new found).hand.place ≡ FreeLoaded free → X
    gave true cursor new found is = cc is
    gave false cursor new found is = cc is

    pub pointer_from : (event : Event) (found : ℕ) → (next a event found).hand.place ≡ FreeLoaded free → From event found
    pointer_from (allocating_event load_flags) found is = either_not (bit_and found 1 == 0) place.FlagsLoaded Idle (λ e. cc e) (λ e. cc e) is
    pointer_from (allocating_event load_free) found is = inr (refl, let same : found ≡ free = cc is in sym same)
    pointer_from (allocating_event (exchange_free old new wanted)) found is = freed (found == old) old new wanted found is
    pointer_from (allocating_event (store_size at size)) found is = cc is
    pointer_from (allocating_event (store_cookie at cookie)) found is =
        either_not (cookie == CLAIMED_COOKIE) (place.Marked at (size_at a.hand.place)) Idle (λ e. cc e) (λ e. cc e) is
    pointer_from (allocating_event (store_type at tag)) found is = cc is
    pointer_from (allocating_event (store_payload at index value)) found is = inl is
    pointer_from (allocating_event set_corrupt) found is = cc is
    pointer_from (allocating_event (set_full wanted)) found is = cc is
    pointer_from (publishing_event (store_own_next at)) found is = inl is
    pointer_from (publishing_event load_tail) found is = cc is
    pointer_from (publishing_event (link tail at)) found is = linked (found == 12) tail at found is
    pointer_from (publishing_event (move_tail old new)) found is = cc is
    pointer_from (walking_event (load_next at)) found is = inl (behind_from a.hand.place at found is)
    pointer_from (walking_event (load_published at index)) found is = inl is
    pointer_from (counting_event (load_counts histogram)) found is = cc is
    pointer_from (counting_event (add_count at units)) found is = cc is
    pointer_from (counting_event (add_sum histogram amount)) found is = cc is
    pointer_from (counting_event (add_redundant histogram units)) found is = cc is
    pointer_from (taking_event (load_count at)) found is = counted_not a.hand.place at found is
    pointer_from (taking_event (raise_mark at least)) found is = back_not a.hand.place is
    pointer_from (taking_event (load_sum histogram)) found is = cc is
    pointer_from (taking_event (swap_sum_mark histogram sum)) found is = cc is
    pointer_from (taking_event (load_redundant histogram)) found is = inl is
    pointer_from (taking_event (raise_single_mark histogram least)) found is = back_not a.hand.place is
    pointer_from (packing_event (load_single histogram)) found is = cc is
    pointer_from (packing_event (pack histogram old new)) found is = packed (found == old) histogram new found is
    pointer_from (packing_event (mount_counts histogram at)) found is = mounted (found == 0) histogram at found is
    pointer_from (packing_event (purge_block at)) found is = back_not a.hand.place is
    pointer_from (packing_event (disable histogram old)) found is = disabled (found == old) histogram old found is
    pointer_from (packing_event (add_moved counts bucket units)) found is = back_not a.hand.place is
    pointer_from (cursor_event (load_cursor cursor)) found is = cc is
    pointer_from (cursor_event (move_cursor cursor old new)) found is = gave (found == old) cursor new found is
