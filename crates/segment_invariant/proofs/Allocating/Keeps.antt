-- Each event that allocates keeps what holds: it acts on a word of the segment, and what it leaves is kept.
use Rattle.segment_invariant.proofs.Prelude.Std.{◌≡◌, ℕ, ◌+◌, ◌<◌, ◌≤◌, length, arith, false, some, get_elem?, subst, at_from, all_at}
use Rattle.segment_invariant.proofs.Prelude.Machine.{Dimensions, Actor, State, Event, allocating_event, spot, Learned, Ready, load_flags, load_free, exchange_free, store_size, store_cookie, store_type, store_payload, set_corrupt, set_full, is_opener}
use Rattle.segment_invariant.proofs.Prelude.Invariant.{Anatomy, StandsRight, HoldsOwn, Invariant, KeptOn, found_at}
use Rattle.segment_invariant.specs.Keeps.{happened, AllocatingKeeps}
use Rattle.segment_invariant.proofs.Blocks.Pieces.{free_least, free_within}
use Rattle.segment_invariant.proofs.Frames.GoesOn.{happens}
use Rattle.segment_invariant.proofs.Allocating.Events.{Keeps, words_long, flags_loaded, free_loaded, free_exchanged, corrupt_set, full_set}
use Rattle.segment_invariant.proofs.Allocating.Headers.{size_kept, cookie_kept, type_kept}
use Rattle.segment_invariant.proofs.Allocating.Payloads.{has_lived, payload_kept}

module _ (shape : Dimensions) (opened : Anatomy) (state : State) (id : ℕ) (a : Actor) (kept : Invariant shape opened state)
    (mine : get_elem? state.actors id ≡ some a) (records : is_opener a.role ≡ false) where
  -- what an event does to a word of the segment is what happens
  at_word : (event : Event) → spot (length state.words) event < length state.words → Keeps shape opened state kept id a mine records event
      → KeptOn shape opened kept (happened opened.version state id a event) × Learned a event (found_at state event)
  at_word event within keeps = happens opened.version state id a event within shape opened kept keeps

  -- a word before the queue block is one, and so is a word of a block
  header_within : (at : ℕ) → at < 16 → at < length state.words
  header_within at low =
      let long = words_long shape opened state kept id a mine records in
      let least = free_least shape state.words kept.anatomy kept.shown in
      let most = free_within shape state.words kept.anatomy kept.shown in
      omega (arith, low, long, least, most)

  block_within : (at j size : ℕ) → at + size ≤ shape.size → j < size → at + j < length state.words
  block_within at j size within lt =
      let long = words_long shape opened state kept id a mine records in omega (arith, within, lt, long)

  payload_within : (at index value : ℕ) → Ready a (allocating_event (store_payload at index value)) → at + (4 + index) < length state.words
  payload_within at index value (x, (has, unended), place, from, to) =
      let (i, there) = at_from a.hand.own x has in
      let fits = kept.each id a mine (has_lived shape opened state kept id a mine records i x there) in
      let within = (all_at (HoldsOwn shape kept.anatomy.pieces id) a.hand.own i x fits.own there).placed.within in
      block_within at (4 + index) x.size (omega (arith, place, within)) to

pub allocating_keeps : AllocatingKeeps
allocating_keeps load_flags shape opened state id a kept mine records ready =
    at_word shape opened state id a kept mine records (allocating_event load_flags) (header_within shape opened state id a kept mine records 6 (omega arith))
    (flags_loaded shape opened state kept id a mine records ready)
allocating_keeps load_free shape opened state id a kept mine records ready =
    at_word shape opened state id a kept mine records (allocating_event load_free) (header_within shape opened state id a kept mine records 7 (omega arith))
    (free_loaded shape opened state kept id a mine records ready)
allocating_keeps (exchange_free old new wanted) shape opened state id a kept mine records ready =
    at_word shape opened state id a kept mine records (allocating_event (exchange_free old new wanted)) (header_within shape opened state id a kept mine records 7 (omega arith))
    (free_exchanged shape opened state kept id a mine records old new wanted ready)
allocating_keeps (store_size at size) shape opened state id a kept mine records ready =
    let placed = (subst (StandsRight shape kept.anatomy id a) ready.1 (kept.standing id a mine)).0 in
    let five = placed.five in
    let within = block_within shape opened state id a kept mine records at 0 size placed.within (omega (arith, five)) in
    at_word shape opened state id a kept mine records (allocating_event (store_size at size)) (omega (arith, within))
    (size_kept shape opened state kept id a mine records at size ready)
allocating_keeps (store_cookie at cookie) shape opened state id a kept mine records ready =
    let placed = (subst (StandsRight shape kept.anatomy id a) ready.2 (kept.standing id a mine)).0 in
    let five = placed.five in
    at_word shape opened state id a kept mine records (allocating_event (store_cookie at cookie))
    (block_within shape opened state id a kept mine records at 1 ready.0 placed.within (omega (arith, five)))
    (cookie_kept shape opened state kept id a mine records at cookie ready)
allocating_keeps (store_type at tag) shape opened state id a kept mine records ready =
    let placed = (subst (StandsRight shape kept.anatomy id a) ready.0.1 (kept.standing id a mine)).0 in
    let five = placed.five in
    at_word shape opened state id a kept mine records (allocating_event (store_type at tag))
    (block_within shape opened state id a kept mine records at 2 ready.0.0 placed.within (omega (arith, five)))
    (type_kept shape opened state kept id a mine records at tag ready)
allocating_keeps (store_payload at index value) shape opened state id a kept mine records ready =
    at_word shape opened state id a kept mine records (allocating_event (store_payload at index value))
    (payload_within shape opened state id a kept mine records at index value ready)
    (payload_kept shape opened state kept id a mine records at index value ready)
allocating_keeps set_corrupt shape opened state id a kept mine records ready =
    at_word shape opened state id a kept mine records (allocating_event set_corrupt) (header_within shape opened state id a kept mine records 6 (omega arith))
    (corrupt_set shape opened state kept id a mine records ready)
allocating_keeps (set_full wanted) shape opened state id a kept mine records ready =
    at_word shape opened state id a kept mine records (allocating_event (set_full wanted)) (header_within shape opened state id a kept mine records 6 (omega arith))
    (full_set shape opened state kept id a mine records wanted ready)
