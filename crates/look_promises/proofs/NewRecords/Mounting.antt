-- The counts reference of a record is changed by an event that mounts counts, and by no other.
use Rattle.segment_invariant.proofs.Prelude.Std.{◌≡◌, ◌≢◌, ℕ, ◌+◌, ◌-◌, ◌<◌, ◌≤◌, Bool, true, false, ◌++◌, length, inl, inr, sym, ap, subst, ◌∙◌, arith, if◌then◌else◌, nat_lt, replicate, length-append, length-replicate, All-contains, some, none, some-ne-none, some-injective, get_elem?, Contains, none_in}
use Rattle.segment_invariant.proofs.Prelude.Machine.{Actor, Known, Own, Look, Place, Spent, Looking, is_bound, is_opener, buckets_of, Event, Ready, allocating_event, publishing_event, walking_event, counting_event, taking_event, packing_event, load_flags, load_free, exchange_free, store_size, store_cookie, store_type, store_payload, set_corrupt, set_full, store_own_next, load_tail, link, move_tail, load_next, load_published, load_counts, add_count, add_sum, load_count, raise_mark, load_sum, swap_sum_mark, load_redundant, raise_single_mark, load_single, pack, mount_counts, purge_block, disable, add_moved, State, Dimensions}
use Rattle.segment_invariant.proofs.Prelude.Invariant.{Anatomy, Piece, Body, Record, Counts, Sample, plain, held, histogram, counts, sample, words_of, Stands, HasRecord, WasFixed, StandsRight, HoldsOwn, Invariant}
use Rattle.segment_invariant.specs.Invariant.{LooksRight}
use Rattle.segment_machine.specs.declared.place.Place.TheVariants as place
use Rattle.segment_machine.specs.Event.{cursor_event, spot, change}
use Rattle.segment_machine.specs.Counting.{add_redundant, MayCount}
use Rattle.segment_machine.specs.Taking.{MayRaise}
use Rattle.segment_machine.specs.Seats.{purse}
use Rattle.segment_machine.specs.Cursors.{load_cursor, move_cursor}
use Rattle.segment_invariant.proofs.Blocks.Pieces.{one_index}
use Rattle.segment_invariant.proofs.Consistency.Firsts.{sample_of_first}
use Rattle.segment_invariant.proofs.Frames.LaidOut.{laid_out}
use Rattle.segment_invariant.proofs.Counting.Looks.{same_block, counts_was, knows_of, one_record}
use Rattle.segment_invariant.proofs.Counting.Samples.{sample_met, first_met}

-- a cookie is no place
cookie_large : (b : Bool) → 1048576 ≤ (if b then 18446744073709551615 else 0xC8799269)
cookie_large true = omega arith
cookie_large false = omega arith

module _ (shape : Dimensions) (opened : Anatomy) (state : State) (kept : Invariant shape opened state) (id : ℕ) (a : Actor)
    (mine : get_elem? state.actors id ≡ some a) (recorder : is_opener a.role ≡ false) (h : ℕ) (r : Record) (has : HasRecord kept.anatomy.pieces h r) where
  -- what is somebody's is no word of the record
  not_owned : (at owner i : ℕ) (body : Body) → Stands kept.anatomy.pieces at (some owner) body → i < length (words_of body) → at + i ≢ h + 8
  not_owned at owner i body (k, there) inside same =
      let index = one_index shape state.words kept.anatomy kept.shown k has.0 (record { at = at; owner = some owner; body = body }) (record { at = h; owner = none; body = histogram r })
      i 8 there has.1 inside (omega arith) same in
      some-ne-none owner (ap (λ (p : Piece). p.owner) (some-injective _ _ (sym there ∙ (ap (get_elem? kept.anatomy.pieces) index ∙ has.1))))

  -- nor is one of another published block, or another word of a record
  not_other : (at i : ℕ) (body : Body) → Stands kept.anatomy.pieces at none body → i < length (words_of body) → i ≢ 8 → at + i ≢ h + 8
  not_other at i body stands inside ne same =
      ne (same_block shape opened state kept at h i 8 body (histogram r) stands has inside (omega arith) same).2

  not_counts : (at i : ℕ) (c : Counts) → Stands kept.anatomy.pieces at none (counts c) → i < length (words_of (counts c)) → at + i ≢ h + 8
  not_counts at i c stands inside same =
      let one = (same_block shape opened state kept at h i 8 (counts c) (histogram r) stands has inside (omega arith) same).1 in
      cc one

  not_sample : (at i : ℕ) (s : Sample) → Stands kept.anatomy.pieces at none (sample s) → i < 8 → at + i ≢ h + 8
  not_sample at i s stands inside same =
      let one = (same_block shape opened state kept at h i 8 (sample s) (histogram r) stands has (omega (arith, inside)) (omega arith) same).1 in
      cc one

  module _ (lives : a.hand.place ≢ Spent) where
    -- of a histogram that its actor knows
    known_word : (known : Known) (at i : ℕ) → Contains a.answers.names known → known.reference ≡ at → i < 15 → i ≢ 8 → at + i ≢ h + 8
    known_word known at i knows is below ne =
        let (q, first, there, named, many, keys) = knows_of shape opened state kept id a mine recorder lives known knows in
        not_other at i (histogram q) (subst (λ (n : ℕ). HasRecord kept.anatomy.pieces n q) is there) (omega (arith, below)) ne

    -- of counts at which it looks
    looked_word : (look : Look) (known : Known) (i : ℕ) → LooksRight a look → look.counts ≢ 0 → Contains a.answers.names known → known.reference ≡ look.histogram
        → i < 4 + (buckets_of known.spec + buckets_of known.spec) → look.counts + i ≢ h + 8
    looked_word look known i right some_there knows is below =
        let (q, first, there, named, many, keys) = knows_of shape opened state kept id a mine recorder lives known knows in
        let stands = subst (λ (n : ℕ). HasRecord kept.anatomy.pieces n q) is there in
        let (same, some_counts) = counts_was shape opened state kept look.histogram look.counts q stands
        (All-contains (WasFixed kept.anatomy.pieces) a.seen.words _ (kept.each id a mine lives).sees.fixed (right.counts some_there)) in
        let (c, mounted, it) = kept.records.mounted look.histogram q stands some_counts in
        let units = it.units in
        let marks = it.marks in
        let all = length-append (c.units ++ c.marks) c.rest in
        let more = length-append c.units c.marks in
        not_counts look.counts i c (subst (λ (n : ℕ). Stands kept.anatomy.pieces n none (counts c)) same mounted) (omega (arith, below, units, marks, all, more, many))

    same_buckets : (one other : Known) → Contains a.answers.names one → Contains a.answers.names other → one.reference ≡ other.reference
        → buckets_of one.spec ≡ buckets_of other.spec
    same_buckets one other knows known same =
        let (q, first, there, named, many, keys) = knows_of shape opened state kept id a mine recorder lives one knows in
        let (p, leads, stands, called, count, list) = knows_of shape opened state kept id a mine recorder lives other known in
        let is = ap (λ (z : Record). buckets_of z.spec)
        (one_record shape opened state kept other.reference q p (subst (λ (n : ℕ). HasRecord kept.anatomy.pieces n q) same there) stands) in
        omega (arith, many, count, is)

  -- the actor is at a place that is right for it
  stands_at : (p : Place) → a.hand.place ≡ p → StandsRight shape kept.anatomy id a p
  stands_at p is = subst (StandsRight shape kept.anatomy id a) is (kept.standing id a mine)

  pub turns : is_bound a.hand.place ≡ false → a.hand.place ≢ Spent
  turns unbound spent = cc (unbound, ap is_bound spent)

  own_word : (own : Own) (i : ℕ) → Contains a.hand.own own → a.hand.place ≢ Spent → i < own.size → own.at + i ≢ h + 8
  own_word own i among lives below =
      let holds = All-contains (HoldsOwn shape kept.anatomy.pieces id) a.hand.own own (kept.each id a mine lives).own among in
      let room = holds.room in
      let zeros = length-replicate {A = ℕ} (own.size - 4 - length own.payload) 0 in
      let all = length-append own.payload (replicate {A = ℕ} (own.size - 4 - length own.payload) 0) in
      not_owned own.at id i (held own) holds.stands (omega (arith, below, room, zeros, all))

  -- an actor that has a block of its own is no purse
  fills_lives : (own : Own) → Contains a.hand.own own → a.hand.place ≢ Spent
  fills_lives own among spent =
      let is : a ≡ purse a.units.share = stands_at Spent spent in
      none_in own (subst (λ (b : Actor). Contains b.hand.own own) is among)

  counted_word : (at units : ℕ) → MayCount a at units → at ≢ h + 8
  counted_word at units (c, known, next, named, many, inl (look, bucket, (placed, some_there, off, (knows, is, bucketed)), (below, key), here)) same =
      looked_word (λ spent. cc (sym placed ∙ spent)) look known (4 + bucket) (stands_at (Looking look) placed) some_there knows is (omega (arith, below)) (omega (arith, here, same))
  counted_word at units (c, known, next, named, many, inr (sample_at, unbound, (knows, itself, sparse), first, here)) same =
      let (s, (stands, of, valued)) = sample_of_first shape opened state.words (laid_out shape opened state kept) known.reference c.entry.key sample_at
      (first_met shape opened state kept id a mine (turns unbound) known.reference c.entry.key sample_at first) in
      not_sample sample_at 6 s stands (omega arith) (omega (arith, here, same))

  raised_word : (at least : ℕ) → MayRaise a at least → at ≢ h + 8
  raised_word at least (least_one, inl (look, known, bucket, word, placed, (taking, knows, is, last), seen, apart, here)) same =
      let lives : a.hand.place ≢ Spent = λ spent. cc (sym placed ∙ spent) in
      let (off, below, saw) = stands_at (place.CountLoaded look bucket least) placed in
      let right = off.0 in
      let (its, known_is, bucketed) = right.knows in
      let many = same_buckets lives known right.known knows its (is ∙ sym known_is) in
      looked_word lives look right.known (4 + buckets_of known.spec + bucket) right off.1 its known_is (omega (arith, below, many)) (omega (arith, here, same))
  raised_word at least (least_one, inr (sample_at, histogram_at, known, placed, seen, takes, here)) same =
      let lives : a.hand.place ≢ Spent = λ spent. cc (sym placed ∙ spent) in
      let ((of, its, value, sparse, met, saw), counted) = stands_at (place.SampleLoaded sample_at least) placed in
      let (s, stands, named, valued) = sample_met shape opened state kept id a mine lives sample_at of value met saw in
      not_sample sample_at 7 s stands (omega arith) (omega (arith, here, same))

  module _ (two : kept.anatomy.version ≡ 2) (x : ℕ) (from : 16 ≤ x) (below : x < 1048576) (behind : 16 ≤ h) (within : h + 8 < length state.words) where
    -- what puts the place of a block there, where there was 0
    abbrev Puts : Event → Type 0
    Puts event = spot (length state.words) event ≡ h + 8 → change 2 event 0 ≡ x → event ≡ packing_event (mount_counts h x)

    pub mounts : (event : Event) → Ready a event → Puts event
    mounts (allocating_event load_flags) ready here is = absurd (omega (arith, from, is))
    mounts (allocating_event load_free) ready here is = absurd (omega (arith, from, is))
    mounts (allocating_event (exchange_free old new wanted)) ready here is = absurd (omega (arith, here, behind))
    mounts (allocating_event (store_size at size)) (wanted, placed) here is =
        let (its, plain_there) = stands_at (place.Raised at size wanted) placed in
        let five = its.five in
        let long = length-replicate {A = ℕ} size 0 in
        absurd (not_owned at id 0 (plain (replicate {A = ℕ} size 0)) plain_there (omega (arith, five, long)) (omega (arith, here)))
    mounts (allocating_event (store_cookie at cookie)) (size, wanted, placed, cookie_is) here is =
        let large = cookie_large (nat_lt size wanted) in
        absurd (omega (arith, large, cookie_is, is, below))
    mounts (allocating_event (store_type at tag)) ready here is = let most = ready.2 in absurd (omega (arith, most, from, is))
    mounts (allocating_event (store_payload at index value)) (own, (among, nothing), place_is, behind_it, room) here is =
        absurd (own_word own (4 + index) among (fills_lives own among) room (omega (arith, here, place_is)))
    mounts (allocating_event set_corrupt) ready here is = absurd (omega (arith, here, behind))
    mounts (allocating_event (set_full wanted)) ready here is = absurd (omega (arith, here, behind))
    mounts (publishing_event (store_own_next at)) ready here is = absurd (omega (arith, from, is))
    mounts (publishing_event load_tail) ready here is = absurd (omega (arith, from, is))
    mounts (publishing_event (link tail at)) ready here is = absurd (omega (arith, from, is))
    mounts (publishing_event (move_tail old new)) ready here is = absurd (omega (arith, here, behind))
    mounts (walking_event (load_next at)) ready here is = absurd (omega (arith, from, is))
    mounts (walking_event (load_published at index)) ready here is = absurd (omega (arith, from, is))
    mounts (counting_event (load_counts histogram_at)) ready here is = absurd (omega (arith, from, is))
    mounts (counting_event (add_count at units)) ready here is = absurd (counted_word at units ready here)
    mounts (counting_event (add_sum at amount)) (unbound, c, known, next, amounts, knows, is_known, named) here is =
        absurd (known_word (turns unbound) known at 11 knows is_known (omega arith) (omega arith) here)
    mounts (counting_event (add_redundant at units)) (unbound, c, known, next, many, knows, is_known, named) here is =
        absurd (known_word (turns unbound) known at 13 knows is_known (omega arith) (omega arith) here)
    mounts (taking_event (load_count at)) ready here is = absurd (omega (arith, from, is))
    mounts (taking_event (raise_mark at least)) ready here is = absurd (raised_word at least ready here)
    mounts (taking_event (raise_single_mark at least)) (least_one, (known, (taking, knows, is_known, last)), inl (look, other, word, (placed, look_is, single, on, buckets), saw, least_is)) here is =
        absurd (known_word (λ spent. cc (sym placed ∙ spent)) known at 10 knows is_known (omega arith) (omega arith) here)
    mounts (taking_event (raise_single_mark at least)) (least_one, (known, (taking, knows, is_known, last)), inr (look, bucket, count, word, placed, look_is, single, packed, least_is)) here is =
        absurd (known_word (λ spent. cc (sym placed ∙ spent)) known at 10 knows is_known (omega arith) (omega arith) here)
    mounts (taking_event (load_sum at)) ready here is = absurd (omega (arith, from, is))
    mounts (taking_event (swap_sum_mark at sum)) (known, (taking, knows, is_known, last), placed) here is =
        absurd (known_word (λ spent. cc (sym placed ∙ spent)) known at 12 knows is_known (omega arith) (omega arith) here)
    mounts (taking_event (load_redundant at)) ready here is = absurd (omega (arith, from, is))
    mounts (packing_event (load_single at)) ready here is = absurd (omega (arith, from, is))
    mounts (packing_event (pack at old new)) (c, look, known, bucket, next, (placed, look_is, single, on, (knows, is_known, bucketed)), named, key, packing) here is =
        absurd (known_word (λ spent. cc (sym placed ∙ spent)) known at 9 knows is_known (omega arith) (omega arith) here)
    mounts (packing_event (mount_counts at place_of)) ready here is =
        let same : at ≡ h = omega (arith, here) in
        λ i. packing_event (mount_counts (same i) (is i))
    mounts (packing_event (purge_block at)) ready here is = absurd (omega (arith, from, is))
    mounts (packing_event (disable at old)) (look, known, (placed, look_is, single, on, (knows, is_known, bucketed)), mounted, counts_in) here is =
        absurd (known_word (λ spent. cc (sym placed ∙ spent)) known at 9 knows is_known (omega arith) (omega arith) here)
    mounts (packing_event (add_moved at bucket units)) (look, placed, look_is) here is =
        let one_is = (stands_at (place.Moving look bucket units) placed).1 in
        absurd (omega (arith, one_is, two))
    mounts (cursor_event (load_cursor cursor)) ready here is = absurd (omega (arith, from, is))
    mounts (cursor_event (move_cursor cursor old new)) ready here is = absurd (omega (arith, here, within))
