-- Whether an actor may do an event of allocating, publishing or walking, or one of a shared cursor: Some if it may.
use Rattle.std.proofs.Common.{◌≡◌, ℕ, ◌+◌, ◌*◌, ◌-◌, List, [], ◌∷◌, ◌++◌, length, replicate, inl, inr, refl, ap, Contains, Option, Some, None}
use Rattle.std.specs.Prelude.{take, drop, ◌⊎◌}
use Rattle.std.specs.Int.{w64, cast_unsigned}
use Rattle.segment_image.specs.Words.{bytes_of_words}
use Rattle.bucket_ranges.specs.Reading.{is_name, is_i32, name_words}
use Rattle.bucket_ranges.specs.Spec.{spec_fields, spec_ranges, spec_fault, buckets_of}
use Rattle.bucket_ranges.specs.declared.spec.Spec.{Spec}
use Rattle.bucket_ranges.specs.declared.spec.Spec.TheVariants as spec
use Rattle.alloc_core.specs.declared.planned.Planned.{Planned}
use Rattle.alloc_core.specs.declared.planned.Planned.TheVariants as plan
use Rattle.alloc_core.specs.Planned.{planned, is_pointer}
use Rattle.segment_image.specs.Shape.{Dimensions}
use Rattle.segment_machine.specs.declared.actor.Actor.{Actor}
use Rattle.segment_machine.specs.declared.actor.Known.{Known}
use Rattle.segment_machine.specs.declared.actor.Made.{Made}
use Rattle.segment_machine.specs.declared.actor.Made.TheVariants.{Histogram, Sample}
use Rattle.segment_machine.specs.declared.actor.Own.{Own}
use Rattle.segment_machine.specs.declared.place.Place.{Place}
use Rattle.segment_machine.specs.declared.place.Place.TheVariants.{FlagsLoaded, FreeLoaded, Raised, Sized, Marked, TailLoaded, Beaten, Linked, CursorLoaded, BehindCursor}
use Rattle.segment_machine.specs.Actor.{is_bound, Sparse, word_seen}
use Rattle.segment_machine.specs.Made.{AreNameWords, IsPayload}
use Rattle.segment_machine.specs.Allocating.{AllocatingEvent, load_flags, load_free, exchange_free, store_size, store_cookie, store_type, store_payload, set_corrupt, set_full, MayRise, cookie_for}
use Rattle.segment_machine.specs.Allocating as allocating
use Rattle.segment_machine.specs.Publishing.{PublishingEvent, store_own_next, load_tail, link, move_tail, MayPublish}
use Rattle.segment_machine.specs.Publishing as publishing
use Rattle.segment_machine.specs.Walking.{WalkingEvent, load_next, load_published, IsFixed, MayFollow}
use Rattle.segment_machine.specs.Walking as walking
use Rattle.segment_machine.specs.Cursors.{CursorEvent, load_cursor, move_cursor}
use Rattle.segment_machine.specs.Cursors as cursors
use Rattle.segment_machine.proofs.Runs.Tests.{then, or_else, is_true, is_false, same, at_most, below, same_bytes, value_in, nothing_in, is_number, some_of, member}

-- ---- places

abbrev flags_loaded : (place : Place) → Option (place ≡ FlagsLoaded)
flags_loaded FlagsLoaded = Some refl
flags_loaded _ = None

abbrev free_loaded : (place : Place) (free : ℕ) → Option (place ≡ FreeLoaded free)
free_loaded (FreeLoaded found) free = then (same found free) (λ e. Some (ap FreeLoaded e))
free_loaded _ free = None

abbrev any_free_loaded : (place : Place) → Option ((free : ℕ) × (place ≡ FreeLoaded free))
any_free_loaded (FreeLoaded free) = Some (free, refl)
any_free_loaded _ = None

abbrev raised : (place : Place) (at size : ℕ) → Option ((wanted : ℕ) × (place ≡ Raised at size wanted))
raised (Raised i n wanted) at size = then (same i at) (λ e. then (same n size) (λ f. Some (wanted, λ k. Raised (e k) (f k) wanted)))
raised _ at size = None

abbrev sized : (place : Place) (at : ℕ) → Option ((size wanted : ℕ) × (place ≡ Sized at size wanted))
sized (Sized i n wanted) at = then (same i at) (λ e. Some (n, wanted, ap (λ k. Sized k n wanted) e))
sized _ at = None

abbrev marked : (place : Place) (at : ℕ) → Option ((size : ℕ) × (place ≡ Marked at size))
marked (Marked i n) at = then (same i at) (λ e. Some (n, ap (λ k. Marked k n) e))
marked _ at = None

abbrev tail_loaded : (place : Place) (tail : ℕ) → Option (place ≡ TailLoaded tail)
tail_loaded (TailLoaded found) tail = then (same found tail) (λ e. Some (ap TailLoaded e))
tail_loaded _ tail = None

abbrev moves_on : (place : Place) (old new : ℕ) → Option ((place ≡ Linked new old) ⊎ (place ≡ Beaten old new))
moves_on (Linked at tail) old new = then (same at new) (λ e. then (same tail old) (λ f. Some (inl (λ k. Linked (e k) (f k)))))
moves_on (Beaten tail at) old new = then (same tail old) (λ e. then (same at new) (λ f. Some (inr (λ k. Beaten (e k) (f k)))))
moves_on _ old new = None

abbrev cursor_loaded : (place : Place) (at : ℕ) → Option ((cursor : ℕ) × (place ≡ CursorLoaded cursor at))
cursor_loaded (CursorLoaded cursor found) at = then (same found at) (λ e. Some (cursor, ap (λ n. CursorLoaded cursor n) e))
cursor_loaded _ at = None

abbrev behind_cursor : (place : Place) (cursor old new : ℕ) → Option (place ≡ BehindCursor cursor old new)
behind_cursor (BehindCursor c at next) cursor old new =
    then (same c cursor) (λ e. then (same at old) (λ f. then (same next new) (λ g. Some (λ k. BehindCursor (e k) (f k) (g k)))))
behind_cursor _ cursor old new = None

-- ---- allocating

abbrev goes_to : (old new : ℕ) (p : Planned) → Option (((size : ℕ) × (p ≡ plan.Claim size new)) ⊎ ((room : ℕ) × (p ≡ plan.Waste room) × (new ≡ old + room)))
goes_to old new (plan.Claim size end) = then (same end new) (λ e. Some (inl (size, ap (plan.Claim size) e)))
goes_to old new (plan.Waste room) = then (same new (old + room)) (λ e. Some (inr (room, refl, e)))
goes_to old new plan.Full = None

abbrev rises : (shape : Dimensions) (old new wanted : ℕ) → Option (MayRise shape old new wanted)
rises shape old new wanted =
    then (at_most 5 wanted) (λ least. then (at_most wanted shape.page) (λ most. then (goes_to old new (planned old wanted shape)) (λ way. Some (least, most, way))))

abbrev pub own_at : (a : Actor) (at : ℕ) → Option ((own : Own) × Contains a.hand.own own × (own.at ≡ at))
own_at a at = some_of (λ own. same own.at at) a.hand.own

abbrev pub may_allocate : (a : Actor) (event : AllocatingEvent) → Option (allocating.Ready a event)
may_allocate a load_flags = is_false (is_bound a.hand.place)
may_allocate a load_free = flags_loaded a.hand.place
may_allocate a (exchange_free old new wanted) =
    then (free_loaded a.hand.place old) (λ stands. then (is_true (is_pointer a.segment.shape old)) (λ lawful. then (rises a.segment.shape old new wanted) (λ rise. Some (stands, lawful, rise))))
may_allocate a (store_size at size) = raised a.hand.place at size
may_allocate a (store_cookie at cookie) =
    then (sized a.hand.place at) (λ t. then (same cookie (cookie_for t.0 t.1)) (λ e. Some (t.0, t.1, t.2, e)))
may_allocate a (store_type at tag) =
    then (marked a.hand.place at) (λ stands. then (at_most 1 tag) (λ least. then (at_most tag 3) (λ most. Some (stands, least, most))))
may_allocate a (store_payload at index value) =
    then (own_at a at) (λ t. then (same t.0.next 0) (λ fills. then (at_most (length t.0.payload) index) (λ new. then (below (4 + index) t.0.size) (λ within.
    Some (t.0, (t.1, fills), t.2, new, within)))))
may_allocate a set_corrupt = is_false (is_bound a.hand.place)
may_allocate a (set_full wanted) =
    then (any_free_loaded a.hand.place) (λ t. then (at_most wanted a.segment.shape.page) (λ fits. then (below a.segment.shape.size (t.0 + wanted)) (λ beyond. Some (t.0, t.1, fits, beyond))))

-- ---- publishing

abbrev pub is_sparse_spec : (s : Spec) → Option (s ≡ spec.Sparse)
is_sparse_spec spec.Sparse = Some refl
is_sparse_spec _ = None

abbrev pub sparse_at : (a : Actor) (histogram : ℕ) → Option ((known : Known) × Sparse a histogram known)
sparse_at a histogram =
    then (some_of (λ known. same known.reference histogram) a.answers.names) (λ t. then (is_sparse_spec t.0.spec) (λ sparse. Some (t.0, (t.1, t.2, sparse))))

abbrev pub name_words_of : (name letters : List ℕ) → Option (AreNameWords name letters)
name_words_of name letters =
    let k = length (bytes_of_words letters) - length name in
    then (below k 8) (λ few. then (same_bytes (bytes_of_words letters) (name ++ replicate k 0)) (λ are. Some (k, few, are)))

abbrev is_payload : (made : Made) (payload : List ℕ) → Option (IsPayload made payload)
is_payload (Histogram name s) payload =
    let letters = take (name_words (length name)) (drop 11 payload) in
    then (name_words_of name letters) (λ are.
    then (same_bytes payload (spec_fields s ++ 0 ∷ 0 ∷ 0 ∷ 0 ∷ 0 ∷ 0 ∷ length name ∷ (letters ++ spec_ranges s))) (λ is. Some (letters, are, is)))
is_payload (Sample histogram value) payload =
    let k = 2 - length payload in
    then (same_bytes (payload ++ replicate k 0) (histogram ∷ cast_unsigned w64 value ∷ [])) (λ is. Some (k, is))

abbrev may_publish_as : (a : Actor) (own : Own) (made : Made) → Option (MayPublish a own made)
may_publish_as a own (Histogram name s) =
    then (same own.tag 1) (λ tag. then (is_true (is_name name)) (λ named. then (nothing_in (spec_fault s)) (λ lawful.
    then (at_most (4 + 2 * buckets_of s) a.segment.shape.page) (λ fits. Some (tag, named, lawful, fits)))))
may_publish_as a own (Sample histogram value) =
    then (same own.tag 3) (λ tag. then (at_most 8 own.size) (λ room. then (is_true (is_i32 value)) (λ small. then (sparse_at a histogram) (λ known.
    Some (tag, room, small, known)))))

abbrev pub may_publish : (a : Actor) (event : PublishingEvent) → Option (publishing.Ready a event)
may_publish a (store_own_next at) = then (own_at a at) (λ t. then (same t.0.next 0) (λ fills. Some (t.0, (t.1, fills), t.2)))
may_publish a load_tail =
    then (is_false (is_bound a.hand.place)) (λ turns. then (some_of (λ own. same own.next 12) a.hand.own) (λ t. Some (turns, (t.0, (t.1, t.2)))))
may_publish a (link tail at) =
    then (own_at a at) (λ t. then (value_in t.0.made) (λ made. then (tail_loaded a.hand.place tail) (λ stands. then (same t.0.next 12) (λ waits.
    then (is_payload made.0 t.0.payload) (λ payload. then (may_publish_as a t.0 made.0) (λ may.
    Some (t.0, made.0, stands, (t.1, waits), t.2, made.1, payload, may)))))))
may_publish a (move_tail old new) = moves_on a.hand.place old new

-- ---- walking

abbrev follows : (a : Actor) (at : ℕ) → Option (MayFollow a at)
follows a at =
    or_else (then (same at 12) (λ e. Some (inl e)))
    (or_else (then (member a.seen.chain at) (λ met. Some (inr (inl met)))) (then (cursor_loaded a.hand.place at) (λ t. Some (inr (inr (t.0, t.1))))))

abbrev is_fixed : (a : Actor) (at index : ℕ) → Option (IsFixed a at index)
is_fixed a at index =
    or_else (then (same index 2) (λ e. Some (inl e)))
    (or_else (then (is_number (word_seen a.seen.words (at + 2)) 1) (λ histogram.
    or_else (then (at_most 4 index) (λ from. then (below index 8) (λ to. Some (inr (inl (histogram, inl (from, to)))))))
    (or_else (then (same index 14) (λ e. Some (inr (inl (histogram, inr (inl e))))))
    (then (value_in (word_seen a.seen.words (at + 14))) (λ len. then (at_most 15 index) (λ from. then (below index (15 + name_words len.0)) (λ to.
    Some (inr (inl (histogram, inr (inr (len.0, len.1, from, inl to))))))))))))
    (then (is_number (word_seen a.seen.words (at + 2)) 3) (λ sample. then (at_most 4 index) (λ from. then (below index 6) (λ to.
    Some (inr (inr (sample, from, to))))))))

abbrev pub may_walk : (a : Actor) (event : WalkingEvent) → Option (walking.Ready a event)
may_walk a (load_next at) = then (is_false (is_bound a.hand.place)) (λ turns. then (follows a at) (λ may. Some (turns, may)))
may_walk a (load_published at index) =
    then (is_false (is_bound a.hand.place)) (λ turns. then (member a.seen.chain at) (λ met. then (is_fixed a at index) (λ fixed. Some (turns, met, fixed))))

-- ---- shared cursors

abbrev pub may_share : (a : Actor) (event : CursorEvent) → Option (cursors.Ready a event)
may_share a (load_cursor cursor) = then (is_false (is_bound a.hand.place)) (λ turns. then (below cursor a.segment.cursors) (λ there. Some (turns, there)))
may_share a (move_cursor cursor old new) = behind_cursor a.hand.place cursor old new
