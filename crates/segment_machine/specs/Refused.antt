-- Runs that would break what holds, each of them refused: what an actor may not do.
use Rattle.std.specs.Prelude.{◌≡◌, ◌≢◌, true, false, ℕ, ◌+◌, ℤ, pos, negsuc, List, [], ◌∷◌, map, Some}
use Rattle.bucket_ranges.specs.declared.spec.Spec.TheVariants as spec
use Rattle.segment_machine.specs.declared.actor.Actor.{Actor}
use Rattle.segment_machine.specs.declared.actor.Made.TheVariants as made
use Rattle.segment_machine.specs.declared.place.Look.{Look}
use Rattle.segment_machine.specs.declared.place.Place.TheVariants.{FreeLoaded, Sized, Looking, Moving, CountLoaded}
use Rattle.segment_machine.specs.declared.actor.Answered.{Answered}
use Rattle.alloc_core.specs.Event as atomic
use Rattle.segment_machine.specs.Operation as does
use Rattle.segment_machine.specs.Entry.{fresh, tally_noted}
use Rattle.segment_machine.specs.Event.{Event, allocating_event, packing_event, taking_event, counting_event, cursor_event, Ready, next}
use Rattle.segment_machine.specs.Allocating.{load_flags, exchange_free, store_cookie}
use Rattle.segment_machine.specs.Packing.{load_single, pack, disable, add_moved}
use Rattle.segment_machine.specs.Note.{MayNote, noted, goes_on, looks, takes, answers, ends, refused}
use Rattle.segment_machine.specs.Taking.{TakingEvent, operation, load_sum, load_redundant, swap_sum_mark, load_count, raise_mark, raise_single_mark}
use Rattle.segment_machine.specs.Counting.{add_count, add_sum, add_redundant}
use Rattle.segment_machine.specs.Cursors.{load_cursor}
use Rattle.segment_machine.specs.Made.{IsPayload}
use Rattle.segment_machine.specs.Seats.{nothing_seen, opener_of, newcomer, joined, spent, purse, lender, getter, MayOffer, MayFill, MayPour, MayJoin, MayLend, MayReturn}
use Rattle.segment_machine.specs.Actor.{accepted_by, accepted_since}
use Rattle.segment_machine.specs.Examples.{at_place, shape, letter_a, one, whole, maker, AreReady, run, sampler, takes_all, letter_s, known_a}
use Rattle.segment_machine.specs.declared.actor.Role.TheVariants.{Opener, Recorder}

-- ---- actors

-- a recorder that knows `A` at 16 and the sparse `S` at 40, and visited the sample of -5 at 56; there is one shared cursor
abbrev pub recorder : Actor
recorder = record (opener_of shape 1 1) {
  role = Recorder 0 0;
  seen = record nothing_seen {
    chain = 16 ∷ 40 ∷ 56 ∷ [];
    words =
        record { at = 58; word = 3 } ∷ record { at = 60; word = 40 } ∷ record { at = 61; word = 18446744073709551611 } ∷ [];
  };
  answers = record { names = known_a ∷ record { name = letter_s; spec = spec.Sparse; reference = 40 } ∷ []; owed = [] };
}

-- the same in a call that counts a unit of this value in `S`
abbrev pub counting : ℤ → Actor
counting value = record recorder { entries = record recorder.entries { running = fresh (record { name = letter_s; key = value; units = 1; amount = pos 0 }) ∷ [] } }

-- a look at the histogram at 16, with its single word and its counts
abbrev pub look : ℕ → ℕ → Look
look single counts = record { histogram = 16; single = Some single; counts = counts }

-- ---- events that may not be done

-- a unit of -5 counts in the sample of -5; one of 2^64 - 5, which is the same word, does not
abbrev pub ValuesApart : Type 0
ValuesApart = Ready (counting (negsuc 4)) (counting_event (add_count 62 1)) × (¬ (Ready (counting (pos 18446744073709551611)) (counting_event (add_count 62 1))))

-- nothing is counted while units are moving
abbrev pub MovesFirst : Type 0
MovesFirst = ¬ (Ready (at_place (counting (negsuc 4)) (Moving (look 9223372036854775809 32) 1 2)) (counting_event (add_count 62 1)))

-- For a block of 16 words the free pointer rises from 16 to 32, and does not skip the rest of that page, which has room for the block. A
-- rest of six words is wasted for such a block, and its cookie is not that of a claimed block.
abbrev pub RoomStays : Type 0
RoomStays =
    Ready (at_place recorder (FreeLoaded 16)) (allocating_event (exchange_free 16 32 16))
    × (¬ (Ready (at_place recorder (FreeLoaded 16)) (allocating_event (exchange_free 16 64 16))))
    × Ready (at_place recorder (FreeLoaded 58)) (allocating_event (exchange_free 58 64 16))
    × (¬ (Ready (at_place recorder (Sized 58 6 16)) (allocating_event (store_cookie 58 0xC8799269))))

-- a cursor that does not exist is not loaded
abbrev pub CursorsThere : Type 0
CursorsThere = Ready recorder (cursor_event (load_cursor 0)) × (¬ (Ready recorder (cursor_event (load_cursor 1))))

-- no count is loaded where the actor visited no sample
abbrev pub SamplesMet : Type 0
SamplesMet = Ready recorder (taking_event (load_count 62)) × (¬ (Ready recorder (taking_event (load_count 63))))

-- a single mark is not raised to what was seen before the delta began
abbrev pub WordsSince : Type 0
WordsSince = ¬ (Ready
    (record recorder {
      hand = record recorder.hand { place = Looking (look 4294967303 0) };
      seen = record recorder.seen { singles = record { at = 25; word = 4294967303 } ∷ [] };
      since = record recorder.since { singles = 1 };
      deltas = record recorder.deltas { taking = true };
    })
    (taking_event (raise_single_mark 16 7)))

-- a delta that swaps twice has taken both differences: 2, and then 3 more
abbrev pub swapping : List (Event × ℕ)
swapping = (taking_event (load_sum 16), 2) ∷ (taking_event (swap_sum_mark 16 (pos 2)), 0) ∷ (taking_event (load_sum 16), 5) ∷ (taking_event (swap_sum_mark 16 (pos 5)), 2) ∷ []

-- a delta that swaps twice took the whole sum
abbrev pub SwapsAdd : Type 0
SwapsAdd = map (λ t. t.sum) (run takes_all swapping).deltas.taken ≡ pos 5 ∷ []

-- a record is published without counts
abbrev pub RecordsAlone : Type 0
RecordsAlone =
    ¬ (IsPayload (made.Histogram letter_a spec.Boolean)
    (2 ∷ 1 ∷ 2 ∷ 3 ∷ 32 ∷ 9223372036854841343 ∷ 0 ∷ 0 ∷ 0 ∷ 0 ∷ 1 ∷ 65 ∷ []))

-- a call continues with one more entry only once all of its entries have ended, and only if it has begun
abbrev pub EntriesEndFirst : Type 0
EntriesEndFirst = (¬ (MayNote (counting (negsuc 4)) (goes_on (one 1) 1))) × (¬ (MayNote recorder (goes_on (one 1) 1)))

-- units that are offered to the next recorder are not lent, and a recorder gives none back that it does not have
abbrev pub OffersStay : Type 0
OffersStay =
    let opener = record (opener_of shape 1 1) { units = record { share = 5; costs = []; held = [] }; role = Opener 0 0 3 } in
    MayLend opener recorder 2 × (¬ (MayLend opener recorder 3)) × (¬ (MayReturn opener (record recorder { units = record recorder.units { share = 1 } }) 2))

-- An opener of 256 recorders that offers three of its five units fills a purse with them, and they are poured out to a recorder, but
-- neither to an opener nor to one that was joined. No purse gets more than the opener has, and a recorder is no purse.
abbrev pub PursesCarry : Type 0
PursesCarry =
    let before = record (opener_of shape 1 1) { units = record { share = 5; costs = []; held = [] }; role = Opener 256 256 0 } in
    let opener = record before { role = Opener 256 256 3 } in
    MayOffer before 3 × MayFill opener × ((lender opener).units.share ≡ 2) × ((lender opener).role ≡ Opener 256 256 0)
    × MayPour recorder (purse 3) × ((getter recorder 3).units.share ≡ recorder.units.share + 3)
    × (¬ (MayFill (record before { role = Opener 256 256 6 }))) × (¬ (MayPour opener (purse 3))) × (¬ (MayPour spent (purse 3)))
    × (¬ (MayPour recorder recorder))

-- a recorder that owes an answer is not joined
abbrev pub DebtsStay : Type 0
DebtsStay = ¬ (MayJoin (record (opener_of shape 1 1) { role = Opener 0 1 0 }) (record recorder { answers = record recorder.answers { owed = known_a ∷ [] } }))

-- ---- what is kept of two

-- a join keeps the tails that the recorder saw, and a newcomer has those of its opener
abbrev pub TailsStay : Type 0
TailsStay =
    ((joined (opener_of shape 1 1) (record recorder { seen = record recorder.seen { tails = 40 ∷ [] } })).seen.tails ≡ 40 ∷ [])
    × ((newcomer (maker [])).seen.tails ≡ 16 ∷ [])

-- flags with the corrupt one are seen, whatever else they have; a join keeps that the recorder saw it, and a newcomer takes it from its
-- opener
abbrev pub CorruptStays : Type 0
CorruptStays =
    let saw = next recorder (allocating_event load_flags) 3 in
    (saw.seen.corrupt ≡ true) × ((next recorder (allocating_event load_flags) 2).seen.corrupt ≡ false)
    × ((next saw (allocating_event load_flags) 0).seen.corrupt ≡ true)
    × ((joined (opener_of shape 1 1) saw).seen.corrupt ≡ true) × ((newcomer saw).seen.corrupt ≡ true)

-- the first entries of an opener were accepted, and no redundant count that is kept has them
abbrev pub FirstEntriesApart : Type 0
FirstEntriesApart =
    let opener = record (opener_of shape 1 1) { entries = record { first = one 1 ∷ one 0 ∷ []; first_noted = []; inherited = []; log = whole (one 1) ∷ []; running = [] } } in
    (tally_noted (accepted_by (newcomer opener)) letter_a ≡ 3) × (tally_noted (accepted_since opener (newcomer opener)) letter_a ≡ 1)

-- ---- what is counted

-- units are not moved before the word is disabled
abbrev pub WordsOffFirst : Type 0
WordsOffFirst = ¬ (Ready (record recorder { hand = record recorder.hand { place = Looking (look 4294967298 32) } }) (packing_event (add_moved 32 1 2)))

-- a recorder that disabled a word in version 1 and has its two units
abbrev pub mover : Actor
mover = next (at_place (counting (negsuc 4)) (Looking (look 4294967298 32))) (packing_event (disable 16 4294967298)) 4294967298

-- A recorder that disabled a word adds just its units to the count of their bucket. Before that it neither counts nor looks elsewhere, its
-- call does not end, accepted or refused, and it is not joined.
abbrev pub UnitsRemembered : Type 0
UnitsRemembered =
    Ready mover (packing_event (add_moved 32 1 2)) × (¬ (Ready mover (packing_event (add_moved 32 1 1))))
    × (¬ (Ready mover (packing_event (add_moved 32 0 2)))) × (¬ (Ready mover (counting_event (add_count 62 1))))
    × (¬ (Ready mover (packing_event (load_single 16)))) × (¬ (MayNote mover ends)) × (¬ (MayNote mover (refused 0)))
    × (¬ (MayJoin (record (opener_of shape 1 1) { role = Opener 0 1 0 }) mover))

-- a recorder that packed a sample, whose amount is not in the sum yet
abbrev pub packed_sample : Actor
packed_sample = next sampler (packing_event (pack 16 0 4294967297)) 0

-- after a sample is packed, its amount is added before its units are noted and before its call ends
abbrev pub SumsStay : Type 0
SumsStay =
    Ready packed_sample (counting_event (add_sum 16 (pos 1))) × (¬ (Ready packed_sample (counting_event (add_redundant 16 1))))
    × (¬ (MayNote packed_sample ends))

-- a call that counts a unit of -5 in `S`, for which it visited two samples
abbrev pub met_twice : Actor
met_twice = record (counting (negsuc 4)) {
  seen = record nothing_seen {
    chain = 16 ∷ 40 ∷ 56 ∷ 64 ∷ [];
    words =
        record { at = 58; word = 3 } ∷ record { at = 60; word = 40 } ∷ record { at = 61; word = 18446744073709551611 }
        ∷ record { at = 66; word = 3 } ∷ record { at = 68; word = 40 } ∷ record { at = 69; word = 18446744073709551611 } ∷ [];
  };
}

-- if a value has two samples, a unit of it counts in the first and not in the later one
abbrev pub FirstSamplesCount : Type 0
FirstSamplesCount = Ready met_twice (counting_event (add_count 62 1)) × (¬ (Ready met_twice (counting_event (add_count 70 1))))

-- ---- what is taken

-- a delta of `A`, whose word is disabled and names bucket 1, has loaded three units of bucket 0, or two of bucket 1
abbrev pub loaded : ℕ → ℕ → Actor
loaded bucket count = at_place (noted recorder (takes letter_a)) (CountLoaded (look 9223372036854775809 32) bucket count)

-- a mark is raised to the count that was loaded, and not past it
abbrev pub CountsBound : Type 0
CountsBound = Ready (loaded 0 3) (taking_event (raise_mark 39 3)) × (¬ (Ready (loaded 0 3) (taking_event (raise_mark 39 4))))

-- the packed bucket has the single mark, and none in the counts block
abbrev pub SingleMarksApart : Type 0
SingleMarksApart =
    Ready (loaded 1 2) (taking_event (raise_single_mark 16 2)) × (¬ (Ready (loaded 1 2) (taking_event (raise_mark 40 2))))

-- a mark is not loaded as if it were a count, and no event of a taker stores a word, or exchanges one if it is as expected
abbrev pub MarksRise : Type 0
MarksRise =
    (¬ (Ready (loaded 0 3) (taking_event (load_count 39))))
    × ((size version at value : ℕ) (event : TakingEvent) → operation size version event ≢ does.single (atomic.store at value))
    × ((size version at old new : ℕ) (event : TakingEvent) → operation size version event ≢ does.single (atomic.exchange at old new))

-- ---- what is returned

-- a snapshot of `S` loads the count of its sample, the sum and the redundant count. It may return one unit of -5, but not also one of
-- 2^64 - 5, which is the same word.
abbrev pub snapping : List (Event × ℕ)
snapping = (taking_event (load_count 62), 1) ∷ (taking_event (load_sum 40), 18446744073709551611) ∷ (taking_event (load_redundant 40), 1) ∷ []

abbrev pub snaps : Actor
snaps = noted recorder looks

abbrev pub answering : List (ℤ × ℕ) → Answered
answering counts = record {
  name = letter_s;
  counts = counts;
  sum = negsuc 4;
  redundant = 1;
  moment = record { log = 0; before = 0; outstanding = 0 };
}

-- a snapshot returns what was seen, and nothing else
abbrev pub HonestAnswers : Type 0
HonestAnswers =
    AreReady snaps snapping × MayNote (run snaps snapping) (answers (answering ((negsuc 4, 1) ∷ [])))
    × (¬ (MayNote (run snaps snapping) (answers (answering ((negsuc 4, 1) ∷ (pos 18446744073709551611, 1) ∷ [])))))
