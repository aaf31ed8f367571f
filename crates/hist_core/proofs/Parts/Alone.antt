-- An event of a part of a call: what it is in the words, and what of its actor it leaves unchanged.
use Rattle.segment_invariant.proofs.Prelude.Std.{◌≡◌, ◌==◌, ℕ, Bool, true, false, List, [], ◌++◌, refl, sym, ap, ◌∙◌, slice_set, append-nil}
use Rattle.segment_invariant.proofs.Prelude.Machine.{word_at, Actor, Sighting, Event, Learned, Ready, spot, next, allocating_event, publishing_event, load_flags, load_free, exchange_free, store_size, store_cookie, store_type, store_payload, set_corrupt, set_full, store_own_next, load_tail, link, move_tail, after_link, IsPrefix}
use Rattle.alloc_core.specs.Event as atomic
use Rattle.segment_machine.specs.Operation.{single, spot_of, change_of}
use Rattle.segment_machine.specs.Actor.{AreOwnBlocksApart}
use Rattle.hist_core.specs.StepsBy.{FrameOfStep, SeesNoMore, StepsBy, WalksInOrder}
use Rattle.segment_machine.specs.Event.{operation, after}
use Rattle.segment_machine.specs.Allocating.{AllocatingEvent, after_free}
use Rattle.segment_machine.specs.Publishing.{PublishingEvent}

-- ---- in the words

-- an event that is one operation of an allocation or a publish
module _ (size version : ℕ) (event : Event) (does : atomic.Access) (acts : operation size 1 event ≡ single does) (changes : operation 0 version event ≡ single does) where
  pub acts_there : spot size event ≡ atomic.spot does
  acts_there = ap spot_of acts

  pub makes_so : (words : List ℕ) → after size version event words ≡ atomic.after does words
  makes_so words i = slice_set words (spot_of (acts i)) (change_of (changes i) (word_at words (spot_of (acts i))))

-- an actor performs an event for which it is ready, and notes nothing
pub by_event : {size version : ℕ} {a : Actor} {words new_words : List ℕ} {holds : Actor → Type 0} (event : Event) → Ready a event → new_words ≡ after size version event words
    → (Learned a event (word_at words (spot size event)) → AreOwnBlocksApart (next a event (word_at words (spot size event)))
    → WalksInOrder (next a event (word_at words (spot size event))) → holds (next a event (word_at words (spot size event))))
    → StepsBy size version a words new_words holds
by_event {size = size} {a = a} {words = words} event ready are then_is = record {
  before = [];
  at = a;
  told = refl;
  event = event;
  ready = ready;
  words_are = are;
  goes = λ learned apart ordered. ([], next a event (word_at words (spot size event)), refl, then_is learned apart ordered);
}

-- ---- of its actor

-- it has seen no less of the list and of the words of records
pub frame_of : (a b : Actor) → b.role ≡ a.role → b.segment ≡ a.segment → b.units ≡ a.units → b.entries ≡ a.entries → b.deltas ≡ a.deltas
    → b.answers.names ≡ a.answers.names → IsPrefix a.seen.chain b.seen.chain → (more : List Sighting) × (b.seen.words ≡ a.seen.words ++ more) → FrameOfStep a b
frame_of a b role segment units entries deltas names chain words = record {
  role = role;
  segment = segment;
  units = units;
  entries = entries;
  deltas = deltas;
  names = names;
  chain = chain;
  words = words;
}

-- it has seen more words of records
pub seen_words : (a b : Actor) (more : List Sighting) → b.role ≡ a.role → b.segment ≡ a.segment → b.units ≡ a.units → b.entries ≡ a.entries
    → b.deltas ≡ a.deltas → b.answers.names ≡ a.answers.names → b.seen.chain ≡ a.seen.chain → b.seen.words ≡ a.seen.words ++ more → FrameOfStep a b
seen_words a b more role segment units entries deltas names chain words =
    frame_of a b role segment units entries deltas names ([], chain ∙ sym (append-nil a.seen.chain)) (more, words)

-- it has seen the same of both
pub seen_alike : (a b : Actor) → b.role ≡ a.role → b.segment ≡ a.segment → b.units ≡ a.units → b.entries ≡ a.entries → b.deltas ≡ a.deltas
    → b.answers.names ≡ a.answers.names → b.seen.chain ≡ a.seen.chain → b.seen.words ≡ a.seen.words → FrameOfStep a b
seen_alike a b role segment units entries deltas names chain words =
    seen_words a b [] role segment units entries deltas names chain (words ∙ sym (append-nil a.seen.words))

-- it is unchanged
pub alike : (a : Actor) → FrameOfStep a a
alike a = seen_alike a a refl refl refl refl refl refl refl refl

freed : (b : Bool) (a : Actor) (old new wanted found : ℕ) → FrameOfStep a (after_free b a old new wanted found)
freed true a old new wanted found = seen_alike a (after_free true a old new wanted found) refl refl refl refl refl refl refl refl
freed false a old new wanted found = seen_alike a (after_free false a old new wanted found) refl refl refl refl refl refl refl refl

pub allocating_beside : (a : Actor) (act : AllocatingEvent) (found : ℕ) → FrameOfStep a (next a (allocating_event act) found)
allocating_beside a load_flags found = seen_alike a (next a (allocating_event load_flags) found) refl refl refl refl refl refl refl refl
allocating_beside a load_free found = seen_alike a (next a (allocating_event load_free) found) refl refl refl refl refl refl refl refl
allocating_beside a (exchange_free old new wanted) found = freed (found == old) a old new wanted found
allocating_beside a (store_size at size) found = seen_alike a (next a (allocating_event (store_size at size)) found) refl refl refl refl refl refl refl refl
allocating_beside a (store_cookie at cookie) found = seen_alike a (next a (allocating_event (store_cookie at cookie)) found) refl refl refl refl refl refl refl refl
allocating_beside a (store_type at tag) found = seen_alike a (next a (allocating_event (store_type at tag)) found) refl refl refl refl refl refl refl refl
allocating_beside a (store_payload at index value) found = seen_alike a (next a (allocating_event (store_payload at index value)) found) refl refl refl refl refl refl refl refl
allocating_beside a set_corrupt found = seen_alike a (next a (allocating_event set_corrupt) found) refl refl refl refl refl refl refl refl
allocating_beside a (set_full wanted) found = seen_alike a (next a (allocating_event (set_full wanted)) found) refl refl refl refl refl refl refl refl

-- an allocation sees no word of a record
freed_words : (b : Bool) (a : Actor) (old new wanted found : ℕ) → (after_free b a old new wanted found).seen.words ≡ a.seen.words
freed_words true a old new wanted found = refl
freed_words false a old new wanted found = refl

pub allocating_words : (a : Actor) (act : AllocatingEvent) (found : ℕ) → (next a (allocating_event act) found).seen.words ≡ a.seen.words
allocating_words a load_flags found = refl
allocating_words a load_free found = refl
allocating_words a (exchange_free old new wanted) found = freed_words (found == old) a old new wanted found
allocating_words a (store_size at size) found = refl
allocating_words a (store_cookie at cookie) found = refl
allocating_words a (store_type at tag) found = refl
allocating_words a (store_payload at index value) found = refl
allocating_words a set_corrupt found = refl
allocating_words a (set_full wanted) found = refl

-- it sees no more of the list
freed_list : (b : Bool) (a : Actor) (old new wanted found : ℕ) → SeesNoMore a (after_free b a old new wanted found)
freed_list true a old new wanted found = (refl, refl, refl)
freed_list false a old new wanted found = (refl, refl, refl)

pub allocating_list : (a : Actor) (act : AllocatingEvent) (found : ℕ) → SeesNoMore a (next a (allocating_event act) found)
allocating_list a load_flags found = (refl, refl, refl)
allocating_list a load_free found = (refl, refl, refl)
allocating_list a (exchange_free old new wanted) found = freed_list (found == old) a old new wanted found
allocating_list a (store_size at size) found = (refl, refl, refl)
allocating_list a (store_cookie at cookie) found = (refl, refl, refl)
allocating_list a (store_type at tag) found = (refl, refl, refl)
allocating_list a (store_payload at index value) found = (refl, refl, refl)
allocating_list a set_corrupt found = (refl, refl, refl)
allocating_list a (set_full wanted) found = (refl, refl, refl)

linked_list : (b : Bool) (a : Actor) (tail at found : ℕ) → SeesNoMore a (after_link b a tail at found)
linked_list true a tail at found = (refl, refl, refl)
linked_list false a tail at found = (refl, refl, refl)

pub publishing_list : (a : Actor) (act : PublishingEvent) (found : ℕ) → SeesNoMore a (next a (publishing_event act) found)
publishing_list a (store_own_next at) found = (refl, refl, refl)
publishing_list a load_tail found = (refl, refl, refl)
publishing_list a (link tail at) found = linked_list (found == 12) a tail at found
publishing_list a (move_tail old new) found = (refl, refl, refl)

linked : (b : Bool) (a : Actor) (tail at found : ℕ) → FrameOfStep a (after_link b a tail at found)
linked true a tail at found = seen_alike a (after_link true a tail at found) refl refl refl refl refl refl refl refl
linked false a tail at found = seen_alike a (after_link false a tail at found) refl refl refl refl refl refl refl refl

pub publishing_beside : (a : Actor) (act : PublishingEvent) (found : ℕ) → FrameOfStep a (next a (publishing_event act) found)
publishing_beside a (store_own_next at) found = seen_alike a (next a (publishing_event (store_own_next at)) found) refl refl refl refl refl refl refl refl
publishing_beside a load_tail found = seen_alike a (next a (publishing_event load_tail) found) refl refl refl refl refl refl refl refl
publishing_beside a (link tail at) found = linked (found == 12) a tail at found
publishing_beside a (move_tail old new) found = seen_alike a (next a (publishing_event (move_tail old new)) found) refl refl refl refl refl refl refl refl
