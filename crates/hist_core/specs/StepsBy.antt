-- How an actor performs one event.
use Rattle.std.specs.Prelude.{◌≡◌, ◌≢◌, ◌≤◌, Bool, true, false, ◌||◌, ℕ, ◌+◌, List, ◌++◌}
use Rattle.std.specs.List.{All, Contains}
use Rattle.segment_image.specs.Words.{word_at}
use Rattle.segment_image.specs.declared.layout.TheConstants.{BLOCK_NEXT, HISTOGRAM_NAME}
use Rattle.list_core.specs.Walk.{IsPrefix, stands_behind}
use Rattle.segment_machine.specs.declared.actor.Actor.{Actor}
use Rattle.segment_machine.specs.declared.actor.Known.{Known}
use Rattle.segment_machine.specs.declared.actor.Made.{Made}
use Rattle.segment_machine.specs.declared.actor.Published.{Published}
use Rattle.segment_machine.specs.declared.actor.Rise.{Rise}
use Rattle.segment_machine.specs.declared.place.Place.{Place}
use Rattle.segment_machine.specs.declared.place.Place.TheVariants.{FreeLoaded, Spent}
use Rattle.segment_machine.specs.Actor.{AreOwnBlocksApart, is_bound}
use Rattle.segment_machine.specs.declared.seen.Seen.{Seen}
use Rattle.segment_machine.specs.declared.seen.Sighting.{Sighting}
use Rattle.segment_machine.specs.Event.{Event, spot, after, next, Ready, Learned}
use Rattle.segment_machine.specs.Note.{Note, Notes}
use Rattle.segment_machine.specs.Taking.{is_looking}
use Rattle.segment_promises.specs.Calls.{SamplesStandBehind}
use Rattle.segment_promises.specs.Values.{NoRepeats}

-- What an event leaves unchanged of its actor: the role, the segment, the units, the entries, the deltas, and the known names. Of the chain
-- and of the words of records its actor has seen no less.
pub record FrameOfStep (a b : Actor) : Type 0 where
  pub role : b.role ≡ a.role
  pub segment : b.segment ≡ a.segment
  pub units : b.units ≡ a.units
  pub entries : b.entries ≡ a.entries
  pub deltas : b.deltas ≡ a.deltas
  pub names : b.answers.names ≡ a.answers.names
  pub chain : IsPrefix a.seen.chain b.seen.chain
  pub words : (more : List Sighting) × (b.seen.words ≡ a.seen.words ++ more)

-- What an event may do to the segment that others can see, except for setting a flag: it links a record that is to hold this, or raises the
-- free pointer for a block of this many words.
pub data SharedEffect : Type 0 where
  links : Made → SharedEffect
  raises : ℕ → SharedEffect

-- What an event does to the segment that others can see: it sets the corrupt flag and the full one exactly if `corrupt` and `full` say so,
-- and it links a record or raises the free pointer for a block only as it may.
pub record DoesOnly (corrupt full : Bool) (may : SharedEffect → Type 0) (a b : Actor) : Type 0 where
  pub spoiled : b.done.spoiled ≡ (corrupt || a.done.spoiled)
  pub filled : b.done.filled ≡ (full || a.done.filled)
  pub linked : (more : List Published) × (b.done.published ≡ a.done.published ++ more) × All (λ (p : Published). may (links p.made)) more
  pub raised : (more : List Rise) × (b.done.raised ≡ a.done.raised ++ more) × All (λ (r : Rise). may (raises r.wanted)) more

-- On the list, as far as it has walked, no block comes twice, and each sample comes after the record of its histogram.
pub record IsInOrder (a : Actor) : Type 0 where
  pub once : NoRepeats a.seen.chain
  pub behind : SamplesStandBehind a

-- an actor that has not been joined has walked in order
abbrev pub WalksInOrder : Actor → Type 0
WalksInOrder a = a.hand.place ≢ Spent → IsInOrder a

-- An actor performs one event on the words of a segment: it does an event for which it is ready, with notes before it and, once it has
-- learned the number that was found, after it; the words become what the event makes of them; and then `holds` is true of it.
pub record StepsBy (size version : ℕ) (a : Actor) (words new_words : List ℕ) (holds : Actor → Type 0) : Type 0 where
  pub before : List Note
  pub at : Actor
  pub told : Notes a before at
  pub event : Event
  pub ready : Ready at event
  pub words_are : new_words ≡ after size version event words
  pub goes : Learned at event (word_at words (spot size event)) → AreOwnBlocksApart (next at event (word_at words (spot size event)))
      → WalksInOrder (next at event (word_at words (spot size event)))
      → (behind : List Note) × (then_is : Actor) × Notes (next at event (word_at words (spot size event))) behind then_is × holds then_is

-- it holds a free pointer that it has loaded
abbrev pub has_pointer : Place → Bool
has_pointer (FreeLoaded free) = true
has_pointer place = false

-- in the middle of a part of a call: at the single word or the counts of a histogram, or at a free pointer
abbrev pub is_tied : Place → Bool
is_tied place = is_bound place || (is_looking place || has_pointer place)

-- it may turn to any other call
abbrev pub IsFree : Actor → Type 0
IsFree a = is_tied a.hand.place ≡ false

-- it has visited the record of each histogram that it knows
abbrev pub HasMetKnown : Actor → Type 0
HasMetKnown a = (known : Known) → Contains a.answers.names known → Contains a.seen.chain known.reference

-- It has seen the list to its end: the next of the last record that it has visited on it, or of the queue block if it has visited none, was
-- the end of the list when it loaded that.
abbrev pub SawEnd : Seen → Type 0
SawEnd seen = Contains seen.ends (stands_behind seen.chain + BLOCK_NEXT)

-- of the list and of single words it has seen no more than before
abbrev pub SeesNoMore : Actor → Actor → Type 0
SeesNoMore a b = (b.seen.chain ≡ a.seen.chain) × (b.seen.ends ≡ a.seen.ends) × (b.seen.singles ≡ a.seen.singles)

-- the record of a histogram lies within `n` words, which are at most 2^20
pub record LiesWithin (n histogram : ℕ) : Type 0 where
  pub within : histogram + HISTOGRAM_NAME ≤ n
  pub few : n ≤ 1048576
