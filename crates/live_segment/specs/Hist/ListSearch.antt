-- What becomes of a recorder that looks for the first record of a name: it walks along the list, and compares each record with what is
-- asked for.
use Rattle.std.specs.Prelude.{◌≡◌, ◌≢◌, Bool, true, false, ℕ, ◌+◌, ◌<◌, ◌≤◌, List, [], ◌∷◌, length, slice_index, Some}
use Rattle.std.specs.List.{Contains}
use Rattle.segment_image.specs.declared.layout.TheConstants.{HISTOGRAM_NAME}
use Rattle.segment_image.specs.Shape.{Dimensions}
use Rattle.segment_image.specs.Words.{bytes_of_words}
use Rattle.segment_machine.specs.declared.actor.Actor.{Actor}
use Rattle.segment_machine.specs.declared.seen.Seen.{Seen}
use Rattle.segment_machine.specs.Actor.{word_seen}
use Rattle.segment_machine.specs.Calls.{MayTurn}
use Rattle.segment_machine.specs.Made.{SawName, SawOtherName, SawSpec, SawOtherSpec}
use Rattle.segment_calls.specs.declared.asked.Asked.{Asked}
use Rattle.segment_calls.specs.Asked.{IsAskedFor}
use Rattle.segment_promises.specs.Onward.{Grows}
use Rattle.live_segment.specs.Steps.{IsSame, Pass}

-- ---- what is asked for

-- it asks for its name and its spec
abbrev pub IsAsked : Dimensions → Asked → Type 0
IsAsked shape asked = IsAskedFor shape asked.name.items asked.spec asked

-- ---- a record

-- it has visited a record on the list, and may load words of it
abbrev pub MayLoadRecord : ℕ → Actor → Type 0
MayLoadRecord at a = MayTurn a × Contains a.seen.chain at

-- it has seen more words of published records, and all else is unchanged
pub record SeesWords (old new : Actor) : Type 0 where
  pub view : new ≡ record old { seen = record old.seen { words = new.seen.words } }
  pub words : Grows old.seen.words new.seen.words

-- it is the same seat; its recorder has seen more words of published records, and all else is unchanged
pub record HasReadWords (old new : Pass) : Type 0 where
  pub same : IsSame old new
  pub view : SeesWords old.me.0 new.me.0

-- it saw that a record has these words from a place on, or that one of them has other bytes
abbrev pub ShowsWords : ℕ → ℕ → List ℕ → Bool → Seen → Type 0
ShowsWords at first words true seen = (i : ℕ) → i < length words → word_seen seen.words (at + first + i) ≡ Some (slice_index words i)
ShowsWords at first words false seen =
    (i word : ℕ) × (i < length words) × (word_seen seen.words (at + first + i) ≡ Some word)
    × (bytes_of_words (word ∷ []) ≢ bytes_of_words (slice_index words i ∷ []))

-- it saw that a record has the name, whose words lie within the segment, or that it does not have it
abbrev pub ShowsName : Asked → ℕ → Bool → Actor → Type 0
ShowsName asked at true a = SawName a.seen asked.name.items at × (at + HISTOGRAM_NAME + asked.letters ≤ a.segment.shape.size)
ShowsName asked at false a = SawOtherName a.seen asked.name.items at

-- it saw that a record that has the name also has the spec, or that it does not have it
abbrev pub ShowsSpec : Asked → ℕ → Bool → Seen → Type 0
ShowsSpec asked at true seen = SawSpec seen asked.spec asked.letters at
ShowsSpec asked at false seen = SawOtherSpec seen asked.spec asked.letters at
