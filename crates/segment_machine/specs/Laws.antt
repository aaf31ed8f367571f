-- Laws of the machine alone: what a key is, and what a step changes.
use Rattle.std.specs.Prelude.{◌≡◌, ◌≢◌, ℕ, ℤ, pos, List, length, slice_index}
use lib.ListN.{get_elem?}
use Rattle.segment_image.specs.Words.{word_at}
use Rattle.bucket_ranges.specs.Ranges.{clamped, AreBoundaries, IsBucketOf}
use Rattle.segment_machine.specs.Entry.{key_of}
use Rattle.segment_machine.specs.Event.{Event, spot}
use Rattle.segment_machine.specs.State.{State, memory, IsStep}

-- ---- keys

-- the key of a value is the least value of its bucket
abbrev pub KeysAreLeast : Type 0
KeysAreLeast = (boundaries : List ℕ) (value : ℤ) (bucket : ℕ) → AreBoundaries boundaries → IsBucketOf boundaries (clamped value) bucket
    → key_of boundaries value ≡ pos (slice_index boundaries bucket)

-- ---- one step

-- a step changes at most one word and one actor
abbrev pub StepsChangeOne : Type 0
StepsChangeOne = (version : ℕ) (old new : State) (id : ℕ) (event : Event) → IsStep version old id event new
    → ((at : ℕ) → at ≢ spot (length old.words) event → word_at (memory new) at ≡ word_at (memory old) at)
    × ((other : ℕ) → other ≢ id → get_elem? new.actors other ≡ get_elem? old.actors other)
