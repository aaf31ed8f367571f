-- What a world starts with: a new segment, or an image that is continued.
use Rattle.std.specs.Prelude.{◌≡◌, ◌⊎◌, ℕ, List, [], ◌∷◌}
use Rattle.segment_image.specs.declared.layout.TheConstants.{VERSION_FROZEN}
use Rattle.segment_image.specs.Head.{head_of}
use Rattle.segment_image.specs.Shape.{Dimensions}
use Rattle.bucket_ranges.specs.Reading.{IsListed, reading_along}
use Rattle.alloc_core.specs.Layout.{IsShape, IsShown, render, fresh}
use Rattle.segment_machine.specs.declared.actor.Actor.{Actor}
use Rattle.segment_machine.specs.Seats.{opener_of}
use Rattle.segment_machine.specs.State.{State}
use Rattle.segment_invariant.specs.Body.{Anatomy, blank, layout_of, order_of}
use Rattle.segment_invariant.specs.Invariant.{Invariant}
use Rattle.segment_invariant.specs.Keeps.{IsOpening}
use Rattle.segment_promises.specs.Adoption.{IsAdoptable, adopter}

-- the blocks of a segment, its words, and its opener, which stands for all that they count
pub record Start : Type 0 where
  pub opened : Anatomy
  pub words : List ℕ
  pub opener : Actor

-- its state: the opener is the only actor, and there are no shared cursors
abbrev pub start_state : Start → State
start_state start = record { words = start.words; cursors = []; actors = start.opener ∷ [] }

-- a new segment
abbrev pub new_start : Dimensions → ℕ → ℕ → Start
new_start shape version id = record {
  opened = blank version id shape.size;
  words = render shape (fresh shape version id);
  opener = opener_of shape version 0;
}

-- The words of an image that may be adopted, with the references on its list: the opener stands for what they read as along it. The blocks
-- are those of the words, and the invariant holds of them.
pub record IsImageStart (words references : List ℕ) (start : Start) : Type 0 where
  pub listed : IsListed words (head_of words) references
  pub adoptable : IsAdoptable words references (reading_along words (head_of words) references)
  pub words_are : start.words ≡ words
  pub opener_is : start.opener ≡ adopter words references (reading_along words (head_of words) references) 0
  pub shown : IsShown (head_of words).shape start.words (layout_of start.opened)
  pub order : order_of start.opened ≡ references
  pub kept : Invariant (head_of words).shape start.opened (start_state start)
  pub opens : IsOpening (head_of words).shape start.opened

-- a valid shape and version, and a new segment of these
abbrev pub IsNewStart : Dimensions → ℕ → Start → Type 0
IsNewStart shape version start = (id : ℕ) × IsShape shape × ((version ≡ 1) ⊎ (version ≡ 2)) × (start ≡ new_start shape version id)

-- the shape and the version of an image that may be adopted, and this image
abbrev pub IsAdoptedStart : Dimensions → ℕ → Start → Type 0
IsAdoptedStart shape version start =
    (words references : List ℕ) × IsImageStart words references start × (shape ≡ (head_of words).shape) × (version ≡ VERSION_FROZEN)

-- a world of a shape and a version starts with one of these
abbrev pub MayStart : Dimensions → ℕ → Start → Type 0
MayStart shape version start = IsNewStart shape version start ⊎ IsAdoptedStart shape version start
