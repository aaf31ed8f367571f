-- The list of records of a segment, for any words at all.
use Rattle.std.specs.Prelude.{◌≡◌, ◌≢◌, Bool, true, ◌==◌, if◌then◌else◌, ℕ, ◌<◌, ◌≤◌, List, [], ◌∷◌, ◌++◌, length, slice_index, Option, None}
use Rattle.std.specs.List.{list_any}
use Rattle.segment_image.specs.Checks.{first_fault}
use Rattle.segment_image.specs.Blocks.{field_at, is_block, block_checks}
use Rattle.segment_image.specs.declared.fault.ImageFault.{ImageFault}
use Rattle.segment_image.specs.declared.fault.ImageFault.TheVariants.{Loop}
use Rattle.segment_image.specs.declared.head.SegmentHead.{SegmentHead}
use Rattle.segment_image.specs.declared.layout.TheConstants.{QUEUE, BLOCK_NEXT}

-- the block before place i of a list of references: the queue block before the first
abbrev pub before : List ℕ → ℕ → ℕ
before references i = slice_index (QUEUE ∷ references) i

-- the reference that a block's next word gives
abbrev pub next_of : List ℕ → ℕ → ℕ
next_of words reference = field_at words reference BLOCK_NEXT

-- references that the nexts give from the queue block, each of a valid block, and none twice
pub record IsWalk (words : List ℕ) (head : SegmentHead) (references : List ℕ) : Type 0 where
  pub linked : (i : ℕ) → i < length references → next_of words (before references i) ≡ slice_index references i
  pub lawful : (i : ℕ) → i < length references → is_block words head (slice_index references i) ≡ true
  pub distinct : (i j : ℕ) → i < j → j < length references → slice_index references i ≢ slice_index references j

-- the list of a segment: the longest such references
pub record IsListed (words : List ℕ) (head : SegmentHead) (references : List ℕ) : Type 0 where
  pub walk : IsWalk words head references
  pub longest : (others : List ℕ) → IsWalk words head others → length others ≤ length references

-- what can be wrong with the next after these references, in order: there is no valid block at it, or it was visited before
abbrev pub next_checks : List ℕ → SegmentHead → List ℕ → ℕ → List (Bool × ImageFault)
next_checks words head references next =
    block_checks words head next ++ (list_any (λ reference. reference == next) references, Loop) ∷ []

-- why the list stops: for no fault if its last next is the queue block, otherwise for the first fault of that next
abbrev pub stop_of : List ℕ → SegmentHead → List ℕ → Option ImageFault
stop_of words head references =
    let next = next_of words (before references (length references)) in
    if next == QUEUE then None else first_fault (next_checks words head references next)
