-- Runs of a segment, and copies of its words that are loaded meanwhile: each word at a moment of its own.
use Rattle.std.specs.Prelude.{◌≡◌, ℕ, suc, ◌<◌, ◌≤◌, List, length}
use Rattle.segment_image.specs.declared.layout.TheConstants.{VERSION_FROZEN}
use Rattle.segment_image.specs.Shape.{Dimensions}
use Rattle.segment_image.specs.Words.{word_at}
use Rattle.segment_machine.specs.State.{State}
use Rattle.segment_machine.specs.Reached.{IsReached}
use Rattle.segment_invariant.specs.Body.{Anatomy}
use Rattle.segment_invariant.specs.Invariant.{Invariant}

-- A run of a segment of version 2 that was opened as `opened`: the states at its moments. The first is kept, and each is reached from the
-- one before, by any number of steps.
pub record RunsThrough (shape : Dimensions) (opened : Anatomy) (at : ℕ → State) : Type 0 where
  pub version : opened.version ≡ VERSION_FROZEN
  pub kept : Invariant shape opened (at 0)
  pub goes_on : (n : ℕ) → IsReached VERSION_FROZEN (at n) (at (suc n))

-- words were loaded one by one: each is that of the state at the moment of its load
pub record IsCopy (shape : Dimensions) (at : ℕ → State) (moments : ℕ → ℕ) (words : List ℕ) : Type 0 where
  pub long : length words ≡ shape.size
  pub each : (i : ℕ) → i < shape.size → word_at words i ≡ word_at (at (moments i)).words i

-- the moments of three copies: for each word of each copy the moment at which it was loaded
pub record Moments : Type 0 where
  pub one : ℕ → ℕ
  pub two : ℕ → ℕ
  pub three : ℕ → ℕ

-- Each copy comes after the one before it: none of its words was loaded at an earlier moment than any word of that one. Nothing was loaded
-- before a first moment, or after a last one.
pub record ComeInOrder (size first last : ℕ) (moments : Moments) : Type 0 where
  pub begins : (i : ℕ) → i < size → first ≤ moments.one i
  pub second : (i j : ℕ) → i < size → j < size → moments.one i ≤ moments.two j
  pub third : (i j : ℕ) → i < size → j < size → moments.two i ≤ moments.three j
  pub ends : (i : ℕ) → i < size → moments.three i ≤ last

-- Three copies of a run, in order, from a first moment to a last one.
pub record AreLoaded (shape : Dimensions) (at : ℕ → State) (first last : ℕ) (moments : Moments) (one two three : List ℕ) : Type 0 where
  pub copy_one : IsCopy shape at moments.one one
  pub copy_two : IsCopy shape at moments.two two
  pub copy_three : IsCopy shape at moments.three three
  pub ordered : ComeInOrder shape.size first last moments
