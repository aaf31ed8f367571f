-- The states of a segment in which calls end: what is true in one of them is true of the segment, and not only of what a recorder has seen.
use Rattle.std.specs.Prelude.{◌≡◌, ℕ, ◌+◌, ◌<◌, List, [], ◌++◌, slice_index, IsPermutation, Option, Some, None, false}
use mathlib.Core.Option.{some}
use lib.ListN.{get_elem?}
use Rattle.segment_image.specs.declared.layout.TheConstants.{BLOCK_NEXT}
use Rattle.segment_image.specs.Head.{head_of}
use Rattle.segment_image.specs.Words.{word_at}
use Rattle.bucket_ranges.specs.Spec.{SameSpec}
use Rattle.bucket_ranges.specs.Reading.{spec_of}
use Rattle.list_core.specs.Chain.{IsChain}
use Rattle.list_core.specs.Walk.{stands_behind}
use Rattle.segment_machine.specs.declared.actor.Actor.{Actor}
use Rattle.segment_machine.specs.declared.actor.Known.{Known}
use Rattle.segment_machine.specs.Actor.{Each, all_given, given_by, is_opener}
use Rattle.segment_machine.specs.State.{State}
use Rattle.segment_invariant.specs.Body.{Anatomy}
use Rattle.segment_invariant.specs.Consistent.{IsHistogram}
use Rattle.segment_invariant.specs.Invariant.{Invariant}
use Rattle.live_segment.specs.declared.rule.Opening.{Opening}
use Rattle.live_segment.specs.Rule.{CameTo, IsOpenedAs, opening_state}
use Rattle.live_segment.specs.Steps.{Sat}

-- A state to which a segment with this opening came. It keeps what holds between any two events, so it is consistent; and in it the holder
-- of the seat of this number has done and seen this.
pub record Standing (opening : Opening) (number : ℕ) (a : Actor) : Type 0 where
  pub opened : Anatomy
  pub as_said : IsOpenedAs opening opened
  pub start : Invariant opening.setting.shape opened (opening_state opening)
  pub state : State
  pub come : CameTo opening state
  pub kept : Invariant opening.setting.shape opened state
  pub stands : get_elem? state.actors number ≡ some a

-- a step changes nothing, and its seat is in such a state
abbrev pub StandsStill : Option Opening → ℕ → Sat → ℕ → Sat → Type 0
StandsStill place number me found me' =
    (me'.0 ≡ me.0) × (me'.1 ≡ me.1) × ((opening : Opening) → place ≡ Some opening → Standing opening number me'.0)

-- in such a state the next of a block is this
pub record SeesNext (opening : Opening) (number at next : ℕ) (a : Actor) : Type 0 where
  pub standing : Standing opening number a
  pub next_is : word_at standing.state.words (at + BLOCK_NEXT) ≡ next

-- in such a state the list has exactly these records, in their order
pub record HasList (opening : Opening) (number : ℕ) (a : Actor) (records : List ℕ) : Type 0 where
  pub standing : Standing opening number a
  pub list : IsChain standing.state.words (head_of standing.state.words) records

-- in such a state a histogram is the first of its name on the list, and has the same spec
pub record HasFirst (opening : Opening) (number : ℕ) (a : Actor) (known : Known) : Type 0 where
  pub standing : Standing opening number a
  pub records : List ℕ
  pub list : IsChain standing.state.words (head_of standing.state.words) records
  pub first : IsHistogram standing.state.words records known.name known.reference
  pub same : SameSpec (spec_of standing.state.words known.reference) known.spec

-- In such a state a shared cursor gave all recorders together a front of the list, each record once, and is at the end of that front; what
-- it gave one recorder is in the order of the list. If it has just returned none, that front is all of the list.
pub record HasShared (opening : Opening) (number : ℕ) (a : Actor) (cursor : ℕ) (answer : Option ℕ) : Type 0 where
  pub standing : Standing opening number a
  pub front : List ℕ
  pub behind : List ℕ
  pub list : IsChain standing.state.words (head_of standing.state.words) (front ++ behind)
  pub gave : IsPermutation (all_given standing.state.actors cursor) front
  pub stands_there : slice_index standing.state.cursors cursor ≡ stands_behind front
  pub ordered : Each standing.state.actors (λ a. (i j k l x y : ℕ) → is_opener a.role ≡ false → i < j
      → get_elem? (given_by cursor a.done.given) i ≡ some x → get_elem? (given_by cursor a.done.given) j ≡ some y
      → get_elem? (front ++ behind) k ≡ some x → get_elem? (front ++ behind) l ≡ some y → k < l)
  pub whole : answer ≡ None → behind ≡ []
