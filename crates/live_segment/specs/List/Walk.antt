-- Where a walk along the list is, and how it continues.
use Rattle.std.specs.Prelude.{◌≡◌, ℕ, ◌+◌, ◌≤◌, List, length, slice_index, take, drop}
use Rattle.std.specs.List.{All}
use Rattle.segment_image.specs.declared.layout.TheConstants.{BLOCK_LEAST, HEADER_WORDS}
use Rattle.list_core.specs.Chain.{stops}
use Rattle.list_core.specs.Walk.{IsPrefix, stands_behind}
use Rattle.segment_machine.specs.declared.actor.Actor.{Actor}
use Rattle.segment_machine.specs.Calls.{MayTurn}
use Rattle.live_segment.specs.declared.list.walk.WalkPlace.{WalkPlace}
use Rattle.live_segment.specs.List.Records.{HasWalked}

-- A walk has given the front of a chain that was seen, all of it within a segment of this many words, and is at the end of that front.
pub record HasCome (size : ℕ) (chain : List ℕ) (place : WalkPlace) : Type 0 where
  pub few : place.given ≤ length chain
  pub stands : place.at ≡ slice_index (stops chain) place.given
  pub within : All (λ at. (HEADER_WORDS ≤ at) × (at + BLOCK_LEAST ≤ size)) (take place.given chain)

-- A walk has continued from a place to the end of the list, and has given the records after that place.
pub record WalksOn (size : ℕ) (old : Actor) (from : WalkPlace) (records : List ℕ) (new : Actor) (to : WalkPlace) : Type 0 where
  pub list : List ℕ
  pub walked : HasWalked old list new
  pub behind : records ≡ drop from.given list
  pub come : HasCome size list to
  pub given : to.given ≡ length list

-- A walk has given the front of the chain that its recorder has seen, and is at the last of these records, or at the queue block.
pub record IsWalkProgress (given : List ℕ) (at : ℕ) (a : Actor) : Type 0 where
  pub free : MayTurn a
  pub front : IsPrefix given a.seen.chain
  pub stands : at ≡ stands_behind given
  pub within : at + BLOCK_LEAST ≤ a.segment.shape.size
