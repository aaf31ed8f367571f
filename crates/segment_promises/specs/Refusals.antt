-- What a refused call that counts has done: nothing but its first entries.
use Rattle.std.specs.Prelude.{◌≡◌, ◌≢◌, ℕ, ℤ, List, [], ◌++◌, map, take, false}
use mathlib.Core.Option.{some}
use lib.ListN.{get_elem?}
use Rattle.segment_image.specs.Shape.{Dimensions}
use Rattle.segment_machine.specs.declared.entry.Entry.{Entry}
use Rattle.segment_machine.specs.declared.actor.Actor.{Actor}
use Rattle.segment_machine.specs.Entry.{tally_units, tally_sum, tally_noted}
use Rattle.segment_machine.specs.Actor.{log_of, counted_of, summed_of, noted_of, transit_at}
use Rattle.segment_machine.specs.Note.{MayNote, refused}
use Rattle.segment_machine.specs.State.{State}
use Rattle.segment_invariant.specs.Body.{Anatomy}
use Rattle.segment_invariant.specs.Invariant.{Invariant}

-- An actor has counted and noted its log and then these entries, and nothing else; it added no amounts except those of its log; it has no
-- units in transit, and no delta of it is running.
pub record HasDone (a : Actor) (entries : List Entry) : Type 0 where
  pub counted : (name : List ℕ) (key : ℤ) → tally_units (counted_of a) name key ≡ tally_units (log_of a ++ entries) name key
  pub noted : (name : List ℕ) → tally_noted (noted_of a) name ≡ tally_noted (map (λ c. c.entry) a.entries.log ++ entries) name
  pub summed : (name : List ℕ) → tally_sum (summed_of a) name ≡ tally_sum (log_of a) name
  pub moved : (histogram bucket : ℕ) → transit_at a.hand.place histogram bucket ≡ 0
  pub took : a.deltas.taking ≡ false

-- A refused batch has done its first `added` items; a refused `add`, of whose entry nothing is added, has done nothing. The log does not
-- change while such a call runs, so this is all that the call has done.
abbrev pub RefusedAddsFew : Type 0
RefusedAddsFew = (shape : Dimensions) (opened : Anatomy) (state : State) (who : ℕ) (a : Actor) (added : ℕ) → Invariant shape opened state
    → get_elem? state.actors who ≡ some a → a.entries.running ≢ [] → MayNote a (refused added)
    → HasDone a (map (λ c. c.entry) (take added a.entries.running))
