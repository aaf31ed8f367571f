-- What a walk along the list changes in a recorder: it has seen all of the list, and has its records in their order.
use Rattle.std.specs.Prelude.{◌≡◌, false, ℕ, ◌+◌, ◌≤◌, ℤ, List, [], ◌∷◌, ◌++◌, Option, Some}
use Rattle.std.specs.List.{All, Contains}
use Rattle.segment_image.specs.declared.layout.TheConstants.{BLOCK_LEAST, BLOCK_NEXT, BLOCK_TYPE, HEADER_WORDS}
use Rattle.bucket_ranges.specs.declared.spec.Spec.{Spec}
use Rattle.list_core.specs.Walk.{stands_behind}
use Rattle.segment_machine.specs.declared.actor.Actor.{Actor}
use Rattle.segment_machine.specs.declared.actor.Made.TheVariants.{Histogram, Sample}
use Rattle.segment_machine.specs.Made.{SawOther, SawOtherName}
use Rattle.segment_machine.specs.Actor.{is_bound}
use Rattle.segment_machine.specs.Event.{walking_event}
use Rattle.segment_machine.specs.Walking.{load_next, load_published, records_met}
use Rattle.segment_promises.specs.Calls.{SamplesStandBehind}
use Rattle.segment_promises.specs.Onward.{Grows, StaysApart}
use Rattle.segment_promises.specs.Values.{NoRepeats}
use Rattle.live_segment.specs.declared.rule.Opening.{Opening}
use Rattle.live_segment.specs.Standing.{SeesNext}
use Rattle.live_segment.specs.Steps.{DoesAt, Sat}

-- it has not seen another name in a record that it published for a name
abbrev pub KnowsOwnNames : Actor → Type 0
KnowsOwnNames a = (name : List ℕ) (spec : Spec) (at : ℕ) → Contains a.done.published (record { reference = at; made = Histogram name spec })
    → SawOtherName a.seen name at → ⊥

-- It has not seen that a sample that it published is another record. If it visited such a sample on the list, that comes after its
-- histogram's record.
abbrev pub KnowsOwnSamples : Actor → Type 0
KnowsOwnSamples a = (histogram : ℕ) (value : ℤ) (at : ℕ) → Contains a.done.published (record { reference = at; made = Sample histogram value })
    → (SawOther a.seen histogram value at → ⊥)
    × ((front behind : List ℕ) → a.seen.chain ≡ front ++ histogram ∷ behind → Contains a.seen.chain at → Contains behind at)

-- A next is loaded, by a recorder that has visited no block twice, and has seen none of its own records as another one. If its seat is
-- known, that is in a state in which this is the next.
abbrev pub LoadsNext : Option Opening → ℕ → ℕ → Sat → ℕ → Sat → Type 0
LoadsNext place number word me found me' =
    DoesAt (λ at. walking_event (load_next at)) word me found me' × NoRepeats me.0.seen.chain × KnowsOwnNames me.0
    × KnowsOwnSamples me.0
    × ((opening : Opening) (at : ℕ) → place ≡ Some opening → word ≡ at + BLOCK_NEXT + 1 → SeesNext opening number at found me'.0)

-- The type of a record that was visited is loaded: of what its recorder visited, each sample comes after the record of its histogram, and
-- no block comes twice.
abbrev pub LoadsType : ℕ → Sat → ℕ → Sat → Type 0
LoadsType word me found me' =
    DoesAt (λ at. walking_event (load_published at BLOCK_TYPE)) word me found me' × SamplesStandBehind me.0 × NoRepeats me.0.seen.chain

-- The records of the list are these, in its order, each once and within the segment: first those that the recorder had seen there, and
-- among them all that it had made, been given, or seen as the tail or at a shared cursor. It has seen them now, and that the list ended
-- after the last of them; a cursor that it had loaded may be let go, and all else is unchanged.
pub record HasWalked (old : Actor) (given : List ℕ) (new : Actor) : Type 0 where
  pub view : new ≡ record old {
    hand = record old.hand { place = new.hand.place };
    seen = record old.seen { chain = given; ends = old.seen.ends ++ (stands_behind given + BLOCK_NEXT) ∷ [] };
  }
  pub free : is_bound new.hand.place ≡ false
  pub apart : StaysApart old new
  pub chain : Grows old.seen.chain given
  pub once : NoRepeats given
  pub within : All (λ at. (HEADER_WORDS ≤ at) × (at + BLOCK_LEAST ≤ old.segment.shape.size)) given
  pub met : All (Contains given) (records_met old)
