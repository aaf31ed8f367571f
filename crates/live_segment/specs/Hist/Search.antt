-- What a walk along the list that looks for a name changes in a recorder, and how it ends.
use Rattle.std.specs.Prelude.{◌≡◌, ℕ, ◌+◌, ◌≤◌, List, length, ⊤}
use Rattle.std.specs.List.{All, Contains}
use Rattle.segment_image.specs.declared.layout.TheConstants.{HISTOGRAM_NAME}
use Rattle.bucket_ranges.specs.declared.spec.Spec.{Spec}
use Rattle.segment_machine.specs.declared.actor.Actor.{Actor}
use Rattle.segment_machine.specs.declared.actor.Known.{Known}
use Rattle.segment_machine.specs.declared.actor.Made.TheVariants.{Histogram}
use Rattle.segment_machine.specs.declared.seen.Seen.{Seen}
use Rattle.segment_machine.specs.Calls.{MayTurn}
use Rattle.segment_machine.specs.Made.{AreNameWords, IsFirstNamed, SawOtherName, SawOtherSpec}
use Rattle.segment_machine.specs.Note.{MayNote, knows}
use Rattle.segment_calls.specs.declared.asked.Asked.{Asked}
use Rattle.live_segment.specs.declared.hist.search.Search.{Search}
use Rattle.live_segment.specs.declared.hist.search.Search.TheVariants.{Met, OtherSpec, End}
use Rattle.segment_promises.specs.Onward.{Grows, StaysApart}
use Rattle.live_segment.specs.List.Ends.{SawAllOfList}
use Rattle.live_segment.specs.List.Walk.{IsWalkProgress}

-- ---- on the way

-- its walk along the list is at a block, and none of the records that it has given has the name
pub record SearchesAt (name : List ℕ) (at : ℕ) (a : Actor) : Type 0 where
  pub given : List ℕ
  pub way : IsWalkProgress given at a
  pub others : All (SawOtherName a.seen name) given

-- it has seen more of the list and of the words of records; a cursor that it had loaded may be let go, and all else is unchanged
pub record HasSearched (old new : Actor) : Type 0 where
  pub view : new ≡ record old {
    hand = record old.hand { place = new.hand.place };
    seen = record old.seen { chain = new.seen.chain; ends = new.seen.ends; words = new.seen.words };
  }
  pub apart : StaysApart old new
  pub chain : Grows old.seen.chain new.seen.chain
  pub ends : Grows old.seen.ends new.seen.ends
  pub words : Grows old.seen.words new.seen.words

-- ---- at its end

-- what is asked for, with a record
abbrev pub asked_at : Asked → ℕ → Known
asked_at asked reference = record { name = asked.name.items; spec = asked.spec; reference = reference }

-- it saw that the first record of the name has another spec
abbrev pub FirstHasOtherSpec : Asked → Actor → Type 0
FirstHasOtherSpec asked a = (at : ℕ) × (letters : List ℕ) × IsFirstNamed a.seen asked.name.items at × AreNameWords asked.name.items letters
    × SawOtherSpec a.seen asked.spec (length letters) at

-- it has published no record of the name
abbrev pub HasMadeNone : List ℕ → Actor → Type 0
HasMadeNone name a = (spec : Spec) (at : ℕ) → ¬ (Contains a.done.published (record { reference = at; made = Histogram name spec }))

-- if it came to the end of the list, it has found the end there since
abbrev pub FoundEnd : Search → Seen → Seen → Type 0
FoundEnd (End at) old new = SawAllOfList old new
FoundEnd _ old new = ⊤

-- It visited the first record of the name on the list, within the segment: it may note that it knows what is asked for, or the record has
-- another spec. Or it saw all of the list, and no record has the name, not even one that it made.
abbrev pub Searches : Asked → Search → Actor → Type 0
Searches asked (Met reference) a =
    MayTurn a × MayNote a (knows (asked_at asked reference)) × Contains a.seen.chain reference × (reference + HISTOGRAM_NAME ≤ a.segment.shape.size)
Searches asked OtherSpec a = MayTurn a × FirstHasOtherSpec asked a
Searches asked (End at) a =
    SearchesAt asked.name.items at a × All (SawOtherName a.seen asked.name.items) a.seen.chain × HasMadeNone asked.name.items a
