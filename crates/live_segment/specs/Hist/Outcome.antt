-- What a `hist` changes in its recorder: it knows the first record of the name, or why it does not.
use Rattle.std.specs.Prelude.{◌≡◌, ◌⊎◌, ℕ, ◌+◌, ◌≤◌, [], ◌∷◌, ◌++◌, length, Result, Ok, Err}
use Rattle.std.specs.List.{All, Contains}
use Rattle.segment_image.specs.declared.layout.TheConstants.{BLOCK_HEADER, HISTOGRAM_NAME}
use Rattle.segment_machine.specs.declared.actor.Actor.{Actor}
use Rattle.segment_machine.specs.Calls.{MayTurn}
use Rattle.segment_machine.specs.Made.{SawOtherName}
use Rattle.segment_machine.specs.Actor.{looking}
use Rattle.segment_machine.specs.Note.{knows, MayNote}
use Rattle.segment_calls.specs.declared.asked.Asked.{Asked}
use Rattle.segment_calls.specs.declared.refusal.Refusal.{Refusal}
use Rattle.segment_calls.specs.declared.refusal.Refusal.TheVariants.{OtherSpec}
use Rattle.live_segment.specs.declared.recorder.KnownHistogram.{KnownHistogram}
use Rattle.live_segment.specs.Add.Sample.{HasNoRoom}
use Rattle.live_segment.specs.Steps.Answering.{HaveOneName}
use Rattle.live_segment.specs.List.Ends.{SawAllOfList}
use Rattle.live_segment.specs.Alloc.Claims.{NamesAtMostOne}
use Rattle.live_segment.specs.Known.{known_view}
use Rattle.segment_promises.specs.Onward.{DoesOn, SeesOn, StaysApart}
use Rattle.live_segment.specs.Hist.Search.{asked_at, FirstHasOtherSpec}

-- It has seen more of the segment, and may have claimed blocks, published records and set the full flag. It has seen no further single
-- word, count or mark; except for answers that it owes, all else is unchanged.
pub record LooksAround (old new : Actor) : Type 0 where
  pub same : new ≡ record old { hand = new.hand; done = new.done; seen = new.seen; answers = record old.answers { owed = new.answers.owed } }
  pub free : MayTurn new
  pub apart : StaysApart old new
  pub done : DoesOn old.done new.done
  pub seen : SeesOn old.seen new.seen
  pub untouched : (new.seen.singles ≡ old.seen.singles) × (new.seen.counts ≡ old.seen.counts)

-- it owes the answer of a record that it made of what is asked for, or none
abbrev pub Owes : Asked → Actor → Type 0
Owes asked a = (a.answers.owed ≡ []) ⊎ ((at : ℕ) × (a.answers.owed ≡ asked_at asked at ∷ []))

-- a record within the segment that it visited on the list, which is the first of the name and has the spec
abbrev pub IsFound : Asked → ℕ → Actor → Type 0
IsFound asked reference a =
    MayNote a (knows (asked_at asked reference)) × Contains a.seen.chain reference × (reference + HISTOGRAM_NAME ≤ a.segment.shape.size)

-- Why the caller gets none: the first record of the name has another spec; or it has seen all of the list, as the list was when the call
-- found its end, no record there has the name, and no block could be claimed for one.
abbrev pub IsHistRefusal : Asked → Refusal → Actor → Actor → Type 0
IsHistRefusal asked OtherSpec old new = FirstHasOtherSpec asked new
IsHistRefusal asked why old new =
    All (SawOtherName new.seen asked.name.items) new.seen.chain × SawAllOfList old.seen new.seen
    × HasNoRoom why (BLOCK_HEADER + length asked.payload.items) old new

-- what it owes then: if the cause is another spec, at most the answer of one record that it made; else none
abbrev pub OwesAs : Asked → Refusal → Actor → Type 0
OwesAs asked OtherSpec a = Owes asked a
OwesAs asked why a = a.answers.owed ≡ []

-- what holds before it announces that; the full flag is unchanged if there is a record
abbrev pub LooksUp : Asked → Actor → Result ℕ Refusal → Actor → Type 0
LooksUp asked old (Ok reference) new =
    LooksAround old new × Owes asked new × IsFound asked reference new × (new.done.filled ≡ old.done.filled)
LooksUp asked old (Err why) new = LooksAround old new × OwesAs asked why new × IsHistRefusal asked why old new

-- what it has made if there is a record of the name, with the spec or another: nothing, or one record of what is asked for
abbrev pub MakesFor : Asked → Actor → Actor → Type 0
MakesFor asked old new = NamesAtMostOne asked.name.items asked.spec (BLOCK_HEADER + length asked.payload.items) old new

-- From then on it knows what it asked for, after what it knew, and it begins to look at histograms again. No allocation was refused: it has
-- not set the full flag.
pub record ComesToKnow (asked : Asked) (reference : ℕ) (old new : Actor) : Type 0 where
  pub last : Actor
  pub looks : LooksAround old last
  pub found : IsFound asked reference last
  pub view : new ≡ record (looking last) { answers = record { names = old.answers.names ++ asked_at asked reference ∷ []; owed = [] } }
  pub alone : HaveOneName (asked_at asked reference) old
  pub filled : new.done.filled ≡ old.done.filled

-- the same once it has announced that
abbrev pub Settles : Asked → Actor → Result ℕ Refusal → Actor → Type 0
Settles asked old (Ok reference) new = ComesToKnow asked reference old new
Settles asked old (Err why) new = LooksAround old new × (new.answers.owed ≡ []) × IsHistRefusal asked why old new

-- what it asked for, as the record that was found
pub record IsKnownAs (asked : Asked) (known : KnownHistogram) : Type 0 where
  pub view : known_view known ≡ asked_at asked known.reference
  pub ranges : known.ranges ≡ asked.ranges

-- the same, with what it knows then
abbrev pub IsAnnouncedOf : Asked → Actor → Result KnownHistogram Refusal → Actor → Type 0
IsAnnouncedOf asked old (Ok known) new = IsKnownAs asked known × Settles asked old (Ok known.reference) new
IsAnnouncedOf asked old (Err why) new = Settles asked old (Err why) new
