-- How a call that counts ends if it is refused: the step that refused it notes that.
use Rattle.std.specs.Prelude.{◌≡◌, true, false, ◌==◌, ℕ, ◌+◌, ℤ, if◌then◌else◌, List, [], ◌∷◌, take, drop, length, bit_and, None}
use Rattle.std.specs.List.{All, filter}
use Rattle.segment_image.specs.declared.layout.TheConstants.{FLAG_CORRUPT, HISTOGRAM_COUNTS}
use Rattle.segment_calls.specs.declared.refusal.Refusal.{Refusal}
use Rattle.segment_machine.specs.declared.entry.EntryProgress.{EntryProgress}
use Rattle.segment_machine.specs.declared.actor.Actor.{Actor}
use Rattle.segment_machine.specs.declared.actor.Known.{Known}
use Rattle.segment_machine.specs.declared.place.Place.TheVariants.{Idle}
use Rattle.segment_machine.specs.Actor.{word_seen}
use Rattle.segment_machine.specs.Allocating.{load_flags, set_full}
use Rattle.segment_machine.specs.Entry.{has_ended}
use Rattle.segment_machine.specs.Event.{allocating_event}
use Rattle.segment_machine.specs.Note.{Note, refused, is_untouched}
use Rattle.segment_promises.specs.Follows.{noted_by, GhostNoted}
use Rattle.live_segment.specs.Add.Sample.{HasNoRoom, LacksBlock, block_words}
use Rattle.live_segment.specs.List.Ends.{FoundNoCounts}
use Rattle.live_segment.specs.Add.Finish.{item_of}
use Rattle.live_segment.specs.Steps.{Sat}
use Rattle.live_segment.specs.Steps.GhostNotes.{bucket_entry}
use Rattle.live_segment.specs.Add.Progress.{CannotPack, LooksFor}

-- ---- how it ends

-- how many entries of a call have ended
abbrev pub how_many_ended : List EntryProgress → ℕ
how_many_ended running = length (filter has_ended running)

-- a call that has begun ends with the entries that have ended, and takes back the others; one that has not begun notes nothing
abbrev pub refusing_notes : List EntryProgress → List Note
refusing_notes [] = []
refusing_notes (c ∷ rest) = refused (how_many_ended (c ∷ rest)) ∷ []

-- what becomes of its recorder
abbrev pub given_up : Actor → Actor
given_up a = noted_by a (refusing_notes a.entries.running)

-- it may end like that: its first entries have ended and added no amount, and nothing has happened of the others
pub record MayEnd (running : List EntryProgress) : Type 0 where
  pub ended : All (λ c. has_ended c ≡ true) (take (how_many_ended running) running)
  pub unsummed : All (λ c. c.summed ≡ false) (take (how_many_ended running) running)
  pub untouched : All (λ c. is_untouched c ≡ true) (drop (how_many_ended running) running)

-- an actor may end its running call like that
abbrev pub MayGiveUp : Actor → Type 0
MayGiveUp a = MayEnd a.entries.running

-- ---- the steps that refuse

-- flags with the corrupt one refuse
abbrev pub flags_notes : List EntryProgress → ℕ → List Note
flags_notes running found = if bit_and found FLAG_CORRUPT == 0 then [] else refusing_notes running

-- a step loads the flags, and notes the refusal if the corrupt one is set
abbrev pub LoadsFlags : Sat → ℕ → Sat → Type 0
LoadsFlags me found me' = GhostNoted [] (allocating_event load_flags) (flags_notes me.0.entries.running) me found me'

-- The full flag is set, and refuses. What becomes of its recorder is the same however many words it needed.
abbrev pub SetsFull : Sat → ℕ → Sat → Type 0
SetsFull me found me' = GhostNoted [] (allocating_event (set_full 0)) (λ found. refusing_notes me.0.entries.running) me found me'

-- ---- a call that is turned away

-- Units of a bucket were not counted: the call had loaded a single word that cannot take them and a counts reference of 0, and no block
-- could be claimed for them. It has seen no further count.
pub record IsTurnedAway (why : Refusal) (known : Known) (bucket units : ℕ) (old new : Actor) : Type 0 where
  pub last : Actor
  pub looks : LooksFor (bucket_entry known bucket units) old last
  pub untouched : last.seen.counts ≡ old.seen.counts
  pub ends : new ≡ given_up last
  pub idle : new.hand.place ≡ Idle
  pub cannot : CannotPack known bucket units old new
  pub none : word_seen new.seen.words (known.reference + HISTOGRAM_COUNTS) ≡ None
  pub loaded : FoundNoCounts known.reference old.seen new.seen
  pub room : HasNoRoom why (block_words known) old new

-- Units of a value were not counted: a block was needed for them, and could not be claimed. The call has seen no further count, and has
-- ended.
pub record IsNotCounted (why : Refusal) (known : Known) (value : ℤ) (units : ℕ) (old new : Actor) : Type 0 where
  pub last : Actor
  pub looks : LooksFor (item_of known value units) old last
  pub untouched : last.seen.counts ≡ old.seen.counts
  pub ends : new ≡ given_up last
  pub idle : new.hand.place ≡ Idle
  pub lacks : LacksBlock why known value units old new
