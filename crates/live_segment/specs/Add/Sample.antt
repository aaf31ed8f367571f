-- What a sample changes in the recorder that adds it, accepted and refused.
use Rattle.std.specs.Prelude.{◌≡◌, Bool, true, false, nat_lt, ◌==◌, ℕ, ◌+◌, ◌<◌, if◌then◌else◌, ℤ, List, [], ◌∷◌, ◌++◌, drop, length, None, Result, MatchResult, ⊤}
use Rattle.std.specs.List.{All, Contains}
use Rattle.std.specs.Str.{bytes_eq}
use Rattle.segment_image.specs.declared.layout.TheConstants.{HISTOGRAM_COUNTS, HISTOGRAM_SINGLE}
use Rattle.segment_calls.specs.Blocks.{count_words}
use Rattle.segment_calls.specs.declared.refusal.Refusal.{Refusal}
use Rattle.segment_calls.specs.declared.refusal.Refusal.TheVariants.{ZeroCount, NoUnits, Corrupt, Full}
use Rattle.bucket_ranges.specs.declared.spec.Spec.TheVariants as spec
use Rattle.bucket_ranges.specs.Ranges.{boundaries_of}
use Rattle.segment_machine.specs.declared.actor.Actor.{Actor}
use Rattle.segment_machine.specs.declared.actor.Known.{Known}
use Rattle.segment_machine.specs.Actor.{cost_of, has_buckets, log_of, word_seen}
use Rattle.segment_machine.specs.Calls.{IsKeyOfBucket}
use Rattle.segment_machine.specs.Entry.{key_of, sample_entry}
use Rattle.segment_machine.specs.Form.{is_off, IsPacking}
use Rattle.segment_machine.specs.Made.{SawOther}
use Rattle.segment_promises.specs.Onward.{GoesOn}
use Rattle.live_segment.specs.List.Ends.{FoundNoCounts, SawAllOfList}
use Rattle.live_segment.specs.Alloc.Rises.{WastesFor}

-- ---- accepted

-- units of a name were taken from the share, and are spent for it
pub record Pays (name : List ℕ) (units : ℕ) (old new : Actor) : Type 0 where
  pub share : new.units.share + units ≡ old.units.share
  pub spent : (other : List ℕ) → cost_of new.units.costs other ≡ cost_of old.units.costs other + (if bytes_eq name other then units else 0)

-- The one entry of an accepted sample is at the end of the log, with the key of its value's bucket, or with the value if the histogram is
-- sparse, and its units are taken from the share. No allocation was refused; what the recorder's calls returned, took and were given is
-- unchanged, and it has seen and done no less.
pub record IsAdded (known : Known) (value : ℤ) (count : ℕ) (old new : Actor) : Type 0 where
  pub logged : log_of new ≡ log_of old ++ sample_entry known.name (boundaries_of known.spec) (value, count) ∷ []
  pub pays : Pays known.name count old new
  pub filled : new.done.filled ≡ old.done.filled
  pub onward : GoesOn old new

-- ---- refused

-- why a sample is refused before anything happens, in order
abbrev pub add_checks : Actor → ℕ → List (Bool × Refusal)
add_checks a count = (count == 0, ZeroCount) ∷ (nat_lt a.units.share count, NoUnits) ∷ []

-- A refused sample: log and share are unchanged, and so is what the recorder's calls returned, took and were given; it has seen and done no
-- less. It has counted no unit and added no amount, and has seen no further count, mark or redundant count.
pub record IsRefused (name : List ℕ) (old new : Actor) : Type 0 where
  pub logged : new.entries ≡ old.entries
  pub pays : Pays name 0 old new
  pub untouched : new.seen.counts ≡ old.seen.counts
  pub onward : GoesOn old new

-- the words of the block that a histogram may need when units are counted: its counts and marks, or one sample
abbrev pub block_words : Known → ℕ
block_words known = count_words known.spec

-- Units of a value need a block. With buckets: the call has loaded a single word that is not off and cannot take the units, and the counts
-- reference, which was 0; it has never seen that there were counts. Without: it has walked to the end of the list, and of all records that
-- the list had then, none after the histogram's is a sample of the value.
pub record NeedsBlock (known : Known) (value : ℤ) (count : ℕ) (old new : Actor) : Type 0 where
  pub buckets : has_buckets known.spec ≡ true
      → ((word : ℕ) × Contains (drop (length old.seen.singles) new.seen.singles) (record { at = known.reference + HISTOGRAM_SINGLE; word = word })
      × (is_off word ≡ false)
      × ((bucket packed : ℕ) → IsKeyOfBucket known bucket (key_of (boundaries_of known.spec) value) → ¬ (IsPacking bucket count word packed)))
      × (word_seen new.seen.words (known.reference + HISTOGRAM_COUNTS) ≡ None) × FoundNoCounts known.reference old.seen new.seen
  pub values : known.spec ≡ spec.Sparse
      → (front behind : List ℕ) × (new.seen.chain ≡ front ++ known.reference ∷ behind) × All (SawOther new.seen known.reference value) behind
      × SawAllOfList old.seen new.seen

-- Why a block could not be claimed: this many words pass the end of the segment from the free pointer that the call loaded last, and for
-- that it has set the full flag; or the call has loaded flags with the corrupt one. It may have wasted rests of pages that are too short
-- for these words, and has done nothing else: it has claimed and published nothing.
abbrev pub HasNoRoom : Refusal → ℕ → Actor → Actor → Type 0
HasNoRoom Full words old new =
    (new.done ≡ record old.done { raised = new.done.raised; filled = true; lacked = old.done.lacked ++ new.seen.free ∷ [] })
    × WastesFor new.segment.shape words old.done.raised new.done.raised × (new.segment.shape.size < new.seen.free + words)
HasNoRoom Corrupt words old new =
    (new.done ≡ record old.done { raised = new.done.raised }) × WastesFor new.segment.shape words old.done.raised new.done.raised
    × (new.seen.corrupt ≡ true) × (old.seen.warned < new.seen.warned)
HasNoRoom _ words old new = ⊥

-- a block was needed, and could not be claimed
abbrev pub LacksBlock : Refusal → Known → ℤ → ℕ → Actor → Actor → Type 0
LacksBlock why known value count old new = NeedsBlock known value count old new × HasNoRoom why (block_words known) old new

-- ---- what adding a sample returns

-- it is added, or a block was needed and could not be claimed
abbrev pub AnswersSample : Known → ℤ → ℕ → Actor → Result ⊤ Refusal → Actor → Type 0
AnswersSample known value count old result new =
    MatchResult result (λ _. IsAdded known value count old new) (λ why. IsRefused known.name old new × LacksBlock why known value count old new)
