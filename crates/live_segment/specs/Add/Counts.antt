-- How a recorder puts the counts of a histogram in use: they are there or are mounted, and the single word is disabled.
use Rattle.std.specs.Prelude.{◌≡◌, ◌≢◌, ◌⊎◌, true, false, ℕ, ◌+◌, ◌++◌, Option, Some, None}
use Rattle.std.specs.List.{Contains}
use Rattle.segment_image.specs.declared.layout.TheConstants.{HISTOGRAM_COUNTS}
use Rattle.segment_calls.specs.declared.refusal.Refusal.{Refusal}
use Rattle.bucket_ranges.specs.Spec.{buckets_of}
use Rattle.segment_machine.specs.declared.actor.Actor.{Actor}
use Rattle.segment_machine.specs.declared.actor.Known.{Known}
use Rattle.segment_machine.specs.declared.actor.Own.{Own}
use Rattle.segment_machine.specs.declared.place.Place.TheVariants.{Idle}
use Rattle.segment_machine.specs.declared.seen.Seen.{Seen}
use Rattle.segment_machine.specs.Actor.{Buckets, is_bound, is_opener, word_seen}
use Rattle.segment_machine.specs.Calls.{sight}
use Rattle.segment_machine.specs.Counting.{load_counts}
use Rattle.segment_machine.specs.Event.{counting_event}
use Rattle.segment_machine.specs.Form.{is_off}
use Rattle.segment_machine.specs.Packing.{CountsIn, IsBlankCounts}
use Rattle.live_segment.specs.Add.Sample.{HasNoRoom, block_words}
use Rattle.live_segment.specs.List.Ends.{FoundNoCounts}
use Rattle.live_segment.specs.Alloc.Claims.{IsPurged, KeepsBlocks, MountsOne}
use Rattle.segment_promises.specs.Onward.{Grows}
use Rattle.live_segment.specs.Add.Refusal.{given_up}
use Rattle.live_segment.specs.Steps.{Does, Sat}
use Rattle.live_segment.specs.Steps.GhostNotes.{KnowsAlone}
use Rattle.live_segment.specs.Add.Progress.{CountsWithin, LooksAt, LooksOn}

-- ---- the counts reference

-- a counts reference that it has seen is not 0
abbrev pub SawNoNone : Seen → ℕ → Type 0
SawNoNone seen histogram = (counts : ℕ) → word_seen seen.words (histogram + HISTOGRAM_COUNTS) ≡ Some counts → counts ≢ 0

-- it is loaded, and one that was seen before was not 0
abbrev pub LoadsCounts : ℕ → Sat → ℕ → Sat → Type 0
LoadsCounts word me found me' =
    (histogram : ℕ) → word ≡ histogram + HISTOGRAM_COUNTS + 1
    → Does (counting_event (load_counts histogram)) me found me' × SawNoNone me.0.seen histogram

-- ---- mounted

-- a recorder whose call may need the counts of a histogram that it knows, or end if it gets none
pub record MayMount (a : Actor) (known : Known) : Type 0 where
  pub recorder : is_opener a.role ≡ false
  pub free : is_bound a.hand.place ≡ false
  pub knows : Buckets a known.reference known
  pub alone : KnowsAlone a known
  pub counts : CountsIn a known

-- it has a blank block for them at a word
abbrev pub HasBlank : Actor → Known → ℕ → Type 0
HasBlank a known at = (own : Own) × Contains a.hand.own own × (own.at ≡ at) × IsBlankCounts own (buckets_of known.spec)

-- it looks at counts, which lie within the segment
abbrev pub LooksAtCounts : Actor → Known → ℕ → Type 0
LooksAtCounts a known counts = ((single : Option ℕ) × LooksAt a known.reference single counts) × CountsWithin a known counts

-- It has found or mounted counts, and looks at them.
pub record HasMounted (known : Known) (old : Actor) (counts : ℕ) (new : Actor) : Type 0 where
  pub looks : LooksOn old new
  pub filled : new.done.filled ≡ old.done.filled
  pub stands : LooksAtCounts new known counts

-- It had a block of its own for the counts, and has done nothing but mount it: the counts reference that it saw is that of the block, or
-- another's, and then the block was purged.
pub record MountsAt (known : Known) (at : ℕ) (old : Actor) (counts : ℕ) (new : Actor) : Type 0 where
  pub done : new.done ≡ old.done
  pub saw : new.seen.words ≡ old.seen.words ++ sight (known.reference + HISTOGRAM_COUNTS) counts
  pub kept : (counts ≡ at) ⊎ IsPurged at new

-- it has claimed no block for the counts that it found or mounted, or one; it has seen no fewer words of records, and no fewer that lead to
-- no block
abbrev pub MountsAtMostOne : Known → Actor → Actor → Type 0
MountsAtMostOne known old new =
    ((new.done ≡ old.done) ⊎ MountsOne known old new) × Grows old.seen.words new.seen.words × Grows old.seen.ends new.seen.ends
    × (new.segment ≡ old.segment)

-- There were none, and no block could be claimed for them: the call has ended.
pub record HasNotMounted (why : Refusal) (known : Known) (old new : Actor) : Type 0 where
  pub last : Actor
  pub looks : LooksOn old last
  pub untouched : last.seen.counts ≡ old.seen.counts
  pub ends : new ≡ given_up last
  pub idle : new.hand.place ≡ Idle
  pub none : word_seen new.seen.words (known.reference + HISTOGRAM_COUNTS) ≡ None
  pub loaded : FoundNoCounts known.reference old.seen new.seen
  pub room : HasNoRoom why (block_words known) old new

-- ---- in use

-- it looks at counts, and at a single word that is off
abbrev pub StandsOff : Actor → Known → ℕ → Type 0
StandsOff a known counts = ((word : ℕ) × LooksAt a known.reference (Some word) counts × (is_off word ≡ true)) × CountsWithin a known counts

-- it has found the single word off or disabled it, and has moved the units that it had
pub record HasDisabled (known : Known) (counts : ℕ) (old new : Actor) : Type 0 where
  pub looks : LooksOn old new
  pub keeps : KeepsBlocks old new
  pub stands : StandsOff new known counts
