-- A running `add`.
use Rattle.std.specs.Prelude.{◌≡◌, ◌≢◌, Bool, true, false, not, ◌⊎◌, ◌==◌, if◌then◌else◌, ℕ, ◌+◌, ◌*◌, ◌/◌, ◌%◌, ◌^◌, ◌&&◌, nat_lt, ◌<◌, ◌≤◌, ℤ, pos, List, [], ◌∷◌, ◌++◌, length, map, Option, Some, None, is_some, ⊤}
use Rattle.std.specs.List.{All, Contains}
use Rattle.std.specs.Ordering.{int_eq}
use Rattle.bucket_ranges.specs.Ranges.{boundaries_of}
use Rattle.bucket_ranges.specs.Single.{single_of}
use Rattle.bucket_ranges.specs.Spec.{buckets_of, spec_fault}
use Rattle.bucket_ranges.specs.Reading.{is_i32}
use Rattle.bucket_ranges.specs.declared.spec.Spec.TheVariants as spec
use Rattle.segment_image.specs.declared.layout.TheConstants.{BLOCK_HEADER, BLOCK_LEAST, HEADER_WORDS, HISTOGRAM_COUNTS, HISTOGRAM_NAME, HISTOGRAM_SINGLE, SAMPLE_COUNT, SAMPLE_LEAST, TYPE_COUNTS}
use Rattle.segment_image.specs.Shape.{Dimensions}
use Rattle.alloc_core.specs.Layout.{IsShape}
use Rattle.alloc_core.specs.Alloc as alloc
use Rattle.alloc_core.specs.declared.alloc.AllocStep.{AllocStep}
use Rattle.alloc_core.specs.declared.alloc.AllocStep.TheVariants as said
use Rattle.list_core.specs.Walk.{IsPrefix}
use Rattle.segment_machine.specs.declared.actor.Actor.{Actor}
use Rattle.segment_machine.specs.declared.actor.Known.{Known}
use Rattle.segment_machine.specs.declared.entry.EntryProgress.{EntryProgress}
use Rattle.segment_machine.specs.declared.entry.Entry.{Entry}
use Rattle.segment_machine.specs.declared.place.Look.{Look}
use Rattle.segment_machine.specs.declared.actor.Made.TheVariants.{Sample}
use Rattle.segment_machine.specs.declared.actor.Own.{Own}
use Rattle.segment_machine.specs.declared.place.Place.TheVariants.{Looking, Losing, Moving as PlaceMoving}
use Rattle.segment_machine.specs.declared.seen.Sighting.{Sighting}
use Rattle.segment_machine.specs.Actor.{has_buckets, known_at, word_seen, Sparse}
use Rattle.segment_machine.specs.Calls.{IsKeyOfBucket, LooksOff, MayTurn}
use Rattle.segment_machine.specs.Entry.{fresh, has_ended, key_of}
use Rattle.segment_machine.specs.Form.{is_off, IsPacking}
use Rattle.segment_machine.specs.Made.{IsFirstSample}
use Rattle.segment_machine.specs.Packing.{IsBlankCounts}
use Rattle.segment_machine.specs.Stages.{FollowsAllocation}
use Rattle.hist_core.specs.declared.add.Add.{Add}
use Rattle.hist_core.specs.declared.add.AddStep.{AddStep}
use Rattle.hist_core.specs.declared.add.AddStep.TheVariants.{More, Done, Refused}
use Rattle.hist_core.specs.declared.add.AddStage.{AddStage}
use Rattle.hist_core.specs.declared.add.AddStage.TheVariants.{LoadingSingle, Packing, LoadingCounts, SeekingCounts, Allocating, Mounting, Purging, LoadingAgain, Disabling, Moving, Sampling, Counting, Summing, Noting}
use Rattle.segment_calls.specs.declared.refusal.Refusal.TheVariants as why
use Rattle.hist_core.specs.NewRecord.{IsCause, is_full}
use Rattle.hist_core.specs.StepsBy.{SharedEffect, links, raises, DoesOnly, StepsBy, IsFree, LiesWithin}
use Rattle.hist_core.specs.SampleSearch.{IsSampleSearch, IsStarted as BeginsToSearch, SawNoSample}
use Rattle.hist_core.specs.declared.sample_search.SampleSearchStep.{SampleSearchStep}
use Rattle.hist_core.specs.declared.sample_search.SampleSearchStep.TheVariants as found

-- ---- what it counts

-- its entry: its units of the key of its value, and its amount
abbrev pub counted_entry : Known → Add → Entry
counted_entry known add = record {
  name = known.name;
  key = key_of (boundaries_of known.spec) add.value;
  units = add.units;
  amount = add.amount;
}

-- What is around its entry in the call to which it belongs: the entries before it, which have ended, those after it, of which nothing was
-- done, and the units that the call holds.
pub record Amid : Type 0 where
  pub before : List EntryProgress
  pub behind : List Entry
  pub cost : ℕ

-- nothing is around the entry of a call that counts it alone
abbrev pub alone : Add → Amid
alone add = record { before = []; behind = []; cost = add.units }

-- It counts some units of a value in a known histogram of a valid spec, whose record lies in the segment, and whose counts fit in a page.
-- The bucket is that of the value.
pub record IsCounting (shape : Dimensions) (known : Known) (add : Add) : Type 0 where
  pub shaped : add.shape ≡ shape
  pub versions : (add.version ≡ 1) ⊎ (add.version ≡ 2)
  pub reference : known.reference ≡ add.histogram
  pub within : add.histogram + HISTOGRAM_NAME ≤ shape.size
  pub some : (add.units == 0) ≡ false
  pub lawful : spec_fault known.spec ≡ None
  pub buckets : add.buckets ≡ buckets_of known.spec
  pub fits : BLOCK_HEADER + 2 * add.buckets ≤ shape.page
  pub bucket : has_buckets known.spec ≡ true → IsKeyOfBucket known add.bucket (key_of (boundaries_of known.spec) add.value)

-- What it does first: it loads the single word or, if the histogram is sparse, looks for the sample of the value, which is an `i32`.
abbrev pub OpensWith : Dimensions → Known → Add → AddStage → Type 0
OpensWith shape known add LoadingSingle = has_buckets known.spec ≡ true
OpensWith shape known add (Sampling sample_search) =
    (known.spec ≡ spec.Sparse) × (is_i32 add.value ≡ true) × BeginsToSearch shape known.reference add.value sample_search
OpensWith shape known add stage = ⊥

-- It begins: it counts `units` units of a value in a known histogram, and an amount.
pub record IsStarted (shape : Dimensions) (version : ℕ) (known : Known) (value : ℤ) (units : ℕ) (amount : ℤ) (add : Add) : Type 0 where
  pub shaped : add.shape ≡ shape
  pub versioned : add.version ≡ version
  pub reference : add.histogram ≡ known.reference
  pub buckets : add.buckets ≡ buckets_of known.spec
  pub bucket : has_buckets known.spec ≡ true → IsKeyOfBucket known add.bucket (key_of (boundaries_of known.spec) value)
  pub counts : add.value ≡ value
  pub holds : add.units ≡ units
  pub amounts : add.amount ≡ amount
  pub opens : OpensWith shape known add add.stage

-- ---- where it is

-- its entry is among those of the running call, counted and summed or not, and not noted
abbrev pub HasEntry : Known → Amid → Add → Actor → Bool → Bool → Type 0
HasEntry known amid add a counted summed =
    a.entries.running ≡ amid.before ++ record { entry = counted_entry known add; counted = counted; summed = summed; noted = false } ∷ map fresh amid.behind

-- its entry once it has ended: an amount of 0 is left out
abbrev pub ended_entry : Known → Add → EntryProgress
ended_entry known add = record { entry = counted_entry known add; counted = true; summed = not (int_eq add.amount (pos 0)); noted = true }

-- its ended entry is among those of the running call
abbrev pub EntryHasEnded : Known → Amid → Add → Actor → Type 0
EntryHasEnded known amid add a = a.entries.running ≡ amid.before ++ ended_entry known add ∷ map fresh amid.behind

-- its actor looks at the histogram: it has loaded this single word, and this counts reference, or 0
abbrev pub Looks : Known → Actor → ℕ → ℕ → Type 0
Looks known a word counts = a.hand.place ≡ Looking (record { histogram = known.reference; single = Some word; counts = counts })

-- its actor has loaded this single word of the histogram
abbrev pub HasSeenSingle : Known → Actor → ℕ → Type 0
HasSeenSingle known a word = Contains a.seen.singles (record { at = known.reference + HISTOGRAM_SINGLE; word = word })

-- the count of its value is at a word: that of its bucket, if the counts are in use; or that of the first sample of the value
abbrev pub IsCountOf : Known → Add → Actor → ℕ → Type 0
IsCountOf known add a at =
    ((look : Look) × LooksOff a look known × (at ≡ look.counts + BLOCK_HEADER + add.bucket))
    ⊎ ((sample : ℕ) × MayTurn a × Sparse a known.reference known × IsFirstSample a.seen known.reference add.value sample
    × (at ≡ sample + SAMPLE_COUNT))

-- the counts block of the histogram is there, within the segment
abbrev pub CountsLieWithin : Dimensions → Add → ℕ → Type 0
CountsLieWithin shape add counts = (counts ≢ 0) × (counts + (BLOCK_HEADER + 2 * add.buckets) ≤ shape.size)

-- its actor has a block of its own there, within the segment, which may become the counts block
abbrev pub HasCountsBlock : Dimensions → Add → Actor → ℕ → Type 0
HasCountsBlock shape add a at =
    ((own : Own) × Contains a.hand.own own × (own.at ≡ at) × IsBlankCounts own add.buckets)
    × (HEADER_WORDS ≤ at) × (at + (BLOCK_HEADER + 2 * add.buckets) ≤ shape.size)

-- of a histogram with buckets it has found no counts: it has seen no counts reference there but 0
abbrev pub HasMetNoCounts : Known → Actor → Type 0
HasMetNoCounts known a =
    has_buckets known.spec ≡ true → (counts : ℕ) → word_seen a.seen.words (known.reference + HISTOGRAM_COUNTS) ≡ Some counts → counts ≡ 0

-- it has seen a single word that is not off and cannot take units of a value
abbrev pub SawNoRoomToPack : Known → ℤ × ℕ → Actor → Type 0
SawNoRoomToPack known sample a = (word : ℕ) × HasSeenSingle known a word × (is_off word ≡ false)
    × ((bucket packed : ℕ) → IsKeyOfBucket known bucket (key_of (boundaries_of known.spec) sample.0) → IsPacking bucket sample.1 word packed → ⊥)

-- A histogram with buckets needs counts for units of a value: a single word that was seen cannot take them, and a counts reference was
-- loaded that was 0; no other was found.
abbrev pub NeedsCounts : Known → ℤ × ℕ → Actor → Type 0
NeedsCounts known sample a = SawNoRoomToPack known sample a × Contains a.seen.ends (known.reference + HISTOGRAM_COUNTS) × HasMetNoCounts known a

-- Units of a value need a block: with buckets the counts; of a sparse histogram a sample, when the list was seen to its end with no sample
-- of the value on it.
pub record SawNeedOfBlock (known : Known) (sample : ℤ × ℕ) (a : Actor) : Type 0 where
  pub counts : has_buckets known.spec ≡ true → NeedsCounts known sample a
  pub value : known.spec ≡ spec.Sparse → SawNoSample known.reference sample.0 a.seen

-- Where its actor is while its units are not counted yet.
abbrev pub StandsBefore : Dimensions → Known → Add → Actor → AddStage → Type 0
StandsBefore shape known add a LoadingSingle = MayTurn a
StandsBefore shape known add a (Packing old new) =
    ((counts : ℕ) × Looks known a old counts) × (is_off old ≡ false) × IsPacking add.bucket add.units old new
StandsBefore shape known add a LoadingCounts = (word counts : ℕ) × Looks known a word counts × HasSeenSingle known a word × (is_off word ≡ true)
StandsBefore shape known add a SeekingCounts = MayTurn a × SawNoRoomToPack known (add.value, add.units) a
StandsBefore shape known add a (Allocating allocation) =
    FollowsAllocation a allocation × (is_some (alloc.next_event allocation) ≡ true) × (allocation.tag ≡ TYPE_COUNTS)
    × (allocation.size ≡ BLOCK_HEADER + 2 * add.buckets) × NeedsCounts known (add.value, add.units) a
StandsBefore shape known add a (Mounting at) = MayTurn a × HasCountsBlock shape add a at
StandsBefore shape known add a (Purging at counts) =
    CountsLieWithin shape add counts × (a.hand.place ≡ Losing (record { histogram = known.reference; single = None; counts = counts }) at)
    × (at + BLOCK_LEAST ≤ shape.size)
StandsBefore shape known add a (LoadingAgain counts) =
    CountsLieWithin shape add counts × ((single : Option ℕ) × (a.hand.place ≡ Looking (record { histogram = known.reference; single = single; counts = counts })))
StandsBefore shape known add a (Disabling counts old) =
    CountsLieWithin shape add counts × Looks known a old counts × (is_off old ≡ false) × (single_of add.version add.buckets old ≢ None)
StandsBefore shape known add a (Moving counts bucket units) =
    CountsLieWithin shape add counts × (bucket < add.buckets)
    × ((word : ℕ) × (is_off word ≡ true)
    × (a.hand.place ≡ PlaceMoving (record { histogram = known.reference; single = Some word; counts = counts }) bucket units))
StandsBefore shape known add a _ = ⊥

-- Where its actor is, and how far its entry is.
abbrev pub StandsAtStage : Dimensions → Known → Amid → Add → Actor → AddStage → Type 0
StandsAtStage shape known amid add a (Counting at) = HasEntry known amid add a false false × IsCountOf known add a at × (at < shape.size)
StandsAtStage shape known amid add a (Sampling sample_search) =
    HasEntry known amid add a false false × (known.spec ≡ spec.Sparse) × (sample_search.histogram ≡ known.reference) × (sample_search.value ≡ add.value)
    × IsSampleSearch shape sample_search a
StandsAtStage shape known amid add a Summing = MayTurn a × HasEntry known amid add a true false × (int_eq add.amount (pos 0) ≡ false)
StandsAtStage shape known amid add a Noting = MayTurn a × HasEntry known amid add a true (not (int_eq add.amount (pos 0)))
StandsAtStage shape known amid add a stage =
    (has_buckets known.spec ≡ true) × HasEntry known amid add a false false × StandsBefore shape known add a stage

-- Its actor knows the histogram, as the only one with its reference, takes nothing, and holds the units of the call.
pub record IsAdd (shape : Dimensions) (known : Known) (amid : Amid) (add : Add) (a : Actor) : Type 0 where
  pub counting : IsCounting shape known add
  pub segment : a.segment.shape ≡ shape
  pub version : a.segment.version ≡ add.version
  pub lawful_shape : IsShape shape
  pub knows : Contains a.answers.names known
  pub alone : known_at a.answers.names known.reference ≡ Some known
  pub rests : a.deltas.taking ≡ false
  pub held : a.units.held ≡ record { name = known.name; units = amid.cost } ∷ []
  pub over : All (λ c. has_ended c ≡ true) amid.before
  pub stands : StandsAtStage shape known amid add a add.stage

-- ---- what a step makes of its actor

-- What it leaves unchanged of its actor: the role, the segment, the deltas, and the known names. Of the chain and of the words of records
-- its actor has seen no less.
pub record FrameOfAdd (a b : Actor) : Type 0 where
  pub role : b.role ≡ a.role
  pub segment : b.segment ≡ a.segment
  pub deltas : b.deltas ≡ a.deltas
  pub names : b.answers.names ≡ a.answers.names
  pub chain : IsPrefix a.seen.chain b.seen.chain
  pub words : (more : List Sighting) × (b.seen.words ≡ a.seen.words ++ more)

-- the words of the block that counting in a histogram may need: its counts and their marks, or the sample of a value
abbrev pub block_words : Known → ℕ
block_words known = if has_buckets known.spec then BLOCK_HEADER + 2 * buckets_of known.spec else SAMPLE_LEAST

-- what it may do: it links the sample of its value in its histogram, and raises the free pointer for the block that it needs
abbrev pub serves_counted : Known → Add → Actor → SharedEffect → Type 0
serves_counted known add a (links made) = made ≡ Sample add.histogram add.value
serves_counted known add a (raises words) = (words ≡ block_words known) × SawNeedOfBlock known (add.value, add.units) a

-- while it runs: units and log are unchanged
abbrev pub StaysOpen : Actor → Actor → Type 0
StaysOpen a b = (b.units ≡ a.units) × (b.entries ≡ record a.entries { running = b.entries.running })

-- What a step says: it continues; its entry has ended; or the block that it needs is refused, and nothing of its entry was done. Its actor
-- may turn to another entry or another call then.
abbrev pub AddGives : Dimensions → Known → Amid → Add → AddStep → Actor → Actor → Type 0
AddGives shape known amid new More a b = FrameOfAdd a b × StaysOpen a b × DoesOnly false false (serves_counted known new a) a b × IsAdd shape known amid new b
AddGives shape known amid new Done a b = FrameOfAdd a b × StaysOpen a b × DoesOnly false false (serves_counted known new a) a b × IsFree b × EntryHasEnded known amid new b
AddGives shape known amid new (Refused cause) a b =
    FrameOfAdd a b × StaysOpen a b × DoesOnly false (is_full cause) (serves_counted known new a) a b × IsFree b × IsCause cause (block_words known) a b
    × HasEntry known amid new b false false × SawNeedOfBlock known (new.value, new.units) b

-- what a step makes of the words, and of any actor that runs the call
abbrev pub AddSteps : Add → List ℕ → Add → List ℕ → AddStep → Type 0
AddSteps old words new new_words said = (shape : Dimensions) (known : Known) (amid : Amid) (a : Actor) → length words ≡ shape.size
    → IsAdd shape known amid old a → StepsBy shape.size old.version a words new_words (AddGives shape known amid new said a)

-- an `add` that some actor runs, in a segment of `n` words
abbrev pub IsSomeAdd : ℕ → Add → Type 0
IsSomeAdd n add = (shape : Dimensions) × (known : Known) × (amid : Amid) × (a : Actor) × (n ≡ shape.size) × IsAdd shape known amid add a

-- an `add` that some actor runs is at this stage
pub record IsAtStage (stage : AddStage) (n : ℕ) (add : Add) : Type 0 where
  pub next : add.stage ≡ stage
  pub stands : ∥ IsSomeAdd n add ∥₁
  pub inside : LiesWithin n add.histogram

-- what it does after the event that counts its units: it adds its amount, if that is not 0
abbrev pub behind_count : ℤ → AddStage
behind_count amount = if int_eq amount (pos 0) then Noting else Summing

-- ---- what it does next

-- what a single word leads to: the counts, if they are in use; else a word that packs its units too or, if no word does, the search for
-- counts
abbrev pub IsBehindSingle : Add → ℕ → AddStage → Type 0
IsBehindSingle add word LoadingCounts = is_off word ≡ true
IsBehindSingle add word (Packing old new) =
    (is_off word ≡ false) × (old ≡ word) × ((word ≡ 0) ⊎ (1 ≤ word % 2 ^ 32) → IsPacking add.bucket add.units word new)
IsBehindSingle add word SeekingCounts = (is_off word ≡ false) × ((packed : ℕ) → IsPacking add.bucket add.units word packed → ⊥)
IsBehindSingle add word _ = ⊥

-- it begins to allocate the counts, which fit in a page
abbrev pub BeginsToAllocate : Add → Add → AddStep → Type 0
BeginsToAllocate old new More = new ≡ record old { stage = Allocating (alloc.first_of old.shape (2 * old.buckets) TYPE_COUNTS) }
BeginsToAllocate old new Done = ⊥
BeginsToAllocate old new (Refused cause) = ⊥

-- it is allocating
abbrev pub IsAllocating : AddStage → Type 0
IsAllocating (Allocating allocation) = ⊤
IsAllocating _ = ⊥

-- what a step of its allocation leads to: it continues, or mounts the counts in its block, or is refused
abbrev pub IsAllocated : Add → AllocStep → Add → AddStep → Type 0
IsAllocated old said.More new result = (new ≡ old) × (result ≡ More)
IsAllocated old (said.Done at) new result = (new ≡ record old { stage = Mounting at }) × (result ≡ More)
IsAllocated old said.Full new result = (new ≡ old) × (result ≡ Refused why.Full)
IsAllocated old said.Corrupt new result = (new ≡ old) × (result ≡ Refused why.Corrupt)

-- it looks for the sample of its value
abbrev pub IsSearching : AddStage → Type 0
IsSearching (Sampling sample_search) = ⊤
IsSearching _ = ⊥

-- what a step of its search leads to: it continues, or counts in the sample, or is refused
abbrev pub IsSampled : Add → SampleSearchStep → Add → AddStep → Type 0
IsSampled old found.More new result = (new ≡ old) × (result ≡ More)
IsSampled old (found.Found sample) new result = (new ≡ record old { stage = Counting ((sample + SAMPLE_COUNT) % 2 ^ 64) }) × (result ≡ More)
IsSampled old (found.Refused cause) new result = (new ≡ old) × (result ≡ Refused cause)

-- where the count of its value is among counts
abbrev pub count_in : Add → ℕ → ℕ
count_in add counts = (counts + (BLOCK_HEADER + add.bucket)) % 2 ^ 64

-- what it does after the event that disables a word: in version 1 it moves the units that the word had
abbrev pub behind_disabling : Add → ℕ → ℕ → AddStage
behind_disabling add counts old =
    if (add.version == 1) && nat_lt 0 old then Moving counts (old / 2 ^ 32) (old % 2 ^ 32) else Counting (count_in add counts)
