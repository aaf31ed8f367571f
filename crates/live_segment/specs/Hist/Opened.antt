-- What a recorder's `open` returns: the histogram of a record on the list, by its reference.
use Rattle.std.specs.Prelude.{◌≡◌, ◌≢◌, ◌⊎◌, Bool, true, false, ℕ, ◌+◌, ◌<◌, ◌≤◌, List, length, map, min, take, Option, Some, MatchOption}
use mathlib.Core.Option.{some}
use lib.ListN.{get_elem?}
use Rattle.std.specs.List.{All, Contains}
use Rattle.segment_image.specs.declared.layout.TheConstants.{BLOCK_LEAST, BLOCK_TYPE, HISTOGRAM_BUCKETS, HISTOGRAM_KIND, HISTOGRAM_MAX, HISTOGRAM_MIN, HISTOGRAM_NAME, HISTOGRAM_NAME_LENGTH, KIND_BOOLEAN, KIND_CUSTOM, KIND_LINEAR, KIND_SPARSE, TYPE_HISTOGRAM}
use Rattle.segment_image.specs.Shape.{Dimensions}
use Rattle.segment_image.specs.Words.{bytes_of_words}
use Rattle.bucket_ranges.specs.declared.limits.TheConstants.{MAX_BUCKETS, MAX_NAME}
use Rattle.bucket_ranges.specs.declared.spec.Spec.{Spec}
use Rattle.bucket_ranges.specs.declared.spec.Spec.TheVariants.{Linear, Boolean, Custom, Sparse}
use Rattle.bucket_ranges.specs.Reading.{name_words}
use Rattle.segment_machine.specs.declared.actor.Actor.{Actor}
use Rattle.segment_machine.specs.declared.actor.Known.{Known}
use Rattle.segment_machine.specs.declared.seen.Seen.{Seen}
use Rattle.segment_machine.specs.Actor.{word_seen}
use Rattle.segment_machine.specs.Calls.{MayTurn}
use Rattle.segment_machine.specs.Made.{IsFirstNamed, SawOtherName}
use Rattle.segment_calls.specs.declared.asked.Asked.{Asked}
use Rattle.segment_calls.specs.Asked.{IsAskedFor}
use Rattle.live_segment.specs.declared.recorder.KnownHistogram.{KnownHistogram}
use Rattle.live_segment.specs.declared.recorder.Hist.{Hist}
use Rattle.live_segment.specs.Hist.Answer.{IsAnsweredWith, KnowsNamed, MayBeAsked}
use Rattle.live_segment.specs.Hist.ListSearch.{ShowsWords}
use Rattle.live_segment.specs.Hist.Outcome.{ComesToKnow, IsKnownAs}
use Rattle.live_segment.specs.Hist.Search.{FirstHasOtherSpec, HasSearched}
use Rattle.live_segment.specs.List.Ends.{SawAllOfList}

-- ---- the walk to the record

-- it has visited a record on the list, which lies within the segment; or it has seen all of the list since, and the record is not there
abbrev pub MeetsRecord : ℕ → Bool → Actor → Actor → Type 0
MeetsRecord reference true old new = Contains new.seen.chain reference × (reference + BLOCK_LEAST ≤ new.segment.shape.size)
MeetsRecord reference false old new = ¬ (Contains new.seen.chain reference) × SawAllOfList old.seen new.seen

-- ---- what it reads of the record

-- the type of a record is not that of a histogram
abbrev pub SawOtherType : Seen → ℕ → Type 0
SawOtherType seen at = (tag : ℕ) × (word_seen seen.words (at + BLOCK_TYPE) ≡ Some tag) × (tag ≢ TYPE_HISTOGRAM)

-- the bytes that a record has as its name
pub record ReadsName (seen : Seen) (at : ℕ) (name : List ℕ) : Type 0 where
  pub long : word_seen seen.words (at + HISTOGRAM_NAME_LENGTH) ≡ Some (length name)
  pub letters : List ℕ
  pub whole : length letters ≡ name_words (length name)
  pub words : ShowsWords at HISTOGRAM_NAME letters true seen
  pub bytes : name ≡ take (length name) (bytes_of_words letters)

-- the name of a record is longer than any name
abbrev pub SawLongName : Seen → ℕ → Type 0
SawLongName seen at = (len : ℕ) × (word_seen seen.words (at + HISTOGRAM_NAME_LENGTH) ≡ Some len) × (MAX_NAME < len)

-- a number as it is read: at most the greatest `u32`, which no valid spec has
abbrev pub number_read : ℕ → ℕ
number_read word = min word 4294967295

-- a word is read as this number
abbrev pub ReadsNumber : Seen → ℕ → ℕ → Type 0
ReadsNumber seen at number = (word : ℕ) × (word_seen seen.words at ≡ Some word) × (number ≡ number_read word)

-- the spec of a record whose name takes this many words
abbrev pub ReadsSpec : Seen → ℕ → ℕ → Spec → Type 0
ReadsSpec seen at letters (Linear least greatest n) =
    (word_seen seen.words (at + HISTOGRAM_KIND) ≡ Some KIND_LINEAR) × ReadsNumber seen (at + HISTOGRAM_MIN) least
    × ReadsNumber seen (at + HISTOGRAM_MAX) greatest × ReadsNumber seen (at + HISTOGRAM_BUCKETS) n
ReadsSpec seen at letters Boolean = word_seen seen.words (at + HISTOGRAM_KIND) ≡ Some KIND_BOOLEAN
ReadsSpec seen at letters (Custom values) =
    (word_seen seen.words (at + HISTOGRAM_KIND) ≡ Some KIND_CUSTOM)
    × (word_seen seen.words (at + HISTOGRAM_BUCKETS) ≡ Some (length values + 1))
    × ((inner : List ℕ) × ShowsWords at (HISTOGRAM_NAME + letters) inner true seen × (map number_read inner ≡ values))
ReadsSpec seen at letters Sparse = word_seen seen.words (at + HISTOGRAM_KIND) ≡ Some KIND_SPARSE

-- its kind is none of the four, or it is a custom one with fewer than two buckets or too many
abbrev pub SawNoSpec : Seen → ℕ → Type 0
SawNoSpec seen at =
    ((kind : ℕ) × (word_seen seen.words (at + HISTOGRAM_KIND) ≡ Some kind)
    × (kind ≢ KIND_LINEAR) × (kind ≢ KIND_CUSTOM) × (kind ≢ KIND_BOOLEAN) × (kind ≢ KIND_SPARSE))
    ⊎ ((n : ℕ) × (word_seen seen.words (at + HISTOGRAM_KIND) ≡ Some KIND_CUSTOM) × (word_seen seen.words (at + HISTOGRAM_BUCKETS) ≡ Some n)
    × ((n < 2) ⊎ (MAX_BUCKETS < n)))

-- name and spec of a record
abbrev pub ReadsRecord : Seen → ℕ → List ℕ → Spec → Type 0
ReadsRecord seen at name spec = ReadsName seen at name × ReadsSpec seen at (name_words (length name)) spec

-- a record has no name, or no spec
abbrev pub ReadsNone : Seen → ℕ → Type 0
ReadsNone seen at = SawOtherType seen at ⊎ SawLongName seen at ⊎ SawNoSpec seen at

-- it has seen all of the list since, and the record is not there; or the record has no name or no spec
abbrev pub IsNotRead : ℕ → Actor → Actor → Type 0
IsNotRead reference old new = MeetsRecord reference false old new ⊎ (Contains new.seen.chain reference × ReadsNone new.seen reference)

-- ---- whether it is the first of its name

-- The first record of a name is another one, or has another spec than this. Or the name of this one is not followed by zeros: then no
-- record has the name.
abbrev pub IsNotFirst : List ℕ → Asked → ℕ → Seen → Actor → Type 0
IsNotFirst name asked reference seen a =
    ((first : ℕ) × IsFirstNamed seen name first × (first ≢ reference)) ⊎ FirstHasOtherSpec asked a ⊎ All (SawOtherName seen name) seen.chain

-- it has come to know the record as what is asked for, and has claimed and published nothing; or the record is not the first
abbrev pub Recognizes : Asked → ℕ → Actor → Option KnownHistogram → Actor → Type 0
Recognizes asked reference old result new =
    MatchOption result (HasSearched old new × MayTurn new × IsNotFirst asked.name.items asked reference new.seen new)
    (λ known. IsKnownAs asked known × (known.reference ≡ reference) × ComesToKnow asked reference old new × (new.done ≡ old.done))

-- ---- its answer

-- What is wrong with a record with a name and a spec: these may not be asked for, or it is not the first of the name on the list.
abbrev pub IsNotNamed : Dimensions → List ℕ → Spec → ℕ → Actor → Type 0
IsNotNamed shape name spec reference a =
    ¬ (MayBeAsked shape name spec)
    ⊎ ((index : ℕ) × (known : Known) × KnowsNamed name a index known × (known.reference ≢ reference))
    ⊎ ((asked : Asked) × IsAskedFor shape name spec asked × IsNotFirst name asked reference a.seen a)

-- the histogram of a record, which it knows now: it knew it, or has come to know it, and has claimed and published nothing for that
abbrev pub IsHistogramOfRecord : List ℕ → Spec → ℕ → Hist → Actor → Actor → Type 0
IsHistogramOfRecord name spec reference histogram old new =
    ((known : Known) × (get_elem? new.answers.names histogram.index ≡ some known) × (known.name ≡ name) × (known.reference ≡ reference))
    × ((new ≡ old) ⊎ (IsAnsweredWith name spec histogram old new × (new.done ≡ old.done)))

-- It has the histogram of a record with a name and a spec; or it has at most looked along the list, and the record is not the one for them.
abbrev pub OpensAs : List ℕ → Spec → ℕ → Actor → Option Hist → Actor → Type 0
OpensAs name spec reference old result new =
    MatchOption result (HasSearched old new × IsNotNamed new.segment.shape name spec reference new)
    (λ histogram. IsHistogramOfRecord name spec reference histogram old new)

-- It has looked along the list and read the record. Then it has the histogram; or the record is not on the list, has no name or no spec, or
-- is not the first of its name.
abbrev pub OpensRecord : ℕ → Actor → Option Hist → Actor → Type 0
OpensRecord reference old result new =
    MatchOption result
    (HasSearched old new × (IsNotRead reference old new
    ⊎ ((name : List ℕ) × (spec : Spec) × ReadsRecord new.seen reference name spec × IsNotNamed new.segment.shape name spec reference new)))
    (λ histogram. (name : List ℕ) × (spec : Spec) × (read : Actor) × HasSearched old read × ReadsRecord read.seen reference name spec
    × IsHistogramOfRecord name spec reference histogram read new)
