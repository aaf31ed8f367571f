-- A walk along the samples of a sparse histogram, which come after its record on the list.
use Rattle.std.specs.Prelude.{◌≡◌, ◌≢◌, ◌⊎◌, ◌==◌, true, false, ℕ, ◌+◌, ◌≤◌, ℤ, List, [], ◌∷◌, ◌++◌, if◌then◌else◌, Some, ⊤}
use Rattle.std.specs.Int.{cast_unsigned, w64}
use Rattle.bucket_ranges.specs.declared.spec.Spec.TheVariants.{Sparse}
use Rattle.bucket_ranges.specs.Reading.{is_i32}
use Rattle.segment_image.specs.declared.layout.TheConstants.{BLOCK_NEXT, BLOCK_TYPE, QUEUE, SAMPLE_HISTOGRAM, SAMPLE_LEAST, SAMPLE_VALUE, TYPE_SAMPLE}
use Rattle.segment_image.specs.Shape.{Dimensions}
use Rattle.segment_machine.specs.declared.actor.Actor.{Actor}
use Rattle.segment_machine.specs.declared.actor.Known.{Known}
use Rattle.segment_machine.specs.Actor.{word_seen}
use Rattle.segment_machine.specs.Made.{SawSample}
use Rattle.segment_machine.specs.Taking.{is_looking}
use Rattle.segment_promises.specs.Values.{ComesTo}
use Rattle.segment_promises.specs.Calls.{BeganBefore}
use Rattle.hist_core.specs.declared.walk.Met.{Met}
use Rattle.hist_core.specs.declared.walk.Met.TheVariants.{Nothing, Sample, End}
use Rattle.hist_core.specs.declared.walk.SampleWalk.{SampleWalk}
use Rattle.hist_core.specs.declared.walk.SampleWalk.TheVariants.{LoadingFirst, LoadingType, LoadingHistogram, LoadingValue, LoadingNext}

-- ---- where it is

-- It has passed records after that of a sparse histogram, and comes to the next of them, or to the end of the list.
pub record IsSampleWalkProgress (known : Known) (passed : List ℕ) (at : ℕ) (a : Actor) : Type 0 where
  pub sparse : known.spec ≡ Sparse
  pub apart : is_looking a.hand.place ≡ false
  pub began : BeganBefore a
  pub comes : ComesTo known.reference passed at a

-- What holds of the records that an actor passed.
abbrev pub OfPassed : Type 1
OfPassed = List ℕ → Actor → Type 0

-- It is at a record after that of a sparse histogram, and this holds of those that it saw.
pub record StandsBehind (known : Known) (holds : OfPassed) (at : ℕ) (seen : List ℕ → List ℕ) (a : Actor) : Type 0 where
  pub passed : List ℕ
  pub way : IsSampleWalkProgress known passed at a
  pub record_there : at ≢ QUEUE
  pub lists : holds (seen passed) a

-- they are the records before that one
abbrev pub MetRecord : Known → OfPassed → ℕ → Actor → Type 0
MetRecord known holds at a = StandsBehind known holds at (λ passed. passed) a

-- it is at a record after that of a sparse histogram, and this holds of the records before it and of it
abbrev pub PassedRecord : Known → OfPassed → ℕ → Actor → Type 0
PassedRecord known holds at a = StandsBehind known holds at (λ passed. passed ++ at ∷ []) a

-- it saw that the record is a sample, which has eight words
abbrev pub SawSampleRecord : Dimensions → ℕ → Actor → Type 0
SawSampleRecord shape at a = (word_seen a.seen.words (at + BLOCK_TYPE) ≡ Some TYPE_SAMPLE) × (at + SAMPLE_LEAST ≤ shape.size)

-- it is at a sample of a value of its histogram
abbrev pub MetSample : Dimensions → Known → OfPassed → ℕ → ℤ → Actor → Type 0
MetSample shape known holds at value a =
    MetRecord known holds at a × (at + SAMPLE_LEAST ≤ shape.size) × SawSample a.seen known.reference value at

-- it has come to the end of the list, and this holds of all records there
pub record HasReachedEnd (known : Known) (holds : OfPassed) (a : Actor) : Type 0 where
  pub passed : List ℕ
  pub way : IsSampleWalkProgress known passed QUEUE a
  pub lists : holds passed a

-- it may begin: the histogram is sparse, and its record was visited
pub record MayWalk (known : Known) (a : Actor) : Type 0 where
  pub sparse : known.spec ≡ Sparse
  pub apart : is_looking a.hand.place ≡ false
  pub met : (front behind : List ℕ) × (a.seen.chain ≡ front ++ known.reference ∷ behind)

-- where its actor is
abbrev pub WalksAt : Dimensions → Known → OfPassed → SampleWalk → Actor → Type 0
WalksAt shape known holds LoadingFirst a = MayWalk known a × ((b : Actor) → holds [] b)
WalksAt shape known holds (LoadingType at) a = MetRecord known holds at a
WalksAt shape known holds (LoadingHistogram at) a = MetRecord known holds at a × SawSampleRecord shape at a
WalksAt shape known holds (LoadingValue at of) a =
    MetRecord known holds at a × SawSampleRecord shape at a × (word_seen a.seen.words (at + SAMPLE_HISTOGRAM) ≡ Some of)
WalksAt shape known holds (LoadingNext at) a = PassedRecord known holds at a

-- its first event has happened
abbrev pub HasSetOut : SampleWalk → Type 0
HasSetOut LoadingFirst = ⊥
HasSetOut walk = ⊤

-- what holds of its actor after it has found this
abbrev pub HasComeTo : Dimensions → Known → OfPassed → Met → Actor → Type 0
HasComeTo shape known holds (Nothing walk) a = HasSetOut walk × WalksAt shape known holds walk a
HasComeTo shape known holds (Sample at value) a = MetSample shape known holds at value a
HasComeTo shape known holds End a = HasReachedEnd known holds a

-- ---- a step

-- the word that it loads
abbrev pub spot_of : ℕ → SampleWalk → ℕ
spot_of histogram LoadingFirst = histogram + BLOCK_NEXT
spot_of histogram (LoadingType at) = at + BLOCK_TYPE
spot_of histogram (LoadingHistogram at) = at + SAMPLE_HISTOGRAM
spot_of histogram (LoadingValue at of) = at + SAMPLE_VALUE
spot_of histogram (LoadingNext at) = at + BLOCK_NEXT

-- after the next of a record comes the type of the record there, or the end of the list
abbrev pub behind_next : ℕ → Met
behind_next next = if next == QUEUE then End else Nothing (LoadingType next)

-- after the type of a record comes its histogram, if it is a sample, or else its next
abbrev pub behind_type : ℕ → ℕ → SampleWalk
behind_type at tag = if tag == TYPE_SAMPLE then LoadingHistogram at else LoadingNext at

-- after the value of a sample comes that sample, if it is one of this histogram and its word is that of a value, or else its next
abbrev pub IsBehindValue : ℕ → ℕ → ℕ → ℕ → Met → Type 0
IsBehindValue histogram at of word (Sample r value) = (r ≡ at) × (of ≡ histogram) × (is_i32 value ≡ true) × (word ≡ cast_unsigned w64 value)
IsBehindValue histogram at of word (Nothing (LoadingNext r)) =
    (r ≡ at) × ((of ≢ histogram) ⊎ ((value : ℤ) → is_i32 value ≡ true → word ≢ cast_unsigned w64 value))
IsBehindValue histogram at of word met = ⊥

-- what a word that it loaded leads to
abbrev pub Meets : SampleWalk → ℕ → ℕ → Met → Type 0
Meets LoadingFirst histogram word met = met ≡ behind_next word
Meets (LoadingType at) histogram word met = met ≡ Nothing (behind_type at word)
Meets (LoadingHistogram at) histogram word met = met ≡ Nothing (LoadingValue at word)
Meets (LoadingValue at of) histogram word met = IsBehindValue histogram at of word met
Meets (LoadingNext at) histogram word met = met ≡ behind_next word
