-- The search for the sample of a value of a sparse histogram: a walk from the histogram's record, which makes a sample if there is none.
use Rattle.std.specs.Prelude.{◌≡◌, ◌≢◌, ◌⊎◌, ◌==◌, Bool, true, false, ℕ, ◌+◌, ◌≤◌, ℤ, List, [], ◌∷◌, ◌++◌, length, if◌then◌else◌, Some, ⊤}
use Rattle.std.specs.Int.{w64, cast_unsigned}
use Rattle.std.specs.List.{All}
use Rattle.bucket_ranges.specs.Reading.{is_i32}
use Rattle.segment_image.specs.declared.layout.TheConstants.{BLOCK_LEAST, SAMPLE_HISTOGRAM, SAMPLE_LEAST, TYPE_SAMPLE}
use Rattle.segment_image.specs.Shape.{Dimensions}
use Rattle.alloc_core.specs.Layout.{IsShape}
use Rattle.list_core.specs.Chain.{is_reference}
use Rattle.list_core.specs.Walk.{IsPrefix, stands_behind}
use Rattle.segment_machine.specs.declared.actor.Actor.{Actor}
use Rattle.segment_machine.specs.declared.actor.Known.{Known}
use Rattle.segment_machine.specs.declared.actor.Made.TheVariants.{Sample}
use Rattle.segment_machine.specs.Actor.{Sparse, word_seen}
use Rattle.segment_machine.specs.declared.seen.Seen.{Seen}
use Rattle.segment_machine.specs.Made.{IsFirstSample, SawOther}
use Rattle.hist_core.specs.declared.new_record.NewRecordStep.{NewRecordStep}
use Rattle.hist_core.specs.declared.new_record.NewRecordStep.TheVariants as made
use Rattle.hist_core.specs.declared.sample_search.SampleSearch.{SampleSearch}
use Rattle.hist_core.specs.declared.sample_search.SampleSearchStep.{SampleSearchStep}
use Rattle.hist_core.specs.declared.sample_search.SampleSearchStep.TheVariants.{More, Found, Refused}
use Rattle.hist_core.specs.declared.sample_search.SampleSearchStage.{SampleSearchStage}
use Rattle.hist_core.specs.declared.sample_search.SampleSearchStage.TheVariants.{Walking, LoadingType, LoadingHistogram, LoadingValue, Making}
use Rattle.hist_core.specs.StepsBy.{SharedEffect, links, raises, DoesOnly, FrameOfStep, SawEnd, StepsBy, IsFree}
use Rattle.hist_core.specs.Walk.{SawSampleRecord}
use Rattle.hist_core.specs.NewRecord.{IsCause, IsNewRecord, Wanted, is_full}

-- ---- what it makes if there is none

-- the sample of its value, with a count and a mark of 0
abbrev pub wanted_of : SampleSearch → Wanted
wanted_of s = record { made = Sample s.histogram s.value; room = 4; payload = s.histogram ∷ cast_unsigned w64 s.value ∷ [] }

-- ---- where it is

-- none of these records is a sample of its value
abbrev pub HaveOthers : SampleSearch → Actor → List ℕ → Type 0
HaveOthers s a records = All (SawOther a.seen s.histogram s.value) records

-- It is at a record after the histogram's, within the segment. None of those between is a sample of its value.
pub record StandsAtRecord (shape : Dimensions) (s : SampleSearch) (at : ℕ) (a : Actor) (behind : List ℕ) : Type 0 where
  pub free : IsFree a
  pub passed : List ℕ
  pub are : behind ≡ passed ++ at ∷ []
  pub others : HaveOthers s a passed
  pub within : at + BLOCK_LEAST ≤ shape.size

-- Where its actor is, whose walk has given these records after the histogram's.
abbrev pub StandsAtStage : Dimensions → SampleSearch → Actor → List ℕ → SampleSearchStage → Type 0
StandsAtStage shape s a behind Walking = IsFree a × HaveOthers s a behind
StandsAtStage shape s a behind (LoadingType at) = StandsAtRecord shape s at a behind
StandsAtStage shape s a behind (LoadingHistogram at) = StandsAtRecord shape s at a behind × SawSampleRecord shape at a
StandsAtStage shape s a behind (LoadingValue at of) =
    StandsAtRecord shape s at a behind × SawSampleRecord shape at a × (word_seen a.seen.words (at + SAMPLE_HISTOGRAM) ≡ Some of)
StandsAtStage shape s a behind (Making new_record) = HaveOthers s a behind × IsNewRecord shape (wanted_of s) new_record a

-- it is making its sample
abbrev pub IsMakingSample : SampleSearchStage → Type 0
IsMakingSample (Making new_record) = ⊤
IsMakingSample _ = ⊥

-- Its actor knows a sparse histogram there. Its walk has given the front of the chain that its actor has seen, up to the histogram's record
-- and after it. While it makes its sample, these are all that its actor has visited, up to the end of the list.
pub record IsSampleSearch (shape : Dimensions) (s : SampleSearch) (a : Actor) : Type 0 where
  pub shaped : s.shape ≡ shape
  pub segment : a.segment.shape ≡ shape
  pub lawful_shape : IsShape shape
  pub some : s.histogram ≢ 0
  pub valued : is_i32 s.value ≡ true
  pub knows : (known : Known) × Sparse a s.histogram known
  pub front : List ℕ
  pub behind : List ℕ
  pub walk : s.walk ≡ stands_behind (front ++ s.histogram ∷ behind)
  pub reach : is_reference shape.size s.walk ≡ true
  pub chain : IsPrefix (front ++ s.histogram ∷ behind) a.seen.chain
  pub whole : IsMakingSample s.stage → (front ++ s.histogram ∷ behind ≡ a.seen.chain) × SawEnd a.seen
  pub stands : StandsAtStage shape s a behind s.stage

-- it has seen the list to its end, and that no record after that of a histogram is a sample of a value
abbrev pub SawNoSample : ℕ → ℤ → Seen → Type 0
SawNoSample histogram value seen =
    (front behind : List ℕ) × (seen.chain ≡ front ++ histogram ∷ behind) × All (SawOther seen histogram value) behind × SawEnd seen

-- what it may do: it makes the sample of its value, which its actor has seen to be missing
abbrev pub serves_sample : SampleSearch → Actor → SharedEffect → Type 0
serves_sample s a (links made) = made ≡ Sample s.histogram s.value
serves_sample s a (raises words) = (words ≡ SAMPLE_LEAST) × SawNoSample s.histogram s.value a.seen

-- What a step says: it continues; the first sample of the value is there, within the segment; or it is refused. Its actor may turn to
-- something else then.
abbrev pub SampleSearchGives : Dimensions → SampleSearch → SampleSearchStep → Actor → Actor → Type 0
SampleSearchGives shape new More a b = FrameOfStep a b × DoesOnly false false (serves_sample new a) a b × IsSampleSearch shape new b
SampleSearchGives shape new (Found at) a b =
    FrameOfStep a b × DoesOnly false false (serves_sample new a) a b × IsFree b × IsFirstSample b.seen new.histogram new.value at × (at + SAMPLE_LEAST ≤ shape.size)
SampleSearchGives shape new (Refused cause) a b =
    FrameOfStep a b × DoesOnly false (is_full cause) (serves_sample new a) a b × IsFree b × IsCause cause SAMPLE_LEAST a b
    × SawNoSample new.histogram new.value b.seen

-- what a step makes of the words, and of any actor that runs the search
abbrev pub SampleSearchSteps : SampleSearch → List ℕ → SampleSearch → List ℕ → SampleSearchStep → Type 0
SampleSearchSteps old words new new_words said = (shape : Dimensions) (version : ℕ) (a : Actor) → length words ≡ shape.size
    → IsSampleSearch shape old a → StepsBy shape.size version a words new_words (SampleSearchGives shape new said a)

-- a search that some actor runs, in a segment of `n` words
abbrev pub IsSomeSampleSearch : ℕ → SampleSearch → Type 0
IsSomeSampleSearch n s = (shape : Dimensions) × (a : Actor) × (n ≡ shape.size) × IsSampleSearch shape s a

-- ---- what it does next

-- it begins at the histogram's record
pub record IsStarted (shape : Dimensions) (histogram : ℕ) (value : ℤ) (s : SampleSearch) : Type 0 where
  pub shaped : s.shape ≡ shape
  pub of : s.histogram ≡ histogram
  pub counts : s.value ≡ value
  pub walk : s.walk ≡ histogram
  pub stage : s.stage ≡ Walking

-- what the type of a record leads to: the histogram of a sample, or the next of another record
abbrev pub behind_type : ℕ → ℕ → SampleSearchStage
behind_type at tag = if tag == TYPE_SAMPLE then LoadingHistogram at else Walking

-- whether a sample of a histogram, whose value has this word, is that of its own value
abbrev pub IsIts : SampleSearch → ℕ → ℕ → Bool → Type 0
IsIts s of word true = (of ≡ s.histogram) × (word ≡ cast_unsigned w64 s.value)
IsIts s of word false = (of ≢ s.histogram) ⊎ (word ≢ cast_unsigned w64 s.value)

-- what a step of making its sample leads to: it continues, walks on from where it was, or is refused
abbrev pub IsMade : SampleSearch → NewRecordStep → SampleSearch → SampleSearchStep → Type 0
IsMade old made.More new result = (new ≡ old) × (result ≡ More)
IsMade old made.Done new result = (new ≡ record old { stage = Walking }) × (result ≡ More)
IsMade old (made.Refused cause) new result = (new ≡ old) × (result ≡ Refused cause)
