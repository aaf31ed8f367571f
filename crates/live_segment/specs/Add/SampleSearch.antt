-- How a recorder finds the sample of a value of a sparse histogram: it walks along the list from the histogram's record on. If there is
-- none, it makes one.
use Rattle.std.specs.Prelude.{◌≡◌, ◌⊎◌, Bool, true, false, ℕ, ◌+◌, ◌≤◌, ℤ, List, ◌∷◌, ◌++◌, ⊤}
use Rattle.std.specs.List.{All, Contains}
use Rattle.segment_image.specs.declared.layout.TheConstants.{SAMPLE_LEAST}
use Rattle.segment_machine.specs.declared.actor.Actor.{Actor}
use Rattle.segment_machine.specs.declared.actor.Known.{Known}
use Rattle.segment_machine.specs.declared.actor.Made.TheVariants.{Sample}
use Rattle.segment_machine.specs.declared.place.Place.TheVariants.{Idle}
use Rattle.segment_calls.specs.declared.refusal.Refusal.{Refusal}
use Rattle.segment_machine.specs.declared.seen.Seen.{Seen}
use Rattle.segment_machine.specs.Calls.{MayTurn}
use Rattle.segment_machine.specs.Made.{IsFirstSample, SawOther, SawSample}
use Rattle.live_segment.specs.declared.add.sample_search.SampleSearch.{SampleSearch}
use Rattle.live_segment.specs.declared.add.sample_search.SampleSearch.TheVariants.{Met, End}
use Rattle.live_segment.specs.Add.Sample.{HasNoRoom}
use Rattle.live_segment.specs.List.Ends.{SawAllOfList}
use Rattle.live_segment.specs.Alloc.Claims.{MakesOne, MakesSample}
use Rattle.live_segment.specs.Add.Refusal.{given_up}
use Rattle.live_segment.specs.List.Walk.{IsWalkProgress}
use Rattle.live_segment.specs.Add.Progress.{LooksOn}

-- ---- one that is found

-- it saw that a record is the sample of a value, which lies within the segment, or that it is another record
abbrev pub ShowsValue : ℕ → ℤ → ℕ → Bool → Actor → Type 0
ShowsValue histogram value at true a = SawSample a.seen histogram value at × (at + SAMPLE_LEAST ≤ a.segment.shape.size)
ShowsValue histogram value at false a = SawOther a.seen histogram value at

-- Its walk has passed the histogram's record. None of the records that it has given since is a sample of the value.
pub record WalksBehind (histogram : ℕ) (value : ℤ) (at : ℕ) (a : Actor) : Type 0 where
  pub front : List ℕ
  pub given : List ℕ
  pub way : IsWalkProgress (front ++ histogram ∷ given) at a
  pub others : All (SawOther a.seen histogram value) given

-- it saw that no record after the histogram's is a sample of the value, up to the end of the list
abbrev pub SawNone : ℕ → ℤ → Actor → Type 0
SawNone histogram value a = (front behind : List ℕ) × (a.seen.chain ≡ front ++ histogram ∷ behind) × All (SawOther a.seen histogram value) behind

-- it has published no sample of the value
abbrev pub HasMadeNoSample : ℕ → ℤ → Actor → Type 0
HasMadeNoSample histogram value a = (at : ℕ) → ¬ (Contains a.done.published (record { reference = at; made = Sample histogram value }))

-- It visited the first sample of the value, within the segment. Or it saw all of the list, which has none, and has published none.
abbrev pub FindsSample : ℕ → ℤ → SampleSearch → Actor → Type 0
FindsSample histogram value (Met reference) a =
    MayTurn a × IsFirstSample a.seen histogram value reference × (reference + SAMPLE_LEAST ≤ a.segment.shape.size)
FindsSample histogram value (End at) a =
    WalksBehind histogram value at a × SawNone histogram value a × HasMadeNoSample histogram value a

-- if it came to the end of the list, it has found the end there since
abbrev pub FoundEnd : SampleSearch → Seen → Seen → Type 0
FoundEnd (End at) old new = SawAllOfList old new
FoundEnd _ old new = ⊤

-- ---- one that is made

-- It has made a sample of the value, and has put it on the list. It has seen no more of the list, nor of the words of records.
pub record HasMadeSample (histogram : ℕ) (value : ℤ) (old new : Actor) : Type 0 where
  pub looks : LooksOn old new
  pub chain : new.seen.chain ≡ old.seen.chain
  pub words : new.seen.words ≡ old.seen.words
  pub counts : new.seen.counts ≡ old.seen.counts
  pub filled : new.done.filled ≡ old.done.filled
  pub at : ℕ
  pub published : Contains new.done.published (record { reference = at; made = Sample histogram value })
  pub makes : MakesOne old.segment.shape (Sample histogram value) SAMPLE_LEAST old.done new.done

-- no block could be claimed for one, and its call ends
pub record HasNotMadeSample (why : Refusal) (old new : Actor) : Type 0 where
  pub last : Actor
  pub looks : LooksOn old last
  pub seen : last.seen ≡ record old.seen { free = last.seen.free; corrupt = last.seen.corrupt; warned = last.seen.warned }
  pub ends : new ≡ given_up last
  pub idle : new.hand.place ≡ Idle
  pub room : HasNoRoom why SAMPLE_LEAST old new

-- ---- one that is found or made

-- It visited the first sample of the value, within the segment. No allocation was refused, and it has seen no further count. It claimed
-- nothing, or one block for the sample.
pub record HasSampleOf (known : Known) (value : ℤ) (sample : ℕ) (old new : Actor) : Type 0 where
  pub looks : LooksOn old new
  pub first : IsFirstSample new.seen known.reference value sample
  pub within : sample + SAMPLE_LEAST ≤ new.segment.shape.size
  pub filled : new.done.filled ≡ old.done.filled
  pub untouched : new.seen.counts ≡ old.seen.counts
  pub claims : (new.done ≡ old.done) ⊎ MakesSample known.reference value old new

-- There was none up to the end of the list, and no block could be claimed for one. It has seen no further count, and its call ends.
pub record LacksSampleOf (why : Refusal) (known : Known) (value : ℤ) (old new : Actor) : Type 0 where
  pub last : Actor
  pub looks : LooksOn old last
  pub untouched : last.seen.counts ≡ old.seen.counts
  pub ends : new ≡ given_up last
  pub idle : new.hand.place ≡ Idle
  pub none : SawNone known.reference value new
  pub all : SawAllOfList old.seen new.seen
  pub room : HasNoRoom why SAMPLE_LEAST old new
