-- The samples of a sparse histogram along the list, and which values a call lists of them.
pub use Rattle.segment_calls.specs.Keys.{NoKeyRepeats, AreSorted}
use Rattle.std.specs.Prelude.{◌≡◌, ◌≢◌, ◌⊎◌, true, ℕ, ◌+◌, ◌*◌, ◌<◌, ◌≤◌, ℤ, List, [], ◌∷◌, ◌++◌, length, slice_index, Option, Some, None}
use Rattle.std.specs.List.{All, AllByRecursion}
use Rattle.segment_image.specs.declared.layout.TheConstants.{BLOCK_LEAST, HEADER_WORDS, QUEUE}
use Rattle.bucket_ranges.specs.Reading.{is_i32}
use Rattle.list_core.specs.Chain.{stops}
use Rattle.segment_machine.specs.declared.actor.Actor.{Actor}
use Rattle.segment_machine.specs.declared.seen.Seen.{Seen}
use Rattle.list_lemmas.specs.Firsts.{ComesFirst}
use Rattle.segment_calls.specs.Keys.{NoKeyRepeats}
use Rattle.segment_machine.specs.Made.{SawOther, SawSample}
use Rattle.segment_machine.specs.Taking.{IsLaterSample}

-- ---- along the list

-- these nexts visit no block twice, and the queue block not at all
abbrev pub NoRepeats : List ℕ → Type 0
NoRepeats chain = (i j : ℕ) → i < j → j ≤ length chain → slice_index (stops chain) i ≢ slice_index (stops chain) j

-- the first of these records, or the queue block if there is none
abbrev pub first_of : List ℕ → ℕ
first_of [] = QUEUE
first_of (at ∷ rest) = at

-- After the record of a histogram the actor has passed these records, and comes to the next one that it saw there, or to the end of the
-- list.
pub record ComesTo (histogram : ℕ) (passed : List ℕ) (at : ℕ) (a : Actor) : Type 0 where
  pub front : List ℕ
  pub behind : List ℕ
  pub chain : a.seen.chain ≡ front ++ histogram ∷ (passed ++ behind)
  pub stands : at ≡ first_of behind
  pub within : at ≢ QUEUE → at + BLOCK_LEAST ≤ a.segment.shape.size
  pub few : BLOCK_LEAST * length a.seen.chain + HEADER_WORDS ≤ a.segment.shape.size

-- ---- what is listed

-- the actor saw that a record is a sample of a value, and did this with it; or that it is a sample of no value
abbrev pub PassesRecord : (ℤ → ℕ → Type 0) → Seen → ℕ → ℕ → Type 0
PassesRecord Does seen histogram at =
    ((value : ℤ) × SawSample seen histogram value at × Does value at) ⊎ ((value : ℤ) → is_i32 value ≡ true → SawOther seen histogram value at)

-- For each record that it passed, the actor saw which sample it is, if any, and did something with each sample. It listed values, each
-- once, with units that the first sample of the value has.
pub record ListsValues (Does : ℤ → ℕ → Type 0) (Has : ℕ → ℕ → Type 0) (histogram : ℕ) (passed : List ℕ) (listed : List (ℤ × ℕ)) (seen : Seen) : Type 0 where
  pub passes : AllByRecursion (PassesRecord Does seen histogram) passed
  pub firsts : All (λ count. (sample : ℕ) × ComesFirst (SawOther seen histogram count.0) (SawSample seen histogram count.0) passed sample × Has sample count.1) listed
  pub once : NoKeyRepeats listed
  pub few : length listed ≤ length passed

-- The actor listed a record as a sample of a value, and not a later one of that value; or it listed nothing for the record.
abbrev pub ListsOf : (ℤ → ℕ → Type 0) → (ℕ → ℕ → Type 0) → ℕ → ℕ → Option (ℤ × ℕ) → Actor → Type 0
ListsOf Does Has histogram at (Some count) a = SawSample a.seen histogram count.0 at × Does count.0 at × Has at count.1 × ¬ (IsLaterSample a at)
ListsOf Does Has histogram at None a = PassesRecord Does a.seen histogram at

-- a list of one, or of none
abbrev pub listed_of : Option (ℤ × ℕ) → List (ℤ × ℕ)
listed_of (Some count) = count ∷ []
listed_of None = []
