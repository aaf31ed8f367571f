-- A walk along the list.
use Rattle.std.specs.Prelude.{◌≡◌, ◌⊎◌, ℕ, ◌<◌, ◌==◌, List, [], ◌∷◌, ◌++◌, length, slice_index, if◌then◌else◌}
use Rattle.segment_image.specs.declared.layout.TheConstants.{QUEUE}
use Rattle.list_core.specs.declared.walk.WalkStep.{WalkStep}
use Rattle.list_core.specs.declared.walk.WalkStep.TheVariants.{Record, End, Stray}
use Rattle.list_core.specs.Chain.{is_reference, stops}

-- what a walk says of the next of the block where it is
abbrev pub said_of : ℕ → ℕ → WalkStep
said_of n next = if next == QUEUE then End else if is_reference n next then Record next else Stray

-- where a walk is after it said this: at the record that it gave, or where it was
abbrev pub stands_after : ℕ → WalkStep → ℕ
stands_after at (Record reference) = reference
stands_after at End = at
stands_after at Stray = at

-- what a walk at place k of the chain says: the record after it, or that the list ends here
abbrev pub GivesNext : List ℕ → ℕ → WalkStep → Type 0
GivesNext chain k said = ((k < length chain) × (said ≡ Record (slice_index chain k))) ⊎ ((k ≡ length chain) × (said ≡ End))

-- a list is the front of another
abbrev pub IsPrefix : List ℕ → List ℕ → Type 0
IsPrefix front whole = (rest : List ℕ) × (whole ≡ front ++ rest)

-- what a walk that gave the front of a chain says next: a record that belongs after it, or that this is all of the chain
abbrev pub IsGiven : List ℕ → List ℕ → WalkStep → Type 0
IsGiven given chain (Record reference) = IsPrefix (given ++ reference ∷ []) chain
IsGiven given chain End = given ≡ chain
IsGiven given chain Stray = ⊥

-- where a walk from the start is after it gave these records
abbrev pub stands_behind : List ℕ → ℕ
stands_behind given = slice_index (stops given) (length given)

-- what a walk has given after it said this
abbrev pub given_after : List ℕ → WalkStep → List ℕ
given_after given (Record reference) = given ++ reference ∷ []
given_after given End = given
given_after given Stray = given
