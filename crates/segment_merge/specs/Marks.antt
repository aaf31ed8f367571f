-- What is noted of the keys of a histogram, beside the keys that a later reading has of it.
use Rattle.std.specs.Prelude.{◌≡◌, ◌⊎◌, ℕ, ◌<◌, ◌≤◌, ℤ, pos, ◌<ℤ◌, List, length, map, drop, slice_index_or}
use Rattle.std.specs.List.{All, zip}
use Rattle.segment_machine.specs.Actor.{units_listed}

-- the key and the units at a place of a list
abbrev pub count_at : List (ℤ × ℕ) → ℕ → ℤ × ℕ
count_at counts i = slice_index_or counts i (pos 0, 0)

-- the keys, each with its mark
abbrev pub key_marks : List (ℤ × ℕ) → List ℕ → List (ℤ × ℕ)
key_marks counts marks = zip (map (λ count. count.0) counts) marks

-- a mark is at most the units that it stands beside
abbrev pub ReachesItsMark : (ℤ × ℕ) × ℕ → Type 0
ReachesItsMark each = each.1 ≤ each.0.1

-- The marks of these keys are what is noted: each key has one, which is the units that are noted of it, and these are at most those that it
-- has now. Nothing is noted of another key.
pub record AreMarksOf (noted counts : List (ℤ × ℕ)) (marks : List ℕ) : Type 0 where
  pub many : length marks ≡ length counts
  pub units : (key : ℤ) → units_listed (key_marks counts marks) key ≡ units_listed noted key
  pub risen : All ReachesItsMark (zip counts marks)

-- the keys ascend
abbrev pub AreAscending : List (ℤ × ℕ) → Type 0
AreAscending counts = (i j : ℕ) → i < j → j < length counts → (count_at counts i).0 <ℤ (count_at counts j).0

-- of some key there are fewer units than are noted
abbrev pub HasFewer : List (ℤ × ℕ) → List (ℤ × ℕ) → Type 0
HasFewer noted counts = (key : ℤ) × (units_listed counts key < units_listed noted key)

-- it is the first place, from another one on, at which units are noted, or the end
pub record IsNextNoted (noted : List (ℤ × ℕ)) (from next : ℕ) : Type 0 where
  pub within : next ≤ length noted
  pub onward : from ≤ next
  pub same : (key : ℤ) → units_listed (drop next noted) key ≡ units_listed (drop from noted) key
  pub some : next < length noted → 0 < (count_at noted next).1

-- what is noted of a key: nothing, and what is noted next is of a greater key; or what is noted next, which is no more than its units
abbrev pub IsMark : List (ℤ × ℕ) → ℕ → ℤ → ℕ → ℕ → Type 0
IsMark noted next key units mark =
    ((mark ≡ 0) × (next < length noted → key <ℤ (count_at noted next).0))
    ⊎ ((next < length noted) × (count_at noted next ≡ (key, mark)) × (mark ≤ units))

-- what is noted next is of a key before this one, or is more than its units
abbrev pub IsGone : List (ℤ × ℕ) → ℕ → ℤ → ℕ → Type 0
IsGone noted next key units =
    (next < length noted)
    × (((count_at noted next).0 <ℤ key) ⊎ (((count_at noted next).0 ≡ key) × (units < (count_at noted next).1)))
