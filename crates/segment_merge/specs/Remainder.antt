-- What a histogram of a reading has that its deltas have not taken.
use Rattle.std.specs.Prelude.{◌≡◌, nat_lt, if◌then◌else◌, ℕ, ◌-◌, ◌≤◌, ℤ, ◌-ℤ◌, List, ◌++◌, length, replicate, Option, Some, None, MatchOption, FitsSigned}
use Rattle.std.specs.List.{All, filter_map, zip}
use Rattle.std.specs.Int.{w64}
use Rattle.image_reader.specs.declared.reading.HistReading.{HistReading}
use Rattle.segment_merge.specs.declared.remainder.Remainder.{Remainder}

-- each key with its units and its mark, which is 0 if there is none
abbrev pub marked : List (ℤ × ℕ) → List ℕ → List ((ℤ × ℕ) × ℕ)
marked counts marks = zip counts (marks ++ replicate (length counts) 0)

-- what is left of a key's units above its mark, if anything is
abbrev pub left_of : (ℤ × ℕ) × ℕ → Option (ℤ × ℕ)
left_of ((key, units), mark) = if nat_lt mark units then Some (key, units - mark) else None

-- what is left of all keys, in their order
abbrev pub items_of : List (ℤ × ℕ) → List ℕ → List (ℤ × ℕ)
items_of counts marks = filter_map left_of (marked counts marks)

-- there is a remainder: of no key more units are left than a segment has, and what is left of the sum fits a word
pub record HasRemainder (histogram : HistReading) : Type 0 where
  pub few : All (λ item. item.1 ≤ 4294967295) (items_of histogram.counts.items histogram.marks.items)
  pub fits : FitsSigned w64 (histogram.sum -ℤ histogram.sum_mark)

-- what deltas have not taken of it
pub record IsRemainderOf (histogram : HistReading) (remainder : Remainder) : Type 0 where
  pub items : remainder.items.items ≡ items_of histogram.counts.items histogram.marks.items
  pub sum : remainder.sum ≡ histogram.sum -ℤ histogram.sum_mark

-- the same, if there is a remainder
abbrev pub IsLeftOf : HistReading → Option Remainder → Type 0
IsLeftOf histogram left = MatchOption left (¬ (HasRemainder histogram)) (IsRemainderOf histogram)
