-- Why a sum is refused: what does not fit.
use Rattle.std.specs.Prelude.{◌≡◌, ◌⊎◌, ⊤, ℕ, ◌+◌, ◌≤◌, ◌^◌, ℤ, pos, ◌<◌, ◌+ℤ◌, ◌≤ℤ◌, FitsSigned, unsigned_abs, List, ◌++◌, sum_by, if◌then◌else◌}
use Rattle.std.specs.Int.{w128}
use Rattle.std.specs.List.{Contains}
use Rattle.bucket_ranges.specs.declared.spec.Spec.{Spec}
use Rattle.reading_sums.specs.declared.fault.SumsFault.{SumsFault}
use Rattle.reading_sums.specs.declared.fault.SumsFault.TheVariants.{NoMemory, TooMany}
use Rattle.reading_sums.specs.declared.hist.HistSum.{HistSum}
use Rattle.reading_sums.specs.declared.key.KeySum.{KeySum}
use Rattle.reading_sums.specs.declared.notes.Notes.{Notes}
use Rattle.reading_sums.specs.declared.sums.Sums.{Sums}
use Rattle.reading_sums.specs.Addends.{Addend, parts_in_turn}
use Rattle.reading_sums.specs.Keys.{marks_at}
use Rattle.reading_sums.specs.Totals.Quantity.{Units, Marks, Amounts, AmountMarks, Redundant, Images}
use Rattle.reading_sums.specs.Totals.{Part, Quantity, is_of, quantity_of, total}
use Rattle.reading_sums.specs.Views.{part_of, parts_of}
use Rattle.reading_sums.specs.Whole.{units_of}

-- a condition that holds if the fault is `TooMany`; none if memory ran out
abbrev pub IfTooMany : SumsFault → Type 0 → Type 0
IfTooMany NoMemory many = ⊤
IfTooMany TooMany many = many

-- ---- parts

-- a total does not fit: a total of amounts in 128 bits with a sign, any other in 64 bits
abbrev pub TotalDoesNotFit : Quantity → ℤ → Type 0
TotalDoesNotFit (Units key) number = pos (2 ^ 64) ≤ℤ number
TotalDoesNotFit (Marks key) number = pos (2 ^ 64) ≤ℤ number
TotalDoesNotFit Amounts number = ¬ FitsSigned w128 number
TotalDoesNotFit AmountMarks number = ¬ FitsSigned w128 number
TotalDoesNotFit Redundant number = pos (2 ^ 64) ≤ℤ number
TotalDoesNotFit Images number = pos (2 ^ 64) ≤ℤ number

-- the units of all keys that the parts of a name and a spec have together
abbrev pub all_units : List ℕ → Spec → List Part → ℕ
all_units name spec parts = sum_by (λ part. if is_of name spec part then units_of part.keys else 0) parts

-- parts do not fit together: for some name and spec all units are 2^64 or more, or some total does not fit
abbrev pub PartsDoNotFit : List Part → Type 0
PartsDoNotFit parts = (name : List ℕ) × (spec : Spec)
    × ((2 ^ 64 ≤ all_units name spec parts) ⊎ ((quantity : Quantity) × TotalDoesNotFit quantity (total quantity name spec parts)))

-- some part has a least number that is 2^64 or more when it is raised by this number
abbrev pub HasNumberTooGreat : ℕ → List Part → Type 0
HasNumberTooGreat by parts = (part : Part) × Contains parts part × (2 ^ 64 ≤ part.least + by)

-- ---- sums

-- the notes of two sums do not fit together: one of the numbers is 2^64 or more
abbrev pub NotesDoNotFit : Notes → Notes → Type 0
NotesDoNotFit a b = (2 ^ 64 ≤ a.images + b.images) ⊎ (2 ^ 64 ≤ a.full + b.full) ⊎ (2 ^ 64 ≤ a.corrupt + b.corrupt)
    ⊎ (2 ^ 64 ≤ a.stopped + b.stopped) ⊎ (2 ^ 64 ≤ a.bad + b.bad)

-- parts and notes do not fit into a sum: its notes and these do not fit together, or its parts and these do not
abbrev pub SumDoesNotFit : Sums → List Part → Notes → Type 0
SumDoesNotFit sums parts notes = NotesDoNotFit sums.notes notes ⊎ PartsDoNotFit (parts_of sums ++ parts)

-- ---- one name and one spec

-- keys do not fit together: all units are 2^64 or more, or the marks of some value
abbrev pub KeysDoNotFit : List KeySum → Type 0
KeysDoNotFit keys = (2 ^ 64 ≤ units_of keys) ⊎ ((value : ℤ) × (2 ^ 64 ≤ marks_at keys value))

-- two parts of one name and one spec do not fit together: all units are 2^64 or more, or some total does not fit
abbrev pub PairDoesNotFit : Part → Part → Type 0
PairDoesNotFit a b =
    (2 ^ 64 ≤ units_of a.keys + units_of b.keys) ⊎ ((quantity : Quantity) × TotalDoesNotFit quantity (quantity_of quantity a +ℤ quantity_of quantity b))

-- each of two lists has a histogram of one name and one spec, and these do not fit together
pub record HavePairTooGreat (left right : List HistSum) : Type 0 where
  pub one : HistSum
  pub other : HistSum
  pub is_left : Contains left one
  pub is_right : Contains right other
  pub name : one.name.items ≡ other.name.items
  pub spec : one.spec ≡ other.spec
  pub many : PairDoesNotFit (part_of one) (part_of other)

-- ---- addends in their order

-- the notes of addends do not fit together: one of the numbers is 2^64 or more
abbrev pub NotesInTurnDoNotFit : List Addend → Type 0
NotesInTurnDoNotFit addends = (2 ^ 64 ≤ sum_by (λ (addend : Addend). addend.notes.images) addends)
    ⊎ (2 ^ 64 ≤ sum_by (λ (addend : Addend). addend.notes.full) addends) ⊎ (2 ^ 64 ≤ sum_by (λ (addend : Addend). addend.notes.corrupt) addends)
    ⊎ (2 ^ 64 ≤ sum_by (λ (addend : Addend). addend.notes.stopped) addends) ⊎ (2 ^ 64 ≤ sum_by (λ (addend : Addend). addend.notes.bad) addends)

-- addends do not fit together: their notes or their parts do not
abbrev pub AddendsDoNotFit : List Addend → Type 0
AddendsDoNotFit addends = NotesInTurnDoNotFit addends ⊎ PartsDoNotFit (parts_in_turn 0 addends)

-- for each name and spec, the amounts together and those that deltas have taken are below 2^126 in size
abbrev pub HasSmallAmounts : List Part → Type 0
HasSmallAmounts parts = (name : List ℕ) (spec : Spec)
    → (unsigned_abs (total Amounts name spec parts) < 2 ^ 126) × (unsigned_abs (total AmountMarks name spec parts) < 2 ^ 126)
