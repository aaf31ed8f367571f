-- What the bytes of a schedule mean, or their first fault.
use Rattle.std.specs.Prelude.{◌≡◌, ◌⊎◌, ⊤, ℕ, zero, suc, ◌+◌, ◌<◌, ◌≤◌, List, ◌∷◌, length, map, slice_index_or, [], Some, None}
use Rattle.csv.specs.Reading.{records, default_config, strip_bom}
use Rattle.schedule.specs.declared.fault.ScheduleFault.{ScheduleFault}
use Rattle.schedule.specs.declared.fault.ScheduleFault.TheVariants.{Read, TooLong, NoMemory, BadLine}
use Rattle.schedule.specs.declared.reading.Schedule.{Schedule}
use Rattle.schedule.specs.declared.order.Order.{Order}
use Rattle.schedule.specs.Order.{WorldOpening, opening_in, opening_view, order_in, order_view}

-- records ask for these, in order
abbrev pub AreOrders : List (List (List ℕ)) → List Order → Type 0
AreOrders rows orders = map order_in rows ≡ map (λ order. Some (order_view order)) orders

-- records are a schedule: the first opens its world, and each later one is what an actor is to do, in order
pub record IsReadAs (rows : List (List (List ℕ))) (schedule : Schedule) : Type 0 where
  pub first : List (List ℕ)
  pub later : List (List (List ℕ))
  pub rows_are : rows ≡ first ∷ later
  pub opening : opening_in first ≡ Some (opening_view schedule.opening)
  pub orders : AreOrders later schedule.orders.items

-- a record has no valid form for its place, which is counted from 0; a missing one has none
abbrev pub IsBadAt : List (List (List ℕ)) → ℕ → Type 0
IsBadAt rows zero = opening_in (slice_index_or rows zero []) ≡ None
IsBadAt rows (suc before) = order_in (slice_index_or rows (suc before) []) ≡ None

-- the record of a number, from 1, is the first of these: there is none before it, and it is there, or there are no records and it is number
-- 1
pub record IsFirstBad (rows : List (List (List ℕ))) (number : ℕ) : Type 0 where
  pub place : ℕ
  pub number_is : number ≡ place + 1
  pub there : (place < length rows) ⊎ ((rows ≡ []) × (number ≡ 1))
  pub bad : IsBadAt rows place
  pub first : (earlier : ℕ) → earlier < place → ¬ (IsBadAt rows earlier)

-- why records are no schedule
abbrev pub IsRowFault : List (List (List ℕ)) → ScheduleFault → Type 0
IsRowFault rows NoMemory = ⊤
IsRowFault rows (BadLine number) = IsFirstBad rows number
IsRowFault rows _ = ⊥

-- why later records are no orders, after a first one that opens a world
abbrev pub IsLaterFault : List (List (List ℕ)) → ScheduleFault → Type 0
IsLaterFault later fault = (first : List (List ℕ)) (opening : WorldOpening) → opening_in first ≡ Some opening → IsRowFault (first ∷ later) fault

-- the records of bytes
abbrev pub rows_of : List ℕ → List (List (List ℕ))
rows_of bytes = records default_config (strip_bom bytes)

-- bytes are a schedule
abbrev pub IsScheduleOf : List ℕ → Schedule → Type 0
IsScheduleOf bytes schedule = (length bytes ≤ 16777216) × IsReadAs (rows_of bytes) schedule

-- Why the bytes that a reader had left are no schedule. If memory runs out or a device fails, the cause is not in the bytes.
abbrev pub IsScheduleFault : List ℕ → ScheduleFault → Type 0
IsScheduleFault bytes Read = ⊤
IsScheduleFault bytes NoMemory = ⊤
IsScheduleFault bytes TooLong = 16777216 < length bytes
IsScheduleFault bytes (BadLine number) = (length bytes ≤ 16777216) × IsFirstBad (rows_of bytes) number
