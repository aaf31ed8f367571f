-- What reading bytes and words takes from a reader, and why it fails.
use Rattle.std.specs.Prelude.{◌≢◌, ℕ, ◌*◌, ◌%◌, ◌<◌, ◌≤◌, List, length, Option, ⊤}
use Rattle.std.specs.Io.KnownBytes.{Consumes}
use Rattle.segment_image.specs.declared.fault.ReadFault.{ReadFault}
use Rattle.segment_image.specs.declared.fault.ReadFault.TheVariants.{NoMemory, Device, TooLong, NotWords}

-- A fault of a call that reads at most `limit` words has its cause in the bytes that the reader had left. Running out of
-- memory and a device that fails have none there.
abbrev pub IsCausedBy : ℕ → List ℕ → ReadFault → Type 0
IsCausedBy limit bytes NoMemory = ⊤
IsCausedBy limit bytes Device = ⊤
IsCausedBy limit bytes TooLong = 8 * limit < length bytes
IsCausedBy limit bytes NotWords = (length bytes ≤ 8 * limit) × (length bytes % 8 ≢ 0)

-- The same of a call that reads at most `limit` bytes, which are any.
abbrev pub IsByteFault : ℕ → List ℕ → ReadFault → Type 0
IsByteFault limit bytes NoMemory = ⊤
IsByteFault limit bytes Device = ⊤
IsByteFault limit bytes TooLong = limit < length bytes
IsByteFault limit bytes NotWords = ⊥

-- a call took at most this many of the bytes that a reader had, which were `old` and are `new`
abbrev pub TakesAtMost : ℕ → Option (List ℕ) → Option (List ℕ) → Type 0
TakesAtMost most old new = (taken : List ℕ) × Consumes old new taken × (length taken ≤ most)
