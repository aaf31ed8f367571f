-- Where the blocks of a memory come from, and how large they are.
use Rattle.std.specs.Prelude.{◌≡◌, ℕ, Bool, false, ◌||◌, ◌==◌, if◌then◌else◌, is_none, max, Option, None, Some}
use Rattle.std.specs.Int.{next_multiple_of}
use Rattle.std.specs.Arc.{arc_value}
use Rattle.std.specs.declared.sync.Arc.{Arc}
use Rattle.std.specs.declared.alloc.Global.{Global}
use Rattle.segment_memory.specs.declared.shelf.Shelf.{Shelf}
use Rattle.segment_memory.specs.declared.memory.Memory.{Memory}
use Rattle.segment_memory.specs.declared.memory.Lender.{Lender}

-- a request of n bytes is the heap's if no room is lent, or if it asks for none
abbrev pub is_of_heap : Memory → ℕ → Bool
is_of_heap memory n = is_none memory.lent || n == 0

-- the bytes of the room that is lent
abbrev pub room_size : Option (Arc Shelf Global) → ℕ
room_size None = 0
room_size (Some shelf) = (arc_value shelf).size

-- n bytes in whole units of 16, at least one
abbrev pub whole_units : ℕ → ℕ
whole_units n = next_multiple_of (max n 16) 16

-- the size of the block for a request of n bytes: n in whole units if it is the heap's, otherwise all of the room
abbrev pub block_size : Memory → ℕ → ℕ
block_size memory n = if is_of_heap memory n then whole_units n else room_size memory.lent

-- the bytes of the room that someone lent
abbrev pub lent_size : Lender → ℕ
lent_size lender = (arc_value lender.shelf).size

-- a room of n bytes was lent to the memory
abbrev pub IsRoomLent : ℕ → Memory → Lender → Type 0
IsRoomLent n memory lender = (is_none memory.lent ≡ false) × (room_size memory.lent ≡ n) × (lent_size lender ≡ n)
