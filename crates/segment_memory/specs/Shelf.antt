-- The rule of a place for one room.
use Rattle.std.specs.Prelude.{◌≡◌, ◌∷◌, [], ℕ, slice_index, length, Option, IfSome}
use mathlib.Core.Option.{some}
use lib.ListN.{get_elem?}
use Rattle.atomic_table.specs.Table.{State, Me}
use Rattle.segment_memory.specs.declared.room.Room.{Room}

-- a room, if there is one, has n bytes
abbrev pub HasSize : ℕ → Option Room → Type 0
HasSize n value = IfSome value (λ room. room.size ≡ n)

-- while the word is 0, a room of n bytes or none is in its place
abbrev pub IsShelf : ℕ → State (Option Room) ℕ → Type 0
IsShelf n s = (length s.words ≡ 1) × (length s.homes ≡ 1) × (slice_index s.words 0 ≡ 0 → (value : Option Room) × (get_elem? s.homes 0 ≡ some (some value)) × HasSize n value)

-- it was taken from there
abbrev pub IsRoomTaken : ℕ → Me (Option Room) ℕ → Type 0
IsRoomTaken n me = (value : Option Room) × (me.1 ≡ (0, value) ∷ []) × HasSize n value
