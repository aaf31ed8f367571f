-- What is owned of memory that is handed out.
use Rattle.std.specs.Prelude.{ℕ, ◌/◌, ◌%◌, ◌≡◌, ◌≤◌, ◌<◌, ◌^◌, Bool, true, false}
use mir.Syntax.{Ty, ty_array, ty_int, w128}
use base.Fml.{Fml, ftrue, fsep, fex, fwand}
use prog.Memory.{size}
use denote.RawPtr.{Ptr, room_for}
use Rattle.std_heap.specs.contracts.GlobalAllocator.TheImpl.{ghosts}

-- a size that a block may have
abbrev pub IsBlockSize : ℕ → Type 0
IsBlockSize n = (16 ≤ n) × (n % 16 ≡ 0)

-- n bytes, as units of 16 that are aligned to 16
abbrev pub units_of : ℕ → Ty
units_of n = ty_array (ty_int w128) (n / 16)

-- room for them at p
abbrev pub bytes_at : Ptr → ℕ → Fml
bytes_at p n = room_for (units_of n) p

-- the right to free what the heap gave for a τ
abbrev pub freeing : Ty → Ptr → Fml
freeing = ghosts.dealloc_token (record { memory = record { seal = tt } })

-- if the block at p is the heap's, the right to free it
abbrev pub owed : Bool → ℕ → Ptr → Fml
owed true n p = freeing (units_of n) p
owed false n p = ftrue

-- what a block of n bytes at p owns
abbrev pub block_owns : Bool → ℕ → Ptr → Fml
block_owns heap n p = fsep (bytes_at p n) (owed heap n p)

-- the right to give back the block of n bytes in which a τ may lie
abbrev pub block_token : Bool → ℕ → Ty → Ptr → Fml
block_token heap n τ p = fex (IsBlockSize n × (n < 2 ^ 64) × (size τ < 2 ^ 63)) (λ _. fsep (fwand (room_for τ p) (bytes_at p n)) (owed heap n p))
