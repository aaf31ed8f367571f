use Rattle.std.specs.Prelude.{ℕ, Bool, true, false}
use mir.Syntax.{Ty}
use base.Shift.{Keyless}
use denote.Param.Send.{Frees}
use denote.RawPtr.{Ptr, block_ptr, null_ptr, room_for}
use Rattle.std.proofs.Crossing as heap
use Rattle.segment_memory.specs.Blocks.{owed, units_of}
use Rattle.segment_memory.specs.contracts.memory.MemoryAllocator.TheImpl.{ghosts}

room : (τ : Ty) (p : Ptr) → Keyless (room_for τ p)
room τ (block_ptr b o) = tt
room τ null_ptr = tt

right : (heap : Bool) (n : ℕ) (p : Ptr) → Keyless (owed heap n p)
right true n p = heap.frees.frees (record { memory = record { seal = tt } }) (units_of n) p
right false n p = tt

pub frees : Frees ghosts ghosts.dealloc_token
frees = record { frees = λ a τ p is. ((room τ p, room (units_of _) p), right _ _ p) }
