use base.Shift.{Keyless}
use mir.Syntax.{Ty}
use denote.RawPtr.{Ptr, block_ptr, null_ptr, room_for}
use denote.Struct.Struct.{exits_of}
use denote.Struct.Owning.{shape, fields, to}
use denote.Param.Send.{IsSend, AllSend, owning_send, struct_send, sendable}
use Rattle.std_alloc.proofs.SendSync.{quiet}
use Rattle.segment_memory.specs.Blocks.{units_of}
use Rattle.segment_memory.specs.contracts.room.Room.{the_row, the_type}

room : (τ : Ty) (p : Ptr) → Keyless (room_for τ p)
room τ (block_ptr b o) = tt
room τ null_ptr = tt

pub send : IsSend the_row
send = let all : AllSend (fields the_type) = (search sendable, (search sendable, tt)) in
    owning_send the_type all (λ d. room (units_of d.size) d.ptr) (λ k. quiet (to the_type) (exits_of k (fields the_type)) ((struct_send (shape the_type) all).leaving k))
