use mir.Raw.{raw}
use base.Shift.{Keyless}
use denote.Memory.{lone}
use denote.Struct.Struct.{exits_of}
use denote.Struct.Owning.{shape, fields, to}
use denote.Param.Send.{IsSend, AllSend, owning_send, struct_send, sendable}
use Rattle.std.specs.Prelude.{Option, None, Some}
use Rattle.std.proofs.Crossing as heap
use Rattle.std_alloc.proofs.SendSync.{quiet, lies}
use Rattle.std_heap.proofs.Global.TheSendSync as handle
use Rattle.povundiri_c.specs.contracts.contents.Contents as Contents
use Rattle.povundiri_c.proofs.contents.Contents.TheSendSync.{the_send as held}
use Rattle.povundiri_c.specs.OpaqueBoxes.{opaque_owns}
use Rattle.povundiri_c.specs.contracts.opaque_box.OpaqueBox.{the_row, the_type}

owned : (d : the_row.Denot) (x : Option (Contents.the_row).Denot) → Keyless (opaque_owns d.alloc d.ptr x)
owned d None = tt
owned d (Some x) = (lies Contents.the_row held d.ptr x, heap.frees.frees d.alloc (raw (lone (Contents.the_row).mir)) d.ptr)

pub send : IsSend the_row
send =
    let all : AllSend (fields the_type) = (search sendable, (handle.the_field_send, tt)) in
    owning_send the_type all (λ d. owned d d.held)
    (λ k. quiet (to the_type) (exits_of k (fields the_type)) ((struct_send (shape the_type) all).leaving k))
