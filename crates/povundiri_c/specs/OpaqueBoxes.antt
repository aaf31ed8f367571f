-- What an `OpaqueBox` owns: the same as a `Box<Contents>`, or nothing.
use Rattle.std.specs.Prelude.{Option, None, Some, Bool, true, false}
use base.Fml.{Fml, ftrue}
use base.Stored.{Coded}
use denote.RawPtr.{Ptr}
use Rattle.core.specs.contracts.option.Option as option
use Rattle.std.specs.Box.Ownership.{box_owns}
use Rattle.std.specs.Global.{Global}
use Rattle.std_heap.specs.contracts.GlobalAllocator.TheImpl.{ghosts}
use Rattle.povundiri_c.specs.contracts.contents.Contents.{the_row}

-- the memory that an opaque box owns: that of a box of its value, or none
abbrev pub opaque_owns : Global → Ptr → Option the_row.Denot → Fml
opaque_owns alloc p None = ftrue
opaque_owns alloc p (Some x) = box_owns (ghosts.dealloc_token alloc) the_row p x

-- how its value, if it has one, is stored
abbrev pub held_coded : Coded (Option the_row.Denot)
held_coded = (option.the_row the_row).coded

-- there is a value
abbrev pub is_some : {A : Type 0} → Option A → Bool
is_some None = false
is_some (Some x) = true
