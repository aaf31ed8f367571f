-- A room as a block, and back.
use Rattle.std.specs.Prelude.{false}
use Rattle.segment_memory.specs.declared.room.Room.{Room}
use Rattle.segment_memory.specs.declared.block.Block.{Block}

-- the room as a block, which is none of the heap's
abbrev pub block_of : Room → Block
block_of room = record { ptr = room.ptr; size = room.size; of_heap = false; fits = room.fits }

-- the bytes of the block
abbrev pub room_of : Block → Room
room_of block = record { ptr = block.ptr; size = block.size; fits = block.fits }
