-- What an allocation does from a free pointer on.
use Rattle.std.specs.Prelude.{ℕ, ◌+◌, ◌-◌, ◌%◌, Bool, ◌&&◌, nat_lt, nat_le, if◌then◌else◌}
use Rattle.segment_image.specs.Shape.{Dimensions}
use Rattle.segment_image.specs.declared.layout.TheConstants.{HEADER_WORDS, BLOCK_LEAST}
use Rattle.alloc_core.specs.declared.planned.Planned.{Planned}
use Rattle.alloc_core.specs.declared.planned.Planned.TheVariants.{Claim, Waste, Full}

-- the words from a free pointer to the end of its page
abbrev pub room_at : Dimensions → ℕ → ℕ
room_at shape free = shape.page - free % shape.page

-- Full if the words would pass the end of the segment; else Waste if they would pass the end of the page; else Claim, and
-- if fewer than five words of the page would be left, these too
abbrev pub planned : ℕ → ℕ → Dimensions → Planned
planned free size shape =
    let room = room_at shape free in
    if nat_lt shape.size (free + size) then Full
    else if nat_lt room size then Waste room
    else if nat_lt (room - size) BLOCK_LEAST then Claim room (free + room)
    else Claim size (free + size)

-- a free pointer that is valid: after the queue block, within the segment, and with room for five words in its page
abbrev pub is_pointer : Dimensions → ℕ → Bool
is_pointer shape free = nat_le HEADER_WORDS free && nat_le free shape.size && nat_le BLOCK_LEAST (room_at shape free)
