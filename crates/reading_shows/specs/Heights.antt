-- What the length of a bar is proportional to: the units, or their logarithm.
use Rattle.std.specs.Prelude.{Bool, ◌==◌, if◌then◌else◌, ℕ, ◌+◌, ◌-◌, ◌*◌, ◌/◌, ◌^◌}
use Rattle.std.specs.Int.Count.{count_leading_zeros}

-- how many times units can be halved until one is left
abbrev pub halvings : ℕ → ℕ
halvings units = 63 - count_leading_zeros 64 units

-- the logarithm of units, in 256ths of a doubling: 256 for one unit, and 256 more for twice as many; between two powers of two it is linear
abbrev pub log_of : ℕ → ℕ
log_of units = if units == 0 then 0 else 256 * halvings units + units * 256 / 2 ^ halvings units

-- what the length of a bar is proportional to: the units, or their logarithm
abbrev pub height_of : Bool → ℕ → ℕ
height_of is_log units = if is_log then log_of units else units
