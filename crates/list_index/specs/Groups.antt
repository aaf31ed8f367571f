-- Numbers that were entered with keys, by the groups of the keys.
use Rattle.std.specs.Prelude.{ℕ, ◌+◌, ◌/◌, ◌%◌, ◌^◌, List, [], Vec, Option, Some, None, nat_eq}
use Rattle.std.specs.Global.{Global}
use Rattle.std.specs.HashMap as hash
use Rattle.list_index.specs.declared.groups.Groups.{Groups}

-- the numbers of a group, if it has some
abbrev pub listed : Option (Vec ℕ Global) → List ℕ
listed (Some numbers) = numbers.items
listed None = []

-- the numbers that were entered with a group, in their order
abbrev pub numbers_of : Groups → ℕ → List ℕ
numbers_of groups group = listed (hash.get nat_eq groups.map group)

-- The group of a key: a group has 2^32 keys, half of them below its number times 2^32.
abbrev pub group_of : ℕ → ℕ
group_of key = (key + 2147483648) % 2 ^ 64 / 4294967296
