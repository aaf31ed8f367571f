-- The word that an event loads, if it is a load.
use Rattle.std.specs.Prelude.{ℕ, ◌%◌, ◌^◌, Option, Some, None}
use Rattle.alloc_core.specs.Event.{Access}
use Rattle.alloc_core.specs.Event.Access.{load, store, exchange, set_bits}

-- An event may be a load: of this word. Its number is one of a `usize`, as that of each word in memory is.
abbrev pub load_of : Option Access → Option ℕ
load_of (Some (load at)) = Some (at % 2 ^ 64)
load_of (Some (store at value)) = None
load_of (Some (exchange at old new)) = None
load_of (Some (set_bits at bits)) = None
load_of None = None
