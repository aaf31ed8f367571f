-- The exchange that an event is, if it is one.
use Rattle.std.specs.Prelude.{◌%◌, ◌^◌, Option, Some, None}
use Rattle.alloc_core.specs.declared.attempt.Attempt.{Attempt}
use Rattle.alloc_core.specs.Event.{Access}
use Rattle.alloc_core.specs.Event.Access.{load, store, exchange, set_bits}

-- An event may be an exchange: of this word, if it has that value. The number of the word is one of a `usize`, as that of each word
-- in memory is.
abbrev pub attempt_of : Option Access → Option Attempt
attempt_of (Some (exchange at old new)) = Some (record { at = at % 2 ^ 64; wanted = old })
attempt_of (Some (load at)) = None
attempt_of (Some (store at value)) = None
attempt_of (Some (set_bits at bits)) = None
attempt_of None = None
