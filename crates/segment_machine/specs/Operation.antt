-- What can happen to a word.
use Rattle.std.specs.Prelude.{ℕ, ◌+◌, ◌%◌, ◌^◌, max}
use Rattle.alloc_core.specs.Event as atomic

-- What can happen to a word: an access of an allocation or a publish; an addition modulo 2^64; a raise to at least another number; or a
-- swap for another number.
pub data Operation : Type 0 where
  single : atomic.Access → Operation
  add : (at amount : ℕ) → Operation
  raise : (at least : ℕ) → Operation
  swap : (at value : ℕ) → Operation

-- the word that it acts on
abbrev pub spot_of : Operation → ℕ
spot_of (single event) = atomic.spot event
spot_of (add at amount) = at
spot_of (raise at least) = at
spot_of (swap at value) = at

-- what becomes of that word
abbrev pub change_of : Operation → ℕ → ℕ
change_of (single event) found = atomic.change event found
change_of (add at amount) found = (found + amount) % 2 ^ 64
change_of (raise at least) found = max found least
change_of (swap at value) found = value
