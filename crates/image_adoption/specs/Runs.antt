-- Runs of words.
use Rattle.std.specs.Prelude.{Bool, ◌&&◌, nat_le, nat_lt, ℕ, ◌+◌}

-- whether a word is in the run of `size` words that begins at another word
abbrev pub is_in : ℕ → ℕ → ℕ → Bool
is_in at size word = nat_le at word && nat_lt word (at + size)
