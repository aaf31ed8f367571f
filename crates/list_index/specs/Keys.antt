-- Keys of names.
use Rattle.std.specs.Prelude.{ℕ, ◌+◌, ◌*◌, ◌^◌, ◌%◌, List, [], ◌∷◌}

-- the key of words and one word more
abbrev pub next_key : ℕ → ℕ → ℕ
next_key key word = (key * 2 ^ 64 + word) % 11400714819323198549

-- the key of bytes and one byte more
abbrev pub next_byte_key : ℕ → ℕ → ℕ
next_byte_key key byte = (key * 6364136223846793005 + byte) % 2 ^ 64

-- the key that a list leads to from a key: each item makes a new key from the one before
abbrev pub key_behind : (ℕ → ℕ → ℕ) → ℕ → List ℕ → ℕ
key_behind then_key key [] = key
key_behind then_key key (x ∷ xs) = key_behind then_key (then_key key x) xs

-- the key of words
abbrev pub key_of : List ℕ → ℕ
key_of words = key_behind next_key 0 words

-- the key of bytes
abbrev pub byte_key_of : List ℕ → ℕ
byte_key_of bytes = key_behind next_byte_key 0 bytes
