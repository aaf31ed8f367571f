-- The atomic operations on single words.
use Rattle.std.specs.Prelude.{ℕ, ◌+◌, ◌==◌, List, bit_or, slice_set, if◌then◌else◌}
use Rattle.segment_image.specs.Words.{word_at}
use Rattle.segment_image.specs.declared.layout.TheConstants.{FLAGS_WORD, FREE_WORD, BLOCK_COOKIE, BLOCK_TYPE, BLOCK_HEADER}

-- One atomic operation on one word: to load it; to store a value; to exchange it if it is an old value; to set bits.
pub data Access : Type 0 where
  load : (at : ℕ) → Access
  store : (at value : ℕ) → Access
  exchange : (at old new : ℕ) → Access
  set_bits : (at bits : ℕ) → Access

-- the word that it acts on
abbrev pub spot : Access → ℕ
spot (load at) = at
spot (store at value) = at
spot (exchange at old new) = at
spot (set_bits at bits) = at

-- what becomes of that word
abbrev pub change : Access → ℕ → ℕ
change (load at) found = found
change (store at value) found = value
change (exchange at old new) found = if found == old then new else found
change (set_bits at bits) found = bit_or found bits

-- the words after an event: one word changes at most
abbrev pub after : Access → List ℕ → List ℕ
after event words = slice_set words (spot event) (change event (word_at words (spot event)))

-- the events of an allocation, and those that store a payload and set a flag
abbrev pub load_flags : Access
load_flags = load FLAGS_WORD

abbrev pub load_free : Access
load_free = load FREE_WORD

abbrev pub exchange_free : ℕ → ℕ → Access
exchange_free old new = exchange FREE_WORD old new

abbrev pub store_size : ℕ → ℕ → Access
store_size at size = store at size

abbrev pub store_cookie : ℕ → ℕ → Access
store_cookie at cookie = store (at + BLOCK_COOKIE) cookie

abbrev pub store_type : ℕ → ℕ → Access
store_type at tag = store (at + BLOCK_TYPE) tag

abbrev pub store_payload : ℕ → ℕ → ℕ → Access
store_payload at index value = store (at + (BLOCK_HEADER + index)) value

abbrev pub set_flag : ℕ → Access
set_flag flag = set_bits FLAGS_WORD flag
