-- What readers of lines return.
use Rattle.std.specs.Prelude.{⊤, ◌==◌, Bool, false, ℕ, List, [], ◌∷◌, map, Result, Ok, Err}
use Rattle.std.specs.Borrow.{Bor}
use Rattle.reading_sums.specs.declared.key.KeySum.{KeySum}
use Rattle.reading_sums.specs.Totals.{Part}
use Rattle.sum_texts.specs.declared.wrong.Wrong.{Wrong}
use Rattle.sum_texts.specs.declared.wrong.Wrong.TheVariants.{NoMemory, Line}
use Rattle.sum_texts.specs.Lines.{line_bytes, key_fields, part_lines, segment_fields}

-- the bytes of lines, or of fields
abbrev pub bytes_of : List (Bor (List ℕ)) → List (List ℕ)
bytes_of lines = map (λ line. line.now) lines

-- whether the first of some lines begins with a letter
abbrev pub begins : ℕ → List (List ℕ) → Bool
begins letter [] = false
begins letter ([] ∷ lines) = false
begins letter ((first ∷ rest) ∷ lines) = first == letter

-- the lines of a key
abbrev pub key_block : KeySum → List (List ℕ)
key_block key = line_bytes (key_fields key) ∷ []

-- the lines of a segment
abbrev pub segment_block : ℕ × ℕ → List (List ℕ)
segment_block segment = line_bytes (segment_fields segment) ∷ []

-- the lines of a name with its spec and its keys
abbrev pub part_block : Part → List (List ℕ)
part_block part = map line_bytes (part_lines part)

-- a reader returned a value of which this holds, unless memory ran out
abbrev pub Gives : {A : Type 0} → Result A Wrong → (A → Type 0) → Type 0
Gives (Ok value) P = P value
Gives (Err NoMemory) P = ⊤
Gives (Err (Line left)) P = ⊥

-- a part that has no keys
abbrev pub without_keys : Part → Part
without_keys part = record part { keys = [] }
