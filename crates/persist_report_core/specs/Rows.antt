-- The records of a text while they are read.
use Rattle.std.specs.Prelude.{◌≡◌, ℕ, ◌+◌, ◌<◌, ◌≤◌, Bool, true, false, List, [], ◌∷◌, ◌++◌, length, Option, Some, unwrap_or}
use Rattle.std.specs.Borrow.{Bor}
use Rattle.csv.specs.Machine.{ends_at_end}
use Rattle.csv.specs.Reading.{Reached, default_config, reader_config, reader_state, reader_trim, records, source_of}
use Rattle.csv.specs.declared.parser.State.TheVariants as state
use Rattle.csv.specs.declared.reader.Reader.{Reader}
use Rattle.csv.specs.declared.reader.Trim.TheVariants as trim

-- the bytes that a reader of a text in memory has left, if they are known
abbrev pub left_of : Reader (Bor (List ℕ)) → Option (List ℕ)
left_of reader = source_of (λ slice. Some slice.now) reader

-- a reader has read these records of a text, and is between two records
pub record IsBehind (text : List ℕ) (rows : List (List (List ℕ))) (reader : Reader (Bor (List ℕ))) : Type 0 where
  pub plain : reader_trim reader ≡ trim.None
  pub config : reader_config reader ≡ default_config
  pub between : ends_at_end (reader_state reader) ≡ false
  pub rest : List ℕ
  pub source : left_of reader ≡ Some rest
  pub reached : Reached default_config state.StartRecord text rows (reader_state reader) rest
  pub room : length rows + length rest ≤ length text

-- a read found one more record, with fewer bytes left, or that there is none
abbrev pub IsNextRow : List ℕ → List (List (List ℕ)) → Reader (Bor (List ℕ)) → Reader (Bor (List ℕ)) → Bool → List (List ℕ) → Type 0
IsNextRow text rows old new true fields =
    IsBehind text (rows ++ fields ∷ []) new × (length (unwrap_or (left_of new) []) < length (unwrap_or (left_of old) []))
IsNextRow text rows old new false fields = records default_config text ≡ rows
