-- The names of the files in a recording's folder.
use Rattle.std.specs.Prelude.{◌≡◌, ◌≢◌, ◌<◌, ◌≤◌, ◌⊎◌, ◌-◌, ◌^◌, ℕ, List, ◌++◌, length, get_or, replicate, codes, ⊤}
use Rattle.std.specs.Int.{IsInRange}
use Rattle.std.specs.List.{All}
use Rattle.std.specs.Fmt.{decimal}
use Rattle.recording_folders.specs.declared.kind.FileKind.{FileKind}
use Rattle.recording_folders.specs.declared.kind.FileKind.TheVariants.{Segment, Damaged, Spare, Totals, NewTotals, FoldLock, Mark, NewMark, History, Other}

-- segments are numbered from 1, with at most 18 digits
pub record IsNumber (number : ℕ) : Type 0 where
  pub low : 0 < number
  pub high : number < 10 ^ 18

-- the digits of a number, with zeros before them if they are fewer than ten
abbrev pub padded : ℕ → List ℕ
padded number = replicate (10 - length (decimal number)) 48 ++ decimal number

-- the name of a number, with an ending
abbrev pub numbered : ℕ → List ℕ → List ℕ
numbered number ending = padded number ++ ending

-- the name of the segment of a number
abbrev pub segment_name : ℕ → List ℕ
segment_name number = numbered number (codes ".seg")

-- the name of a file that was the segment of a number, but has a fault in its header
abbrev pub damaged_name : ℕ → List ℕ
damaged_name number = numbered number (codes ".damaged")

-- 16 hexadecimal digits in lower case, which are chosen at random
abbrev pub IsRandom : List ℕ → Type 0
IsRandom text = (length text ≡ 16) × All (λ c. IsInRange 48 57 c ⊎ IsInRange 97 102 c) text

-- the number of a process, in at most 18 decimal digits, of which the first is not 0
abbrev pub IsProcess : List ℕ → Type 0
IsProcess text = (0 < length text) × (length text ≤ 18) × (get_or text 0 0 ≢ 48) × All (λ c. IsInRange 48 57 c) text

-- the number of a process, a hyphen and a random text
pub record IsProcessAndRandom (text : List ℕ) : Type 0 where
  pub process : List ℕ
  pub random : List ℕ
  pub is : text ≡ process ++ codes "-" ++ random
  pub number : IsProcess process
  pub digits : IsRandom random

-- the name of a segment that is not in use yet
pub record IsSpareName (name : List ℕ) : Type 0 where
  pub behind : List ℕ
  pub is : name ≡ codes "spare-" ++ behind
  pub made_by : IsProcessAndRandom behind

-- the name of a mark that has not got its own name
pub record IsNewMarkName (name : List ℕ) : Type 0 where
  pub random : List ℕ
  pub is : name ≡ codes "recording-" ++ random
  pub digits : IsRandom random

-- the names for later
abbrev pub IsHistoryName : List ℕ → Type 0
IsHistoryName name = (name ≡ codes "history") ⊎ (name ≡ codes "history.new") ⊎ (name ≡ codes "history.lock") ⊎ (name ≡ codes "history.damaged")

-- a name is that of a file of this kind; no name is one of `Other`
abbrev pub IsNameOf : List ℕ → FileKind → Type 0
IsNameOf name (Segment number) = IsNumber number × (name ≡ segment_name number)
IsNameOf name (Damaged number) = IsNumber number × (name ≡ damaged_name number)
IsNameOf name Spare = IsSpareName name
IsNameOf name Totals = name ≡ codes "totals"
IsNameOf name NewTotals = name ≡ codes "totals.new"
IsNameOf name FoldLock = name ≡ codes "fold.lock"
IsNameOf name Mark = name ≡ codes "recording"
IsNameOf name NewMark = IsNewMarkName name
IsNameOf name History = IsHistoryName name
IsNameOf name Other = ⊥

-- files of this kind have no number
abbrev pub HasNoNumber : FileKind → Type 0
HasNoNumber (Segment number) = ⊥
HasNoNumber (Damaged number) = ⊥
HasNoNumber Spare = ⊤
HasNoNumber Totals = ⊤
HasNoNumber NewTotals = ⊤
HasNoNumber FoldLock = ⊤
HasNoNumber Mark = ⊤
HasNoNumber NewMark = ⊤
HasNoNumber History = ⊤
HasNoNumber Other = ⊤
