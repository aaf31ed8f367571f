-- Which folders are a recording's though they have no mark.
use Rattle.std.specs.Prelude.{◌⊎◌, ℕ, List, [], ◌∷◌, ⊤}
use Rattle.recording_folders.specs.declared.kind.FileKind.{FileKind}
use Rattle.recording_folders.specs.declared.kind.FileKind.TheVariants.{Segment, Damaged, Spare, Totals, NewTotals, FoldLock, Mark, NewMark, History, Other}
use Rattle.recording_folders.specs.Names.{IsNameOf}

-- a file of this name may be in a recording's folder
abbrev pub IsInTable : List ℕ → Type 0
IsInTable name = (kind : FileKind) × IsNameOf name kind

-- files of this kind have what was recorded: segments, those with a fault, and totals
abbrev pub HasUnits : FileKind → Type 0
HasUnits (Segment number) = ⊤
HasUnits (Damaged number) = ⊤
HasUnits Totals = ⊤
HasUnits Spare = ⊥
HasUnits NewTotals = ⊥
HasUnits FoldLock = ⊥
HasUnits Mark = ⊥
HasUnits NewMark = ⊥
HasUnits History = ⊥
HasUnits Other = ⊥

-- a file of this name has what was recorded
pub record IsRecorded (name : List ℕ) : Type 0 where
  pub kind : FileKind
  pub is : IsNameOf name kind
  pub units : HasUnits kind

-- some file has what was recorded
abbrev pub HasRecorded : List (List ℕ) → Type 0
HasRecorded [] = ⊥
HasRecorded (name ∷ more) = IsRecorded name ⊎ HasRecorded more

-- each file may be in a recording's folder
abbrev pub AreInTable : List (List ℕ) → Type 0
AreInTable [] = ⊤
AreInTable (name ∷ more) = IsInTable name × AreInTable more

-- a folder with these names is a recording's: some file has what was recorded, and each may be there
abbrev pub WasRecorded : List (List ℕ) → Type 0
WasRecorded names = HasRecorded names × AreInTable names
