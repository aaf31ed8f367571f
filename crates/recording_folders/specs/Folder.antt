-- A recording's folder, as those that read or fold it see it, and what happens there.
use Rattle.std.specs.Prelude.{◌≡◌, ◌<◌, ◌≤◌, ◌+◌, ◌⊎◌, ℕ, List, [], ◌∷◌, ◌++◌, not, true}
use Rattle.std.specs.List.{filter}
use Rattle.recording_folders.specs.Segments.{is_same, times, is_named, unnamed, AreEachOnce}

-- A folder at one moment: how many folds have written its totals, the segments whose units are in these, those that they name, the segments
-- whose files are there, and all that were ever begun there.
pub record Folder : Type 0 where
  pub serial : ℕ
  pub summed : List (ℕ × ℕ)
  pub names : List (ℕ × ℕ)
  pub standing : List (ℕ × ℕ)
  pub begun : List (ℕ × ℕ)

-- what is counted from totals and then a listing: what is in the totals, and of the listing what they do not name
abbrev pub counted : Folder → Folder → List (ℕ × ℕ)
counted first listed = first.summed ++ unnamed first.names listed.standing

-- a folder in which each segment that was begun is counted once
pub record IsSoundFolder (folder : Folder) : Type 0 where
  pub each : AreEachOnce folder.begun (counted folder folder)
  pub apart : (segment : ℕ × ℕ) → times segment folder.standing ≤ 1
  pub named : (segment : ℕ × ℕ) → is_named folder.names segment ≡ true → 0 < times segment folder.summed

-- a folder in which nothing was begun
abbrev pub new_folder : Folder
new_folder = record { serial = 0; summed = []; names = []; standing = []; begun = [] }

-- ---- what happens

-- a segment is begun that was never begun before
pub record Begins (old new : Folder) : Type 0 where
  pub segment : ℕ × ℕ
  pub fresh : times segment old.begun ≡ 0
  pub apart : times segment old.standing ≡ 0
  pub after : new ≡ record old { standing = segment ∷ old.standing; begun = segment ∷ old.begun }

-- a fold writes totals: it adds the units of segments that are there and were not named, and names these, and of those that were named
-- before at least the ones that are still there
pub record Folds (old new : Folder) : Type 0 where
  pub finals : List (ℕ × ℕ)
  pub names : List (ℕ × ℕ)
  pub final : (segment : ℕ × ℕ) → times segment finals ≤ times segment (unnamed old.names old.standing)
  pub added : (segment : ℕ × ℕ) → 0 < times segment finals → is_named names segment ≡ true
  pub kept : (segment : ℕ × ℕ) → is_named old.names segment ≡ true → 0 < times segment old.standing → is_named names segment ≡ true
  pub no_other : (segment : ℕ × ℕ) → is_named names segment ≡ true → (is_named old.names segment ≡ true) ⊎ (0 < times segment finals)
  pub after : new ≡ record old { serial = old.serial + 1; summed = old.summed ++ finals; names = names }

-- a segment that the totals name is removed
pub record Removes (old new : Folder) : Type 0 where
  pub segment : ℕ × ℕ
  pub named : is_named old.names segment ≡ true
  pub after : new ≡ record old { standing = filter (λ other. not (is_same segment other)) old.standing }

-- one thing happens
abbrev pub Happens : Folder → Folder → Type 0
Happens old new = Begins old new ⊎ Folds old new ⊎ Removes old new

-- a folder is a later state of another, whatever happened in the meantime, even if folds and processes were killed
pub data IsLater (first : Folder) : Folder → Type 0 where
  same : IsLater first first
  more : (old new : Folder) → IsLater first old → Happens old new → IsLater first new
