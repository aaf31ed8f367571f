-- What a fold writes into the totals in addition to the sum.
use Rattle.std.specs.Prelude.{◌≡◌, ◌==◌, ◌||◌, ◌≤◌, ◌<◌, ◌+◌, ℕ, List, ◌++◌, max, true}
use Rattle.std.specs.List.{filter, fold}
use Rattle.recording_folders.specs.Segments.{times, is_named, unnamed}
use Rattle.recording_folders.specs.Folder.{Folder}

-- the greatest number of named segments, or 0
abbrev pub greatest : List (ℕ × ℕ) → ℕ
greatest names = fold (λ most name. max most name.0) 0 names

-- the names that stay: those of segments that are still there, and that of the greatest number, above which the next one is begun
abbrev pub kept : List (ℕ × ℕ) → List (ℕ × ℕ) → List (ℕ × ℕ)
kept names standing = filter (λ name. is_named standing name || (name.0 == greatest names)) names

-- a folder may be folded in this way: its totals have this serial and these names, of the named ones at most these are still there, and the
-- final ones are there and are not named
pub record MayFold (folder : Folder) (present : ℕ) (named left more : List (ℕ × ℕ)) : Type 0 where
  pub serial : folder.serial ≡ present
  pub names : folder.names ≡ named
  pub standing : (segment : ℕ × ℕ) → is_named named segment ≡ true → 0 < times segment folder.standing → is_named left segment ≡ true
  pub finals : (segment : ℕ × ℕ) → times segment more ≤ times segment (unnamed named folder.standing)

-- the folder after totals were written that include the final ones
abbrev pub folded : Folder → List (ℕ × ℕ) → ℕ → List (ℕ × ℕ) → Folder
folded folder finals serial names = record folder { serial = serial; summed = folder.summed ++ finals; names = names }
