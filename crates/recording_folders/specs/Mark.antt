-- What the file `recording` of a folder says.
use Rattle.std.specs.Prelude.{◌≡◌, ◌≢◌, ◌⊎◌, ℕ, List, [], length}
use Rattle.std.specs.List.{All}
use Rattle.segment_image.specs.Words.{words_in, word_at}
use Rattle.recording_folders.specs.declared.mark.Mark.{Mark}
use Rattle.recording_folders.specs.declared.mark.Mark.TheVariants.{Empty, Whole, Foreign}

-- words are those of a mark of the folder with this id
pub record HasFolderId (words : List ℕ) (id : ℕ) : Type 0 where
  pub cookie : word_at words 0 ≡ 1802658125
  pub form : word_at words 1 ≡ 1
  pub is : word_at words 2 ≡ id
  pub some : id ≢ 0

-- words say nothing
abbrev pub AreZeros : List ℕ → Type 0
AreZeros words = All (λ word. word ≡ 0) words

-- words are of this mark
abbrev pub IsMarkIn : List ℕ → Mark → Type 0
IsMarkIn words Empty = AreZeros words
IsMarkIn words (Whole id) = HasFolderId words id
IsMarkIn words Foreign = (¬ AreZeros words) × ((id : ℕ) → ¬ HasFolderId words id)

-- bytes are of this mark: 4,096 of them, or of an empty one none
abbrev pub IsMarkOf : List ℕ → Mark → Type 0
IsMarkOf bytes Empty = (bytes ≡ []) ⊎ ((length bytes ≡ 4096) × AreZeros (words_in bytes))
IsMarkOf bytes (Whole id) = (length bytes ≡ 4096) × HasFolderId (words_in bytes) id
IsMarkOf bytes Foreign = (bytes ≢ []) × (length bytes ≡ 4096 → IsMarkIn (words_in bytes) Foreign)
