-- Patches of words, and what other words become when patches are put on them.
use Rattle.std.specs.Prelude.{◌≡◌, Bool, ◌&&◌, nat_lt, nat_le, if◌then◌else◌, ℕ, ◌+◌, ◌-◌, List, [], ◌∷◌, length}
use Rattle.segment_image.specs.Words.{word_at}

-- words, and the index from which they are put
pub record Patch : Type 0 where
  pub from : ℕ
  pub words : List ℕ

-- whether a patch has a word at an index
abbrev pub has_word : Patch → ℕ → Bool
has_word patch i = nat_le patch.from i && nat_lt i (patch.from + length patch.words)

-- the word at an index: that of the first patch that has one there, or another word if none has
abbrev pub patched_word : List Patch → ℕ → ℕ → ℕ
patched_word [] i other = other
patched_word (patch ∷ rest) i other = if has_word patch i then word_at patch.words (i - patch.from) else patched_word rest i other

-- these words are the old ones with the patches put on them
pub record IsPatched (patches : List Patch) (old new : List ℕ) : Type 0 where
  pub long : length new ≡ length old
  pub each : (i : ℕ) → word_at new i ≡ patched_word patches i (word_at old i)
