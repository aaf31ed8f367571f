-- Patches that agree with a word at an index: those that have one there have this one.
use Rattle.segment_invariant.proofs.Prelude.Std.{◌≡◌, ◌⊎◌, ℕ, suc, ◌+◌, ◌-◌, ◌<◌, ◌≤◌, Bool, true, false, List, [], ◌∷◌, ◌++◌, drop, length, ◌∙◌, arith, slice_index, if◌then◌else◌, get_or-drop}
use Rattle.segment_invariant.proofs.Prelude.Machine.{word_at}
use Rattle.std.specs.List.{slice_range}
use Rattle.std.proofs.Common.{get_or-take}
use Rattle.segment_image.specs.declared.head.SegmentHead.{SegmentHead}
use Rattle.segment_looks.specs.Patches.{Patch, patched_word}
use Rattle.segment_looks.specs.Looks.{link, list_start, record_patches, records_patches}
use Rattle.segment_looks.proofs.Patched.{patched_word-append}
use Rattle.look_promises.proofs.Words.Patches.{HaveNone, first_has, first_not, apart}

-- put on words that have a word at an index, they leave it there
abbrev pub Agree : List Patch → ℕ → ℕ → Type 0
Agree patches n v = (w : ℕ) → w ≡ v → patched_word patches n w ≡ v

pub agree_none : (patches : List Patch) (n v : ℕ) → HaveNone patches n → Agree patches n v
agree_none patches n v none w is = none w ∙ is

pub agree_joined : (ps qs : List Patch) (n v : ℕ) → Agree ps n v → Agree qs n v → Agree (ps ++ qs) n v
agree_joined ps qs n v one other w is = patched_word-append ps qs n w ∙ one (patched_word qs n w) (other w is)

pub agree_beside : (p : Patch) (rest : List Patch) (n v : ℕ) → (n < p.from) ⊎ (p.from + length p.words ≤ n) → Agree rest n v → Agree (p ∷ rest) n v
agree_beside p rest n v apart agree w is = first_not p rest n w apart ∙ agree w is

pub agree_inside : (p : Patch) (rest : List Patch) (n v : ℕ) → p.from ≤ n → n < p.from + length p.words → word_at p.words (n - p.from) ≡ v → Agree (p ∷ rest) n v
agree_inside p rest n v from below same w is = first_has p rest n w from below ∙ same

pub agree_if : (b : Bool) (ps : List Patch) (n v : ℕ) → Agree ps n v → Agree (if b then ps else []) n v
agree_if true ps n v agree = agree
agree_if false ps n v agree = λ w is. is

pub agree_unless : (b : Bool) (ps : List Patch) (n v : ℕ) → Agree ps n v → Agree (if b then [] else ps) n v
agree_unless true ps n v agree = λ w is. is
agree_unless false ps n v agree = agree

-- so do those of all records, if those of each do
pub agree_all : (head : SegmentHead) (one two three : List ℕ) (n v : ℕ) (records : List ℕ)
    → ((j next : ℕ) → j < length records → Agree (link (slice_index records j) next ∷ record_patches head one two three (slice_index records j)) n v)
    → Agree (records_patches head one two three records) n v
agree_all head one two three n v [] each = λ w is. is
agree_all head one two three n v (x ∷ rest) each =
    agree_joined (link x (list_start rest) ∷ record_patches head one two three x) (records_patches head one two three rest) n v
    (each 0 (list_start rest) (omega arith))
    (agree_all head one two three n v rest (λ j next lt. each (suc j) next (omega (arith, lt))))

-- a word of a range
pub range_word : (words : List ℕ) (from many i : ℕ) → i < many → slice_index (slice_range words from (from + many)) i ≡ word_at words (from + i)
range_word words from many i below = get_or-take (from + many - from) (drop from words) i 0 (omega (arith, below)) ∙ get_or-drop from words i 0
