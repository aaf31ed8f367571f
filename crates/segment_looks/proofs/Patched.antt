-- Patches that are put on words, one list after the other.
use Rattle.std.proofs.Common.{◌≡◌, if◌then◌else◌, ℕ, ◌+◌, ◌-◌, ◌<◌, ◌≤◌, List, [], ◌∷◌, ◌++◌, length, arith, refl, sym, ap, ◌∙◌}
use Rattle.segment_image.specs.Words.{word_at}
use Rattle.std.proofs.Common.{get_or, drop}
use Rattle.std.proofs.lemmas.List.{drop_more}
use Rattle.segment_image.specs.declared.head.SegmentHead.{SegmentHead}
use Rattle.segment_looks.specs.Patches.{Patch, IsPatched, has_word, patched_word}
use Rattle.bucket_ranges.specs.Listed.{before}
use Rattle.segment_looks.specs.Looks.{list_start, link, list_patches, record_patches, records_patches, unclaimed}

-- the word of joined patches
pub patched_word-append : (ps qs : List Patch) (i other : ℕ) → patched_word (ps ++ qs) i other ≡ patched_word ps i (patched_word qs i other)
patched_word-append [] qs i other = refl
patched_word-append (p ∷ ps) qs i other =
    ap (λ (rest : ℕ). if has_word p i then word_at p.words (i - p.from) else rest) (patched_word-append ps qs i other)

pub IsPatched-none : (words : List ℕ) → IsPatched [] words words
IsPatched-none words = record { long = refl; each = λ i. refl }

-- the patches that are put last decide
pub IsPatched-append : (ps qs : List Patch) (a b c : List ℕ) → IsPatched qs a b → IsPatched ps b c → IsPatched (ps ++ qs) a c
IsPatched-append ps qs a b c below above = record {
  long = above.long ∙ below.long;
  each = λ i. above.each i ∙ (ap (patched_word ps i) (below.each i) ∙ sym (patched_word-append ps qs i (word_at a i)));
}

-- one more record in front of those whose patches are put
pub IsPatched-record : (head : SegmentHead) (one two three records : List ℕ) (at next : ℕ) (a b c d : List ℕ) → next ≡ list_start records
    → IsPatched (records_patches head one two three records) a b → IsPatched (record_patches head one two three at) b c
    → IsPatched (link at next ∷ []) c d → IsPatched (records_patches head one two three (at ∷ records)) a d
IsPatched-record head one two three records at next a b c d first below fields linked =
    let linked_first : IsPatched (link at (list_start records) ∷ []) c d = rw (sym first) linked in
    IsPatched-append (link at (list_start records) ∷ []) (record_patches head one two three at ++ records_patches head one two three records) a c d
    (IsPatched-append (record_patches head one two three at) (records_patches head one two three records) a b c below fields) linked_first

-- the records from one on
pub drop-before : (xs : List ℕ) (i : ℕ) → 0 < i → i ≤ length xs → drop (i - 1) xs ≡ get_or xs (i - 1) 0 ∷ drop i xs
drop-before xs i some within =
    let here : i - 1 + 1 ≡ i = omega (arith, some) in
    let more = drop_more xs (i - 1) 0 (omega (arith, some, within)) in
    more ∙ rw here refl

-- the tail and the start of the list in front of all records
pub IsPatched-list : (head : SegmentHead) (one two three records : List ℕ) (first last : ℕ) (a b c d e : List ℕ) → first ≡ list_start records
    → last ≡ before records (length records) → IsPatched (unclaimed head (length three) ∷ []) a b
    → IsPatched (records_patches head one two three records) b c → IsPatched (record { from = 8; words = last ∷ [] } ∷ []) c d
    → IsPatched (link 12 first ∷ []) d e → IsPatched (list_patches head one two three records) a e
IsPatched-list head one two three records first last a b c d e is_first is_last zeros patched tailed linked =
    let tail : IsPatched (record { from = 8; words = before records (length records) ∷ [] } ∷ []) c d = rw (sym is_last) tailed in
    let start : IsPatched (link 12 (list_start records) ∷ []) d e = rw (sym is_first) linked in
    let behind : List Patch = records_patches head one two three records ++ unclaimed head (length three) ∷ [] in
    IsPatched-append (link 12 (list_start records) ∷ []) (record { from = 8; words = before records (length records) ∷ [] } ∷ behind) a d e
    (IsPatched-append (record { from = 8; words = before records (length records) ∷ [] } ∷ []) behind a c d
    (IsPatched-append (records_patches head one two three records) (unclaimed head (length three) ∷ []) a b c zeros patched) tail)
    start
