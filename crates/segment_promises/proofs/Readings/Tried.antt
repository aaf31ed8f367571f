-- Words whose list is found by trying read as what the definition gives along it.
use Rattle.std.proofs.Common.{◌≡◌, Bool, true, not, ◌&&◌, ◌==◌, ℕ, List, [], ◌∷◌, ◌++◌, length, Ok, sym, subst, eqb-true, append_assoc}
use Rattle.std.specs.List.{list_any}
use Rattle.std.proofs.lemmas.Bool.{and_parts, not-true}
use Rattle.std.proofs.lemmas.List.{append-nil}
use Rattle.segment_image.specs.declared.head.SegmentHead.{SegmentHead}
use Rattle.segment_image.specs.Head.{header_of, head_of}
use Rattle.bucket_ranges.specs.Reading.{before, next_of, is_block, IsWalk, IsListed, Reading, reading_along}
use Rattle.bucket_ranges.proofs.Walks.{IsWalk-none, IsWalk-push, IsListed-from_end}
use Rattle.segment_promises.specs.WorkedReadings.{ReadsAs}

-- after these references the nexts give those, each of a valid block and none twice, and then the end
abbrev pub goes_along : List ℕ → SegmentHead → List ℕ → List ℕ → Bool
goes_along words head front [] = next_of words (before front (length front)) == 12
goes_along words head front (at ∷ rest) =
    (next_of words (before front (length front)) == at)
    && (is_block words head at && (not (list_any (λ other. other == at) front) && goes_along words head (front ++ at ∷ []) rest))

listed : (words : List ℕ) (head : SegmentHead) (front rest : List ℕ) → IsWalk words head front → goes_along words head front rest ≡ true
    → IsListed words head (front ++ rest)
listed words head front [] walk tried = subst (IsListed words head) (sym (append-nil front)) (IsListed-from_end words head front walk tried)
listed words head front (at ∷ rest) walk tried =
    let linked = and_parts (next_of words (before front (length front)) == at) _ tried in
    let lawful = and_parts (is_block words head at) _ linked.1 in
    let others = and_parts (not (list_any (λ other. other == at) front)) _ lawful.1 in
    subst (IsListed words head) (append_assoc front (at ∷ []) rest)
    (listed words head (front ++ at ∷ []) rest
    (IsWalk-push words head front at walk (eqb-true _ at linked.0) lawful.0 (not-true _ others.0)) others.1)

pub reads_along : (words references : List ℕ) (reading : Reading) → header_of words ≡ Ok (head_of words)
    → goes_along words (head_of words) [] references ≡ true → reading ≡ reading_along words (head_of words) references → ReadsAs words reading
reads_along words references reading header tried is =
    (header, (references, listed words (head_of words) [] references (IsWalk-none words (head_of words)) tried, is))
