-- The lines of a totals, part by part.
use Rattle.std.proofs.Common.{◌≡◌, ◌∙◌, ℕ, false, List, [], ◌∷◌, ◌++◌, map, length, Option, Some, None, Vec, Global, vec_len, arith, refl, ap, append_assoc}
use Rattle.std.specs.List.{flat_map}
use Rattle.std.proofs.lemmas.List.{map-append}
use Rattle.reading_sums.specs.declared.notes.Notes.{Notes}
use Rattle.reading_sums.specs.Totals.{Part}
use Rattle.sum_texts.specs.Lines.{Whole, lines_of, line_bytes, part_lines, segment_fields, fold_lines, head_fields, notes_fields, end_fields}
use Rattle.sum_texts.specs.Runs.{begins, part_block, segment_block}

part_blocks : (parts : List Part) → map line_bytes (flat_map part_lines parts) ≡ flat_map part_block parts
part_blocks [] = refl
part_blocks (part ∷ parts) = map-append line_bytes (part_lines part) (flat_map part_lines parts) ∙ ap (λ s. part_block part ++ s) (part_blocks parts)

segment_blocks : (segments : List (ℕ × ℕ)) → map line_bytes (map segment_fields segments) ≡ flat_map segment_block segments
segment_blocks [] = refl
segment_blocks (segment ∷ segments) = ap (λ s. line_bytes (segment_fields segment) ∷ s) (segment_blocks segments)

regroup : (a b c d e : List (List ℕ)) → (a ++ (b ++ (c ++ d))) ++ e ≡ a ++ (b ++ (c ++ (d ++ e)))
regroup a b c d e = simp append_assoc

-- the last line, and what comes after its line feed
abbrev pub ending : ℕ → List (List ℕ)
ending parts = line_bytes (end_fields parts) ∷ [] ∷ []

-- the lines after those of the names, and those after the segments
abbrev pub behind_segments : Option ℕ → ℕ → List (List ℕ)
behind_segments fold parts = map line_bytes (fold_lines fold) ++ ending parts

abbrev pub behind_names : List (ℕ × ℕ) → Option ℕ → ℕ → List (List ℕ)
behind_names of fold parts = flat_map segment_block of ++ behind_segments fold parts

-- all lines after the notes
abbrev pub behind_notes : Whole → List (List ℕ)
behind_notes whole = flat_map part_block whole.parts ++ behind_names whole.of whole.fold (length whole.parts)

pub spelled_lines : (whole : Whole) → map line_bytes (lines_of whole) ++ [] ∷ [] ≡ line_bytes head_fields ∷ line_bytes (notes_fields whole.notes) ∷ behind_notes whole
spelled_lines whole =
    let a = flat_map part_lines whole.parts in
    let b = map segment_fields whole.of in
    let c = fold_lines whole.fold in
    let d : List (List (List ℕ)) = end_fields (length whole.parts) ∷ [] in
    let e : List (List ℕ) = [] ∷ [] in
    let apart : map line_bytes (a ++ (b ++ (c ++ d))) ≡ map line_bytes a ++ (map line_bytes b ++ (map line_bytes c ++ map line_bytes d)) =
    map-append line_bytes a (b ++ (c ++ d)) ∙ ap (λ s. map line_bytes a ++ s)
    (map-append line_bytes b (c ++ d) ∙ ap (λ s. map line_bytes b ++ s) (map-append line_bytes c d)) in
    ap (λ s. line_bytes head_fields ∷ line_bytes (notes_fields whole.notes) ∷ s)
    (ap (λ s. s ++ e) apart ∙ (regroup (map line_bytes a) (map line_bytes b) (map line_bytes c) (map line_bytes d) e
    ∙ (ap (λ s. s ++ (map line_bytes b ++ (map line_bytes c ++ (map line_bytes d ++ e)))) (part_blocks whole.parts)
    ∙ ap (λ s. flat_map part_block whole.parts ++ (s ++ (map line_bytes c ++ (map line_bytes d ++ e)))) (segment_blocks whole.of))))

-- after the names there is no name and no key, after the segments no segment, and after a fold no fold
pub no_name : (of : List (ℕ × ℕ)) (fold : Option ℕ) (parts : ℕ) → (begins 104 (behind_names of fold parts) ≡ false) × (begins 107 (behind_names of fold parts) ≡ false)
no_name [] None parts = (refl, refl)
no_name [] (Some serial) parts = (refl, refl)
no_name (segment ∷ of) fold parts = (refl, refl)

pub no_segment : (fold : Option ℕ) (parts : ℕ) → begins 111 (behind_segments fold parts) ≡ false
no_segment None parts = refl
no_segment (Some serial) parts = refl

pub whole_same : (notes : Notes) (parts : List Part) (of : List (ℕ × ℕ)) (fold : Option ℕ) (whole : Whole) → notes ≡ whole.notes → parts ≡ whole.parts → of ≡ whole.of
    → fold ≡ whole.fold → ◌≡◌ {A = Whole} (record { notes = notes; parts = parts; of = of; fold = fold }) whole
whole_same notes parts of fold whole a b c d = rw (a, b, c, d) refl

-- the length of a vector
pub vec_items_len : {X : Type 0} (v : Vec X Global) → vec_len v ≡ length v.items
vec_items_len v = omega (arith, v.ok.0)
