-- The text of a totals, cut at its line feeds.
use Rattle.std.proofs.Common.{◌≡◌, ◌∙◌, ℕ, ◌<◌, ◌^◌, ◌==◌, eqb, true, false, List, [], ◌∷◌, ◌++◌, map, length, codes, Option, Some, None, IfSome, refl, ap, sym, append_assoc, arith, rules}
use Rattle.std.specs.List.{flat_map, slice_split, join_with_byte, AllByRecursion}
use Rattle.std.proofs.lemmas.Bool.Decides.{nat_tests}
use Rattle.std.proofs.lemmas.List.{append-nil}
use Rattle.std.proofs.lemmas.List.Splits.{slice_split_at, join_with_byte-slice_split}
use Rattle.reading_sums.specs.declared.key.KeySum.{KeySum}
use Rattle.reading_sums.specs.Totals.{Part}
use Rattle.sum_texts.specs.Lines.{Whole, FitsWhole, FitsPart, FitsKey, FitsSegment, lines_of, line_bytes, line_text, totals_text, part_lines, key_fields, segment_fields, fold_lines, fold_fields, head_fields, notes_fields, hist_fields, end_fields}
use Rattle.sum_texts.proofs.Splits.{Lacks, to_all, lacks_word}
use Rattle.sum_texts.proofs.LineLacks.{lacks_key, lacks_notes, lacks_segment, lacks_fold, lacks_end, lacks_hist, no_feed}

-- a line has no line feed
abbrev pub IsOneLine : List (List ℕ) → Type 0
IsOneLine fields = Lacks 10 (line_bytes fields)

-- ---- lines that are joined

lacks_both : (a b : List ℕ) → Lacks 10 a → Lacks 10 b → Lacks 10 (a ++ b)
lacks_both [] b lacks more = more
lacks_both (x ∷ a) b lacks more = (lacks.0, lacks_both a b lacks.1 more)

one_line : (fields : List (List ℕ)) → AllByRecursion (Lacks 10) fields → IsOneLine fields
one_line [] lacks = tt
one_line (field ∷ []) lacks = lacks.0
one_line (field ∷ next ∷ fields) lacks = lacks_both field (44 ∷ line_bytes (next ∷ fields)) lacks.0 (refl, one_line (next ∷ fields) lacks.1)

-- ---- the lines of a totals

both : {X : Type 0} (P : X → Type 0) (xs ys : List X) → AllByRecursion P xs → AllByRecursion P ys → AllByRecursion P (xs ++ ys)
both P [] ys all more = more
both P (x ∷ xs) ys all more = (all.0, both P xs ys all.1 more)

key_lines : (keys : List KeySum) → AllByRecursion FitsKey keys → AllByRecursion IsOneLine (map key_fields keys)
key_lines [] fits = tt
key_lines (key ∷ keys) fits = (one_line (key_fields key) (lacks_key 10 key (omega arith) fits.0), key_lines keys fits.1)

parts_lines : (parts : List Part) → AllByRecursion FitsPart parts → AllByRecursion IsOneLine (flat_map part_lines parts)
parts_lines [] fits = tt
parts_lines (part ∷ parts) fits =
    both IsOneLine (part_lines part) (flat_map part_lines parts)
    (one_line (hist_fields part) (lacks_hist 10 part (omega arith) (no_feed part.name fits.0.name) fits.0), key_lines part.keys fits.0.keys) (parts_lines parts fits.1)

segment_lines : (segments : List (ℕ × ℕ)) → AllByRecursion FitsSegment segments → AllByRecursion IsOneLine (map segment_fields segments)
segment_lines [] fits = tt
segment_lines (segment ∷ segments) fits = (one_line (segment_fields segment) (lacks_segment 10 segment (omega arith) fits.0), segment_lines segments fits.1)

fold_line : (fold : Option ℕ) → IfSome fold (λ serial. serial < 2 ^ 64) → AllByRecursion IsOneLine (fold_lines fold)
fold_line None fits = tt
fold_line (Some serial) fits = (one_line (fold_fields serial) (lacks_fold 10 serial (omega arith) fits), tt)

all_lines : (whole : Whole) → FitsWhole whole → AllByRecursion IsOneLine (lines_of whole)
all_lines whole fits = (
  one_line head_fields (lacks_word 10 (codes "totals") (omega arith) (search rules), (lacks_word 10 (codes "1") (omega arith) (search rules), tt)),
  (
    one_line (notes_fields whole.notes) (lacks_notes 10 whole.notes (omega arith) fits.notes),
    both IsOneLine _ _ (parts_lines whole.parts fits.parts) (both IsOneLine _ _ (segment_lines whole.of fits.of) (both IsOneLine _ _ (fold_line whole.fold fits.fold)
        (one_line (end_fields (length whole.parts)) (lacks_end 10 (length whole.parts) (omega arith) fits.many), tt))),
  ),
)

-- ---- the text

same : (c : ℕ) → eqb c c ≡ true
same c = grind (arith, nat_tests)

split_lines : (lines : List (List (List ℕ))) → AllByRecursion IsOneLine lines → slice_split (λ b. eqb b 10) (flat_map line_text lines) ≡ map line_bytes lines ++ [] ∷ []
split_lines [] all = refl
split_lines (line ∷ lines) all =
    ap (slice_split (λ b. eqb b 10)) (append_assoc (line_bytes line) (10 ∷ []) (flat_map line_text lines))
    ∙ (slice_split_at (λ b. eqb b 10) (line_bytes line) 10 (flat_map line_text lines) (to_all (λ b. eqb b 10 ≡ false) (line_bytes line) all.0) (same 10)
    ∙ ap (λ s. line_bytes line ∷ s) (split_lines lines all.1))

join_lines : (lines : List (List (List ℕ))) → join_with_byte 10 (map line_bytes lines ++ [] ∷ []) ≡ flat_map line_text lines
join_lines [] = refl
join_lines (line ∷ []) = sym (append-nil (line_bytes line ++ 10 ∷ []))
join_lines (line ∷ next ∷ lines) =
    ap (λ s. line_bytes line ++ 10 ∷ s) (join_lines (next ∷ lines)) ∙ sym (append_assoc (line_bytes line) (10 ∷ []) (flat_map line_text (next ∷ lines)))

-- what a text says whose lines these are
pub text_said : (text : List ℕ) (cut all : List (List ℕ)) (lines : List (List (List ℕ))) → all ≡ slice_split (λ b. b == 10) text → cut ≡ all
    → cut ≡ map line_bytes lines ++ [] ∷ [] → text ≡ flat_map line_text lines
text_said text cut all lines split same is = sym (join_with_byte-slice_split 10 text) ∙ (ap (join_with_byte 10) (sym split ∙ (sym same ∙ is)) ∙ join_lines lines)

-- the lines of the text of a totals
pub text_unsaid : (text : List ℕ) (cut all : List (List ℕ)) (whole : Whole) → FitsWhole whole → all ≡ slice_split (λ b. b == 10) text → cut ≡ all
    → text ≡ totals_text whole → cut ≡ map line_bytes (lines_of whole) ++ [] ∷ []
text_unsaid text cut all whole fits split same is =
    same ∙ (split ∙ (ap (slice_split (λ b. b == 10)) is ∙ split_lines (lines_of whole) (all_lines whole fits)))
