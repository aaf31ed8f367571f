-- Lines that are written one after the other.
use Rattle.std.proofs.Common.{◌≡◌, ◌∙◌, ℕ, List, [], ◌∷◌, ◌++◌, map, length, ap, sym, append_assoc, refl}
use Rattle.std.specs.Fmt.{decimal}
use Rattle.std.specs.List.{flat_map}
use Rattle.std.proofs.lemmas.List.{append-nil}
use Rattle.std.proofs.lemmas.List.Concat.{flat_map-append}
use Rattle.std.proofs.lemmas.List.Folds.{flat_map-map}
use Rattle.reading_texts.proofs.Adding.{written-both, line-written}
use Rattle.sum_texts.specs.Lines.{Whole, line_text, lines_of, part_lines, segment_fields, fold_lines, head_fields, notes_fields, end_fields}

-- a line whose last fields are numbers
pub numbers_written : (old word : List ℕ) (front : List (List ℕ)) (numbers : List ℕ) {a b c d : List ℕ} → a ≡ old ++ word
    → b ≡ a ++ flat_map (λ field. 44 ∷ field) front → c ≡ b ++ flat_map (λ number. 44 ∷ decimal number) numbers → d ≡ c ++ 10 ∷ []
    → d ≡ old ++ line_text (word ∷ (front ++ map decimal numbers))
numbers_written old word front numbers {a} {b} {c} {d} begun joined numbered ended =
    let fields : flat_map (λ field. 44 ∷ field) (front ++ map decimal numbers)
    ≡ flat_map (λ field. 44 ∷ field) front ++ flat_map (λ number. 44 ∷ decimal number) numbers =
    flat_map-append (λ field. 44 ∷ field) front (map decimal numbers)
    ∙ ap (λ s. flat_map (λ field. 44 ∷ field) front ++ s) (flat_map-map (λ field. 44 ∷ field) decimal numbers) in
    line-written old word (front ++ map decimal numbers) begun
    (written-both a _ _ joined numbered ∙ ap (λ s. a ++ s) (sym fields)) ended

-- the lines of lists, one after the other
pub flat_map-flat : {X Y Z : Type 0} (f : Y → List Z) (g : X → List Y) (xs : List X) → flat_map f (flat_map g xs) ≡ flat_map (λ x. flat_map f (g x)) xs
flat_map-flat f g [] = refl
flat_map-flat f g (x ∷ xs) = flat_map-append f (g x) (flat_map g xs) ∙ ap (λ s. flat_map f (g x) ++ s) (flat_map-flat f g xs)

-- the text of a totals, part by part
pub totals_spelled : (whole : Whole) → flat_map line_text (lines_of whole)
    ≡ line_text head_fields ++ (line_text (notes_fields whole.notes) ++ (flat_map (λ part. flat_map line_text (part_lines part)) whole.parts
    ++ (flat_map (λ segment. line_text (segment_fields segment)) whole.of ++ (flat_map line_text (fold_lines whole.fold)
    ++ (line_text (end_fields (length whole.parts)) ++ [])))))
totals_spelled whole =
    let ending : List (List (List ℕ)) = end_fields (length whole.parts) ∷ [] in
    let behind = flat_map-append line_text (fold_lines whole.fold) ending in
    let segments = flat_map-append line_text (map segment_fields whole.of) (fold_lines whole.fold ++ ending)
    ∙ (ap (λ s. s ++ flat_map line_text (fold_lines whole.fold ++ ending)) (flat_map-map line_text segment_fields whole.of)
    ∙ ap (λ s. flat_map (λ segment. line_text (segment_fields segment)) whole.of ++ s) behind) in
    let parts = flat_map-append line_text (flat_map part_lines whole.parts) (map segment_fields whole.of ++ (fold_lines whole.fold ++ ending))
    ∙ (ap (λ s. s ++ flat_map line_text (map segment_fields whole.of ++ (fold_lines whole.fold ++ ending))) (flat_map-flat line_text part_lines whole.parts)
    ∙ ap (λ s. flat_map (λ part. flat_map line_text (part_lines part)) whole.parts ++ s) segments) in
    ap (λ s. line_text head_fields ++ (line_text (notes_fields whole.notes) ++ s)) parts

-- six texts, written one after the other, starting from nothing
pub six_written : (a b c d e f : List ℕ) {one two three four five six : List ℕ} → one ≡ [] ++ a → two ≡ one ++ b → three ≡ two ++ c
    → four ≡ three ++ d → five ≡ four ++ e → six ≡ five ++ f → six ≡ a ++ (b ++ (c ++ (d ++ (e ++ (f ++ [])))))
six_written a b c d e f p q r s t u =
    u ∙ (ap (λ w. w ++ f) (t ∙ ap (λ w. w ++ e) (s ∙ ap (λ w. w ++ d) (r ∙ ap (λ w. w ++ c) (q ∙ ap (λ w. w ++ b) p)))) ∙ regroup a b c d e f)
  where
    regroup : (a b c d e f : List ℕ) → ((((a ++ b) ++ c) ++ d) ++ e) ++ f ≡ a ++ (b ++ (c ++ (d ++ (e ++ (f ++ [])))))
    regroup a b c d e f = simp (append_assoc, append-nil)
