-- Well-formed sums by their parts: what is well formed stays so if the parts are the same.
use Rattle.std.proofs.Common.{◌≡◌, ◌∙◌, ◌∷◌, ◌++◌, ◌+◌, ◌≤◌, ◌↔◌, Bool, true, false, Option, None, is_some, ℕ, List, [], map, take, length, sum_by, nat_cmp, length-append, refl, ap, sym, subst, arith}
use Rattle.std.specs.List.{flat_map}
use Rattle.std.specs.List.Sorted.{IsStrictlySortedBy}
use Rattle.std.proofs.lemmas.List.{length-map}
use Rattle.std.proofs.lemmas.List.Elements.{All-nil}
use Rattle.std.proofs.lemmas.List.Concat.{length-flat_map}
use Rattle.std.proofs.lemmas.List.Sums.{sum_by-cons, sum_by-take-le}
use Rattle.reading_sums.specs.declared.hist.HistSum.{HistSum}
use Rattle.reading_sums.specs.Totals.{Part}
use Rattle.reading_sums.specs.Views.{part_of}
use Rattle.reading_sums.specs.Whole.{AreWhole, IsInRange, IsWholeHist}
use Rattle.reading_sums.proofs.Alike.{alike-whole}
use Rattle.sum_texts.specs.Lines.{Whole, key_fields, line_bytes, line_text, lines_of, part_lines, segment_fields, fold_lines, end_fields, totals_text}
use Rattle.sum_texts.specs.Writable.{AreFormed, line_count, name_line}

-- ---- parts

-- whether histograms are those of a well-formed sum depends only on their parts
pub formed-answer : (b : Bool) (hists : List HistSum) (parts : List Part) → map part_of hists ≡ parts → ((b ≡ true) ↔ AreWhole hists)
    → (b ≡ true) ↔ AreFormed parts
formed-answer b hists parts same answer = (
  (λ yes. record { hists = hists; same = same; whole = answer.0 yes }),
  (λ formed. answer.1 (alike-whole hists formed.hists (same ∙ sym formed.same) formed.whole)),
)

-- no parts are those of a well-formed sum
pub none-formed : AreFormed []
unfolding IsStrictlySortedBy
none-formed = record { hists = []; same = refl; whole = record { ascending = tt; whole = All-nil IsWholeHist; range = All-nil IsInRange } }

-- the lines of names, by the histograms
pub counted : (hists : List HistSum) → sum_by line_count (map part_of hists) ≡ sum_by (λ (hist : HistSum). length hist.keys.items + 1) hists
counted [] = refl
counted (hist ∷ hists) =
    let keys : length (map key_fields hist.keys.items) ≡ length hist.keys.items = length-map hist.keys.items key_fields in
    let own : (hist : HistSum) → ℕ = λ hist. length hist.keys.items + 1 in
    let here : line_count (part_of hist) ≡ own hist = omega (arith, keys) in
    sum_by-cons line_count (part_of hist) (map part_of hists)
    ∙ (ap (λ n. n + sum_by line_count (map part_of hists)) here
    ∙ (ap (λ n. own hist + n) (counted hists) ∙ sym (sum_by-cons own hist hists)))

-- if none was found, the histograms are those of no well-formed sum
pub unformed : {X : Type 0} (found : Option X) (hists : List HistSum) → found ≡ None → ((is_some found ≡ true) ↔ AreWhole hists) → AreWhole hists → ⊥
unformed found hists none answer whole =
    let no : false ≡ true = subst (λ f. is_some f ≡ true) none (answer.1 whole) in
    cc no

-- ---- lines

-- each line has at least a byte
lines-long : (lines : List (List (List ℕ))) → length lines ≤ length (flat_map line_text lines)
lines-long [] = omega arith
lines-long (line ∷ lines) =
    let more = lines-long lines in
    let both : length (line_text line ++ flat_map line_text lines) ≡ length (line_text line) + length (flat_map line_text lines) = length-append (line_text line) (flat_map line_text lines) in
    let own : length (line_text line) ≡ length (line_bytes line) + 1 = length-append (line_bytes line) (10 ∷ []) in
    omega (arith, more, both, own)

-- the number of a line is no greater than the length of the text
pub line-within : (whole : Whole) (index : ℕ) → name_line whole.parts index ≤ length (totals_text whole)
line-within whole index =
    let some = sum_by-take-le line_count whole.parts index in
    let all : length (flat_map part_lines whole.parts) ≡ sum_by line_count whole.parts = length-flat_map part_lines whole.parts in
    let names = flat_map part_lines whole.parts in
    let last : List (List (List ℕ)) = end_fields (length whole.parts) ∷ [] in
    let ends : length (names ++ (map segment_fields whole.of ++ (fold_lines whole.fold ++ last))) ≡ length names + length (map segment_fields whole.of ++ (fold_lines whole.fold ++ last)) =
    length-append names (map segment_fields whole.of ++ (fold_lines whole.fold ++ last)) in
    let segments : length (map segment_fields whole.of ++ (fold_lines whole.fold ++ last)) ≡ length (map segment_fields whole.of) + length (fold_lines whole.fold ++ last) =
    length-append (map segment_fields whole.of) (fold_lines whole.fold ++ last) in
    let fold : length (fold_lines whole.fold ++ last) ≡ length (fold_lines whole.fold) + 1 = length-append (fold_lines whole.fold) last in
    let lines : length (lines_of whole) ≡ 2 + length (names ++ (map segment_fields whole.of ++ (fold_lines whole.fold ++ last))) = omega arith in
    let long = lines-long (lines_of whole) in
    omega (arith, some, all, ends, segments, fold, lines, long)
