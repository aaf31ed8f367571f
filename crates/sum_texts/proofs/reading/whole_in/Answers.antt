use Rattle.std.proofs.lemmas.Result.{err_from_is_err_and}
use Rattle.std.proofs.lemmas.List.{length-map}
use Rattle.std.proofs.Common.{◌≡◌, ◌∙◌, ◌∷◌, ◌++◌, Err, map, length, refl, ap, sym}
use Rattle.std.specs.List.{flat_map}
use Rattle.reading_sums.specs.Views.{part_of}
use Rattle.sum_texts.specs.Lines.{line_bytes, head_fields, notes_fields, fold_lines}
use Rattle.sum_texts.specs.Runs.{part_block, segment_block}
use Rattle.sum_texts.proofs.Fronts.{of_memory, gives_memory}
use Rattle.sum_texts.proofs.Wholes.{spelled_lines, behind_notes, behind_names, behind_segments, ending, no_name, no_segment, whole_same, vec_items_len}
use Rattle.sum_texts.proofs.reading.whole_in.Goals as goal

pub returns-in_err-notes-clause-only : goal.returns-in_err-notes-clause-only
returns-in_err-notes-clause-only c whole fits is =
    let e = c.in_err-notes.field-0.0 in
    let passed = err_from_is_err_and c.from_residual.result c.from_residual.ensures.1 in
    gives_memory e c.from_residual.result _ (passed.1 ∙ ap Err passed.2) (of_memory e _ (c.in_err-notes.ensures.only whole.notes (behind_notes whole) fits.notes (is ∙ spelled_lines whole)))

pub returns-in_err-hists-clause-only : goal.returns-in_err-hists-clause-only
returns-in_err-hists-clause-only c whole fits is =
    let n = c.in_ok-notes.ensures.only whole.notes (behind_notes whole) fits.notes (is ∙ spelled_lines whole) in
    let e = c.in_err-hists.field-0.0 in
    let passed = err_from_is_err_and c.from_residual-in_err-hists.result c.from_residual-in_err-hists.ensures.1 in
    gives_memory e c.from_residual-in_err-hists.result _ (passed.1 ∙ ap Err passed.2) (of_memory e _ (c.in_err-hists.ensures.only whole.parts (behind_names whole.of whole.fold (length whole.parts)) fits.parts (no_name whole.of whole.fold (length whole.parts)) n.1))

pub returns-in_err-of-clause-only : goal.returns-in_err-of-clause-only
returns-in_err-of-clause-only c whole fits is =
    let n = c.in_ok-notes.ensures.only whole.notes (behind_notes whole) fits.notes (is ∙ spelled_lines whole) in
    let h = c.in_ok-hists.ensures.only whole.parts (behind_names whole.of whole.fold (length whole.parts)) fits.parts (no_name whole.of whole.fold (length whole.parts)) n.1 in
    let e = c.in_err-of.field-0.0 in
    let passed = err_from_is_err_and c.from_residual-in_err-of.result c.from_residual-in_err-of.ensures.1 in
    gives_memory e c.from_residual-in_err-of.result _ (passed.1 ∙ ap Err passed.2) (of_memory e _ (c.in_err-of.ensures.only whole.of (behind_segments whole.fold (length whole.parts)) fits.of (no_segment whole.fold (length whole.parts)) h.1))

pub returns-in_err-fold-clause-only : goal.returns-in_err-fold-clause-only
returns-in_err-fold-clause-only c whole fits is =
    let n = c.in_ok-notes.ensures.only whole.notes (behind_notes whole) fits.notes (is ∙ spelled_lines whole) in
    let h = c.in_ok-hists.ensures.only whole.parts (behind_names whole.of whole.fold (length whole.parts)) fits.parts (no_name whole.of whole.fold (length whole.parts)) n.1 in
    let o = c.in_ok-of.ensures.only whole.of (behind_segments whole.fold (length whole.parts)) fits.of (no_segment whole.fold (length whole.parts)) h.1 in
    let e = c.in_err-fold.field-0.0 in
    let passed = err_from_is_err_and c.from_residual-in_err-fold.result c.from_residual-in_err-fold.ensures.1 in
    gives_memory e c.from_residual-in_err-fold.result _ (passed.1 ∙ ap Err passed.2) (of_memory e _ (c.in_err-fold.ensures.only whole.fold (ending (length whole.parts)) fits.fold refl o.1))

pub returns-in_err-check_end-clause-only : goal.returns-in_err-check_end-clause-only
returns-in_err-check_end-clause-only c whole fits is =
    let n = c.in_ok-notes.ensures.only whole.notes (behind_notes whole) fits.notes (is ∙ spelled_lines whole) in
    let h = c.in_ok-hists.ensures.only whole.parts (behind_names whole.of whole.fold (length whole.parts)) fits.parts (no_name whole.of whole.fold (length whole.parts)) n.1 in
    let o = c.in_ok-of.ensures.only whole.of (behind_segments whole.fold (length whole.parts)) fits.of (no_segment whole.fold (length whole.parts)) h.1 in
    let f = c.in_ok-fold.ensures.only whole.fold (ending (length whole.parts)) fits.fold refl o.1 in
    let many : length whole.parts ≡ c.len.result = ap length (sym h.0) ∙ (length-map c.in_ok-hists.hists.items part_of ∙ (sym (vec_items_len c.in_ok-hists.hists) ∙ sym c.len.ensures)) in
    let e = c.in_err-check_end.field-0.0 in
    let passed = err_from_is_err_and c.from_residual-in_err-check_end.result c.from_residual-in_err-check_end.ensures.1 in
    gives_memory e c.from_residual-in_err-check_end.result _ (passed.1 ∙ ap Err passed.2) (of_memory e _ (c.in_err-check_end.ensures.only (f.1 ∙ ap ending many)))

pub returns-clause-found : goal.returns-clause-found
returns-clause-found c =
    let lines = c.args.lines.now in
    let parts = map part_of c.in_ok-hists.hists.items in
    let many : c.len.result ≡ length parts = c.len.ensures ∙ (vec_items_len c.in_ok-hists.hists ∙ sym (length-map c.in_ok-hists.hists.items part_of)) in
    let fold = c.in_ok-fold.ensures.found ∙ ap (λ rest. map line_bytes (fold_lines c.in_ok-fold.fold) ++ rest) (c.in_ok-check_end.ensures.found ∙ ap ending many) in
    let of = c.in_ok-of.ensures.found ∙ ap (λ rest. flat_map segment_block c.in_ok-of.of.items ++ rest) fold in
    let hists = c.in_ok-hists.ensures.found ∙ ap (λ rest. flat_map part_block parts ++ rest) of in
    c.in_ok-notes.ensures.found ∙ (ap (λ rest. line_bytes head_fields ∷ line_bytes (notes_fields c.in_ok-notes.notes) ∷ rest) hists
    ∙ sym (spelled_lines (record { notes = c.in_ok-notes.notes; parts = parts; of = c.in_ok-of.of.items; fold = c.in_ok-fold.fold })))

pub returns-clause-only : goal.returns-clause-only
returns-clause-only c whole fits is =
    let n = c.in_ok-notes.ensures.only whole.notes (behind_notes whole) fits.notes (is ∙ spelled_lines whole) in
    let h = c.in_ok-hists.ensures.only whole.parts (behind_names whole.of whole.fold (length whole.parts)) fits.parts (no_name whole.of whole.fold (length whole.parts)) n.1 in
    let o = c.in_ok-of.ensures.only whole.of (behind_segments whole.fold (length whole.parts)) fits.of (no_segment whole.fold (length whole.parts)) h.1 in
    let f = c.in_ok-fold.ensures.only whole.fold (ending (length whole.parts)) fits.fold refl o.1 in
    whole_same _ _ _ _ whole n.0 h.0 o.0 f.0
