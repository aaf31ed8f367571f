use Rattle.std.proofs.Common.{◌≡◌, ◌∙◌, ◌++◌, [], length, ap, sym}
use Rattle.std.specs.List.{flat_map}
use Rattle.std.proofs.lemmas.List.{length-map}
use Rattle.reading_sums.specs.Views.{part_of}
use Rattle.sum_texts.specs.Lines.{line_text, head_fields, notes_fields, part_lines, segment_fields, fold_lines, end_fields}
use Rattle.sum_texts.specs.Views.{whole_of}
use Rattle.sum_texts.proofs.Writings.{totals_spelled, six_written}
use Rattle.sum_texts.proofs.writing.totals_text.Goals as goal

pub returns : goal.returns
returns c =
    let whole = whole_of c.args.totals.now in
    let head : c.put_line.new.text.items ≡ [] ++ line_text head_fields = c.in_ok-put_line.ensures ∙ ap (λ s. s ++ line_text head_fields) c.new-text.ensures.items in
    let notes : c.put_notes.new.text.items ≡ c.put_line.new.text.items ++ line_text (notes_fields whole.notes) = rw c.notes.ensures at c.in_ok-put_notes.ensures in
    let parts : c.put_parts.new.text.items ≡ c.put_notes.new.text.items ++ flat_map (λ part. flat_map line_text (part_lines part)) whole.parts = rw c.hists-hists.ensures at c.in_ok-put_parts.ensures in
    let segments : c.put_segments.new.text.items ≡ c.put_parts.new.text.items ++ flat_map (λ segment. line_text (segment_fields segment)) whole.of = rw c.deref.ensures.value at c.in_ok-put_segments.ensures in
    let fold : c.put_fold.new.text.items ≡ c.put_segments.new.text.items ++ flat_map line_text (fold_lines whole.fold) = c.in_ok-put_fold.ensures in
    let many : length c.hists-hists.result.now ≡ length whole.parts = ap length c.hists-hists.ensures ∙ sym (length-map c.args.totals.now.sums.hists.items part_of) in
    let end : c.put_number_line.new.text.items ≡ c.put_fold.new.text.items ++ line_text (end_fields (length whole.parts)) =
    c.in_ok-put_number_line.ensures ∙ ap (λ n. c.put_fold.new.text.items ++ line_text (end_fields n)) many in
    six_written _ _ _ _ _ _ head notes parts segments fold end ∙ sym (totals_spelled whole)
