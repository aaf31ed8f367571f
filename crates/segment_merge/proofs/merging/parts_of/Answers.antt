use Rattle.std.proofs.Common.{rules, List, [], ◌∷◌, ◌++◌, ◌≡◌, ◌∙◌, ◌+◌, take, length, get_or, ap, sym, subst, arith}
use Rattle.image_reader.specs.declared.reading.HistReading.{HistReading}
use Rattle.segment_merge.specs.declared.merging.Part.{Part}
use Rattle.segment_merge.specs.Parts.{ArePartsOf}
use Rattle.segment_merge.proofs.Underway.{parts_more}
use Rattle.segment_merge.proofs.merging.parts_of.Goals as goal

pub loop-histogram-preserved : goal.loop-histogram-preserved
loop-histogram-preserved c =
    let hists : List HistReading = c.args.reading.now.hists.items in
    let n = c.loop-histogram.histogram-index in
    let h : HistReading = c.histogram-item.result in
    let same : c.deref-histogram-items.result.now ≡ hists = c.deref-histogram-items.ensures.value in
    let pushed : c.push.new.self.items ≡ c.loop-histogram.parts.items ++ c.in_ok-part_of.field-0 ∷ [] = search rules in
    subst (λ (parts : List Part). ArePartsOf (take (n + 1) hists) parts) (sym pushed)
    (parts_more hists c.loop-histogram.parts.items n h c.in_ok-part_of.field-0 (omega (arith, c.loop-histogram-test.true, ap length same))
    (c.histogram-item.is ∙ ap (λ (list : List HistReading). get_or list n h) same) c.loop-histogram.invariant c.in_ok-part_of.ensures)
