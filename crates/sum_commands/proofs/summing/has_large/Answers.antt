-- The histograms before it have small amounts, and it has them too.
use Rattle.std.proofs.Common.{◌<◌, ◌^◌, unsigned_abs, List, length, take, ap, subst, sym, ◌∙◌, arith}
use Rattle.std.specs.List.{All}
use Rattle.std.proofs.lemmas.Bool.{leb-false}
use Rattle.std.proofs.lemmas.List.{take_all}
use Rattle.std.proofs.lemmas.List.Elements.{All-more}
use Rattle.reading_sums.specs.declared.hist.HistSum.{HistSum}
use Rattle.reading_sums.specs.declared.notes.Notes.{Notes}
use Rattle.sum_commands.proofs.summing.has_large.Goals as goal

abbrev IsSmall : HistSum → Type 0
IsSmall hist = (unsigned_abs hist.sum < 2 ^ 126) × (unsigned_abs hist.sum_mark < 2 ^ 126)

pub loop-hist-preserved : goal.loop-hist-preserved
loop-hist-preserved c =
    All-more IsSmall c.hists-hist-items.result.now c.loop-hist.hist-index c.hist-item.result c.loop-hist-test.true c.loop-hist.invariant
    (subst IsSmall c.hist-item.is (c.is_large.ensures.sum c.if-is_large.false, c.is_large.ensures.sum_mark c.if-is_large.false))

pub returns : goal.returns
returns c = λ few. record {
  images = subst (λ (notes : Notes). notes.images < 2 ^ 62) c.notes.ensures (leb-false (2 ^ 62) c.notes.result.images few);
  amounts = subst (All IsSmall)
      (take_all c.loop-hist.hist-index c.hists-hist-items.result.now (omega (arith, c.loop-hist-test.false)) ∙ c.hists-hist-items.ensures)
      c.loop-hist.invariant;
}
