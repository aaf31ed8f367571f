use Rattle.std.proofs.Common.{◌≡◌, ◌+◌, ◌∙◌, length, min, ap, sym}
use Rattle.std.proofs.lemmas.List.{take_all}
use Rattle.reading_sums.specs.declared.hist.HistSum.{HistSum}
use Rattle.std.proofs.Common.{sum_by, arith}
use Rattle.sum_texts.proofs.Formed.{counted}
use Rattle.sum_texts.proofs.reading_back.line_behind.Goals as goal

pub returns : goal.returns
returns c =
    let hists = c.args.hists.now in
    let count : (hists : _) → _ = λ hists. min (3 + sum_by (λ (hist : HistSum). length hist.keys.items + 1) hists) 18446744073709551615 in
    c.loop-hist.invariant ∙ (ap count (take_all c.loop-hist.hist-index hists (omega (arith, c.loop-hist-test.false)))
    ∙ ap (λ n. min (3 + n) 18446744073709551615) (sym (counted hists)))
