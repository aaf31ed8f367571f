use Rattle.std.proofs.Common.{◌∙◌, ap}
use Rattle.std.specs.Fmt.{decimal}
use Rattle.reading_texts.proofs.Adding.{written-both}
use Rattle.reading_texts.proofs.exporting.put_totals.Goals as goal

pub returns : goal.returns
returns c =
    let units = c.as_bytes-units.ensures.value ∙ (c.in_ok-units.ensures.ok ∙ ap decimal c.units.ensures) in
    let sum = c.as_bytes.ensures.value ∙ c.in_ok-sum.ensures.ok in
    let first = rw units at c.in_ok-put_total.ensures in
    let second = rw sum at c.in_ok-put_total-2.ensures in
    let third = rw units at c.in_ok-put_total-3.ensures in
    written-both _ _ _ (written-both _ _ _ first second) third
