use Rattle.std.proofs.Common.{ap, refl, inr, Ok, Err}
use Rattle.povundiri_c.specs.declared.types.MergeTotals.{MergeTotals}
use Rattle.povundiri_c.proofs.Merges.{of_merge}
use Rattle.povundiri_c.proofs.exports.merging.povundiri_proved_merge.Goals as goal

pub returns-in-Ok-call_recorder : goal.returns-in-Ok-call_recorder
returns-in-Ok-call_recorder c =
    let cost = ap (λ (totals : MergeTotals). totals.cost) c.totals_of.ensures in
    let gives = of_merge _ _ _ _ c.in-Ok.reading c.totals_of.result.cost refl refl cost (λ shown left answer met. met) _ _ _ (Ok c.in-Ok-call_recorder.report)
    c.call_recorder.ensures c.in-Ok-call_recorder.is in
    inr (inr (c.in-Ok.reading, c.in-Ok.ensures, Ok c.in-Ok-call_recorder.report, gives, c.put_report.ensures))

pub returns : goal.returns
returns c =
    let cost = ap (λ (totals : MergeTotals). totals.cost) c.totals_of.ensures in
    let gives = of_merge _ _ _ _ c.in-Ok.reading c.totals_of.result.cost refl refl cost (λ shown left answer met. met) _ _ _ (Err c.in-Err-call_recorder.status)
    c.call_recorder.ensures c.in-Err-call_recorder.is in
    inr (inr (c.in-Ok.reading, c.in-Ok.ensures, Err c.in-Err-call_recorder.status, gives, (refl, c.totals_of.ensures, refl)))
