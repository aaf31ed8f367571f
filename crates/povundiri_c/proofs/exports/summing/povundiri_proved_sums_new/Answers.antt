use Rattle.std.proofs.Common.{sym, ◌∙◌}
use Rattle.povundiri_c.specs.Sums.{IsSumMade}
use Rattle.povundiri_c.proofs.NewSegments.{into_empty}
use Rattle.povundiri_c.proofs.Summing.{sum_made}
use Rattle.povundiri_c.proofs.exports.summing.povundiri_proved_sums_new.Goals as goal

pub returns : goal.returns
returns c =
    into_empty IsSumMade c.args.out.now.boxed.held c.fill.new.out.boxed.held c.fill.result (sym c.is_full.ensures ∙ c.if-is_full.false)
    (sum_made c.new.result c.fill.result c.args.out.now.boxed.held c.fill.new.out.boxed.held c.new.ensures.sum c.new.ensures.well_formed c.fill.ensures)
