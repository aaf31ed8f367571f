use Rattle.povundiri_c.proofs.Summing.{totals_added}
use Rattle.povundiri_c.proofs.sums.add_totals.Goals as goal

pub returns-in-Ok : goal.returns-in-Ok
returns-in-Ok c =
    totals_added c.args.text.now c.in-Ok.totals c.args.sums.now c.add_read.result c.add_read.new.sums c.in-Ok.ensures.read c.in-Ok.ensures.well_formed c.add_read.ensures
