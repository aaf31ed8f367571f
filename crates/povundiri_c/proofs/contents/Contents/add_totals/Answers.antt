use Rattle.std.proofs.Common.{Err}
use Rattle.povundiri_c.specs.Recorders.{refused_with}
use Rattle.povundiri_c.specs.Sums.{AddsTotalsText}
use Rattle.povundiri_c.proofs.Summing.{by_sums}
use Rattle.povundiri_c.proofs.contents.Contents.add_totals.Goals as goal

pub returns-in-Sums : goal.returns-in-Sums
returns-in-Sums c =
    by_sums (Err (refused_with 5)) (AddsTotalsText c.args.text.now) c.args.self.now c.in-Sums.sums c.add_totals.new.sums c.add_totals.result c.in-Sums.is c.add_totals.ensures
