use Rattle.segment_invariant.proofs.Consistency.Totals as implied
use Rattle.segment_invariant.proofs.laws.kept_totals_are_counted.Goals as goal

pub returns : goal.returns
returns c = implied.totals_are_counted
