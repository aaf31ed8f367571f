use Rattle.std.proofs.Common.{true≢false, sym}
use Rattle.segment_invariant.proofs.laws.kinds_read.Goals as goal

pub returns : goal.returns
returns c holds = true≢false (sym holds.3)
