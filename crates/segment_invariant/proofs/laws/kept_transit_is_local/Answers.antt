use Rattle.segment_invariant.proofs.Consistency.Transit as implied
use Rattle.segment_invariant.proofs.laws.kept_transit_is_local.Goals as goal

pub returns : goal.returns
returns c = implied.transit_is_local
