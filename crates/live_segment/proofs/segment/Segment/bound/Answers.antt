use Rattle.std.proofs.Common.{rules}
use Rattle.live_segment.proofs.Seating.Seated.{bounds}
use Rattle.live_segment.proofs.segment.Segment.bound.Goals as goal

pub load-requires : goal.load-requires
load-requires c = (search rules, search rules, bounds c.args.self.now.table.shared.key _ _ _)
