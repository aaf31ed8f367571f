use Rattle.std.proofs.Common.{ap}
use Rattle.live_segment.proofs.Seating.Seated.{may_get}
use Rattle.live_segment.proofs.segment.Segment.pour_out.Goals as goal

pub pour-requires-clause-may : goal.pour-requires-clause-may
pour-requires-clause-may c = may_get _ _ c.args.units c.requires.seat.1 (ap (λ it. it.0) c.requires.filled.1)
