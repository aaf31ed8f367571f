use Rattle.std.proofs.Common.{rules}
use Rattle.live_segment.proofs.Seating.Standing.{same_seat, stands_still}
use Rattle.live_segment.proofs.segment.Segment.stand_as.Goals as goal

pub load-requires : goal.load-requires
load-requires g c =
    (search rules, search rules, stands_still c.args.self.now.table.shared.key _ _ _ _ _ c.requires.stance.0 c.requires.stance.1)

pub returns-clause-same : goal.returns-clause-same
returns-clause-same g c = same_seat c.args.seat.now c.load.new.seat c.load.ensures.0 c.load.ensures.1 c.load.ensures.2.0 c.load.ensures.2.1
