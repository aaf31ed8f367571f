use Rattle.std.proofs.Common.{rules}
use Rattle.live_segment.proofs.Seating.Seated.{pours}
use Rattle.live_segment.proofs.segment.Segment.pour.Goals as goal

pub join_seat-requires : goal.join_seat-requires
join_seat-requires c = (
  search rules,
  search rules,
  search rules,
  search rules,
  pours c.args.self.now.table.shared.key _ _ _ _ c.requires.may,
)
