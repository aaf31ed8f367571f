use Rattle.std.proofs.Common.{rules}
use Rattle.live_segment.proofs.Seating.Seated.{joins}
use Rattle.live_segment.proofs.segment.Segment.join.Goals as goal

pub join_seat-requires : goal.join_seat-requires
join_seat-requires c = (
  search rules,
  search rules,
  search rules,
  search rules,
  joins c.args.self.now.table.shared.key _ _ _ _ c.requires.may,
)
