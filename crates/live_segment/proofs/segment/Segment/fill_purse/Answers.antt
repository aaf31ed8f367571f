use Rattle.std.proofs.Common.{rules}
use Rattle.live_segment.proofs.Seating.Seated.{fills}
use Rattle.live_segment.proofs.segment.Segment.fill_purse.Goals as goal

pub split_seat-requires : goal.split_seat-requires
split_seat-requires c = (search rules, search rules, fills c.args.self.now.table.shared.key _ _ c.requires.may)
