use Rattle.std.proofs.Common.{Some}
use Rattle.live_segment.proofs.segment.Segment.load_next.Given as goal

abbrev pub ghosts-load_next_as : goal.ghosts-load_next_as
ghosts-load_next_as a = record { opening = Some a.self.now.table.shared.key; number = a.seat.now.id }
