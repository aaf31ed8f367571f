use Rattle.std.proofs.Common.{Some}
use Rattle.live_segment.proofs.segment.Segment.stand.Given as goal

abbrev pub ghosts-stand_as : goal.ghosts-stand_as
ghosts-stand_as a = record { opening = Some a.self.now.table.shared.key; number = a.seat.now.id }
