use Rattle.std.proofs.Common.{arith}
use Rattle.povundiri_c.proofs.contents.Contents.closed.Goals as goal

pub returns-in-Ok-clause-answer : goal.returns-in-Ok-clause-answer
returns-in-Ok-clause-answer c = (c.in-Segment.owned, c.in-Segment.is, omega (arith, c.size-size.ensures, c.if-room-size.false), c.in-Ok.ensures)
