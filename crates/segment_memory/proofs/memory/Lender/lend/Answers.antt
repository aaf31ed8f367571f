use Rattle.std.proofs.Common.{ap, ◌∙◌}
use Rattle.segment_memory.specs.Rooms.{room_of}
use Rattle.segment_memory.proofs.memory.Lender.lend.Goals as goal

pub returns-in-Err-clause-err : goal.returns-in-Err-clause-err
returns-in-Err-clause-err c = c.into_room-in-Err.ensures ∙ ap room_of c.of_room-size.ensures.1
