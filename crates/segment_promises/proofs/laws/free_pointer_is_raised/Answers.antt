use Rattle.segment_promises.proofs.FreePointer.{free_pointer_is_raised}
use Rattle.segment_promises.proofs.laws.free_pointer_is_raised.Goals as goal

pub returns : goal.returns
returns c = free_pointer_is_raised
