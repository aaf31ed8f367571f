use Rattle.alloc_core.proofs.Runs.{move_keeps}
use Rattle.alloc_core.proofs.laws.moves_keep.Goals as goal

pub returns : goal.returns
returns c shape move old new keeps is = move_keeps shape move old new keeps is
