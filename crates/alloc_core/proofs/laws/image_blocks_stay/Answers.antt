use Rattle.alloc_core.proofs.Runs.{run_leaves}
use Rattle.alloc_core.proofs.laws.image_blocks_stay.Goals as goal

pub returns : goal.returns
returns c shape moves old new keeps is = run_leaves shape moves old new keeps is
