use Rattle.alloc_core.proofs.Runs.{run_keeps}
use Rattle.alloc_core.proofs.laws.runs_keep.Goals as goal

pub returns : goal.returns
returns c shape moves old new keeps is = run_keeps shape moves old new keeps is
