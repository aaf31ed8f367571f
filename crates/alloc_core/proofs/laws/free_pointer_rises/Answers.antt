use Rattle.alloc_core.proofs.Runs.{free_lawful}
use Rattle.alloc_core.proofs.laws.free_pointer_rises.Goals as goal

pub returns : goal.returns
returns c shape state owner a keeps mine = free_lawful shape state owner a keeps mine
