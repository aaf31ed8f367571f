use Rattle.alloc_core.proofs.Runs.{behind_free}
use Rattle.alloc_core.proofs.laws.words_behind_are_zeros.Goals as goal

pub returns : goal.returns
returns c shape state at keeps le = behind_free shape state at keeps le
