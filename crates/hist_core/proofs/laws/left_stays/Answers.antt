use Rattle.hist_core.specs.Left.{run_left}
use Rattle.hist_core.proofs.laws.left_stays.Goals as goal

pub returns : goal.returns
returns c = λ old new actor words same i. run_left (words i) (same i)
