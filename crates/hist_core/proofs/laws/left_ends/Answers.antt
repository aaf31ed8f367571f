use Rattle.hist_core.proofs.Left.Lengths as lengths
use Rattle.hist_core.proofs.laws.left_ends.Goals as goal

pub returns : goal.returns
returns c = lengths.left_ends
