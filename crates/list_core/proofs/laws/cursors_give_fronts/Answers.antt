use Rattle.list_core.proofs.Cursors.{give_front}
use Rattle.list_core.proofs.laws.cursors_give_fronts.Goals as goal

pub returns : goal.returns
returns c = give_front
