use Rattle.look_promises.proofs.Lives.GoOn.{lives_go_on}
use Rattle.look_promises.proofs.laws.lives_go_on.Goals as goal

pub returns : goal.returns
returns c = lives_go_on
