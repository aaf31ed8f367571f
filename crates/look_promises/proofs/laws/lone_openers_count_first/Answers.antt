use Rattle.look_promises.proofs.Kept.Certificate.{lone_openers_count_first}
use Rattle.look_promises.proofs.laws.lone_openers_count_first.Goals as goal

pub returns : goal.returns
returns c = lone_openers_count_first
