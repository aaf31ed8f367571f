use Rattle.segment_machine.proofs.Keys.{keys_are_least}
use Rattle.segment_machine.proofs.laws.keys_are_least.Goals as goal

pub returns : goal.returns
returns c = keys_are_least
