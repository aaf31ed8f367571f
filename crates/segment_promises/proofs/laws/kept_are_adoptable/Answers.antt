use Rattle.segment_promises.proofs.Adopting.Kept.{kept_are_adoptable}
use Rattle.segment_promises.proofs.laws.kept_are_adoptable.Goals as goal

pub returns : goal.returns
returns c = kept_are_adoptable
