use Rattle.segment_promises.proofs.Adopting.Opened.Opens.{adoption_opens}
use Rattle.segment_promises.proofs.laws.adoption_opens.Goals as goal

pub returns : goal.returns
returns c = adoption_opens
