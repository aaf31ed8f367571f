use Rattle.segment_promises.proofs.Spoilers.{spoilers_claim_nothing}
use Rattle.segment_promises.proofs.laws.spoilers_claim_nothing.Goals as goal

pub returns : goal.returns
returns c = spoilers_claim_nothing
