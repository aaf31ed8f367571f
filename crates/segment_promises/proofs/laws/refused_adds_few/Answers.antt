use Rattle.segment_promises.proofs.Refusals.{refused_adds_few}
use Rattle.segment_promises.proofs.laws.refused_adds_few.Goals as goal

pub returns : goal.returns
returns c = refused_adds_few
