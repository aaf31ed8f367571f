use Rattle.segment_promises.proofs.Chains.{chains_are_links}
use Rattle.segment_promises.proofs.laws.chains_are_links.Goals as goal

pub returns : goal.returns
returns c = chains_are_links
