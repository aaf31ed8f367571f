use Rattle.segment_image.specs.Head.{head_of}
use Rattle.list_core.proofs.Chains.{chain_of}
use Rattle.list_core.proofs.laws.published_records_are_the_chain.Goals as goal

pub returns : goal.returns
returns c words chain is lawful = chain_of words chain (head_of words) is.linked lawful
