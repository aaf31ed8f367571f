use Rattle.alloc_core.proofs.ClaimedBlocks.{block_lawful}
use Rattle.alloc_core.proofs.laws.claimed_blocks_are_lawful.Goals as goal

pub returns : goal.returns
returns c shape state reference keeps claimed = block_lawful shape state reference keeps claimed
