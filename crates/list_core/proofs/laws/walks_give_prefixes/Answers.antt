use Rattle.list_core.proofs.Walks.{walk_goes}
use Rattle.list_core.proofs.laws.walks_give_prefixes.Goals as goal

pub returns : goal.returns
returns c words chain given is front = walk_goes words chain given is front
