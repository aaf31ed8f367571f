use Rattle.list_core.specs.Publish.{chain_after}
use Rattle.list_core.proofs.Prefixes.{prefix_of_prefix, chain_grown}
use Rattle.list_core.proofs.laws.chain_only_grows.Goals as goal

pub returns : goal.returns
returns c words chain given p front =
    prefix_of_prefix given chain (chain_after words chain p) front (chain_grown words chain p.reference p.stage)
