use Rattle.alloc_core.proofs.Steps.{taken_apart}
use Rattle.alloc_core.proofs.laws.blocks_are_apart.Goals as goal

pub returns : goal.returns
returns c shape state i j a b block other keeps ne mine yours e f = taken_apart shape state.words state.allocations i j a b block other keeps ne mine yours e f
