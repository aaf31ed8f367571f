use Rattle.std.proofs.Common.{◌≡◌, ◌+◌, ◌-◌, ◌*◌, ◌≤◌, take}
use Rattle.std.specs.Prelude.{sum_by}
use Rattle.segment_sizes.proofs.needed.load_over.Given as goal

abbrev pub invariant-loop-block : goal.invariant-loop-block
invariant-loop-block l =
    (l.load ≡ 16 + sum_by (λ block. block + (block - l.bound)) (take l.block-index l.blocks)) × (l.load ≤ 16 + 131072 * l.block-index)
