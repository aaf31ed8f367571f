use Rattle.std.proofs.Common.{◌≡◌, ◌+◌, ◌*◌, ◌≤◌, take, length}
use Rattle.std.specs.Prelude.{fold, min}
use Rattle.segment_sizes.specs.Needed.{pages_over}
use Rattle.segment_sizes.proofs.needed.needed_pages.Given as goal

abbrev pub invariant-loop-bound : goal.invariant-loop-bound
invariant-loop-bound l =
    (l.fewest ≡ fold (λ fewest bound. min fewest (pages_over l.page l.blocks bound)) (pages_over l.page l.blocks l.page) (take l.bound-index l.blocks))
    × (l.fewest ≤ pages_over l.page l.blocks l.last) × (l.fewest ≤ 18 + 131072 * length l.blocks)
