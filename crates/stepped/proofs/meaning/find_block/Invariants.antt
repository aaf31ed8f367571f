use Rattle.std.proofs.Common.{◌≡◌}
use Rattle.std.specs.Prelude.{None}
use Rattle.stepped.specs.Meaning.{is_at, least, spot}
use Rattle.stepped.proofs.meaning.find_block.Given as goal

-- it is at the next spot, and the block was at none before
abbrev pub invariant-loop : goal.invariant-loop
invariant-loop l = (l.at ≡ spot l.words l.counter) × (least (is_at l.words l.sought) l.counter ≡ None)
