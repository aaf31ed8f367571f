use Rattle.std.proofs.Common.{◌≡◌, ◌+◌, drop}
use Rattle.stepped.specs.Look.{first_bad}
use Rattle.stepped.proofs.look.first_bad.Given as goal

-- no record so far is bad
abbrev pub invariant-loop-i : goal.invariant-loop-i
invariant-loop-i l = first_bad l.size 2 0 l.orders ≡ first_bad l.size (l.i + 2) l.begun (drop l.i l.orders)
