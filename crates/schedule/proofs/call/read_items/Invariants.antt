use Rattle.std.proofs.Common.{◌≡◌, ◌++◌, length, option_map}
use Rattle.schedule.specs.Call.{items_in}
use Rattle.schedule.specs.Fields.{texts}
use Rattle.schedule.proofs.call.read_items.Given as goal

-- the items so far, and those of the fields that are left
abbrev pub invariant-items : goal.invariant-items
invariant-items l = items_in (texts l.behind) ≡ option_map (λ more. l.items.items ++ more) (items_in (texts l.rest))

abbrev pub decreases-items : goal.decreases-items
decreases-items l = length l.rest
