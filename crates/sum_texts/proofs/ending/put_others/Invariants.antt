use Rattle.std.proofs.Common.{◌≡◌, ◌++◌, take}
use Rattle.std.specs.List.{flat_map}
use Rattle.sum_texts.specs.Endings.{other_line}
use Rattle.sum_texts.proofs.ending.put_others.Given as goal

abbrev pub invariant-loop-other : goal.invariant-loop-other
invariant-loop-other l = l.text.items ≡ l.initial.text.items ++ flat_map other_line (take l.other-index l.others)
