use Rattle.std.proofs.Common.{◌≡◌, ◌++◌}
use Rattle.std.specs.List.{flat_map, range_with_len}
use Rattle.reading_overviews.specs.Numbers.{digit_at}
use Rattle.reading_overviews.proofs.numbers.put_grouped.Given as goal

abbrev pub invariant-loop-i : goal.invariant-loop-i
invariant-loop-i l = l.text.items ≡ l.initial.text.items ++ flat_map (digit_at l.digits) (range_with_len 0 l.i)
