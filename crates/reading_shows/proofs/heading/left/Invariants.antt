use Rattle.std.proofs.Common.{◌≡◌, ◌-◌, ◌≤◌, take, pos, get_or}
use Rattle.std.specs.List.{range_with_len, sum_by}
use Rattle.reading_shows.proofs.heading.left.Given as goal

abbrev pub invariant-loop-i : goal.invariant-loop-i
invariant-loop-i l =
    (l.left ≡ sum_by (λ i. (get_or l.hist.counts.items i (pos 0, 0)).1 - get_or l.hist.marks.items i 0) (range_with_len 0 l.i))
    × (l.left ≤ sum_by (λ count. count.1) (take l.i l.hist.counts.items))
