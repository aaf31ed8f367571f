use Rattle.std.proofs.Common.{◌≡◌, ◌≤◌, ◌<◌, ℕ, ◌-◌, length, slice_index}
use Rattle.hist_core.proofs.new_record.NewRecord.next_filled.Given as goal

abbrev pub invariant-loop-next : goal.invariant-loop-next
invariant-loop-next l =
    (l.fn.from ≤ l.next) × (l.next ≤ length l.payload)
    × ((i : ℕ) → l.fn.from ≤ i → i < l.next → slice_index l.payload i ≡ 0)

abbrev pub decreases-loop-next : goal.decreases-loop-next
decreases-loop-next l = length l.payload - l.next
