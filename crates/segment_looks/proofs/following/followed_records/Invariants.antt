use Rattle.std.proofs.Common.{◌≡◌, ◌≤◌, ◌-◌, ◌++◌, true, length, All}
use Rattle.segment_image.specs.Blocks.{is_placed}
use Rattle.segment_looks.specs.Looks.{records_from}
use Rattle.segment_looks.proofs.following.followed_records.Given as goal

-- The records so far, and those that follow from the next one, are all.
abbrev pub invariant-loop-records : goal.invariant-loop-records
invariant-loop-records l = record {
  few : length l.records.items ≤ l.most;
  placed : All (λ at. is_placed l.head at ≡ true) l.records.items;
  all : l.records.items ++ records_from l.head l.two (l.most - length l.records.items) l.next
      ≡ records_from l.head l.two l.most l.initial.next;
}

abbrev pub decreases-loop-records : goal.decreases-loop-records
decreases-loop-records l = l.most - length l.records.items
