use Rattle.std.proofs.Common.{◌≡◌, ◌-◌, ◌/◌, ◌≤◌, ◌++◌, length, vec_capacity}
use Rattle.std.specs.Prelude.{take}
use Rattle.live_segment.proofs.lemmas.List.Walked.{IsWalking}
use Rattle.live_segment.proofs.segment.Segment.walk.Given as goal

-- what it has listed so far is what the walk gave after the place where it began, and there is room for as many as fit in a segment
abbrev pub invariant-loop-next : goal.invariant-loop-next
invariant-loop-next l = record {
  walking : IsWalking l.fn.seat l.seat (take l.fn.place.given l.fn.seat.me.0.seen.chain ++ l.records.items) l.place.at;
  given : l.place.given ≡ length (take l.fn.place.given l.fn.seat.me.0.seen.chain ++ l.records.items);
  room : (l.self.setting.shape.size - 16) / 5 ≤ vec_capacity l.records;
}

abbrev pub decreases-loop-next : goal.decreases-loop-next
decreases-loop-next l = l.self.setting.shape.size - length l.records.items
