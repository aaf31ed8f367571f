use Rattle.std.proofs.Common.{◌≢◌, ◌-◌, ℕ, List}
use Rattle.std.specs.List.{All}
use Rattle.live_segment.specs.Seated.{IsSeated}
use Rattle.live_segment.specs.Hist.Search.{HasSearched}
use Rattle.live_segment.specs.List.Walk.{IsWalkProgress}
use Rattle.live_segment.specs.Steps.{IsSame}
use Rattle.segment_promises.proofs.Furthest.{last_of}
use Rattle.live_segment.proofs.segment.Segment.meet.Given as goal

-- none of the records that it has passed is the one
abbrev pub invariant-loop-reference : goal.invariant-loop-reference
invariant-loop-reference l = record {
  seated : IsSeated l.self l.seat;
  same : IsSame l.initial.seat l.seat;
  searched : HasSearched l.initial.seat.me.0 l.seat.me.0;
  given : List ℕ;
  way : IsWalkProgress given l.at l.seat.me.0;
  others : All (λ at. at ≢ l.reference) given;
}

abbrev pub decreases-loop-reference : goal.decreases-loop-reference
decreases-loop-reference l = l.self.setting.shape.size - last_of l.seat.me.0.seen.chain l.at
