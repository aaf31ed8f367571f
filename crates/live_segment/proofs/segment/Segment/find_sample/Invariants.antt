use Rattle.std.proofs.Common.{◌≡◌, ◌-◌, ℤ}
use Rattle.live_segment.specs.Add.SampleSearch.{WalksBehind}
use Rattle.live_segment.specs.Seated.{IsSeated}
use Rattle.live_segment.specs.Hist.Search.{HasSearched}
use Rattle.live_segment.specs.Steps.{IsSame}
use Rattle.segment_promises.proofs.Furthest.{last_of}
use Rattle.live_segment.proofs.segment.Segment.find_sample.Given as goal

abbrev pub invariant-loop-from : goal.invariant-loop-from
invariant-loop-from l = record {
  seated : IsSeated l.self l.seat;
  same : IsSame l.fn.seat l.seat;
  searched : HasSearched l.fn.seat.me.0 l.seat.me.0;
  walks : (value : ℤ) → value ≡ l.value → WalksBehind l.histogram value l.at l.seat.me.0;
}

abbrev pub decreases-loop-from : goal.decreases-loop-from
decreases-loop-from l = l.self.setting.shape.size - last_of l.seat.me.0.seen.chain l.at
