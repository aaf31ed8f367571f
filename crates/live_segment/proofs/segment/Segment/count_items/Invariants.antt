use Rattle.std.proofs.Common.{take}
use Rattle.live_segment.specs.Add.Batch.{HasItems}
use Rattle.live_segment.specs.Alloc.Claims.{ClaimsForEach}
use Rattle.live_segment.specs.declared.list.index.KeyKind.TheVariants.{Sample}
use Rattle.live_segment.specs.Known.{known_view}
use Rattle.live_segment.specs.List.Index.{IsIndexed}
use Rattle.live_segment.specs.Steps.{IsSame}
use Rattle.live_segment.proofs.segment.Segment.count_items.Given as goal

abbrev pub invariant-loop-added : goal.invariant-loop-added
invariant-loop-added l = record {
  same : IsSame l.initial.seat l.seat;
  indexed : IsIndexed Sample l.self.setting.shape.size l.seat.me.0.seen l.samples;
  counted : HasItems (known_view l.histogram) (take l.added l.items) l.initial.seat.me.0 l.seat.me.0;
  claims : ClaimsForEach (known_view l.histogram) (take l.added l.items) l.initial.seat.me.0 l.seat.me.0;
}
