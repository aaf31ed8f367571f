use Rattle.std.proofs.Common.{◌-◌, slice_index}
use Rattle.live_segment.proofs.lemmas.List.Sharing.{IsSharing}
use Rattle.live_segment.proofs.segment.Segment.next_shared.Given as goal

abbrev pub invariant-loop-cursor : goal.invariant-loop-cursor
invariant-loop-cursor l = IsSharing l.self l.cursor l.initial.seat l.seat

abbrev pub decreases-loop-cursor : goal.decreases-loop-cursor
decreases-loop-cursor l = l.self.setting.shape.size - slice_index l.seat.me.0.done.lost l.cursor
