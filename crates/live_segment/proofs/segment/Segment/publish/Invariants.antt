use Rattle.std.proofs.Common.{◌≡◌, ◌-◌, ◌*◌, Some}
use Rattle.segment_machine.specs.declared.actor.Made.{Made}
use Rattle.live_segment.specs.Steps.Listing.{asked_for}
use Rattle.live_segment.specs.List.Publish.{IsFilledAs}
use Rattle.live_segment.proofs.lemmas.List.Published.{IsWaiting}
use Rattle.live_segment.proofs.segment.Segment.publish.Given as goal

-- the block waits, filled as what is announced
abbrev pub invariant-loop-seat : goal.invariant-loop-seat
invariant-loop-seat l = (made : Made) → asked_for l.said ≡ Some made → (is : IsFilledAs l.fn.seat.me.0 l.at made)
    → IsWaiting l.fn.seat l.seat l.at made is.own

-- each link that comes too late found one more record of five words
abbrev pub decreases-loop-seat : goal.decreases-loop-seat
decreases-loop-seat l = l.self.setting.shape.size - 5 * l.seat.me.0.done.beaten
