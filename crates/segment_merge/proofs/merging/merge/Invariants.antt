use Rattle.std.proofs.Common.{◌≡◌, ◌≤◌, drop, length}
use Rattle.std.specs.Prelude.{vec_capacity}
use Rattle.std.specs.Vec.Iter.{into_iter_items}
use Rattle.image_reader.specs.Views.{reading_view}
use Rattle.live_segment.specs.Holders.{view_of_recorder}
use Rattle.live_segment.specs.RecorderState.{KnowsOn}
use Rattle.segment_merge.proofs.Underway.{IsUnderWay}
use Rattle.segment_merge.proofs.merging.merge.Given as goal

abbrev pub invariant-loop-part : goal.invariant-loop-part
invariant-loop-part l =
    (goal.iterator-loop-part).can_next l.part-iterator × (goal.iterator-loop-part).is_finite l.part-iterator
    × (into_iter_items l.part-iterator ≡ drop (length l.added.items) (into_iter_items l.initial.part-iterator))
    × (length l.reading.hists.items ≤ vec_capacity l.added)
    × KnowsOn l.fn.recorder.state l.recorder.state
    × IsUnderWay (reading_view l.reading).hists l.added.items (view_of_recorder l.fn.recorder) (view_of_recorder l.recorder)
    × (l.recorder.segment ≡ l.fn.recorder.segment)
