use Rattle.std.proofs.Common.{◌≡◌, ◌≤◌, drop, length, map, take}
use Rattle.std.specs.Prelude.{◌-◌, vec_capacity}
use Rattle.std.specs.Vec.Iter.{into_iter_items}
use Rattle.image_reader.specs.Views.{histogram_view}
use Rattle.live_segment.specs.Holders.{view_of_recorder}
use Rattle.live_segment.specs.RecorderState.{KnowsOn}
use Rattle.segment_merge.specs.Follow.{AreFollowed}
use Rattle.segment_merge.specs.Steps.{HasRoomFor, ToldAlike, hists_of}
use Rattle.segment_merge.proofs.following.follow_all.Given as goal

-- the first histograms are followed, and there is room for the others
abbrev pub invariant-loop-step : goal.invariant-loop-step
invariant-loop-step l = record {
  can : (goal.iterator-loop-step).can_next l.step-iterator;
  finite : (goal.iterator-loop-step).is_finite l.step-iterator;
  so_far : into_iter_items l.step-iterator ≡ drop (length l.noted.items) (into_iter_items l.initial.step-iterator);
  few : length l.noted.items ≤ length (into_iter_items l.initial.step-iterator);
  room : length (into_iter_items l.initial.step-iterator) ≤ vec_capacity l.noted;
  report_room : HasRoomFor (length (into_iter_items l.initial.step-iterator) - length l.noted.items) l.report;
  told : ToldAlike l.fn.report l.report;
  kept : l.recorder.segment ≡ l.fn.recorder.segment;
  same : KnowsOn l.fn.recorder.state l.recorder.state;
  followed : AreFollowed (hists_of (take (length l.noted.items) (into_iter_items l.initial.step-iterator))) l.report (map histogram_view l.noted.items)
      (view_of_recorder l.fn.recorder) (view_of_recorder l.recorder);
}
