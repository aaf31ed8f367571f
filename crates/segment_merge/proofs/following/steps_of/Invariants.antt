use Rattle.std.proofs.Common.{◌≡◌, ◌≤◌, drop, length, map, take}
use Rattle.std.specs.Prelude.{vec_capacity}
use Rattle.std.specs.List.{All}
use Rattle.std.specs.Vec.Iter.{into_iter_items}
use Rattle.image_reader.specs.Views.{histogram_view}
use Rattle.segment_merge.specs.Steps.{HasItsPart, hists_of}
use Rattle.segment_merge.proofs.following.steps_of.Given as goal

-- the first histograms have their steps
abbrev pub invariant-loop-hist : goal.invariant-loop-hist
invariant-loop-hist l = record {
  can : (goal.iterator-loop-hist).can_next l.hist-iterator;
  finite : (goal.iterator-loop-hist).is_finite l.hist-iterator;
  so_far : into_iter_items l.hist-iterator ≡ drop (length l.steps.items) (into_iter_items l.initial.hist-iterator);
  room : length (into_iter_items l.initial.hist-iterator) ≤ vec_capacity l.steps;
  steps : All HasItsPart l.steps.items;
  hists : hists_of l.steps.items ≡ map histogram_view (take (length l.steps.items) (into_iter_items l.initial.hist-iterator));
}
