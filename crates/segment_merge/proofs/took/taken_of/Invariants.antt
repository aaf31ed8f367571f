use Rattle.std.proofs.Common.{◌≡◌, ◌≤◌, drop, length, map, take}
use Rattle.std.specs.Prelude.{vec_capacity}
use Rattle.std.specs.Vec.Iter.{into_iter_items}
use Rattle.image_reader.specs.Views.{histogram_view}
use Rattle.segment_merge.specs.Cut.{cut_at}
use Rattle.segment_merge.proofs.took.taken_of.Given as goal

-- the first histograms have their notes
abbrev pub invariant-loop-hist : goal.invariant-loop-hist
invariant-loop-hist l = record {
  can : (goal.iterator-loop-hist).can_next l.hist-iterator;
  finite : (goal.iterator-loop-hist).is_finite l.hist-iterator;
  so_far : into_iter_items l.hist-iterator ≡ drop (length l.notes.items) (into_iter_items l.initial.hist-iterator);
  room : length (into_iter_items l.initial.hist-iterator) ≤ vec_capacity l.notes;
  notes : map histogram_view l.notes.items ≡ map (cut_at 0) (map histogram_view (take (length l.notes.items) (into_iter_items l.initial.hist-iterator)));
}
