use Rattle.std.proofs.Common.{◌≡◌, ◌≤◌, drop, length, map}
use Rattle.std.specs.Prelude.{vec_capacity}
use Rattle.std.specs.Vec.Iter.{into_iter_items}
use Rattle.image_reader.specs.Views.{histogram_view}
use Rattle.segment_merge.proofs.MarkedOnes.{AreMarkedTo}
use Rattle.segment_merge.proofs.marked.marked.Given as goal

-- the first histograms have what is noted of them as their marks
abbrev pub invariant-loop-hist : goal.invariant-loop-hist
invariant-loop-hist l = record {
  can : (goal.iterator-loop-hist).can_next l.hist-iterator;
  finite : (goal.iterator-loop-hist).is_finite l.hist-iterator;
  so_far : into_iter_items l.hist-iterator ≡ drop (length l.all.items) (into_iter_items l.initial.hist-iterator);
  room : length (into_iter_items l.initial.hist-iterator) ≤ vec_capacity l.all;
  marked : AreMarkedTo (map histogram_view l.noted) (into_iter_items l.initial.hist-iterator) l.all.items l.next;
}
