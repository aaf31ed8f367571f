use Rattle.std.proofs.Common.{rules, ◌≡◌, ◌∙◌, ◌≤◌, List, [], ◌∷◌, ◌++◌, length, map, take, drop, refl, sym, ap, subst, arith}
use Rattle.std.specs.Prelude.{IsPermutation, vec_capacity}
use Rattle.std.specs.Vec.Iter.{into_iter_items}
use Rattle.std.proofs.lemmas.Grind.{common_steps}
use Rattle.std.proofs.lemmas.List.{map_push, take_all}
use Rattle.std.proofs.lemmas.List.Sorted.{IsPermutation-map, length_permutation}
use Rattle.bucket_ranges.specs.Reading.{Histogram}
use Rattle.image_reader.specs.Views.{histogram_view}
use Rattle.image_reader.specs.declared.reading.HistReading.{HistReading}
use Rattle.segment_merge.specs.Cut.{cut_at}
use Rattle.segment_merge.specs.Taken.{taken}
use Rattle.segment_merge.proofs.Fallen.{in_order_permuted, in_order_sorted, never_fall, noted_in_order}
use Rattle.segment_merge.proofs.DeltasTook.{cut_taken}
use Rattle.segment_merge.proofs.Taken.{one_taken}
use Rattle.segment_merge.proofs.took.taken_of.Goals as goal

pub loop-hist-init : goal.loop-hist-init
loop-hist-init c =
    let list : List HistReading = into_iter_items c.into_iter-hist-iterator.result in
    let none : c.in_ok-notes.notes.items ≡ [] = c.in_ok-notes.ensures.items in
    let gives : list ≡ c.in_ok-hist-items.hist-items.items = search rules in
    let long = length_permutation c.args.hists.items c.in_ok-hist-items.hist-items.items c.in_ok-hist-items.ensures.moved in
    let room : length c.args.hists.items ≤ vec_capacity c.in_ok-notes.notes = search rules in
    let same = ap length gives in record {
      can = tt;
      finite = tt;
      so_far = ap (λ (l : List HistReading). drop (length l) list) (sym none);
      room = omega (arith, room, long, same);
      notes = subst (λ (l : List HistReading). map histogram_view l ≡ map (cut_at 0) (map histogram_view (take (length l) list))) (sym none) refl;
    }

pub loop-hist-preserved : goal.loop-hist-preserved
loop-hist-preserved c =
    let list : List HistReading = into_iter_items c.into_iter-hist-iterator.result in
    let rest : List HistReading = into_iter_items c.next.new.self in
    let notes : List HistReading = c.loop-hist.notes.items in
    let hist : HistReading = c.in-Some.hist in
    let note : HistReading = c.noted_cut.result in
    let pushed : c.push_reserved.new.self.items ≡ notes ++ note ∷ [] = c.push_reserved.ensures.items in
    let one = one_taken list (into_iter_items c.loop-hist.hist-iterator) rest notes c.push_reserved.new.self.items hist note c.loop-hist.invariant.so_far
    c.in-Some.ensures.steps.0 pushed in record {
      can = tt;
      finite = tt;
      so_far = one.behind;
      room = omega (arith, c.push_reserved.ensures.capacity, c.loop-hist.invariant.room);
      notes = ap (map histogram_view) pushed
          ∙ (map_push histogram_view notes note
          ∙ ((λ i. c.loop-hist.invariant.notes i ++ c.noted_cut.ensures i ∷ [])
          ∙ (sym (map_push (cut_at 0) (map histogram_view (take (length notes) list)) (histogram_view hist))
          ∙ ap (map (cut_at 0)) (sym (map_push histogram_view (take (length notes) list) hist) ∙ ap (map histogram_view) (sym one.taken)))));
    }

pub returns : goal.returns
returns c =
    let list : List HistReading = into_iter_items c.into_iter-hist-iterator.result in
    let notes : List HistReading = c.loop-hist.notes.items in
    let sorted : List HistReading = c.in_ok-hist-items.hist-items.items in
    let gives : list ≡ sorted = search rules in
    let past : length list ≤ length notes = first_of (search rules, grind (arith, common_steps)) in
    let is : map histogram_view notes ≡ map (cut_at 0) (map histogram_view sorted) =
    c.loop-hist.invariant.notes ∙ ap (λ (l : List HistReading). map (cut_at 0) (map histogram_view l)) (take_all (length notes) list past ∙ gives) in
    let moved : IsPermutation (map histogram_view c.args.hists.items) (map histogram_view sorted) =
    IsPermutation-map histogram_view c.args.hists.items sorted c.in_ok-hist-items.ensures.moved in record {
      taken = subst (IsPermutation (map taken (map histogram_view c.args.hists.items))) (sym (cut_taken (map histogram_view sorted)) ∙ sym is)
          (IsPermutation-map taken (map histogram_view c.args.hists.items) (map histogram_view sorted) moved);
      order = λ order.
          let hists : List Histogram = map histogram_view sorted in
          noted_in_order hists (map histogram_view notes) [] hists refl is
          (in_order_sorted hists (never_fall sorted c.in_ok-hist-items.ensures.sorted) (in_order_permuted (map histogram_view c.args.hists.items) hists moved order));
    }
