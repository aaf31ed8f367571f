use Rattle.std.proofs.Common.{rules, ◌≡◌, ◌∙◌, ◌≤◌, ◌+◌, ℕ, Bool, List, [], ◌∷◌, ◌++◌, length, map, drop, sym, ap, subst, arith}
use Rattle.std.specs.Prelude.{MatchOption, IsPermutation, Option, vec_capacity}
use Rattle.std.specs.Vec.Iter.{into_iter_items}
use Rattle.std.proofs.lemmas.Grind.{common_steps}
use Rattle.std.proofs.lemmas.List.{length-map, take_all}
use Rattle.std.proofs.lemmas.List.Sorted.{IsPermutation-map, length_permutation}
use Rattle.bucket_ranges.specs.Reading.{Histogram}
use Rattle.image_reader.specs.Views.{histogram_view}
use Rattle.image_reader.specs.declared.reading.HistReading.{HistReading}
use Rattle.segment_merge.specs.Noted.{AreByName, HasRisen, IsFallenAt, IsMarkedAt, unmarked as without_marks}
use Rattle.segment_merge.proofs.Fallen.{current, fallen_here, fallen_left, has_all_permuted, in_order_marked, in_order_permuted, in_order_sorted, never_fall}
use Rattle.segment_merge.proofs.MarkedOnes.{marked_to_more, marked_to_none, place_behind}
use Rattle.segment_merge.proofs.MarkedSteps.{marked_all}
use Rattle.segment_merge.proofs.Taken.{one_taken}
use Rattle.segment_merge.proofs.marked.marked.Goals as goal

pub loop-hist-init : goal.loop-hist-init
loop-hist-init c =
    let list : List HistReading = into_iter_items c.into_iter-hist-iterator.result in
    let none : c.in_ok-all.all.items ≡ [] = c.in_ok-all.ensures.items in
    let gives : list ≡ c.in_ok-hist-items.hist-items.items = search rules in
    let long = length_permutation c.args.hists.items c.in_ok-hist-items.hist-items.items c.in_ok-hist-items.ensures.moved in
    let room : length c.args.hists.items ≤ vec_capacity c.in_ok-all.all = search rules in
    let same = ap length gives in record {
      can = tt;
      finite = tt;
      so_far = ap (λ (l : List HistReading). drop (length l) list) (sym none);
      room = omega (arith, room, long, same);
      marked = marked_to_none (map histogram_view c.args.noted.now) list c.in_ok-all.all.items none;
    }

pub loop-hist-preserved : goal.loop-hist-preserved
loop-hist-preserved c =
    let noted : List Histogram = map histogram_view c.args.noted.now in
    let list : List HistReading = into_iter_items c.into_iter-hist-iterator.result in
    let all : List HistReading = c.loop-hist.all.items in
    let rest : List HistReading = into_iter_items c.next.new.self in
    let hist : HistReading = c.in-Some.hist in
    let came : HistReading × Bool = c.in-Some-2.came in
    let pushed : c.push_reserved.new.self.items ≡ all ++ came.0 ∷ [] = c.push_reserved.ensures.items in
    let one = one_taken list (into_iter_items c.loop-hist.hist-iterator) rest all c.push_reserved.new.self.items hist came.0 c.loop-hist.invariant.so_far
    c.in-Some.ensures.steps.0 pushed in
    let is : (without_marks (histogram_view came.0) ≡ without_marks (histogram_view hist)) × HasRisen (histogram_view came.0)
    × IsMarkedAt noted c.loop-hist.next (histogram_view came.0) came.1 =
    subst (λ (found : Option (HistReading × Bool)). MatchOption found (IsFallenAt noted c.loop-hist.next (histogram_view hist)) (λ (one : HistReading × Bool).
    (without_marks (histogram_view one.0) ≡ without_marks (histogram_view hist)) × HasRisen (histogram_view one.0)
    × IsMarkedAt noted c.loop-hist.next (histogram_view one.0) one.1)) c.in-Some-2.is c.in_ok-came.ensures in record {
      can = tt;
      finite = tt;
      so_far = one.behind;
      room = omega (arith, c.push_reserved.ensures.capacity, c.loop-hist.invariant.room);
      marked = marked_to_more noted list rest all c.push_reserved.new.self.items hist came c.loop-hist.next (c.loop-hist.next + c.from-next.result) one pushed is
          (place_behind came.1 c.loop-hist.next c.from-next.result c.from-next.ensures) c.loop-hist.invariant.marked;
    }

pub returns : goal.returns
returns c =
    let list : List HistReading = into_iter_items c.into_iter-hist-iterator.result in
    let all : List HistReading = c.loop-hist.all.items in
    let sorted : List HistReading = c.in_ok-hist-items.hist-items.items in
    let gives : list ≡ sorted = search rules in
    let past : length list ≤ length all = first_of (search rules, grind (arith, common_steps)) in
    let same : map without_marks (map histogram_view sorted) ≡ map without_marks (map histogram_view all) =
    ap (λ (l : List HistReading). map without_marks (map histogram_view l)) (sym gives ∙ sym (take_all (length all) list past)) ∙ sym c.loop-hist.invariant.marked.same in
    let moved = IsPermutation-map histogram_view c.args.hists.items sorted c.in_ok-hist-items.ensures.moved in
    let long = length-map c.args.noted.now histogram_view in record {
      same = subst (IsPermutation (map without_marks (map histogram_view c.args.hists.items))) same
          (IsPermutation-map without_marks (map histogram_view c.args.hists.items) (map histogram_view sorted) moved);
      by = marked_all (map histogram_view c.args.noted.now) (map histogram_view all) c.loop-hist.next c.loop-hist.invariant.marked.marks
          (omega (arith, long, c.if-next-noted.false));
      order = λ order. in_order_marked (map histogram_view sorted) (map histogram_view all) same
          (in_order_sorted (map histogram_view sorted) (never_fall sorted c.in_ok-hist-items.ensures.sorted)
          (in_order_permuted (map histogram_view c.args.hists.items) (map histogram_view sorted) moved order));
    }

pub returns-in_default : goal.returns-in_default
returns-in_default c = λ in_order order all.
    let noted : List Histogram = map histogram_view c.args.noted.now in
    let list : List HistReading = into_iter_items c.into_iter-hist-iterator.result in
    let sorted : List HistReading = c.in_ok-hist-items.hist-items.items in
    let gives : list ≡ sorted = search rules in
    let hist : HistReading = c.in-Some.hist in
    let rest : List HistReading = into_iter_items c.next.new.self in
    let n : ℕ = length c.loop-hist.all.items in
    let here : drop n list ≡ hist ∷ rest = sym c.loop-hist.invariant.so_far ∙ c.in-Some.ensures.steps.0 in
    let given : List Histogram = map histogram_view c.args.hists.items in
    let hists : List Histogram = map histogram_view list in
    let moved : IsPermutation given hists = subst (λ (l : List HistReading). IsPermutation given (map histogram_view l)) (sym gives)
    (IsPermutation-map histogram_view c.args.hists.items sorted c.in_ok-hist-items.ensures.moved) in
    let up = never_fall list (subst AreByName (sym gives) c.in_ok-hist-items.ensures.sorted) in
    let fallen : IsFallenAt noted c.loop-hist.next (histogram_view hist) =
    subst (λ (found : Option (HistReading × Bool)). MatchOption found (IsFallenAt noted c.loop-hist.next (histogram_view hist)) (λ (one : HistReading × Bool).
    (without_marks (histogram_view one.0) ≡ without_marks (histogram_view hist)) × HasRisen (histogram_view one.0)
    × IsMarkedAt noted c.loop-hist.next (histogram_view one.0) one.1)) c.in_default.is c.in_ok-came.ensures in
    fallen_here noted hists c.loop-hist.next n (histogram_view hist) (current list rest n hist here) in_order up (in_order_permuted given hists moved order)
    (c.loop-hist.invariant.marked.before in_order) fallen (has_all_permuted noted given hists moved all)

pub returns-then-next-noted : goal.returns-then-next-noted
returns-then-next-noted c = λ in_order order all.
    let noted : List Histogram = map histogram_view c.args.noted.now in
    let list : List HistReading = into_iter_items c.into_iter-hist-iterator.result in
    let sorted : List HistReading = c.in_ok-hist-items.hist-items.items in
    let gives : list ≡ sorted = search rules in
    let n : ℕ = length c.loop-hist.all.items in
    let past : length list ≤ n = first_of (search rules, grind (arith, common_steps)) in
    let given : List Histogram = map histogram_view c.args.hists.items in
    let hists : List Histogram = map histogram_view list in
    let moved : IsPermutation given hists = subst (λ (l : List HistReading). IsPermutation given (map histogram_view l)) (sym gives)
    (IsPermutation-map histogram_view c.args.hists.items sorted c.in_ok-hist-items.ensures.moved) in
    let long = length-map c.args.noted.now histogram_view in
    let many = length-map list histogram_view in
    fallen_left noted hists c.loop-hist.next n (omega (arith, long, c.if-next-noted.true)) (omega (arith, many, past))
    (c.loop-hist.invariant.marked.before in_order) (has_all_permuted noted given hists moved all)
