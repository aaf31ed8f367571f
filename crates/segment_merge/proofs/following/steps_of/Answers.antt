use Rattle.std.proofs.Common.{◌≡◌, ◌∙◌, List, [], ◌∷◌, ◌++◌, length, map, take, sym, ap, subst, arith}
use Rattle.std.specs.List.{All}
use Rattle.std.specs.Vec.Iter.{into_iter_items}
use Rattle.std.proofs.lemmas.List.{map_push}
use Rattle.std.proofs.lemmas.List.Elements.{All-append, All-cons, All-nil}
use Rattle.image_reader.specs.Views.{histogram_view}
use Rattle.image_reader.specs.declared.reading.HistReading.{HistReading}
use Rattle.segment_merge.specs.declared.following.FollowStep.{FollowStep}
use Rattle.segment_merge.specs.Steps.{HasItsPart, hists_of}
use Rattle.segment_merge.proofs.Taken.{one_taken}
use Rattle.segment_merge.proofs.following.steps_of.Goals as goal

pub loop-hist-preserved : goal.loop-hist-preserved
loop-hist-preserved c =
    let list : List HistReading = into_iter_items c.into_iter-hist-iterator.result in
    let rest : List HistReading = into_iter_items c.next.new.self in
    let steps : List FollowStep = c.loop-hist.steps.items in
    let hist : HistReading = c.in-Some.hist in
    let step : FollowStep = record { hist = hist; part = c.in_ok-part.part } in
    let pushed : c.push_reserved.new.self.items ≡ steps ++ step ∷ [] = c.push_reserved.ensures.items in
    let one = one_taken list (into_iter_items c.loop-hist.hist-iterator) rest steps c.push_reserved.new.self.items hist step c.loop-hist.invariant.so_far
    c.in-Some.ensures.steps.0 pushed in record {
      can = tt;
      finite = tt;
      so_far = one.behind;
      room = omega (arith, c.push_reserved.ensures.capacity, c.loop-hist.invariant.room);
      steps = subst (All HasItsPart) (sym pushed) (All-append HasItsPart steps (step ∷ []) c.loop-hist.invariant.steps
          (All-cons HasItsPart step [] c.in_ok-part.ensures (All-nil HasItsPart)));
      hists = ap hists_of pushed
          ∙ (map_push (λ (each : FollowStep). histogram_view each.hist) steps step
          ∙ ((λ i. c.loop-hist.invariant.hists i ++ histogram_view hist ∷ [])
          ∙ (sym (map_push histogram_view (take (length steps) list) hist) ∙ ap (map histogram_view) (sym one.taken))));
    }
