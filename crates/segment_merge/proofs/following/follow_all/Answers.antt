use Rattle.std.proofs.Common.{◌≡◌, ◌∙◌, List, [], ◌∷◌, ◌++◌, length, map, take, sym, ap, subst, arith}
use Rattle.std.specs.Vec.Iter.{into_iter_items}
use Rattle.std.proofs.lemmas.List.{map_push}
use Rattle.bucket_ranges.specs.Reading.{Histogram}
use Rattle.image_reader.specs.Views.{histogram_view}
use Rattle.image_reader.specs.declared.reading.HistReading.{HistReading}
use Rattle.live_segment.specs.Holders.{view_of_recorder}
use Rattle.segment_merge.specs.declared.following.FollowStep.{FollowStep}
use Rattle.segment_merge.specs.Follow.{AreFollowed}
use Rattle.segment_merge.specs.Steps.{hists_of}
use Rattle.segment_merge.proofs.Batches.{knows_then}
use Rattle.segment_merge.proofs.FollowSteps.{followed_more}
use Rattle.segment_merge.proofs.Taken.{one_taken}
use Rattle.segment_merge.proofs.following.follow_all.Goals as goal

pub loop-step-preserved : goal.loop-step-preserved
loop-step-preserved c =
    let list : List FollowStep = into_iter_items c.into_iter-step-iterator.result in
    let rest : List FollowStep = into_iter_items c.next.new.self in
    let noted : List HistReading = c.loop-step.noted.items in
    let step : FollowStep = c.in-Some.step in
    let hist : HistReading = c.follow_next-hist.result in
    let pushed : c.push_reserved.new.self.items ≡ noted ++ hist ∷ [] = c.push_reserved.ensures.items in
    let one = one_taken list (into_iter_items c.loop-step.step-iterator) rest noted c.push_reserved.new.self.items step hist c.loop-step.invariant.so_far
    c.in-Some.ensures.steps.0 pushed in
    let before : List FollowStep = take (length noted) list in
    let hists : hists_of (take (length c.push_reserved.new.self.items) list) ≡ hists_of before ++ histogram_view step.hist ∷ [] =
    ap hists_of one.taken ∙ map_push (λ (each : FollowStep). histogram_view each.hist) before step in
    let notes : map histogram_view c.push_reserved.new.self.items ≡ map histogram_view noted ++ histogram_view hist ∷ [] =
    ap (map histogram_view) pushed ∙ map_push histogram_view noted hist in
    let room = c.loop-step.invariant.report_room in
    let more = c.follow_next-hist.ensures in record {
      can = tt;
      finite = tt;
      so_far = one.behind;
      few = omega (arith, one.below, one.long);
      room = omega (arith, c.push_reserved.ensures.capacity, c.loop-step.invariant.room);
      report_room = record {
        added = omega (arith, room.added, more.added.0, more.added.1, one.long, one.below);
        passed = omega (arith, room.passed, more.passed.0, more.passed.1, one.long, one.below);
      };
      told = record {
        units = more.told.units ∙ c.loop-step.invariant.told.units;
        cost = more.told.cost ∙ c.loop-step.invariant.told.cost;
      };
      kept = more.kept ∙ c.loop-step.invariant.kept;
      same = knows_then c.args.recorder.now.state c.loop-step.recorder.state c.follow_next-hist.new.recorder.state c.loop-step.invariant.same more.same;
      followed = subst (λ (both : List Histogram × List Histogram). AreFollowed both.0 c.follow_next-hist.new.report both.1
          (view_of_recorder c.args.recorder.now) (view_of_recorder c.follow_next-hist.new.recorder)) (λ i. (sym hists i, sym notes i))
          (followed_more (hists_of before) c.loop-step.report c.follow_next-hist.new.report (map histogram_view noted)
          (view_of_recorder c.args.recorder.now) (view_of_recorder c.loop-step.recorder) (view_of_recorder c.follow_next-hist.new.recorder)
          (histogram_view step.hist) (histogram_view hist) c.loop-step.invariant.followed more.answer);
    }
