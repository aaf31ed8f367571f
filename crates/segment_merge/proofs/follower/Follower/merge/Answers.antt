use Rattle.std.proofs.Common.{◌∙◌, List, map, arith}
use Rattle.bucket_ranges.specs.Reading.{Histogram}
use Rattle.image_reader.specs.Views.{histogram_view, reading_view}
use Rattle.live_segment.specs.Holders.{view_of_recorder}
use Rattle.segment_merge.specs.Follow.{AreFollowed, IsNotedAsAdded}
use Rattle.segment_merge.specs.Follower.{IsPrepared, noted_of}
use Rattle.segment_merge.specs.Steps.{hists_of}
use Rattle.segment_merge.proofs.AddsUp.{noted_as_added}
use Rattle.segment_merge.proofs.Fallen.{noted_in_order}
use Rattle.segment_merge.proofs.NewUnits.{grew_as_reported}
use Rattle.segment_merge.proofs.Within.{merged_within}
use Rattle.segment_merge.proofs.follower.Follower.merge.Goals as goal

pub returns-clause-answer : goal.returns-clause-answer
returns-clause-answer c =
    let noted : List Histogram = noted_of c.args.self.now in
    let hists : List Histogram = hists_of c.in_ok-steps.field-0.steps.items in
    let later : List Histogram = map histogram_view c.follow_all.new.noted.items in
    let prepared : IsPrepared noted (reading_view c.args.reading) c.args.most c.in_ok-steps.field-0 = c.in_ok-steps.ensures.answer in
    let followed : AreFollowed hists c.follow_all.new.report later (view_of_recorder c.args.recorder.now) (view_of_recorder c.follow_all.new.recorder) =
    c.follow_all.ensures.answer in
    let adds_up : IsNotedAsAdded followed.steps noted later (view_of_recorder c.args.recorder.now) (view_of_recorder c.follow_all.new.recorder) =
    noted_as_added noted hists followed.steps followed.behind later (view_of_recorder c.args.recorder.now) (view_of_recorder c.follow_all.new.recorder)
    prepared.have.by followed.split followed.noted_is followed.adds in record {
      hists = hists;
      same = prepared.have.same;
      by = prepared.have.by;
      order = prepared.have.order;
      tells = record {
        units = c.follow_all.ensures.told.units ∙ prepared.tells.units;
        cost = c.follow_all.ensures.told.cost ∙ prepared.tells.cost;
      };
      cheap = omega (arith, c.follow_all.ensures.told.cost, prepared.cheap);
      followed = followed;
      adds_up = adds_up;
      grew = grew_as_reported followed.steps noted later c.follow_all.new.report.added.items adds_up.units followed.lines;
    }

pub returns-clause-order : goal.returns-clause-order
returns-clause-order c = λ order.
    let hists : List Histogram = hists_of c.in_ok-steps.field-0.steps.items in
    let later : List Histogram = map histogram_view c.follow_all.new.noted.items in
    let prepared : IsPrepared (noted_of c.args.self.now) (reading_view c.args.reading) c.args.most c.in_ok-steps.field-0 = c.in_ok-steps.ensures.answer in
    let followed : AreFollowed hists c.follow_all.new.report later (view_of_recorder c.args.recorder.now) (view_of_recorder c.follow_all.new.recorder) =
    c.follow_all.ensures.answer in
    noted_in_order hists later followed.steps followed.behind followed.split followed.noted_is (prepared.have.order order)

pub returns-clause-within : goal.returns-clause-within
returns-clause-within c =
    let hists : List Histogram = hists_of c.in_ok-steps.field-0.steps.items in
    let later : List Histogram = map histogram_view c.follow_all.new.noted.items in
    let prepared : IsPrepared (noted_of c.args.self.now) (reading_view c.args.reading) c.args.most c.in_ok-steps.field-0 = c.in_ok-steps.ensures.answer in
    let followed : AreFollowed hists c.follow_all.new.report later (view_of_recorder c.args.recorder.now) (view_of_recorder c.follow_all.new.recorder) =
    c.follow_all.ensures.answer in
    merged_within (map histogram_view c.args.reading.hists.items) hists later followed.steps followed.behind prepared.have.same prepared.have.by.risen
    followed.split followed.noted_is
