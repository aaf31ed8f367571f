use Rattle.std.proofs.Common.{Bool, ℤ, ap, subst, w32, ◌∙◌}
use Rattle.std.proofs.lemmas.Int.{to_z-of_z}
use Rattle.segment_machine.specs.declared.actor.Actor.{Actor}
use Rattle.segment_machine.specs.Actor.{is_bound}
use Rattle.live_segment.specs.Add.SampleSearch.{ShowsValue}
use Rattle.live_segment.proofs.lemmas.Add.SampleKeys.{first_sampled, meets_sample, right_searched, room_sample}
use Rattle.live_segment.proofs.lemmas.Add.SampleOf.{split_there, walk_begins}
use Rattle.live_segment.proofs.lemmas.Hist.NameSearch.{searched_on, seat_on, sees_searched}
use Rattle.live_segment.proofs.segment.Segment.search_sample_at.Goals as goal

pub shows_value-requires : goal.shows_value-requires
shows_value-requires c = record {
  meets = record {
    seated = c.requires.ready.seated;
    met = meets_sample c.args.histogram.now.reference c.args.value c.args.seat.now.me.0 c.requires.free c.requires.ready.indexed c.requires.first;
    room = room_sample c.args.histogram.now.reference c.args.value c.args.seat.now.me.0 c.requires.free c.requires.ready.indexed c.requires.first;
  };
}

pub returns-then-shows_value-clause-view : goal.returns-then-shows_value-clause-view
returns-then-shows_value-clause-view c = sees_searched _ _ c.shows_value.ensures.read.view

pub returns-then-shows_value-clause-outcome : goal.returns-then-shows_value-clause-outcome
returns-then-shows_value-clause-outcome c =
    let (front, behind, parts) = split_there c.args.seat.now.me.0.seen.chain c.args.histogram.now.reference c.requires.ready.right.met in
    first_sampled c.args.histogram.now.reference c.args.value c.args.seat.now.me.0 c.requires.free c.requires.ready.indexed c.requires.first c.shows_value.new.seat.me.0 c.shows_value.ensures.read.view c.shows_value.ensures.behind
    c.shows_value.ensures.once front behind parts
    (subst (λ (b : Bool). ShowsValue c.args.histogram.now.reference c.args.value c.args.at b c.shows_value.new.seat.me.0) c.if-shows_value.true
    (subst (λ (v : ℤ). ShowsValue c.args.histogram.now.reference v c.args.at c.shows_value.result c.shows_value.new.seat.me.0) (to_z-of_z w32 c.args.value c.ranges.value)
    c.shows_value.ensures.shown))

pub find_sample-requires-clause-seat : goal.find_sample-requires-clause-seat
find_sample-requires-clause-seat c = seat_on c.shows_value.new.seat c.requires.ready.seated c.shows_value.ensures.read.same (sees_searched _ _ c.shows_value.ensures.read.view)

pub find_sample-requires-clause-walks : goal.find_sample-requires-clause-walks
find_sample-requires-clause-walks c =
    let sees = sees_searched _ _ c.shows_value.ensures.read.view in
    let seated = seat_on c.shows_value.new.seat c.requires.ready.seated c.shows_value.ensures.read.same sees in
    walk_begins c.args.self.now.setting c.args.histogram.now _ c.shows_value.new.seat.me.0 seated.of (ap (λ (a : Actor). is_bound a.hand.place) c.shows_value.ensures.read.view.view ∙ c.requires.free)
    (right_searched c.args.self.now.setting c.args.histogram.now c.args.seat.now.me.0 c.shows_value.new.seat.me.0 sees c.requires.ready.right)

pub returns-clause-view : goal.returns-clause-view
returns-clause-view c = searched_on _ _ _ (sees_searched _ _ c.shows_value.ensures.read.view) c.find_sample.ensures.view
