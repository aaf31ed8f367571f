use Rattle.std.proofs.Common.{Bool, subst}
use Rattle.live_segment.specs.Hist.ListSearch.{ShowsName, ShowsSpec}
use Rattle.live_segment.proofs.lemmas.List.Showing.{sees_on, meets_still}
use Rattle.live_segment.proofs.lemmas.Hist.ByIndex.{meets_it, room_it, walk_anew, met_here, other_here}
use Rattle.live_segment.proofs.lemmas.Hist.NameSearch.{sees_searched, seat_on}
use Rattle.live_segment.proofs.segment.Segment.search_at.Goals as goal

pub shows_name-requires-clause-meets : goal.shows_name-requires-clause-meets
shows_name-requires-clause-meets c = record {
  seated = c.requires.walks.seated;
  met = meets_it c.requires.asked c.requires.walks.seated c.requires.walks.free c.requires.walks.indexed c.requires.first;
  room = room_it c.requires.asked c.requires.walks.seated c.requires.walks.free c.requires.walks.indexed c.requires.first;
}

pub find-requires-clause-seat : goal.find-requires-clause-seat
find-requires-clause-seat c = seat_on c.shows_name.new.seat c.requires.walks.seated c.shows_name.ensures.read.same (sees_searched _ _ c.shows_name.ensures.read.view)

pub find-requires-clause-walks : goal.find-requires-clause-walks
find-requires-clause-walks c =
    walk_anew c.requires.asked c.requires.walks.seated c.requires.walks.free c.requires.walks.indexed c.requires.first c.shows_name.new.seat.me.0 c.shows_name.ensures.read.view

pub shows_spec-requires-clause-seat : goal.shows_spec-requires-clause-seat
shows_spec-requires-clause-seat c = seat_on c.shows_name.new.seat c.requires.walks.seated c.shows_name.ensures.read.same (sees_searched _ _ c.shows_name.ensures.read.view)

pub shows_spec-requires-clause-met : goal.shows_spec-requires-clause-met
shows_spec-requires-clause-met c =
    meets_still c.args.at _ _ c.shows_name.ensures.read.view (meets_it c.requires.asked c.requires.walks.seated c.requires.walks.free c.requires.walks.indexed c.requires.first)

pub returns-then-shows_spec-clause-outcome : goal.returns-then-shows_spec-clause-outcome
returns-then-shows_spec-clause-outcome c =
    met_here c.requires.asked c.requires.walks.seated c.requires.walks.free c.requires.walks.indexed c.requires.first c.shows_name.new.seat.me.0 c.shows_name.ensures.read.view
    (subst (λ (b : Bool). ShowsName c.args.asked.now c.args.at b c.shows_name.new.seat.me.0) c.if-not-shows_name.false c.shows_name.ensures.shown)
    c.shows_spec.new.seat.me.0 c.shows_spec.ensures.read.view
    (subst (λ (b : Bool). ShowsSpec c.args.asked.now c.args.at b c.shows_spec.new.seat.me.0.seen) c.if-shows_spec.true c.shows_spec.ensures.shown)

pub returns-else-shows_spec-clause-outcome : goal.returns-else-shows_spec-clause-outcome
returns-else-shows_spec-clause-outcome c =
    other_here c.requires.asked c.requires.walks.seated c.requires.walks.free c.requires.walks.indexed c.requires.first c.shows_name.new.seat.me.0 c.shows_name.ensures.read.view
    (subst (λ (b : Bool). ShowsName c.args.asked.now c.args.at b c.shows_name.new.seat.me.0) c.if-not-shows_name.false c.shows_name.ensures.shown)
    c.shows_spec.new.seat.me.0 c.shows_spec.ensures.read.view
    (subst (λ (b : Bool). ShowsSpec c.args.asked.now c.args.at b c.shows_spec.new.seat.me.0.seen) c.if-shows_spec.false c.shows_spec.ensures.shown)

pub returns-then-shows_spec-clause-view : goal.returns-then-shows_spec-clause-view
returns-then-shows_spec-clause-view c = sees_searched _ _ (sees_on _ _ _ c.shows_name.ensures.read.view c.shows_spec.ensures.read.view)

pub returns-else-shows_spec-clause-view : goal.returns-else-shows_spec-clause-view
returns-else-shows_spec-clause-view c = sees_searched _ _ (sees_on _ _ _ c.shows_name.ensures.read.view c.shows_spec.ensures.read.view)
