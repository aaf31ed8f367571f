use Rattle.std.proofs.Common.{ap, arith, subst, sym, ◌∙◌}
use Rattle.segment_image.specs.Shape.{Dimensions}
use Rattle.live_segment.proofs.lemmas.Hist.ByIndex.{ended_since}
use Rattle.live_segment.proofs.lemmas.Hist.Indexing.{walks_behind}
use Rattle.live_segment.proofs.lemmas.List.IndexKept as kept
use Rattle.live_segment.proofs.lemmas.Hist.NameSearch.{searched_on, seat_on}
use Rattle.live_segment.specs.declared.list.index.KeyKind.{KeyKind}
use Rattle.live_segment.specs.List.Index.{IsIndexed}
use Rattle.live_segment.proofs.lemmas.List.Indexed.{of_own}
use Rattle.live_segment.proofs.segment.Segment.search.Goals as goal

pub look_for-requires : goal.look_for-requires
look_for-requires c = record {
  walks = record {
    seated = c.requires.walks.seated;
    free = c.requires.walks.free;
    indexed = of_own _ _ _ _ c.requires.walks.indexed;
  };
}

pub find-requires-clause-seat : goal.find-requires-clause-seat
find-requires-clause-seat c = seat_on c.look_for.new.seat c.requires.walks.seated c.look_for.ensures.same c.look_for.ensures.view

pub search_at-requires-clause-walks : goal.search_at-requires-clause-walks
search_at-requires-clause-walks c = record {
  seated = seat_on c.look_for.new.seat c.requires.walks.seated c.look_for.ensures.same c.look_for.ensures.view;
  free = c.look_for.ensures.free;
  indexed = subst (λ (k : KeyKind). IsIndexed k c.args.self.now.setting.shape.size c.look_for.new.seat.me.0.seen c.look_for.new.index) c.requires.walks.indexed.of_kind c.look_for.ensures.indexed;
}

pub find-requires-clause-walks : goal.find-requires-clause-walks
find-requires-clause-walks c =
    let me = c.args.self.now in
    let from = me.shaped.wide in
    let to = me.shaped.one in
    let seated = seat_on c.look_for.new.seat c.requires.walks.seated c.look_for.ensures.same c.look_for.ensures.view in
    walks_behind me.setting.shape.size c.look_for.new.seat.me.0 c.look_for.new.index c.args.asked.now.name.items c.key_of_name-key.result
    (ap (λ (d : Dimensions). d.size) seated.of.shape) (omega (arith, from, to)) c.look_for.ensures.free (subst (λ (k : KeyKind). IsIndexed k c.args.self.now.setting.shape.size c.look_for.new.seat.me.0.seen c.look_for.new.index) c.requires.walks.indexed.of_kind
    c.look_for.ensures.indexed) c.key_of_name-key.ensures
    (sym c.first.ensures ∙ c.in-None.is)

pub returns-in-None-clause-ended : goal.returns-in-None-clause-ended
returns-in-None-clause-ended c =
    ended_since c.find.result c.args.seat.now.me.0 c.look_for.new.seat.me.0 c.find.new.seat.me.0 c.look_for.ensures.view c.find.ensures.view c.find.ensures.ended

pub returns-in-None-clause-indexed : goal.returns-in-None-clause-indexed
returns-in-None-clause-indexed c =
    kept.searched_on c.args.self.now.setting.shape.size c.look_for.new.index c.look_for.new.seat.me.0 c.find.new.seat.me.0 c.find.ensures.view (subst (λ (k : KeyKind). IsIndexed k c.args.self.now.setting.shape.size c.look_for.new.seat.me.0.seen c.look_for.new.index) c.requires.walks.indexed.of_kind
    c.look_for.ensures.indexed)

pub returns-in-Some-clause-view : goal.returns-in-Some-clause-view
returns-in-Some-clause-view c =
    searched_on c.args.seat.now.me.0 c.look_for.new.seat.me.0 c.search_at.new.seat.me.0 c.look_for.ensures.view c.search_at.ensures.view

pub returns-in-Some-clause-ended : goal.returns-in-Some-clause-ended
returns-in-Some-clause-ended c =
    ended_since c.search_at.result c.args.seat.now.me.0 c.look_for.new.seat.me.0 c.search_at.new.seat.me.0 c.look_for.ensures.view c.search_at.ensures.view
    c.search_at.ensures.ended

pub returns-in-Some-clause-indexed : goal.returns-in-Some-clause-indexed
returns-in-Some-clause-indexed c =
    kept.searched_on c.args.self.now.setting.shape.size c.look_for.new.index c.look_for.new.seat.me.0 c.search_at.new.seat.me.0 c.search_at.ensures.view
    (subst (λ (k : KeyKind). IsIndexed k c.args.self.now.setting.shape.size c.look_for.new.seat.me.0.seen c.look_for.new.index) c.requires.walks.indexed.of_kind
    c.look_for.ensures.indexed)
