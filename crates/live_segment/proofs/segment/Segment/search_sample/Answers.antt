use Rattle.std.proofs.Common.{ℕ, ℤ, of_z, to_z, ap, arith, subst, sym, w32, ◌∙◌}
use Rattle.std.proofs.lemmas.Int.{to_z-of_z}
use Rattle.segment_image.specs.Shape.{Dimensions}
use Rattle.list_index.specs.Firsts.{first_of}
use Rattle.live_segment.specs.declared.list.index.KeyKind.{KeyKind}
use Rattle.live_segment.specs.Add.SampleSearch.{FindsSample, WalksBehind}
use Rattle.live_segment.specs.List.Index.{IsIndexed}
use Rattle.live_segment.proofs.lemmas.Add.SampleKeys.{none_sampled, right_searched, sample_ended_since, walks_from}
use Rattle.live_segment.proofs.lemmas.Add.SampleOf.{walk_begins}
use Rattle.live_segment.proofs.lemmas.Hist.NameSearch.{searched_on, seat_on}
use Rattle.live_segment.proofs.lemmas.List.Indexed.{of_own}
use Rattle.live_segment.proofs.lemmas.List.IndexKept as kept
use Rattle.live_segment.proofs.segment.Segment.search_sample.Goals as goal

pub look_for-has_passed_all-requires : goal.look_for-has_passed_all-requires
look_for-has_passed_all-requires c = record {
  walks = record {
    seated = c.requires.ready.seated;
    free = c.requires.free;
    indexed = of_own _ _ _ _ c.requires.ready.indexed;
  };
}

pub find_sample-requires-clause-seat : goal.find_sample-requires-clause-seat
find_sample-requires-clause-seat c = seat_on c.look_for-has_passed_all.new.seat c.requires.ready.seated c.look_for-has_passed_all.ensures.same c.look_for-has_passed_all.ensures.view

pub find_sample-requires-clause-walks : goal.find_sample-requires-clause-walks
find_sample-requires-clause-walks c =
    let me = c.args.self.now in
    let from = me.shaped.wide in
    let to = me.shaped.one in
    let known = c.args.histogram.now in
    let value = to_z w32 (of_z w32 c.args.value) in
    let mid = c.look_for-has_passed_all.new.seat.me.0 in
    let seated = seat_on c.look_for-has_passed_all.new.seat c.requires.ready.seated c.look_for-has_passed_all.ensures.same c.look_for-has_passed_all.ensures.view in
    let right = right_searched me.setting known c.args.seat.now.me.0 mid c.look_for-has_passed_all.ensures.view c.requires.ready.right in
    let indexed = subst (λ (k : KeyKind). IsIndexed k me.setting.shape.size mid.seen c.look_for-has_passed_all.new.index) c.requires.ready.indexed.of_kind c.look_for-has_passed_all.ensures.indexed in
    subst (λ (at : ℕ). WalksBehind known.reference value at mid) (sym c.start_behind-from.ensures)
    (walks_from known.reference value c.look_for-has_passed_all.new.index.place.at mid c.look_for-has_passed_all.result
    (λ all.
    none_sampled me.setting known value mid c.look_for-has_passed_all.new.index (ap (λ (d : Dimensions). d.size) seated.of.shape) (omega (arith, from, to)) c.look_for-has_passed_all.ensures.free right indexed
    (ap (first_of c.look_for-has_passed_all.new.index.firsts) (sym c.value_key-key.ensures) ∙ (sym c.first.ensures ∙ c.in-None.is)) (c.look_for-has_passed_all.ensures.ended all))
    (walk_begins me.setting known value mid seated.of c.look_for-has_passed_all.ensures.free right))

pub returns-in-None-clause-view : goal.returns-in-None-clause-view
returns-in-None-clause-view c = searched_on _ _ _ c.look_for-has_passed_all.ensures.view c.find_sample.ensures.view

pub returns-in-None-clause-outcome : goal.returns-in-None-clause-outcome
returns-in-None-clause-outcome c =
    subst (λ (v : ℤ). FindsSample c.args.histogram.now.reference v c.find_sample.result c.find_sample.new.seat.me.0) (to_z-of_z w32 c.args.value c.ranges.value)
    c.find_sample.ensures.outcome

pub returns-in-None-clause-ended : goal.returns-in-None-clause-ended
returns-in-None-clause-ended c =
    sample_ended_since c.find_sample.result c.args.seat.now.me.0 c.look_for-has_passed_all.new.seat.me.0 c.find_sample.new.seat.me.0 c.look_for-has_passed_all.ensures.view c.find_sample.ensures.view
    c.find_sample.ensures.ended

pub returns-in-None-clause-indexed : goal.returns-in-None-clause-indexed
returns-in-None-clause-indexed c =
    kept.searched_on c.args.self.now.setting.shape.size c.look_for-has_passed_all.new.index c.look_for-has_passed_all.new.seat.me.0 c.find_sample.new.seat.me.0 c.find_sample.ensures.view
    (subst (λ (k : KeyKind). IsIndexed k c.args.self.now.setting.shape.size c.look_for-has_passed_all.new.seat.me.0.seen c.look_for-has_passed_all.new.index) c.requires.ready.indexed.of_kind c.look_for-has_passed_all.ensures.indexed)

pub search_sample_at-requires-clause-ready : goal.search_sample_at-requires-clause-ready
search_sample_at-requires-clause-ready c = record {
  seated = seat_on c.look_for-has_passed_all.new.seat c.requires.ready.seated c.look_for-has_passed_all.ensures.same c.look_for-has_passed_all.ensures.view;
  right = right_searched c.args.self.now.setting c.args.histogram.now c.args.seat.now.me.0 c.look_for-has_passed_all.new.seat.me.0 c.look_for-has_passed_all.ensures.view c.requires.ready.right;
  indexed = subst (λ (k : KeyKind). IsIndexed k c.args.self.now.setting.shape.size c.look_for-has_passed_all.new.seat.me.0.seen c.look_for-has_passed_all.new.index) c.requires.ready.indexed.of_kind c.look_for-has_passed_all.ensures.indexed;
}

pub search_sample_at-requires-clause-first : goal.search_sample_at-requires-clause-first
search_sample_at-requires-clause-first c =
    ap (first_of c.look_for-has_passed_all.new.index.firsts) (sym c.value_key-key.ensures) ∙ (sym c.first.ensures ∙ c.in-Some.is)

pub returns-in-Some-clause-view : goal.returns-in-Some-clause-view
returns-in-Some-clause-view c = searched_on _ _ _ c.look_for-has_passed_all.ensures.view c.search_sample_at.ensures.view

pub returns-in-Some-clause-outcome : goal.returns-in-Some-clause-outcome
returns-in-Some-clause-outcome c =
    subst (λ (v : ℤ). FindsSample c.args.histogram.now.reference v c.search_sample_at.result c.search_sample_at.new.seat.me.0) (to_z-of_z w32 c.args.value c.ranges.value)
    c.search_sample_at.ensures.outcome

pub returns-in-Some-clause-ended : goal.returns-in-Some-clause-ended
returns-in-Some-clause-ended c =
    sample_ended_since c.search_sample_at.result c.args.seat.now.me.0 c.look_for-has_passed_all.new.seat.me.0 c.search_sample_at.new.seat.me.0 c.look_for-has_passed_all.ensures.view
    c.search_sample_at.ensures.view c.search_sample_at.ensures.ended

pub returns-in-Some-clause-indexed : goal.returns-in-Some-clause-indexed
returns-in-Some-clause-indexed c =
    kept.searched_on c.args.self.now.setting.shape.size c.look_for-has_passed_all.new.index c.look_for-has_passed_all.new.seat.me.0 c.search_sample_at.new.seat.me.0 c.search_sample_at.ensures.view
    (subst (λ (k : KeyKind). IsIndexed k c.args.self.now.setting.shape.size c.look_for-has_passed_all.new.seat.me.0.seen c.look_for-has_passed_all.new.index) c.requires.ready.indexed.of_kind c.look_for-has_passed_all.ensures.indexed)
