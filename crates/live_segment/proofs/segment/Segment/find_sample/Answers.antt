use Rattle.std.proofs.Common.{Bool, ℤ, w32, refl, sym, ◌∙◌, subst, arith}
use Rattle.std.proofs.lemmas.Int.{to_z-of_z}
use Rattle.live_segment.specs.Add.SampleSearch.{ShowsValue, WalksBehind}
use Rattle.segment_promises.proofs.Growing.{grows_not}
use Rattle.live_segment.proofs.lemmas.List.Ends.{all_on}
use Rattle.live_segment.proofs.lemmas.List.WalkProgress.{comes_further}
use Rattle.live_segment.proofs.lemmas.Hist.NameSearch.{searched_not, searched_on, sees_searched, seat_on}
use Rattle.live_segment.proofs.lemmas.List.Showing.{same_on}
use Rattle.live_segment.proofs.lemmas.Add.SampleSearches.{may_follow, room, searched, found_end, ends, meets, room_found, walks_then, met_first}
use Rattle.live_segment.proofs.segment.Segment.find_sample.Goals as goal

pub loop-from-init : goal.loop-from-init
loop-from-init c = record { seated = c.requires.seat; same = (refl, refl, refl); searched = searched_not c.args.seat.now.me.0; walks = λ value same. subst (λ (v : ℤ). WalksBehind c.args.histogram v c.args.from c.args.seat.now.me.0) (sym (same ∙ to_z-of_z w32 c.args.value c.ranges.value)) c.requires.walks }

pub load_next-next-requires-clause-may : goal.load_next-next-requires-clause-may
load_next-next-requires-clause-may c =
    let was = c.loop-from.invariant in
    may_follow was.seated (was.walks c.args.value (sym (to_z-of_z w32 c.args.value c.ranges.value)))

pub load_next-next-requires-clause-room : goal.load_next-next-requires-clause-room
load_next-next-requires-clause-room c =
    let was = c.loop-from.invariant in
    room was.seated (was.walks c.args.value (sym (to_z-of_z w32 c.args.value c.ranges.value)))

pub returns-then-next-eq-QUEUE-clause-view : goal.returns-then-next-eq-QUEUE-clause-view
returns-then-next-eq-QUEUE-clause-view c =
    let was = c.loop-from.invariant in
    searched_on _ _ _ was.searched (searched was.seated (was.walks c.args.value (sym (to_z-of_z w32 c.args.value c.ranges.value))) _ _ c.load_next-next.ensures.step)

pub returns-then-next-eq-QUEUE-clause-outcome : goal.returns-then-next-eq-QUEUE-clause-outcome
returns-then-next-eq-QUEUE-clause-outcome c =
    let was = c.loop-from.invariant in
    ends was.seated (was.walks c.args.value (sym (to_z-of_z w32 c.args.value c.ranges.value))) _ _ c.load_next-next.ensures.step c.load_next-next.ensures.once c.load_next-next.ensures.samples c.if-next-eq-QUEUE.true

pub returns-then-next-eq-QUEUE-clause-ended : goal.returns-then-next-eq-QUEUE-clause-ended
returns-then-next-eq-QUEUE-clause-ended c =
    let was = c.loop-from.invariant in
    let walks = was.walks c.args.value (sym (to_z-of_z w32 c.args.value c.ranges.value)) in
    let new = c.load_next-next.new.seat.me.0.seen in
    all_on c.args.seat.now.me.0.seen c.loop-from.seat.me.0.seen new new was.searched.ends
    (searched was.seated walks _ _ c.load_next-next.ensures.step).ends (grows_not new.ends) refl
    (found_end was.seated walks _ _ c.load_next-next.ensures.step c.load_next-next.ensures.once c.if-next-eq-QUEUE.true)

pub shows_value-requires : goal.shows_value-requires
shows_value-requires c =
    let was = c.loop-from.invariant in record {
      meets = record {
        seated = seat_on c.load_next-next.new.seat was.seated c.load_next-next.ensures.step.same (searched was.seated (was.walks c.args.value (sym (to_z-of_z w32 c.args.value c.ranges.value))) _ _ c.load_next-next.ensures.step);
        met = meets was.seated (was.walks c.args.value (sym (to_z-of_z w32 c.args.value c.ranges.value))) _ _ c.load_next-next.ensures.step c.if-next-eq-QUEUE.false;
        room = room_found was.seated (was.walks c.args.value (sym (to_z-of_z w32 c.args.value c.ranges.value))) _ _ c.load_next-next.ensures.step c.if-next-eq-QUEUE.false;
      };
    }

pub returns-then-shows_value-clause-view : goal.returns-then-shows_value-clause-view
returns-then-shows_value-clause-view c =
    let was = c.loop-from.invariant in
    searched_on _ _ _ was.searched (searched_on _ _ _ (searched was.seated (was.walks c.args.value (sym (to_z-of_z w32 c.args.value c.ranges.value))) _ _ c.load_next-next.ensures.step) (sees_searched _ _ c.shows_value.ensures.read.view))

pub returns-then-shows_value-clause-outcome : goal.returns-then-shows_value-clause-outcome
returns-then-shows_value-clause-outcome c =
    let was = c.loop-from.invariant in
    met_first was.seated (was.walks c.args.value (sym (to_z-of_z w32 c.args.value c.ranges.value))) _ _ c.load_next-next.ensures.step c.if-next-eq-QUEUE.false _ c.shows_value.ensures.read.view
    (subst (λ (b : Bool). ShowsValue c.args.histogram c.args.value c.load_next-next.result b c.shows_value.new.seat.me.0) c.if-shows_value.true
    (subst (λ (v : ℤ). ShowsValue c.args.histogram v c.load_next-next.result c.shows_value.result c.shows_value.new.seat.me.0) (to_z-of_z w32 c.args.value c.ranges.value) c.shows_value.ensures.shown))

pub loop-from-smaller : goal.loop-from-smaller
loop-from-smaller c =
    let was = c.loop-from.invariant in
    let (further, most) = comes_further was.seated (was.walks c.args.value (sym (to_z-of_z w32 c.args.value c.ranges.value))).way _ _ c.load_next-next.ensures.step c.if-next-eq-QUEUE.false
    _ c.shows_value.ensures.read.view c.load_next-next.ensures.once in omega (arith, further, most)

pub loop-from-preserved : goal.loop-from-preserved
loop-from-preserved c =
    let was = c.loop-from.invariant in
    record {
      seated = seat_on c.shows_value.new.seat was.seated (same_on c.loop-from.seat c.load_next-next.new.seat c.shows_value.new.seat c.load_next-next.ensures.step.same c.shows_value.ensures.read.same)
          (searched_on _ _ _ (searched was.seated (was.walks c.args.value (sym (to_z-of_z w32 c.args.value c.ranges.value))) _ _ c.load_next-next.ensures.step) (sees_searched _ _ c.shows_value.ensures.read.view));
      same = same_on c.args.seat.now c.loop-from.seat c.shows_value.new.seat was.same
          (same_on c.loop-from.seat c.load_next-next.new.seat c.shows_value.new.seat c.load_next-next.ensures.step.same c.shows_value.ensures.read.same);
      searched = searched_on _ _ _ was.searched (searched_on _ _ _ (searched was.seated (was.walks c.args.value (sym (to_z-of_z w32 c.args.value c.ranges.value))) _ _ c.load_next-next.ensures.step) (sees_searched _ _ c.shows_value.ensures.read.view));
      walks = λ value same. subst (λ (v : ℤ). WalksBehind c.args.histogram v c.load_next-next.result c.shows_value.new.seat.me.0) (sym (same ∙ to_z-of_z w32 c.args.value c.ranges.value))
          (walks_then was.seated (was.walks c.args.value (sym (to_z-of_z w32 c.args.value c.ranges.value))) _ _ c.load_next-next.ensures.step c.if-next-eq-QUEUE.false _ c.shows_value.ensures.read.view
          (subst (λ (b : Bool). ShowsValue c.args.histogram c.args.value c.load_next-next.result b c.shows_value.new.seat.me.0) c.if-shows_value.false
          (subst (λ (v : ℤ). ShowsValue c.args.histogram v c.load_next-next.result c.shows_value.result c.shows_value.new.seat.me.0) (to_z-of_z w32 c.args.value c.ranges.value) c.shows_value.ensures.shown)));
    }
