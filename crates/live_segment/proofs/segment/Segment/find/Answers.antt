use Rattle.std.proofs.Common.{Bool, refl, subst, arith}
use Rattle.live_segment.specs.Hist.ListSearch.{ShowsName, ShowsSpec}
use Rattle.segment_promises.proofs.Growing.{grows_not}
use Rattle.live_segment.proofs.lemmas.List.Ends.{all_on}
use Rattle.live_segment.proofs.lemmas.List.Showing.{same_on, sees_on, meets_still}
use Rattle.live_segment.proofs.lemmas.Hist.NameSearch.{searched_not, searched_on, sees_searched, searched, seat_on, may_follow, room, found_end, ends, meets, room_found, walks_then, comes_further, met_spec, met_other}
use Rattle.live_segment.proofs.segment.Segment.find.Goals as goal

pub loop-from-init : goal.loop-from-init
loop-from-init c = record { seated = c.requires.seat; same = (refl, refl, refl); searched = searched_not c.args.seat.now.me.0; walks = c.requires.walks }

pub load_next-next-requires-clause-may : goal.load_next-next-requires-clause-may
load_next-next-requires-clause-may c =
    let was = c.loop-from.invariant in
    may_follow was.seated was.walks

pub load_next-next-requires-clause-room : goal.load_next-next-requires-clause-room
load_next-next-requires-clause-room c =
    let was = c.loop-from.invariant in
    room was.seated was.walks

pub returns-then-next-eq-QUEUE-clause-view : goal.returns-then-next-eq-QUEUE-clause-view
returns-then-next-eq-QUEUE-clause-view c =
    let was = c.loop-from.invariant in
    searched_on _ _ _ was.searched
    (searched was.seated was.walks _ _ c.load_next-next.ensures.step)

pub returns-then-next-eq-QUEUE-clause-outcome : goal.returns-then-next-eq-QUEUE-clause-outcome
returns-then-next-eq-QUEUE-clause-outcome c =
    let was = c.loop-from.invariant in
    ends was.seated was.walks _ _ c.load_next-next.ensures.step
    c.load_next-next.ensures.once c.load_next-next.ensures.own c.if-next-eq-QUEUE.true

pub returns-then-next-eq-QUEUE-clause-ended : goal.returns-then-next-eq-QUEUE-clause-ended
returns-then-next-eq-QUEUE-clause-ended c =
    let was = c.loop-from.invariant in
    let new = c.load_next-next.new.seat.me.0.seen in
    all_on c.args.seat.now.me.0.seen c.loop-from.seat.me.0.seen new new was.searched.ends
    (searched was.seated was.walks _ _ c.load_next-next.ensures.step).ends (grows_not new.ends) refl
    (found_end was.seated was.walks _ _ c.load_next-next.ensures.step c.load_next-next.ensures.once c.if-next-eq-QUEUE.true)

pub shows_name-requires-clause-meets : goal.shows_name-requires-clause-meets
shows_name-requires-clause-meets c =
    let was = c.loop-from.invariant in record {
      seated = seat_on c.load_next-next.new.seat was.seated c.load_next-next.ensures.step.same (searched was.seated was.walks _ _ c.load_next-next.ensures.step);
      met = meets was.seated was.walks _ _ c.load_next-next.ensures.step c.if-next-eq-QUEUE.false;
      room = room_found was.seated was.walks _ _ c.load_next-next.ensures.step c.if-next-eq-QUEUE.false;
    }

pub shows_spec-requires-clause-seat : goal.shows_spec-requires-clause-seat
shows_spec-requires-clause-seat c =
    let was = c.loop-from.invariant in
    seat_on c.shows_name.new.seat was.seated (same_on c.loop-from.seat c.load_next-next.new.seat c.shows_name.new.seat c.load_next-next.ensures.step.same c.shows_name.ensures.read.same)
    (searched_on _ _ _ (searched was.seated was.walks _ _ c.load_next-next.ensures.step)
    (sees_searched _ _ c.shows_name.ensures.read.view))

pub shows_spec-requires-clause-met : goal.shows_spec-requires-clause-met
shows_spec-requires-clause-met c =
    let was = c.loop-from.invariant in
    meets_still c.load_next-next.result _ _ c.shows_name.ensures.read.view
    (meets was.seated was.walks _ _ c.load_next-next.ensures.step c.if-next-eq-QUEUE.false)

pub shows_spec-requires-clause-named : goal.shows_spec-requires-clause-named
shows_spec-requires-clause-named c =
    subst (λ (b : Bool). ShowsName c.args.asked.now c.load_next-next.result b c.shows_name.new.seat.me.0) c.if-shows_name.true c.shows_name.ensures.shown

pub returns-then-shows_spec-clause-view : goal.returns-then-shows_spec-clause-view
returns-then-shows_spec-clause-view c =
    let was = c.loop-from.invariant in
    searched_on _ _ _ was.searched
    (searched_on _ _ _ (searched was.seated was.walks _ _ c.load_next-next.ensures.step)
    (sees_searched _ _ (sees_on _ _ _ c.shows_name.ensures.read.view c.shows_spec.ensures.read.view)))

pub returns-else-shows_spec-clause-view : goal.returns-else-shows_spec-clause-view
returns-else-shows_spec-clause-view c =
    let was = c.loop-from.invariant in
    searched_on _ _ _ was.searched
    (searched_on _ _ _ (searched was.seated was.walks _ _ c.load_next-next.ensures.step)
    (sees_searched _ _ (sees_on _ _ _ c.shows_name.ensures.read.view c.shows_spec.ensures.read.view)))

pub returns-then-shows_spec-clause-outcome : goal.returns-then-shows_spec-clause-outcome
returns-then-shows_spec-clause-outcome c =
    let was = c.loop-from.invariant in
    met_spec c.requires.asked was.seated was.walks _ _ c.load_next-next.ensures.step c.if-next-eq-QUEUE.false
    _ c.shows_name.ensures.read.view (subst (λ (b : Bool). ShowsName c.args.asked.now c.load_next-next.result b c.shows_name.new.seat.me.0) c.if-shows_name.true c.shows_name.ensures.shown)
    _ c.shows_spec.ensures.read.view
    (subst (λ (b : Bool). ShowsSpec c.args.asked.now c.load_next-next.result b c.shows_spec.new.seat.me.0.seen) c.if-shows_spec.true c.shows_spec.ensures.shown)

pub returns-else-shows_spec-clause-outcome : goal.returns-else-shows_spec-clause-outcome
returns-else-shows_spec-clause-outcome c =
    let was = c.loop-from.invariant in
    met_other c.requires.asked was.seated was.walks _ _ c.load_next-next.ensures.step c.if-next-eq-QUEUE.false
    _ c.shows_name.ensures.read.view (subst (λ (b : Bool). ShowsName c.args.asked.now c.load_next-next.result b c.shows_name.new.seat.me.0) c.if-shows_name.true c.shows_name.ensures.shown)
    _ c.shows_spec.ensures.read.view
    (subst (λ (b : Bool). ShowsSpec c.args.asked.now c.load_next-next.result b c.shows_spec.new.seat.me.0.seen) c.if-shows_spec.false c.shows_spec.ensures.shown)

pub loop-from-smaller : goal.loop-from-smaller
loop-from-smaller c =
    let was = c.loop-from.invariant in
    let (further, most) =
    comes_further was.seated was.walks _ _ c.load_next-next.ensures.step c.if-next-eq-QUEUE.false
    _ c.shows_name.ensures.read.view c.load_next-next.ensures.once in omega (arith, further, most)

pub loop-from-preserved : goal.loop-from-preserved
loop-from-preserved c =
    let was = c.loop-from.invariant in record {
      seated = seat_on c.shows_name.new.seat was.seated (same_on c.loop-from.seat c.load_next-next.new.seat c.shows_name.new.seat c.load_next-next.ensures.step.same c.shows_name.ensures.read.same)
          (searched_on _ _ _ (searched was.seated was.walks _ _ c.load_next-next.ensures.step) (sees_searched _ _ c.shows_name.ensures.read.view));
      same = same_on c.args.seat.now c.loop-from.seat c.shows_name.new.seat was.same (same_on c.loop-from.seat c.load_next-next.new.seat c.shows_name.new.seat c.load_next-next.ensures.step.same c.shows_name.ensures.read.same);
      searched = searched_on _ _ _ was.searched
          (searched_on _ _ _ (searched was.seated was.walks _ _ c.load_next-next.ensures.step)
          (sees_searched _ _ c.shows_name.ensures.read.view));
      walks = walks_then was.seated was.walks _ _ c.load_next-next.ensures.step c.if-next-eq-QUEUE.false
          _ c.shows_name.ensures.read.view
          (subst (λ (b : Bool). ShowsName c.args.asked.now c.load_next-next.result b c.shows_name.new.seat.me.0) c.if-shows_name.false c.shows_name.ensures.shown);
    }
