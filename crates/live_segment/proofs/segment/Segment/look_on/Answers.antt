use Rattle.std.proofs.Common.{◌-◌, ◌<◌, ℕ, arith, ap, sym, subst}
use Rattle.segment_promises.proofs.Furthest.{last_of}
use Rattle.live_segment.specs.declared.list.walk.WalkPlace.{WalkPlace}
use Rattle.live_segment.proofs.lemmas.List.Showing.{same_on}
use Rattle.live_segment.proofs.lemmas.List.WalkProgress.{searched, room, room_found, meets, way_on, comes_further}
use Rattle.live_segment.proofs.lemmas.Hist.NameSearch.{searched_not, searched_on, sees_searched, seat_on}
use Rattle.live_segment.proofs.lemmas.List.Indexed.{way, indexed_on, not_entered, entered, few_seen, passed_all}
use Rattle.live_segment.proofs.segment.Segment.look_on.Goals as goal

pub load_next-next-requires-clause-room : goal.load_next-next-requires-clause-room
load_next-next-requires-clause-room c =
    let was = c.loop-kind.invariant in room was.seated (way _ was.seated was.free was.indexed)

pub returns-then-next-eq-QUEUE-clause-view : goal.returns-then-next-eq-QUEUE-clause-view
returns-then-next-eq-QUEUE-clause-view c =
    let was = c.loop-kind.invariant in
    searched_on _ _ _ was.searched (searched was.seated (way _ was.seated was.free was.indexed) _ _ c.load_next-next.ensures.step)

pub returns-then-next-eq-QUEUE-clause-indexed : goal.returns-then-next-eq-QUEUE-clause-indexed
returns-then-next-eq-QUEUE-clause-indexed c =
    let was = c.loop-kind.invariant in
    indexed_on _ was.seated was.free was.indexed _ _ c.load_next-next.ensures.step c.load_next-next.new.seat.me.0 (searched_not c.load_next-next.new.seat.me.0)

pub returns-then-next-eq-QUEUE-clause-ended : goal.returns-then-next-eq-QUEUE-clause-ended
returns-then-next-eq-QUEUE-clause-ended c =
    let was = c.loop-kind.invariant in
    λ yes. passed_all _ was.seated was.free was.indexed _ _ c.load_next-next.ensures.step c.load_next-next.ensures.once c.if-next-eq-QUEUE.true

pub returns-then-next-eq-QUEUE-clause-few : goal.returns-then-next-eq-QUEUE-clause-few
returns-then-next-eq-QUEUE-clause-few c =
    let was = c.loop-kind.invariant in
    λ yes. few_seen _ was.seated was.free was.indexed _ _ c.load_next-next.ensures.step

pub key_at-key-requires : goal.key_at-key-requires
key_at-key-requires c =
    let was = c.loop-kind.invariant in record {
      meets = record {
        seated = seat_on c.load_next-next.new.seat was.seated c.load_next-next.ensures.step.same (searched was.seated (way _ was.seated was.free was.indexed) _ _ c.load_next-next.ensures.step);
        met = meets was.seated (way _ was.seated was.free was.indexed) _ _ c.load_next-next.ensures.step c.if-next-eq-QUEUE.false;
        room = room_found was.seated (way _ was.seated was.free was.indexed) _ _ c.load_next-next.ensures.step c.if-next-eq-QUEUE.false;
      };
    }

pub returns-then-not-enter-clause-view : goal.returns-then-not-enter-clause-view
returns-then-not-enter-clause-view c =
    let was = c.loop-kind.invariant in
    searched_on _ _ _ was.searched
    (searched_on _ _ _ (searched was.seated (way _ was.seated was.free was.indexed) _ _ c.load_next-next.ensures.step) (sees_searched _ _ c.key_at-key.ensures.read.view))

pub returns-then-not-enter-clause-indexed : goal.returns-then-not-enter-clause-indexed
returns-then-not-enter-clause-indexed c =
    let was = c.loop-kind.invariant in
    not_entered _ was.seated was.free was.indexed _ _ c.load_next-next.ensures.step c.if-next-eq-QUEUE.false c.key_at-key.new.seat.me.0 c.key_at-key.ensures.read.view
    c.key_at-key.ensures.looked c.key_at-key.result c.key_at-key.ensures.key c.enter.new.self c.if-not-enter.ensures

pub loop-kind-smaller : goal.loop-kind-smaller
loop-kind-smaller c =
    let was = c.loop-kind.invariant in
    let (further, most) =
    comes_further was.seated (way _ was.seated was.free was.indexed) _ _ c.load_next-next.ensures.step c.if-next-eq-QUEUE.false
    _ c.key_at-key.ensures.read.view c.load_next-next.ensures.once in
    subst (λ (n : ℕ). c.args.self.now.setting.shape.size - last_of c.key_at-key.new.seat.me.0.seen.chain n
    < c.args.self.now.setting.shape.size - last_of c.loop-kind.seat.me.0.seen.chain c.loop-kind.index.place.at)
    (sym (ap (λ (p : WalkPlace). p.at) c.if-not-enter.ensures.0)) (omega (arith, further, most))

pub loop-kind-preserved : goal.loop-kind-preserved
loop-kind-preserved c =
    let was = c.loop-kind.invariant in
    let on = searched_on _ _ _ (searched was.seated (way _ was.seated was.free was.indexed) _ _ c.load_next-next.ensures.step) (sees_searched _ _ c.key_at-key.ensures.read.view) in
    let same = same_on c.loop-kind.seat c.load_next-next.new.seat c.key_at-key.new.seat c.load_next-next.ensures.step.same c.key_at-key.ensures.read.same in record {
      seated = seat_on c.key_at-key.new.seat was.seated same on;
      same = same_on c.args.seat.now c.loop-kind.seat c.key_at-key.new.seat was.same same;
      searched = searched_on _ _ _ was.searched on;
      free = (way_on was.seated (way _ was.seated was.free was.indexed) _ _ c.load_next-next.ensures.step c.if-next-eq-QUEUE.false
          c.key_at-key.new.seat.me.0 c.key_at-key.ensures.read.view).free;
      indexed = entered _ was.seated was.free was.indexed _ _ c.load_next-next.ensures.step c.if-next-eq-QUEUE.false c.key_at-key.new.seat.me.0 c.key_at-key.ensures.read.view
          c.key_at-key.ensures.looked c.key_at-key.result c.key_at-key.ensures.key c.enter.new.self c.if-not-enter.ensures;
    }
