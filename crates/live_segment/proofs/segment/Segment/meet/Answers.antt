use Rattle.std.proofs.Common.{◌≢◌, ◌+◌, ◌≤◌, ◌∷◌, ◌++◌, ℕ, List, [], refl, sym, subst, ◌∙◌, arith}
use Rattle.std.specs.List.{Contains}
use Rattle.std.proofs.lemmas.List.Elements.{All-nil, All-push, All-contains}
use Rattle.segment_image.specs.Shape.{Dimensions}
use Rattle.segment_promises.proofs.Growing.{grows_not}
use Rattle.live_segment.proofs.lemmas.List.Ends.{all_on}
use Rattle.live_segment.proofs.lemmas.List.Showing.{same_on, sees_not}
use Rattle.live_segment.proofs.lemmas.List.WalkProgress.{may_follow, room, searched, found_end, whole, chain_still, way_still, meets, room_found, way_on, comes_further}
use Rattle.live_segment.proofs.lemmas.Hist.NameSearch.{searched_not, searched_on, seat_on}
use Rattle.live_segment.proofs.segment.Segment.meet.Goals as goal

pub loop-reference-init : goal.loop-reference-init
loop-reference-init c =
    let me = c.args.self.now in
    let from = me.shaped.wide in
    let to = me.shaped.one in record {
      seated = c.requires.seat;
      same = (refl, refl, refl);
      searched = searched_not c.args.seat.now.me.0;
      given = [];
      way = record {
        free = c.requires.free;
        front = (c.args.seat.now.me.0.seen.chain, refl);
        stands = refl;
        within = subst (λ (d : Dimensions). 12 + 5 ≤ d.size) (sym c.requires.seat.of.shape) (omega (arith, from, to));
      };
      others = All-nil _;
    }

pub load_next-next-requires-clause-may : goal.load_next-next-requires-clause-may
load_next-next-requires-clause-may c =
    let was = c.loop-reference.invariant in may_follow was.seated was.way

pub load_next-next-requires-clause-room : goal.load_next-next-requires-clause-room
load_next-next-requires-clause-room c =
    let was = c.loop-reference.invariant in room was.seated was.way

pub returns-then-next-eq-QUEUE-clause-same : goal.returns-then-next-eq-QUEUE-clause-same
returns-then-next-eq-QUEUE-clause-same c =
    let was = c.loop-reference.invariant in
    same_on c.args.seat.now c.loop-reference.seat c.load_next-next.new.seat was.same c.load_next-next.ensures.step.same

pub returns-then-next-eq-QUEUE-clause-view : goal.returns-then-next-eq-QUEUE-clause-view
returns-then-next-eq-QUEUE-clause-view c =
    let was = c.loop-reference.invariant in
    searched_on _ _ _ was.searched (searched was.seated was.way _ _ c.load_next-next.ensures.step)

pub returns-then-next-eq-QUEUE-clause-free : goal.returns-then-next-eq-QUEUE-clause-free
returns-then-next-eq-QUEUE-clause-free c =
    let was = c.loop-reference.invariant in
    (way_still was.seated was.way _ _ c.load_next-next.ensures.step c.load_next-next.ensures.once c.if-next-eq-QUEUE.true).free

pub returns-then-next-eq-QUEUE-clause-met : goal.returns-then-next-eq-QUEUE-clause-met
returns-then-next-eq-QUEUE-clause-met c =
    let was = c.loop-reference.invariant in
    let step = c.load_next-next.ensures.step in
    let new = c.load_next-next.new.seat.me.0.seen in
    let same = chain_still was.seated was.way _ _ step c.load_next-next.ensures.once c.if-next-eq-QUEUE.true
    ∙ sym (whole was.seated was.way _ _ step c.load_next-next.ensures.once c.if-next-eq-QUEUE.true) in (
      λ has. All-contains (λ (at : ℕ). at ≢ c.args.reference) was.given c.args.reference was.others (subst (λ (l : List ℕ). Contains l c.args.reference) same has) refl,
      all_on c.args.seat.now.me.0.seen c.loop-reference.seat.me.0.seen new new was.searched.ends (searched was.seated was.way _ _ step).ends (grows_not new.ends) refl
          (found_end was.seated was.way _ _ step c.load_next-next.ensures.once c.if-next-eq-QUEUE.true),
    )

pub returns-then-next-reference-clause-same : goal.returns-then-next-reference-clause-same
returns-then-next-reference-clause-same c =
    let was = c.loop-reference.invariant in
    same_on c.args.seat.now c.loop-reference.seat c.load_next-next.new.seat was.same c.load_next-next.ensures.step.same

pub returns-then-next-reference-clause-view : goal.returns-then-next-reference-clause-view
returns-then-next-reference-clause-view c =
    let was = c.loop-reference.invariant in
    searched_on _ _ _ was.searched (searched was.seated was.way _ _ c.load_next-next.ensures.step)

pub returns-then-next-reference-clause-free : goal.returns-then-next-reference-clause-free
returns-then-next-reference-clause-free c =
    let was = c.loop-reference.invariant in
    (meets was.seated was.way _ _ c.load_next-next.ensures.step c.if-next-eq-QUEUE.false).0

pub returns-then-next-reference-clause-met : goal.returns-then-next-reference-clause-met
returns-then-next-reference-clause-met c =
    let was = c.loop-reference.invariant in
    let step = c.load_next-next.ensures.step in
    let miss = c.if-next-eq-QUEUE.false in
    let on = seat_on c.load_next-next.new.seat was.seated step.same (searched was.seated was.way _ _ step) in
    subst (λ (at : ℕ). Contains c.load_next-next.new.seat.me.0.seen.chain at × (at + 5 ≤ c.load_next-next.new.seat.me.0.segment.shape.size)) c.if-next-reference.true (
      (meets was.seated was.way _ _ step miss).1,
      subst (λ (d : Dimensions). c.load_next-next.result + 5 ≤ d.size) (sym on.of.shape) (room_found was.seated was.way _ _ step miss),
    )

pub loop-reference-smaller : goal.loop-reference-smaller
loop-reference-smaller c =
    let was = c.loop-reference.invariant in
    let (further, most) =
    comes_further was.seated was.way _ _ c.load_next-next.ensures.step c.if-next-eq-QUEUE.false _ (sees_not c.load_next-next.new.seat.me.0) c.load_next-next.ensures.once in
    omega (arith, further, most)

pub loop-reference-preserved : goal.loop-reference-preserved
loop-reference-preserved c =
    let was = c.loop-reference.invariant in
    let step = c.load_next-next.ensures.step in
    let on = searched was.seated was.way _ _ step in record {
      seated = seat_on c.load_next-next.new.seat was.seated step.same on;
      same = same_on c.args.seat.now c.loop-reference.seat c.load_next-next.new.seat was.same step.same;
      searched = searched_on _ _ _ was.searched on;
      given = was.given ++ c.load_next-next.result ∷ [];
      way = way_on was.seated was.way _ _ step c.if-next-eq-QUEUE.false _ (sees_not c.load_next-next.new.seat.me.0);
      others = All-push (λ (at : ℕ). at ≢ c.args.reference) was.given c.load_next-next.result was.others c.if-next-reference.false;
    }
