use Rattle.std.proofs.Common.{◌≡◌, ℕ, List, arith, sym, ap, subst, ◌∙◌, ◌++◌, ◌∷◌, [], length, length-append}
use Rattle.std.specs.Prelude.{take}
use Rattle.std.proofs.lemmas.List.{append-nil, append_assoc, length_push, length-take-le}
use Rattle.segment_image.specs.Shape.{Dimensions}
use Rattle.segment_machine.specs.declared.actor.Actor.{Actor}
use Rattle.live_segment.specs.Holders.{opened_with}
use Rattle.live_segment.specs.Standing.{HasList, SeesNext}
use Rattle.live_segment.proofs.lemmas.List.Fronts.{walk_ends}
use Rattle.live_segment.proofs.lemmas.List.Walked.{IsWalking, begins, may_load, room, same_still, ended, walking, walked_on, few}
use Rattle.live_segment.proofs.segment.Segment.walk.Goals as goal

pub loop-next-init : goal.loop-next-init
loop-next-init c =
    let front = take c.args.place.now.given c.args.seat.now.me.0.seen.chain in
    let same : front ≡ front ++ c.args.records.now.items = sym (ap (λ (l : List ℕ). front ++ l) c.requires.room.0 ∙ append-nil front) in record {
      walking = subst (λ (l : List ℕ). IsWalking c.args.seat.now c.args.seat.now l c.args.place.now.at) same
          (begins c.args.self.now.setting.shape.size c.args.seat.now c.args.place.now c.requires.free (ap (λ (d : Dimensions). d.size) c.requires.seat.of.shape) c.requires.come);
      given = sym (length-take-le c.args.place.now.given c.args.seat.now.me.0.seen.chain c.requires.come.few) ∙ ap length same;
      room = c.requires.room.1;
    }

pub load_next-next-requires-clause-may : goal.load_next-next-requires-clause-may
load_next-next-requires-clause-may c =
    may_load c.requires.seat c.loop-next.invariant.walking

pub load_next-next-requires-clause-room : goal.load_next-next-requires-clause-room
load_next-next-requires-clause-room c =
    room c.requires.seat c.loop-next.invariant.walking

pub returns-then-next-eq-QUEUE-clause-same : goal.returns-then-next-eq-QUEUE-clause-same
returns-then-next-eq-QUEUE-clause-same c =
    same_still c.requires.seat c.loop-next.invariant.walking _ _ c.load_next-next.ensures.step

pub returns-then-next-eq-QUEUE-clause-walked : goal.returns-then-next-eq-QUEUE-clause-walked
returns-then-next-eq-QUEUE-clause-walked c =
    walked_on c.args.self.now.setting.shape.size c.args.seat.now c.args.place.now c.loop-next.place c.loop-next.records.items c.loop-next.seat c.load_next-next.new.seat
    (ap (λ (d : Dimensions). d.size) c.requires.seat.of.shape) c.requires.come c.loop-next.invariant.walking c.loop-next.invariant.given
    (ended c.requires.seat c.loop-next.invariant.walking _ _ c.load_next-next.ensures.step
    c.load_next-next.ensures.once c.if-next-eq-QUEUE.true)

pub returns-then-next-eq-QUEUE-clause-all : goal.returns-then-next-eq-QUEUE-clause-all
returns-then-next-eq-QUEUE-clause-all c =
    let list = take c.args.place.now.given c.args.seat.now.me.0.seen.chain ++ c.loop-next.records.items in
    let new = c.load_next-next.new.seat in
    let given = opened_with c.args.self.now in
    let walked = ended c.requires.seat c.loop-next.invariant.walking _ _ c.load_next-next.ensures.step c.load_next-next.ensures.once c.if-next-eq-QUEUE.true in
    let sees = subst (λ (n : ℕ). SeesNext given new.id c.loop-next.place.at n new.me.0) c.if-next-eq-QUEUE.true c.load_next-next.ensures.sees in
    subst (HasList given new.id new.me.0) (sym (ap (λ (a : Actor). a.seen.chain) walked.view))
    (walk_ends given new.id new.me.0 c.loop-next.place.at c.args.seat.now.me.0 list sees walked c.loop-next.invariant.walking.stands)

pub push_reserved-requires : goal.push_reserved-requires
push_reserved-requires c =
    let most = few c.requires.seat c.loop-next.invariant.walking _ _
    c.load_next-next.ensures.step c.if-next-eq-QUEUE.false in
    let enough = c.loop-next.invariant.room in
    let long = length-append (take c.args.place.now.given c.args.seat.now.me.0.seen.chain) c.loop-next.records.items in omega (arith, most, enough, long)

pub loop-next-smaller : goal.loop-next-smaller
loop-next-smaller c =
    let most = few c.requires.seat c.loop-next.invariant.walking _ _
    c.load_next-next.ensures.step c.if-next-eq-QUEUE.false in
    let long = length-append (take c.args.place.now.given c.args.seat.now.me.0.seen.chain) c.loop-next.records.items in
    let longer = ap length c.push_reserved.ensures.items ∙ length_push c.loop-next.records.items c.load_next-next.result in
    omega (arith, most, longer, long)

pub loop-next-preserved : goal.loop-next-preserved
loop-next-preserved c =
    let front = take c.args.place.now.given c.args.seat.now.me.0.seen.chain in
    let longer : (front ++ c.loop-next.records.items) ++ c.load_next-next.result ∷ [] ≡ front ++ c.push_reserved.new.self.items =
    append_assoc front c.loop-next.records.items (c.load_next-next.result ∷ []) ∙ ap (λ (l : List ℕ). front ++ l) (sym c.push_reserved.ensures.items) in record {
      walking = subst (λ (l : List ℕ). IsWalking c.args.seat.now c.load_next-next.new.seat l c.load_next-next.result) longer
          (walking c.requires.seat c.loop-next.invariant.walking _ _
          c.load_next-next.ensures.step c.if-next-eq-QUEUE.false);
      given =
          let one = length_push (front ++ c.loop-next.records.items) c.load_next-next.result in
          let all = ap length longer in
          let was = c.loop-next.invariant.given in omega (arith, one, all, was);
      room = let stays = c.push_reserved.ensures.capacity in let enough = c.loop-next.invariant.room in omega (arith, stays, enough);
    }
