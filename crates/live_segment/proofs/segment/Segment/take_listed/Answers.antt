use Rattle.std.proofs.Common.{◌≡◌, ◌+◌, ℕ, ℤ, List, [], ◌++◌, Option, length, subst, sym, ap, ◌∙◌, arith, vec_capacity}
use Rattle.std.specs.Prelude.{take}
use Rattle.std.proofs.Math.Seq.{take-length}
use Rattle.std.proofs.lemmas.List.{append-nil}
use Rattle.segment_promises.specs.Values.{listed_of}
use Rattle.live_segment.specs.Known.{known_view}
use Rattle.live_segment.specs.List.IndexedValues.{ListsIndexed}
use Rattle.live_segment.specs.List.Values.SampleCall.{OfDelta}
use Rattle.live_segment.proofs.lemmas.List.SampleCalls.{one_taken}
use Rattle.live_segment.proofs.lemmas.List.ThroughOwn.{begins, lists_one, met, room, room_for_one}
use Rattle.live_segment.proofs.segment.Segment.take_listed.Goals as goal
use Rattle.live_segment.proofs.segment.Segment.take_listed.Goals.{in-Some, in_default}

pub loop-at-init : goal.loop-at-init
loop-at-init c = record {
  lists = subst (λ (l : List (ℤ × ℕ)). ListsIndexed OfDelta c.args.self.now (known_view c.args.histogram.now) [] l c.args.seat.now c.args.seat.now)
      (sym c.requires.room.0) (begins OfDelta c.args.self.now (known_view c.args.histogram.now) c.args.seat.now c.requires.takes);
  room = c.requires.room.1;
}

pub take_value-requires-clause-takes : goal.take_value-requires-clause-takes
take_value-requires-clause-takes c = c.loop-at.invariant.lists.goes

pub take_value-requires-clause-met : goal.take_value-requires-clause-met
take_value-requires-clause-met c = met c.requires.right c.requires.own c.loop-at.invariant.lists (omega (arith, c.loop-at-test.true, c.loop-at.auto.at-index-end))

pub take_value-requires-clause-room : goal.take_value-requires-clause-room
take_value-requires-clause-room c = room c.requires.right c.requires.own c.loop-at.invariant.lists (omega (arith, c.loop-at-test.true, c.loop-at.auto.at-index-end))

pub push_reserved-requires : goal.push_reserved-requires
push_reserved-requires c =
    let few = room_for_one c.requires.right c.requires.own c.loop-at.invariant.lists (omega (arith, c.loop-at-test.true, c.loop-at.auto.at-index-end)) in
    let enough = c.loop-at.invariant.room in omega (arith, few, enough)

pub loop-at-preserved : goal.loop-at-preserved
loop-at-preserved c =
    let Listed : List (ℤ × ℕ) → Type 0 =
    λ listed. ListsIndexed OfDelta c.args.self.now (known_view c.args.histogram.now) (take (c.loop-at.at-index + 1) c.args.samples.now) listed c.args.seat.now c.take_value.new.seat in
    let all : Listed (c.loop-at.taken.items ++ listed_of c.take_value.result) =
    lists_one c.requires.right c.requires.own c.loop-at.invariant.lists (omega (arith, c.loop-at-test.true, c.loop-at.auto.at-index-end))
    (one_taken c.loop-at.taken.items c.take_value.ensures.same c.take_value.ensures.takes)
    c.take_value.ensures.behind c.take_value.ensures.once in
    let enough = c.loop-at.invariant.room in
    elim c.match-take_value.branch [
      | in-Some w ↦ record {
        lists = subst Listed (ap (λ (r : Option (ℤ × ℕ)). c.loop-at.taken.items ++ listed_of r) w.in-Some.is ∙ sym (ap (λ v. v.items) w.taken-is ∙ w.push_reserved.ensures.items)) all;
        room = let stays = w.push_reserved.ensures.capacity in let same = ap vec_capacity w.taken-is in omega (arith, stays, same, enough);
      }
      | in_default w ↦ record {
        lists = subst Listed (ap (λ (r : Option (ℤ × ℕ)). c.loop-at.taken.items ++ listed_of r) w.in_default.is
            ∙ (append-nil c.loop-at.taken.items ∙ sym (ap (λ v. v.items) w.taken-is))) all;
        room = let same = ap vec_capacity w.taken-is in omega (arith, same, enough);
      }
    ]

pub returns : goal.returns
returns c =
    let samples = c.args.samples.now in
    let all : c.loop-at.at-index ≡ length samples = omega (arith, c.loop-at-test.false, c.loop-at.auto.at-index-end) in
    subst (λ (l : List ℕ). ListsIndexed OfDelta c.args.self.now (known_view c.args.histogram.now) l c.loop-at.taken.items c.args.seat.now c.loop-at.seat)
    (ap (λ (n : ℕ). take n samples) all ∙ take-length samples) c.loop-at.invariant.lists
