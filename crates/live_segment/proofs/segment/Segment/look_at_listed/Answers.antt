use Rattle.std.proofs.Common.{◌≡◌, ◌+◌, ℕ, ℤ, List, [], ◌++◌, Option, length, subst, sym, ap, ◌∙◌, arith, vec_capacity}
use Rattle.std.specs.Prelude.{take}
use Rattle.std.proofs.Math.Seq.{take-length}
use Rattle.std.proofs.lemmas.List.{append-nil}
use Rattle.segment_promises.specs.Values.{listed_of}
use Rattle.live_segment.specs.Known.{known_view}
use Rattle.live_segment.specs.List.IndexedValues.{ListsIndexed}
use Rattle.live_segment.specs.List.Values.SampleCall.{OfSnapshot}
use Rattle.live_segment.proofs.lemmas.List.SampleCalls.{one_looked}
use Rattle.live_segment.proofs.lemmas.List.ThroughOwn.{begins, lists_one, met, room, room_for_one}
use Rattle.live_segment.proofs.segment.Segment.look_at_listed.Goals as goal
use Rattle.live_segment.proofs.segment.Segment.look_at_listed.Goals.{in-Some, in_default}

pub loop-at-init : goal.loop-at-init
loop-at-init c = record {
  lists = subst (λ (l : List (ℤ × ℕ)). ListsIndexed OfSnapshot c.args.self.now (known_view c.args.histogram.now) [] l c.args.seat.now c.args.seat.now)
      (sym c.requires.room.0) (begins OfSnapshot c.args.self.now (known_view c.args.histogram.now) c.args.seat.now c.requires.looks);
  room = c.requires.room.1;
}

pub sample_at-requires-clause-looks : goal.sample_at-requires-clause-looks
sample_at-requires-clause-looks c = c.loop-at.invariant.lists.goes

pub sample_at-requires-clause-met : goal.sample_at-requires-clause-met
sample_at-requires-clause-met c = met c.requires.right c.requires.own c.loop-at.invariant.lists (omega (arith, c.loop-at-test.true, c.loop-at.auto.at-index-end))

pub sample_at-requires-clause-room : goal.sample_at-requires-clause-room
sample_at-requires-clause-room c = room c.requires.right c.requires.own c.loop-at.invariant.lists (omega (arith, c.loop-at-test.true, c.loop-at.auto.at-index-end))

pub push_reserved-requires : goal.push_reserved-requires
push_reserved-requires c =
    let few = room_for_one c.requires.right c.requires.own c.loop-at.invariant.lists (omega (arith, c.loop-at-test.true, c.loop-at.auto.at-index-end)) in
    let enough = c.loop-at.invariant.room in omega (arith, few, enough)

pub loop-at-preserved : goal.loop-at-preserved
loop-at-preserved c =
    let Listed : List (ℤ × ℕ) → Type 0 =
    λ listed. ListsIndexed OfSnapshot c.args.self.now (known_view c.args.histogram.now) (take (c.loop-at.at-index + 1) c.args.samples.now) listed c.args.seat.now c.sample_at.new.seat in
    let all : Listed (c.loop-at.totals.items ++ listed_of c.sample_at.result) =
    lists_one c.requires.right c.requires.own c.loop-at.invariant.lists (omega (arith, c.loop-at-test.true, c.loop-at.auto.at-index-end))
    (one_looked c.loop-at.totals.items c.loop-at.invariant.lists.goes c.sample_at.ensures.same c.sample_at.ensures.view c.sample_at.ensures.counts)
    c.sample_at.ensures.behind c.sample_at.ensures.once in
    let enough = c.loop-at.invariant.room in
    elim c.match-sample_at.branch [
      | in-Some w ↦ record {
        lists = subst Listed (ap (λ (r : Option (ℤ × ℕ)). c.loop-at.totals.items ++ listed_of r) w.in-Some.is ∙ sym (ap (λ v. v.items) w.totals-is ∙ w.push_reserved.ensures.items)) all;
        room = let stays = w.push_reserved.ensures.capacity in let same = ap vec_capacity w.totals-is in omega (arith, stays, same, enough);
      }
      | in_default w ↦ record {
        lists = subst Listed (ap (λ (r : Option (ℤ × ℕ)). c.loop-at.totals.items ++ listed_of r) w.in_default.is
            ∙ (append-nil c.loop-at.totals.items ∙ sym (ap (λ v. v.items) w.totals-is))) all;
        room = let same = ap vec_capacity w.totals-is in omega (arith, same, enough);
      }
    ]

pub returns : goal.returns
returns c =
    let samples = c.args.samples.now in
    let all : c.loop-at.at-index ≡ length samples = omega (arith, c.loop-at-test.false, c.loop-at.auto.at-index-end) in
    subst (λ (l : List ℕ). ListsIndexed OfSnapshot c.args.self.now (known_view c.args.histogram.now) l c.loop-at.totals.items c.args.seat.now c.loop-at.seat)
    (ap (λ (n : ℕ). take n samples) all ∙ take-length samples) c.loop-at.invariant.lists
