use Rattle.std.proofs.Common.{ℕ, ℤ, List, [], ◌∷◌, ◌++◌, Option, subst, sym, ap, ◌∙◌, arith, vec_capacity}
use Rattle.std.proofs.lemmas.List.{append-nil}
use Rattle.segment_promises.specs.Values.{listed_of}
use Rattle.live_segment.specs.Known.{known_view}
use Rattle.live_segment.specs.List.Values.{ListsAlong}
use Rattle.live_segment.specs.List.Values.SampleCall.{OfDelta}
use Rattle.live_segment.proofs.lemmas.List.AlongSamples.{begins, met, may_load, along, comes_further}
use Rattle.live_segment.proofs.lemmas.List.SampleCalls.{one_taken}
use Rattle.live_segment.proofs.segment.Segment.take_values.Goals as goal
use Rattle.live_segment.proofs.segment.Segment.take_values.Goals.{in-Some, in_default}

pub loop-at-init : goal.loop-at-init
loop-at-init c = record {
  lists = (
    [],
    subst (λ (l : List (ℤ × ℕ)). ListsAlong OfDelta c.args.self.now (known_view c.args.histogram.now) [] c.args.first l c.args.seat.now c.args.seat.now)
        (sym c.requires.room.0) (begins OfDelta c.args.self.now (known_view c.args.histogram.now) c.args.first c.args.seat.now c.requires.takes c.requires.comes),
  );
  room = c.requires.room.1;
}

pub take_value-requires-clause-met : goal.take_value-requires-clause-met
take_value-requires-clause-met c = met c.loop-at.invariant.lists.1 c.loop-at-test.true

pub load_next-at-requires-clause-may : goal.load_next-at-requires-clause-may
load_next-at-requires-clause-may c = may_load c.loop-at.invariant.lists.1 c.loop-at-test.true (one_taken c.loop-at.taken.items c.take_value.ensures.same c.take_value.ensures.takes)

pub loop-at-smaller : goal.loop-at-smaller
loop-at-smaller c =
    comes_further c.loop-at.invariant.lists.1 c.loop-at-test.true (one_taken c.loop-at.taken.items c.take_value.ensures.same c.take_value.ensures.takes)
    c.load_next-at.ensures.step c.load_next-at.ensures.once

pub loop-at-preserved : goal.loop-at-preserved
loop-at-preserved c =
    let passed : List ℕ = c.loop-at.invariant.lists.0 ++ c.loop-at.at ∷ [] in
    let Along : List (ℤ × ℕ) → Type 0 =
    λ listed. ListsAlong OfDelta c.args.self.now (known_view c.args.histogram.now) passed c.load_next-at.result listed c.args.seat.now c.load_next-at.new.seat in
    let all : Along (c.loop-at.taken.items ++ listed_of c.take_value.result) =
    along c.loop-at.invariant.lists.1 c.loop-at-test.true (one_taken c.loop-at.taken.items c.take_value.ensures.same c.take_value.ensures.takes)
    c.load_next-at.ensures.step c.load_next-at.ensures.once in
    let enough = c.loop-at.invariant.room in
    elim c.match-take_value.branch [
      | in-Some w ↦ record {
        lists = (
          passed,
          subst Along (ap (λ (r : Option (ℤ × ℕ)). c.loop-at.taken.items ++ listed_of r) w.in-Some.is ∙ sym (ap (λ v. v.items) w.taken-is ∙ w.push_reserved.ensures.items)) all,
        );
        room = let stays = w.push_reserved.ensures.capacity in let same = ap vec_capacity w.taken-is in omega (arith, stays, same, enough);
      }
      | in_default w ↦ record {
        lists = (
          passed,
          subst Along (ap (λ (r : Option (ℤ × ℕ)). c.loop-at.taken.items ++ listed_of r) w.in_default.is
              ∙ (append-nil c.loop-at.taken.items ∙ sym (ap (λ v. v.items) w.taken-is))) all,
        );
        room = let same = ap vec_capacity w.taken-is in omega (arith, same, enough);
      }
    ]
