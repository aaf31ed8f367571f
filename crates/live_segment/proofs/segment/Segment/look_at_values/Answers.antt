use Rattle.std.proofs.Common.{ℕ, ℤ, List, [], ◌∷◌, ◌++◌, Option, subst, sym, ap, ◌∙◌, arith, vec_capacity}
use Rattle.std.proofs.lemmas.List.{append-nil}
use Rattle.segment_promises.specs.Values.{listed_of}
use Rattle.live_segment.specs.Known.{known_view}
use Rattle.live_segment.specs.List.Values.{ListsAlong}
use Rattle.live_segment.specs.List.Values.SampleCall.{OfSnapshot}
use Rattle.live_segment.proofs.lemmas.List.AlongSamples.{begins, met, may_load, along, comes_further}
use Rattle.live_segment.proofs.lemmas.List.SampleCalls.{one_looked}
use Rattle.live_segment.proofs.segment.Segment.look_at_values.Goals as goal
use Rattle.live_segment.proofs.segment.Segment.look_at_values.Goals.{in-Some, in_default}

pub loop-at-init : goal.loop-at-init
loop-at-init c = record {
  lists = (
    [],
    subst (λ (l : List (ℤ × ℕ)). ListsAlong OfSnapshot c.args.self.now (known_view c.args.histogram.now) [] c.args.first l c.args.seat.now c.args.seat.now)
        (sym c.requires.room.0) (begins OfSnapshot c.args.self.now (known_view c.args.histogram.now) c.args.first c.args.seat.now c.requires.looks c.requires.comes),
  );
  room = c.requires.room.1;
}

pub sample_at-requires-clause-met : goal.sample_at-requires-clause-met
sample_at-requires-clause-met c = met c.loop-at.invariant.lists.1 c.loop-at-test.true

pub load_next-at-requires-clause-may : goal.load_next-at-requires-clause-may
load_next-at-requires-clause-may c = may_load c.loop-at.invariant.lists.1 c.loop-at-test.true (one_looked c.loop-at.totals.items c.loop-at.invariant.lists.1.goes c.sample_at.ensures.same c.sample_at.ensures.view c.sample_at.ensures.counts)

pub loop-at-smaller : goal.loop-at-smaller
loop-at-smaller c =
    comes_further c.loop-at.invariant.lists.1 c.loop-at-test.true (one_looked c.loop-at.totals.items c.loop-at.invariant.lists.1.goes c.sample_at.ensures.same c.sample_at.ensures.view c.sample_at.ensures.counts)
    c.load_next-at.ensures.step c.load_next-at.ensures.once

pub loop-at-preserved : goal.loop-at-preserved
loop-at-preserved c =
    let passed : List ℕ = c.loop-at.invariant.lists.0 ++ c.loop-at.at ∷ [] in
    let Along : List (ℤ × ℕ) → Type 0 =
    λ listed. ListsAlong OfSnapshot c.args.self.now (known_view c.args.histogram.now) passed c.load_next-at.result listed c.args.seat.now c.load_next-at.new.seat in
    let all : Along (c.loop-at.totals.items ++ listed_of c.sample_at.result) =
    along c.loop-at.invariant.lists.1 c.loop-at-test.true (one_looked c.loop-at.totals.items c.loop-at.invariant.lists.1.goes c.sample_at.ensures.same c.sample_at.ensures.view c.sample_at.ensures.counts)
    c.load_next-at.ensures.step c.load_next-at.ensures.once in
    let enough = c.loop-at.invariant.room in
    elim c.match-sample_at.branch [
      | in-Some w ↦ record {
        lists = (
          passed,
          subst Along (ap (λ (r : Option (ℤ × ℕ)). c.loop-at.totals.items ++ listed_of r) w.in-Some.is ∙ sym (ap (λ v. v.items) w.totals-is ∙ w.push_reserved.ensures.items)) all,
        );
        room = let stays = w.push_reserved.ensures.capacity in let same = ap vec_capacity w.totals-is in omega (arith, stays, same, enough);
      }
      | in_default w ↦ record {
        lists = (
          passed,
          subst Along (ap (λ (r : Option (ℤ × ℕ)). c.loop-at.totals.items ++ listed_of r) w.in_default.is
              ∙ (append-nil c.loop-at.totals.items ∙ sym (ap (λ v. v.items) w.totals-is))) all,
        );
        room = let same = ap vec_capacity w.totals-is in omega (arith, same, enough);
      }
    ]
