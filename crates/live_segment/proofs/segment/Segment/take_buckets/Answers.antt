use Rattle.std.proofs.Common.{rules, FitsSigned, w32, ℕ, ℤ, pos, List, [], ◌∷◌, ◌++◌, ◌+◌, length, slice_index, vec_capacity, sym, ap, ◌∙◌, subst, arith}
use Rattle.std.proofs.lemmas.Int.{to_z-of_z}
use Rattle.live_segment.specs.Known.{known_view}
use Rattle.live_segment.proofs.lemmas.Delta.AllBuckets.{HasDrawn, draws_first, draws_some, draws_none}
use Rattle.segment_promises.proofs.Calls.SpecBuckets.{split}
use Rattle.live_segment.proofs.segment.Segment.take_buckets.Goals as goal
use Rattle.live_segment.proofs.segment.Segment.take_buckets.Goals.{then-units-gt0, else-units-gt0}

pub loop-bucket-init : goal.loop-bucket-init
loop-bucket-init c = record {
  drawn = subst (λ (l : List (ℤ × ℕ)). HasDrawn c.args.self.now (known_view c.args.histogram.now) c.args.mounted.now c.args.seat.now c.args.seat.now 0 l)
      (sym c.requires.room.0) (draws_first c.args.self.now (known_view c.args.histogram.now) c.args.mounted.now c.args.seat.now c.requires.takes);
  room = c.requires.room.1;
}

pub take_bucket-units-requires-clause-bucket : goal.take_bucket-units-requires-clause-bucket
take_bucket-units-requires-clause-bucket c =
    let count = (split c.args.histogram.now.spec c.requires.right.lawful c.requires.bucketed).count in
    let long = ap length c.requires.right.ranges in
    let end = c.len-bucket-end.ensures in
    let test = c.loop-bucket-test.true in
    omega (arith, count, long, end, test)

pub take_bucket-units-requires-clause-buckets : goal.take_bucket-units-requires-clause-buckets
take_bucket-units-requires-clause-buckets c =
    ap length c.requires.right.ranges ∙ (split c.args.histogram.now.spec c.requires.right.lawful c.requires.bucketed).count

pub take_bucket-units-requires-clause-takes : goal.take_bucket-units-requires-clause-takes
take_bucket-units-requires-clause-takes c = c.loop-bucket.invariant.drawn.stands

pub push_reserved-requires : goal.push_reserved-requires
push_reserved-requires c =
    let count = (split c.args.histogram.now.spec c.requires.right.lawful c.requires.bucketed).count in
    let long = ap length c.requires.right.ranges in
    let end = c.len-bucket-end.ensures in
    let test = c.loop-bucket-test.true in
    let few = c.loop-bucket.invariant.drawn.few in
    let enough = c.loop-bucket.invariant.room in
    omega (arith, count, long, end, test, few, enough)

pub loop-bucket-preserved : goal.loop-bucket-preserved
loop-bucket-preserved c =
    let known = known_view c.args.histogram.now in
    let was = c.loop-bucket.invariant.drawn in
    let step = c.take_bucket-units.ensures in
    let IsDrawn : List (ℤ × ℕ) → Type 0 =
    HasDrawn c.args.self.now known c.args.mounted.now c.args.seat.now c.take_bucket-units.new.seat (c.loop-bucket.bucket + 1) in
    let count = (split known.spec c.requires.right.lawful c.requires.bucketed).count in
    let long = ap length c.requires.right.ranges in
    let end = c.len-bucket-end.ensures in
    let test = c.loop-bucket-test.true in
    elim c.if-units-gt0.branch [
      | then-units-gt0 w ↦
          let fits : FitsSigned w32 w.low.result = search rules in
          let key = to_z-of_z w32 w.low.result fits ∙ (w.low.ensures.value ∙ ap (λ (l : List ℕ). pos (slice_index l c.loop-bucket.bucket)) c.requires.right.ranges) in record {
            drawn = subst IsDrawn
                (sym (ap (λ v. v.items) w.taken-is ∙ (w.push_reserved.ensures.items ∙ ap (λ (k : ℤ). c.loop-bucket.taken.items ++ (k, c.take_bucket-units.result) ∷ []) key)))
                (draws_some c.args.self.now known c.args.mounted.now c.args.seat.now c.loop-bucket.seat c.loop-bucket.bucket c.loop-bucket.taken.items
                c.requires.right.lawful c.requires.bucketed was c.take_bucket-units.new.seat c.take_bucket-units.result step.same step.stands step.took step.on
                (omega (arith, count, long, end, test)) w.if-units-gt0.true);
            room = let stays = w.push_reserved.ensures.capacity in let same = ap vec_capacity w.taken-is in let enough = c.loop-bucket.invariant.room in
                omega (arith, stays, same, enough);
          }
      | else-units-gt0 w ↦ record {
        drawn = subst IsDrawn (sym (ap (λ v. v.items) w.taken-is))
            (draws_none c.args.self.now known c.args.mounted.now c.args.seat.now c.loop-bucket.seat c.loop-bucket.bucket c.loop-bucket.taken.items
            c.requires.right.lawful c.requires.bucketed was c.take_bucket-units.new.seat c.take_bucket-units.result step.same step.stands step.took step.on
            w.if-units-gt0.false);
        room = let same = ap vec_capacity w.taken-is in let enough = c.loop-bucket.invariant.room in omega (arith, same, enough);
      }
    ]

pub returns-clause-same : goal.returns-clause-same
returns-clause-same c = c.loop-bucket.invariant.drawn.same

pub returns-clause-stands : goal.returns-clause-stands
returns-clause-stands c = c.loop-bucket.invariant.drawn.stands

pub returns-clause-took : goal.returns-clause-took
returns-clause-took c = λ bucket below.
    let count = (split c.args.histogram.now.spec c.requires.right.lawful c.requires.bucketed).count in
    let long = ap length c.requires.right.ranges in
    let end = c.len-bucket-end.ensures in
    let test = c.loop-bucket-test.false in
    c.loop-bucket.invariant.drawn.took bucket (omega (arith, count, long, end, test, below))

pub returns-clause-on : goal.returns-clause-on
returns-clause-on c = c.loop-bucket.invariant.drawn.on

pub returns-clause-units : goal.returns-clause-units
returns-clause-units c = c.loop-bucket.invariant.drawn.units

pub returns-clause-few : goal.returns-clause-few
returns-clause-few c =
    let count = (split c.args.histogram.now.spec c.requires.right.lawful c.requires.bucketed).count in
    let long = ap length c.requires.right.ranges in
    let end = c.len-bucket-end.ensures in
    let few = c.loop-bucket.invariant.drawn.few in
    let most = c.loop-bucket.auto.bucket-end in
    omega (arith, count, long, end, few, most)
