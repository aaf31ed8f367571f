use Rattle.std.proofs.Common.{rules, ◌≡◌, ◌+◌, ◌/◌, ◌<◌, length, slice_index, subst, arith}
use Rattle.std.proofs.lemmas.List.{get_or_read}
use Rattle.bucket_ranges.specs.Ranges.{IsAscending}
use Rattle.bucket_ranges.proofs.Buckets.{one_bucket, halving}
use Rattle.bucket_ranges.proofs.ranges.Ranges.bucket_of_clamped.Goals as goal

-- The boundaries ascend, so the value lies in no other bucket.
pub returns-clause-only : goal.returns-clause-only
returns-clause-only c = λ other is.
    one_bucket c.args.self.now _ other c.loop-count.low (subst IsAscending c.self.view_is c.self.invariant.ascending) is (search rules)

-- Half of the buckets are left.
pub loop-count-preserved : goal.loop-count-preserved
loop-count-preserved c =
    let inside = c.loop-count.invariant.within in
    let within : c.loop-count.low + c.loop-count.count / 2 < length c.self.inside.boundaries.items = omega (arith, inside, c.loop-count-test.true) in
    let middle : c.index.result.now ≡ slice_index c.self.inside.boundaries.items (c.loop-count.low + c.loop-count.count / 2) =
    get_or_read c.self.inside.boundaries.items (c.loop-count.low + c.loop-count.count / 2) c.index.result.now within c.index.ensures 0 in
    halving c.self.inside.boundaries.items c.args.value c.loop-count.low c.loop-count.count c.half_where_reached-low.result
    c.self.invariant.ascending c.loop-count-test.true c.loop-count.invariant
    (rw middle at c.half_where_reached-low.ensures)
