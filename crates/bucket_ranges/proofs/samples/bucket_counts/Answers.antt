use Rattle.std.proofs.Common.{rules, ◌≡◌, ◌∙◌, ◌-◌, ℕ, ℤ, pos, get_or, take, length, ap, arith, w32, FitsSigned, to_z, of_z}
use Rattle.std.proofs.lemmas.Int.{to_z-of_z}
use Rattle.bucket_ranges.proofs.Sums.{length-bucket_counts, bucket_counts-step, bucket_counts-bound}
use Rattle.bucket_ranges.proofs.samples.bucket_counts.Goals as goal

pub index_mut-requires : goal.index_mut-requires
index_mut-requires c =
    let long : length c.loop-value.counts.items ≡ length c.args.ranges.now - 1 =
    ap length c.loop-value.invariant ∙ length-bucket_counts c.args.ranges.now (take c.loop-value.value-index c.args.samples.now) in
    omega (arith, long, c.bucket-bucket.ensures.found.within)

pub overflow_add-index_mut : goal.overflow_add-index_mut
overflow_add-index_mut c =
    let bound = bucket_counts-bound c.loop-value.counts.items c.args.ranges.now c.args.samples.now c.loop-value.value-index
    c.bucket-bucket.result (pos 0, 0) c.index_mut.result.now 4294967295 c.loop-value-test.true c.requires.few
    c.bucket-bucket.ensures.found.within c.loop-value.invariant c.index_mut.ensures.value in
    omega (arith, bound, c.from.ensures)

-- One sample more, in its bucket.
pub loop-value-preserved : goal.loop-value-preserved
loop-value-preserved c =
    let sample : ℤ × ℕ = get_or c.args.samples.now c.loop-value.value-index (pos 0, 0) in
    let value : FitsSigned w32 sample.0 = search rules in
    bucket_counts-step c.loop-value.counts.items c.args.ranges.now c.args.samples.now c.loop-value.value-index
    c.bucket-bucket.result (pos 0, 0) (to_z w32 (of_z w32 sample.0)) c.index_mut.result.now c.from.result c.loop-value-test.true
    (to_z-of_z w32 sample.0 value) c.bucket-bucket.ensures.found c.bucket-bucket.ensures.only c.loop-value.invariant
    c.index_mut.ensures.value c.from.ensures
