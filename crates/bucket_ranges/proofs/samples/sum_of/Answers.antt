use Rattle.std.proofs.Common.{rules, ◌≡◌, ◌∙◌, ◌*◌, ℕ, ℤ, pos, get_or, take, ap, arith, w32, w64, FitsSigned, to_z}
use Rattle.std.proofs.lemmas.Int.{to_z-of_z}
use Rattle.bucket_ranges.specs.Tally.{units_of, amount_of}
use Rattle.bucket_ranges.proofs.Sums.{units-bound, units_of-more, sum-fits, sum-small, returned-sum, sum_of-more, sum-step}
use Rattle.bucket_ranges.proofs.samples.sum_of.Goals as goal

pub overflow_add-sum : goal.overflow_add-sum
overflow_add-sum c =
    let fits : FitsSigned w64 c.amount_of-sum.result = search rules in
    let bound = units-bound c.args.samples.now c.loop-value.value-index (pos 0, 0) 4294967295 c.loop-value-test.true c.requires in
    rw (to_z-of_z w64 c.amount_of-sum.result fits)
    (sum-fits _ c.amount_of-sum.result _ _ c.loop-value.invariant.small c.amount_of-sum.ensures.small (omega (arith, bound)))

-- One sample more.
pub loop-value-preserved : goal.loop-value-preserved
loop-value-preserved c =
    let sample : ℤ × ℕ = get_or c.args.samples.now c.loop-value.value-index (pos 0, 0) in
    let fits : FitsSigned w64 c.amount_of-sum.result = search rules in
    let value : FitsSigned w32 sample.0 = search rules in
    let bound = units-bound c.args.samples.now c.loop-value.value-index (pos 0, 0) 4294967295 c.loop-value-test.true c.requires in
    let sum = returned-sum _ c.amount_of-sum.result _ _ fits c.loop-value.invariant.small c.amount_of-sum.ensures.small (omega (arith, bound)) in
    let units = units_of-more c.args.samples.now c.loop-value.value-index (pos 0, 0) c.loop-value-test.true in
    let amount : c.amount_of-sum.result ≡ amount_of c.args.ranges.now sample =
    c.amount_of-sum.ensures.amount ∙ ap (λ v. amount_of c.args.ranges.now (v, sample.1)) (to_z-of_z w32 sample.0 value) in
    let more = sum_of-more c.args.ranges.now c.args.samples.now c.loop-value.value-index (pos 0, 0) c.loop-value-test.true in
    let so_far : ℤ = to_z w64 c.loop-value.sum-bits in
    record {
      so_far = sum ∙ sum-step _ _ _ _ _ c.loop-value.invariant.so_far amount more;
      small = rw sum (let small = sum-small so_far c.amount_of-sum.result (2147483648 * units_of (take c.loop-value.value-index c.args.samples.now)) (2147483648 * sample.1) c.loop-value.invariant.small c.amount_of-sum.ensures.small in omega (arith, small, units));
    }
