use Rattle.std.proofs.Common.{◌≡◌, false, nat_lt, None, Ok, length, sym, subst, arith}
use Rattle.segment_image.specs.Checks.{checked}
use Rattle.bucket_ranges.specs.declared.spec.Spec.TheVariants.{Custom}
use Rattle.bucket_ranges.specs.Spec.{spec_fault}
use Rattle.bucket_ranges.specs.Scale.{scale_last, values_up_to, bound_checks}
use Rattle.bucket_ranges.proofs.ScaleFaults.{bounds-from, scale-ascends, scale-valid}
use Rattle.bucket_ranges.proofs.scale.log_linear.Goals as goal

pub returns-in-Ok-clause-ascending : goal.returns-in-Ok-clause-ascending
returns-in-Ok-clause-ascending c = scale-ascends c.args.min (scale_last c.args.max c.args.bits) c.args.bits

-- There are at most 999 values, all of them are above 0, and none is above the last.
pub returns-in-Ok-clause-valid : goal.returns-in-Ok-clause-valid
returns-in-Ok-clause-valid c =
    let passes : checked (bound_checks c.args.min c.args.max c.args.bits) tt ≡ Ok c.in_ok-check_scale.field-0 =
    let is = c.in_ok-check_scale.ensures in cc in
    let bounds = bounds-from c.args.min c.args.max c.args.bits tt c.in_ok-check_scale.field-0 passes in
    let few : nat_lt 999 (length (values_up_to c.args.min c.last_value-last.result c.args.bits)) ≡ false =
    let is = c.if-is_too_long.ensures in cc in
    let same : c.from.result ≡ values_up_to c.args.min c.last_value-last.result c.args.bits =
    let given = c.from.ensures in let values = c.in-Ok.ensures.values in cc in
    subst (λ values. spec_fault (Custom values) ≡ None) (sym same)
    (scale-valid c.args.min c.last_value-last.result c.args.bits bounds.some
    (omega (arith, bounds.less, c.last_value-last.ensures.above)) c.last_value-last.ensures.above.1 few)
