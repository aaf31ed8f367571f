use Rattle.std.proofs.Common.{◌≡◌, ◌<◌, ◌+◌, ◌∙◌, ap, sym, take, rules, arith, get_or}
use Rattle.std.proofs.lemmas.List.{take_all}
use Rattle.std.proofs.lemmas.Bool.Decides.{nat_tests}
use Rattle.std.specs.Str.Parse.{digits_value}
use Rattle.std.specs.Char.{IsAsciiDigit, is_ascii_digit}
use Rattle.std.specs.List.{list_all}
use Rattle.std.proofs.lemmas.Int.Digits.{digits_value_more}
use Rattle.persist_report_core.proofs.Numbers.{digit-le, digit_value-is, long_number-is, more_digits, whole_number-above}
use Rattle.persist_report_core.proofs.number.long_number.Goals as goal

pub returns-in_err-checked_mul : goal.returns-in_err-checked_mul
returns-in_err-checked_mul c =
    let below = digit-le c.args.digits.now c.loop-digit.digit-index c.loop-digit-test.true in
    c.from_residual.ensures ∙ sym (whole_number-above 18446744073709551615 c.args.digits.now (omega arith))

pub returns-in_err-value : goal.returns-in_err-value
returns-in_err-value c =
    let below = digit-le c.args.digits.now c.loop-digit.digit-index c.loop-digit-test.true in
    let digit : IsAsciiDigit (get_or c.args.digits.now c.loop-digit.digit-index 0) = c.if-not-is_ascii_digit.ensures.cases in
    let value = digit_value-is (get_or c.args.digits.now c.loop-digit.digit-index 0) digit.0 digit.1 in
    let over : c.in_ok-checked_mul.field-0 + c.from.result < 18446744073709551616 → ⊥ = c.in_err-value.ensures in
    c.from_residual-in_err-value.ensures ∙ sym (whole_number-above 18446744073709551615 c.args.digits.now (omega arith))

pub loop-digit-preserved : goal.loop-digit-preserved
loop-digit-preserved c =
    let digit : IsAsciiDigit (get_or c.args.digits.now c.loop-digit.digit-index 0) = c.if-not-is_ascii_digit.ensures.cases in
    let value = digit_value-is (get_or c.args.digits.now c.loop-digit.digit-index 0) digit.0 digit.1 in
    let more = digits_value_more 10 c.args.digits.now c.loop-digit.digit-index c.loop-digit-test.true in record {
      decimal = more_digits c.args.digits.now c.loop-digit.digit-index c.loop-digit-test.true c.loop-digit.invariant.decimal (search rules);
      value = omega arith;
      fits = omega arith;
    }

pub returns : goal.returns
returns c =
    let all : take c.loop-digit.digit-index c.args.digits.now ≡ c.args.digits.now = take_all c.loop-digit.digit-index c.args.digits.now (omega arith) in
    sym (long_number-is c.args.digits.now c.loop-digit.value (grind (arith, nat_tests)) (ap (list_all is_ascii_digit) (sym all) ∙ c.loop-digit.invariant.decimal)
    (c.loop-digit.invariant.value ∙ ap (digits_value 10) all) c.loop-digit.invariant.fits)
