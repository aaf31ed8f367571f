-- Numbers that decimal digits write.
use Rattle.std.proofs.Common.{◌≡◌, ℕ, zero, suc, ◌+◌, ◌*◌, ◌<◌, ◌≤◌, Bool, true, false, ◌&&◌, nat_le, ◌==◌, if◌then◌else◌, List, [], ◌∷◌, length, take, get_or, Some, None, refl, ◌-◌, ◌∙◌, ap, sym, arith}
use Rattle.std.specs.Char.{is_ascii_digit, digit_value}
use Rattle.std.specs.List.{list_all}
use Rattle.std.specs.Str.Parse.{digits_value, digits_value_after}
use Rattle.std.proofs.lemmas.Int.Digits.{digits_value_more}
use Rattle.std.proofs.lemmas.List.Folds.{list_all_more}
use Rattle.std.proofs.lemmas.Bool.Decides.{nat_tests}
use Rattle.persist_report_core.specs.Number.{is_decimal, whole_number, long_number}

-- more digits write no smaller number
pub le-digits_value_after : (n : ℕ) (digits : List ℕ) → n ≤ digits_value_after 10 n digits
le-digits_value_after n [] = omega arith
le-digits_value_after n (digit ∷ digits) =
    let more = le-digits_value_after (n * 10 + digit_value digit) digits in omega arith

digits_value_after-take : (n k : ℕ) (digits : List ℕ) → digits_value_after 10 n (take k digits) ≤ digits_value_after 10 n digits
digits_value_after-take n zero digits = le-digits_value_after n digits
digits_value_after-take n (suc k) [] = omega arith
digits_value_after-take n (suc k) (digit ∷ digits) = digits_value_after-take (n * 10 + digit_value digit) k digits

-- the digits up to one of them write no greater number
pub digit-le : (digits : List ℕ) (i : ℕ) → i < length digits
    → digits_value 10 (take i digits) * 10 + digit_value (get_or digits i 0) ≤ digits_value 10 digits
digit-le digits i within =
    let more = digits_value_more 10 digits i within in
    let all = digits_value_after-take 0 (i + 1) digits in omega arith

-- a choice whose second test fails
chosen-none : (first second : Bool) (value : ℕ) → second ≡ false → (if first && second then Some value else None) ≡ None
chosen-none first true value failed = cc failed
chosen-none true false value failed = refl
chosen-none false false value failed = refl

-- a number above the most is not read
pub whole_number-above : (most : ℕ) (field : List ℕ) → most < digits_value 10 field → whole_number most field ≡ None
whole_number-above most field above =
    let failed : nat_le (digits_value 10 field) most ≡ false = grind (arith, nat_tests) in
    chosen-none (is_decimal field) (nat_le (digits_value 10 field) most) (digits_value 10 field) failed

-- what a digit writes
pub digit_value-is : (digit : ℕ) → 48 ≤ digit → digit ≤ 57 → digit_value digit ≡ digit - 48
digit_value-is digit low high = grind (arith, nat_tests)

-- one more digit
pub more_digits : (digits : List ℕ) (i : ℕ) → i < length digits → list_all is_ascii_digit (take i digits) ≡ true
    → is_ascii_digit (get_or digits i 0) ≡ true → list_all is_ascii_digit (take (i + 1) digits) ≡ true
more_digits digits i within before here = list_all_more is_ascii_digit digits i 0 within ∙ rw (before, here) refl

-- digits whose number fits 64 bits
pub long_number-is : (digits : List ℕ) (value : ℕ) → 0 < length digits → list_all is_ascii_digit digits ≡ true → value ≡ digits_value 10 digits
    → value ≤ 18446744073709551615 → long_number digits ≡ Some value
long_number-is digits value some decimal is fits =
    let filled : (length digits == 0) ≡ false = grind (arith, nat_tests) in
    let within : nat_le (digits_value 10 digits) 18446744073709551615 ≡ true = grind (arith, nat_tests) in
    rw (filled, decimal, within) (ap Some (sym is))
