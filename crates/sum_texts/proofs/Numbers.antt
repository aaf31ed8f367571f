-- The digits that write a number, read again.
use Rattle.std.proofs.Common.{◌≡◌, ℕ, suc, ◌<◌, ◌^◌, ℤ, pos, negsuc, ◌-ℤ◌, ◌-◌, List, length, take, drop, SomeIff, length-drop, get_or, Option, Some, None, Result, Ok, Err, FitsSigned, MatchResult, subst, sym, ap, ◌∙◌, arith, refl}
use Rattle.std.specs.Int.{w128, IsInRange}
use Rattle.std.specs.Fmt.{decimal, signed_decimal}
use Rattle.std.specs.Result.{result_ok}
use Rattle.std.specs.Str.{IsUtf8}
use Rattle.std.specs.Str.Parse.{ParsesUnsigned}
use Rattle.std.proofs.lemmas.Fmt.{parse-decimal_wide, IsAscii-decimal_wide, decimal_is_IsNumeral_wide}
use Rattle.std.proofs.lemmas.Str.{IsUtf8-from_ascii}
use Rattle.std.proofs.lemmas.Str.Parse.{digit_at}
use Rattle.std.proofs.lemmas.Option.{none-some, same_Some}
use Rattle.std.proofs.lemmas.Int.{ints}
use Rattle.std.proofs.lemmas.List.{take_all}

-- numbers of 128 bits have no more than 64 digits
wide : (n : ℕ) → n < 2 ^ 128 → n < 10 ^ 64
wide n small = omega arith

-- digits are UTF-8
pub digits_are_text : (field : List ℕ) (size : ℕ) → size < 2 ^ 128 → field ≡ decimal size → IsUtf8 field
digits_are_text field size small is =
    subst IsUtf8 (sym is) (IsUtf8-from_ascii (decimal size) (IsAscii-decimal_wide size (wide size small)))

-- digits are read as their number
pub digits_parse : {E : Type 0} (field : List ℕ) (size : ℕ) (r : Result ℕ E) → size < 2 ^ 128 → field ≡ decimal size
    → ParsesUnsigned 128 10 field r → r ≡ Ok size
digits_parse field size r small is parses = parse-decimal_wide 128 size field r small (wide size small) is parses

-- what is known of a result that is no `Ok`
pub of_err : {A E : Type 0} (P : A → Type 0) (Q : E → Type 0) (r : Result A E) → None ≡ result_ok r → MatchResult r P Q → (e : E) × Q e
of_err P Q (Ok x) none known = absurd (none-some x none)
of_err P Q (Err e) none known = (e, known)

-- what is known of a result that is `Ok`
pub of_ok : {A E : Type 0} (P : A → Type 0) (Q : E → Type 0) (r : Result A E) (x : A) → Some x ≡ result_ok r → MatchResult r P Q → P x
of_ok P Q (Ok y) x is known = subst P (same_Some y x (sym is)) known
of_ok P Q (Err e) x is known = absurd (none-some x (sym is))

-- the first digit of a number is no sign
pub digits_have_no_sign : (n : ℕ) → n < 2 ^ 128 → get_or (decimal n) 0 0 ≡ 45 → (A : Type 0) → A
digits_have_no_sign n small minus A =
    let numeral = (decimal_is_IsNumeral_wide n (wide n small)).0 in
    let digit : IsInRange 48 57 (get_or (decimal n) 0 0) = digit_at (decimal n) 0 numeral.1 numeral.0 in
    absurd (omega arith)

-- a field that begins with a sign writes a number below 0, whose size its other bytes write
pub below_zero : (field : List ℕ) (amount : ℤ) → get_or field 0 0 ≡ 45 → field ≡ signed_decimal amount → FitsSigned w128 amount
    → (m : ℕ) × (amount ≡ negsuc m) × (m < 2 ^ 127) × (take (length field - 1) (drop 1 field) ≡ decimal (suc m))
below_zero field (pos n) minus is fits = digits_have_no_sign n (omega arith) (ap (λ s. get_or s 0 0) (sym is) ∙ minus) _
below_zero field (negsuc m) minus is fits =
    (m, refl, omega arith, take_all (length field - 1) (drop 1 field) (omega (arith, length-drop 1 field)) ∙ ap (drop 1) is)

-- 0 less a size that fits
less_than_zero : (m : ℕ) (r : Option ℤ) → m < 2 ^ 127 → SomeIff r (FitsSigned w128 (negsuc m)) (negsuc m) → r ≡ Some (negsuc m)
less_than_zero m (Some z) small known = ap Some known.1
less_than_zero m None small known = absurd (known (omega arith))

minus_size : (m : ℕ) → pos 0 -ℤ pos (suc m) ≡ negsuc m
minus_size m = omega (arith, ints)

pub less_a_size : (size m : ℕ) (r : Option ℤ) → size ≡ suc m → m < 2 ^ 127 → SomeIff r (FitsSigned w128 (pos 0 -ℤ pos size)) (pos 0 -ℤ pos size)
    → r ≡ Some (negsuc m)
less_a_size size m r is small known =
    less_than_zero m r small (subst (λ z. SomeIff r (FitsSigned w128 z) z) (ap (λ n. pos 0 -ℤ pos n) is ∙ minus_size m) known)
