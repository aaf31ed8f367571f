-- The digits of a number after zeros, read again.
use Rattle.std.proofs.Common.{◌≡◌, ℕ, zero, suc, ◌<◌, ◌≤◌, ◌^◌, ◌+◌, ◌*◌, ◌-◌, List, [], ◌∷◌, ◌++◌, length, replicate, true, Result, Ok, ap, ◌∙◌, sym, arith, rules, refl, codes, get_or, Option, Some, None, Err, MatchResult, subst, length-append}
use Rattle.std.specs.Fmt.{decimal}
use Rattle.std.specs.Str.{all_ascii_digits, IsUtf8}
use Rattle.std.specs.Str.Parse.{ParsesUnsigned}
use Rattle.std.proofs.lemmas.Fmt.{digits_decimal, digits_value-decimal, decimal_nonempty, IsAscii-from_digits}
use Rattle.std.specs.Int.{IsInRange}
use Rattle.std.specs.Result.{result_ok}
use Rattle.std.proofs.lemmas.Option.{none-some, same_Some}
use Rattle.std.proofs.lemmas.List.{get_or-append-add, get_or_append_left}
use Rattle.std.proofs.lemmas.Str.{IsUtf8-from_ascii}
use Rattle.std.proofs.lemmas.Str.Parse.{IsNumeralModel, numerals_by_fold, parse_gives, not_in_digits}
use Rattle.recording_folders.specs.Names.{IsNumber, padded, numbered}

-- a number of at most 18 digits has 64 bits
pub has_64_bits : (n : ℕ) → IsNumber n → n < 2 ^ 64
has_64_bits n number = omega (arith, number.high)

-- the number that digits write, after what was read already
abbrev read_on : ℕ → List ℕ → ℕ
read_on n [] = n
read_on n (c ∷ cs) = read_on (10 * n + (c - 48)) cs

own : IsNumeralModel (λ ds. all_ascii_digits ds ≡ true) (read_on 0)
own = numerals_by_fold _ (search rules) read_on (search rules)

zeros_are_digits : (k : ℕ) (ds : List ℕ) → all_ascii_digits ds ≡ true → all_ascii_digits (replicate k 48 ++ ds) ≡ true
zeros_are_digits zero ds h = h
zeros_are_digits (suc k) ds h = zeros_are_digits k ds h

zeros_add_nothing : (k : ℕ) (ds : List ℕ) → read_on 0 (replicate k 48 ++ ds) ≡ read_on 0 ds
zeros_add_nothing zero ds = refl
zeros_add_nothing (suc k) ds = zeros_add_nothing k ds

-- a padded number has only digits
pub padded_digits : (n : ℕ) → n < 2 ^ 64 → all_ascii_digits (padded n) ≡ true
padded_digits n small = zeros_are_digits (10 - length (decimal n)) (decimal n) (digits_decimal own n small)

-- and at least one
pub padded_nonempty : (n : ℕ) → n < 2 ^ 64 → 0 < length (padded n)
padded_nonempty n small = omega (arith, length-append (replicate (10 - length (decimal n)) 48) (decimal n), decimal_nonempty n small)

padded_value : (n : ℕ) → n < 2 ^ 64 → read_on 0 (padded n) ≡ n
padded_value n small = zeros_add_nothing (10 - length (decimal n)) (decimal n) ∙ digits_value-decimal own n small

-- two numbers are padded to two texts
pub padded_injective : (m n : ℕ) → m < 2 ^ 64 → n < 2 ^ 64 → padded m ≡ padded n → m ≡ n
padded_injective m n hm hn same = sym (padded_value m hm) ∙ ap (read_on 0) same ∙ padded_value n hn

-- a padded number is text
pub padded_text : (digits : List ℕ) (n : ℕ) → n < 2 ^ 64 → digits ≡ padded n → IsUtf8 digits
padded_text digits n small is =
    rw is (IsUtf8-from_ascii (padded n) (IsAscii-from_digits (padded n) (own.to (padded n) (padded_digits n small))))

-- and is read as the number
pub padded_parses : {E : Type 0} (digits : List ℕ) (n : ℕ) (r : Result ℕ E) → n < 2 ^ 64 → digits ≡ padded n → ParsesUnsigned 64 10 digits r → r ≡ Ok n
padded_parses digits n r small is parses =
    parse_gives own 64 (padded n) r (rw is at parses) (padded_digits n small) (padded_nonempty n small) (omega (arith, padded_value n small))
    ∙ ap Ok (padded_value n small)

-- ---- endings

same_length : (a b : List ℕ) → a ++ codes ".seg" ≡ b ++ codes ".damaged" → length a + 4 ≡ length b + 8
same_length a b same = sym (length-append a (codes ".seg")) ∙ ap length same ∙ length-append b (codes ".damaged")

-- no text has both endings: their last bytes differ
pub ends_differ : (a b : List ℕ) → a ++ codes ".seg" ≡ b ++ codes ".damaged" → ⊥
ends_differ a b same =
    let place : length a + 3 ≡ length b + 7 = omega (arith, same_length a b same) in
    let last : 103 ≡ 100 = sym (get_or-append-add a (codes ".seg") 3 0) ∙ ap (λ s. get_or s (length a + 3) 0) same
    ∙ ap (λ i. get_or (b ++ codes ".damaged") i 0) place ∙ get_or-append-add b (codes ".damaged") 7 0 in
    absurd (omega (arith, last))

-- ---- the first byte of a name

-- a name with a number begins with a digit
pub begins_with_digit : (n c : ℕ) (ending : List ℕ) → n < 2 ^ 64 → ¬ (IsInRange 48 57 c) → get_or (numbered n ending) 0 0 ≡ c → ⊥
begins_with_digit n c ending small unlike is =
    not_in_digits own (padded n) c (padded_digits n small) unlike 0 (padded_nonempty n small)
    (sym (get_or_append_left (padded n) ending 0 0 (padded_nonempty n small)) ∙ is)

-- ---- results

-- what is known of a result that is no `Ok`
pub of_err : {A E : Type 0} (P : A → Type 0) (Q : E → Type 0) (r : Result A E) → None ≡ result_ok r → MatchResult r P Q → (e : E) × Q e
of_err P Q (Ok x) none known = absurd (none-some x none)
of_err P Q (Err e) none known = (e, known)

-- what is known of a result that is `Ok`
pub of_ok : {A E : Type 0} (P : A → Type 0) (Q : E → Type 0) (r : Result A E) (x : A) → Some x ≡ result_ok r → MatchResult r P Q → P x
of_ok P Q (Ok y) x is known = subst P (same_Some y x (sym is)) known
of_ok P Q (Err e) x is known = absurd (none-some x (sym is))
