-- Numbers in scripts.
use Rattle.std.specs.Prelude.{Bool, not, ◌-◌, ◌&&◌, ◌==◌, nat_le, if◌then◌else◌, ℕ, ℤ, pos, neg_ℤ, List, length, drop, Option, Some, None, option_map}
use Rattle.std.specs.Char.{is_ascii_digit}
use Rattle.std.specs.List.{list_all}
use Rattle.std.specs.Str.Parse.{digits_value, starts_with_minus}

-- one decimal digit or more, and nothing else; zeros may lead
abbrev pub is_decimal : List ℕ → Bool
is_decimal field = not (length field == 0) && list_all is_ascii_digit field

-- the number that decimal digits write, if it is at most `most`
abbrev pub whole_number : ℕ → List ℕ → Option ℕ
whole_number most field =
    if is_decimal field && nat_le (digits_value 10 field) most then Some (digits_value 10 field) else None

-- a number of 32 bits
abbrev pub unsigned_number : List ℕ → Option ℕ
unsigned_number field = whole_number 4294967295 field

-- a number of 64 bits
abbrev pub long_number : List ℕ → Option ℕ
long_number field = whole_number 18446744073709551615 field

-- a number with a sign, at least minus a size and less than the size: a `-` comes before one below 0, and may come before 0
abbrev pub signed_within : ℕ → List ℕ → Option ℤ
signed_within size field =
    if starts_with_minus field then option_map (λ below. neg_ℤ (pos below)) (whole_number size (drop 1 field))
    else option_map pos (whole_number (size - 1) field)

-- a number of 32 bits with a sign
abbrev pub signed_number : List ℕ → Option ℤ
signed_number field = signed_within 2147483648 field

-- a number of 64 bits with a sign
abbrev pub signed_long_number : List ℕ → Option ℤ
signed_long_number field = signed_within 9223372036854775808 field
