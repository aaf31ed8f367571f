-- How numbers are written: their digits alone, or with a comma between thousands.
use Rattle.std.specs.Prelude.{Bool, not, ◌==◌, ◌&&◌, if◌then◌else◌, ℕ, ◌-◌, ◌%◌, ℤ, pos, int_lt, unsigned_abs, List, [], ◌∷◌, ◌++◌, length, get_or, codes}
use Rattle.std.specs.Fmt.{decimal}
use Rattle.std.specs.List.{flat_map, range_with_len}

-- whether a comma comes before this many last digits of a number
abbrev pub has_comma : ℕ → Bool
has_comma left = not (left == 0) && (left % 3 == 0)

-- the comma before this many last digits, if there is one
abbrev pub comma_text : ℕ → List ℕ
comma_text left = if has_comma left then codes "," else []

-- digit `i`, and the comma after it, if there is one
abbrev pub digit_at : List ℕ → ℕ → List ℕ
digit_at digits i = (get_or digits i 0 ∷ []) ++ comma_text (length digits - i - 1)

-- digits with a comma between thousands
abbrev pub grouped : List ℕ → List ℕ
grouped digits = flat_map (digit_at digits) (range_with_len 0 (length digits))

-- digits, with commas if they are for people
abbrev pub written : Bool → List ℕ → List ℕ
written is_human digits = if is_human then grouped digits else digits

-- a number
abbrev pub number : Bool → ℕ → List ℕ
number is_human n = written is_human (decimal n)

-- the sign of a number, if it is below 0
abbrev pub sign : ℤ → List ℕ
sign n = if int_lt n (pos 0) then codes "-" else codes ""

-- a number with its sign
abbrev pub signed : Bool → ℤ → List ℕ
signed is_human n = sign n ++ number is_human (unsigned_abs n)
