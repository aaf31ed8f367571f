-- Shares, percents and means, in whole numbers.
use Rattle.std.specs.Prelude.{Bool, ◌&&◌, nat_le, nat_lt, ℕ, ◌+◌, ◌-◌, ◌*◌, ◌/◌, ◌%◌, ◌^◌, ℤ, if◌then◌else◌, ◌==◌, List, ◌++◌, length, codes, unsigned_abs}
use Rattle.std.specs.Fmt.{decimal}
use Rattle.std.specs.List.{find, range_with_len}
use Rattle.std.specs.Option.{unwrap_or}
use Rattle.reading_overviews.specs.Numbers.{number, sign}
use Rattle.reading_shows.specs.Columns.{times}

-- how many of `shares` equal shares of a whole a part is; what is added before the division says how it is rounded; 0 if the whole is 0
abbrev pub share_of : ℕ → ℕ → ℕ → ℕ → ℕ
share_of part whole shares added = (part * shares + added) / whole

-- tenths with a point before the last digit
abbrev pub tenths : ℕ → List ℕ
tenths n = decimal (n / 10) ++ codes "." ++ decimal (n % 10)

-- a part in tenths of a percent, to the nearest, halves upward
abbrev pub tenths_of_percent : ℕ → ℕ → ℕ
tenths_of_percent part whole = share_of part whole 1000 (whole / 2)

-- a part in percent, to the nearest tenth. A part that is not 0 but rounds to 0 is written as `tiny`, which says that it is below 0.1%; one
-- that is not the whole but rounds to 100% is written as above 99.9%
abbrev pub percent : List ℕ → ℕ → ℕ → List ℕ
percent tiny part whole =
    if nat_lt 0 part && (tenths_of_percent part whole == 0) then tiny
    else (if nat_lt part whole && (tenths_of_percent part whole == 1000) then codes ">99.9%"
    else tenths (tenths_of_percent part whole) ++ codes "%")

-- whether a size over a number of units has three significant digits, if it has this many digits after its point
abbrev pub has_three : ℕ → ℕ → ℕ → Bool
has_three size units digits = nat_le (100 * units) (size * 10 ^ digits)

-- how many digits after its point it has: the fewest with which it has three significant digits
abbrev pub digits_of_mean : ℕ → ℕ → ℕ
digits_of_mean size units = unwrap_or (find (has_three size units) (range_with_len 0 23)) 0

-- the digits of a number, the last `digits` of them after the point
abbrev pub with_point : Bool → ℕ → ℕ → List ℕ
with_point is_human digits n =
    if digits == 0 then number is_human n
    else decimal (n / 10 ^ digits) ++ codes "." ++ times (digits - length (decimal (n % 10 ^ digits))) (codes "0") ++ decimal (n % 10 ^ digits)

-- the size of a sum over a number of units, cut to these digits
abbrev pub size_of_mean : Bool → ℕ → ℕ → List ℕ
size_of_mean is_human size units =
    if size == 0 then codes "0"
    else with_point is_human (digits_of_mean size units) (size * 10 ^ digits_of_mean size units / units)

-- the mean of a number of units with a sum
abbrev pub mean_of_some : Bool → ℤ → ℕ → List ℕ
mean_of_some is_human sum units = sign sum ++ size_of_mean is_human (unsigned_abs sum) units

-- the mean of a number of units with a sum: three significant digits, or all digits of its whole part if these are more; the word none if
-- there are no units
abbrev pub mean : Bool → ℤ → ℕ → List ℕ
mean is_human sum units = if units == 0 then codes "none" else mean_of_some is_human sum units
