-- What the first bytes of an input say that it is.
use Rattle.std.specs.Prelude.{Bool, ◌||◌, if◌then◌else◌, ℕ, eqb, List, [], ◌∷◌, ◌++◌, codes}
use Rattle.std.specs.List.{starts_with}
use Rattle.sum_commands.specs.declared.kind.InputKind.{InputKind}
use Rattle.sum_commands.specs.declared.kind.InputKind.TheVariants.{Image, Totals, Other}

-- whether bytes begin with a mark
abbrev pub begins_with : List ℕ → List ℕ → Bool
begins_with mark bytes = starts_with eqb bytes mark

-- the word with the cookie of a segment, the least byte first
abbrev pub cookie : List ℕ
cookie = 0xdc ∷ 5 ∷ 0x83 ∷ 0x40 ∷ 0 ∷ 0 ∷ 0 ∷ 0 ∷ []

-- a word of zeros and the cookie
abbrev pub mapped : List ℕ
mapped = 0 ∷ 0 ∷ 0 ∷ 0 ∷ 0 ∷ 0 ∷ 0 ∷ 0 ∷ cookie

-- the first line of a totals, and its line feed
abbrev pub totals_line : List ℕ
totals_line = codes "totals,1" ++ 10 ∷ []

-- what an input is that begins with these bytes
abbrev pub kind_of : List ℕ → InputKind
kind_of front =
    if begins_with totals_line front then Totals
    else (if begins_with cookie front || begins_with mapped front then Image else Other)
