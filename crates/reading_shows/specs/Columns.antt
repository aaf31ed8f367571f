-- Texts in columns.
use Rattle.std.specs.Prelude.{ℕ, ◌-◌, List, ◌++◌, length, codes, replicate}
use Rattle.std.specs.List.{flat_map}

-- a text, repeated `n` times
abbrev pub times : ℕ → List ℕ → List ℕ
times n piece = flat_map (λ one. one) (replicate n piece)

-- a text at the left end of a column, before blanks; one that is longer is not cut
abbrev pub at_left : ℕ → List ℕ → List ℕ
at_left width text = text ++ times (width - length text) (codes " ")

-- a text at the right end of a column, after blanks; one that is longer is not cut
abbrev pub at_right : ℕ → List ℕ → List ℕ
at_right width text = times (width - length text) (codes " ") ++ text
