-- Which totals are written, and read back.
use Rattle.std.specs.Prelude.{◌≡◌, ℕ, ◌+◌, List, map, take, length, sum_by}
use Rattle.reading_sums.specs.declared.hist.HistSum.{HistSum}
use Rattle.reading_sums.specs.Totals.{Part}
use Rattle.reading_sums.specs.Views.{part_of}
use Rattle.reading_sums.specs.Whole.{AreWhole, IsWellFormed}
use Rattle.sum_texts.specs.declared.totals.Totals.{Totals}
use Rattle.sum_texts.specs.Lines.{Whole, FitsWhole, part_lines}
use Rattle.sum_texts.specs.Views.{whole_of}

-- a totals of a well-formed sum, whose names are those of histograms in segments and whose numbers fit
pub record IsWritable (totals : Totals) : Type 0 where
  pub formed : IsWellFormed totals.sums
  pub fits : FitsWhole (whole_of totals)

-- the parts of a well-formed sum
pub record AreFormed (parts : List Part) : Type 0 where
  pub hists : List HistSum
  pub same : map part_of hists ≡ parts
  pub whole : AreWhole hists

-- a name with its spec is the first that cannot come after those before it: the parts up to it are those of a well-formed sum, and with it
-- they are not
pub record IsFirstWrong (parts : List Part) (index : ℕ) : Type 0 where
  pub before : AreFormed (take index parts)
  pub here : AreFormed (take (index + 1) parts) → ⊥

-- how many lines a name with its spec has: its own, and one for each key
abbrev pub line_count : Part → ℕ
line_count part = length (part_lines part)

-- the number of the line of a name with its spec, from 1: two lines come before the first
abbrev pub name_line : List Part → ℕ → ℕ
name_line parts index = 3 + sum_by line_count (take index parts)

-- a line is that of the first name that cannot come after those before it
pub record IsWrongLine (parts : List Part) (line : ℕ) : Type 0 where
  pub index : ℕ
  pub first : IsFirstWrong parts index
  pub number : line ≡ name_line parts index
