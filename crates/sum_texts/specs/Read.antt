-- What was read of a totals, as a value of the definitions.
use Rattle.std.specs.Prelude.{map}
use Rattle.reading_sums.specs.Views.{part_of}
use Rattle.sum_texts.specs.declared.reading.TotalsRead.{TotalsRead}
use Rattle.sum_texts.specs.Lines.{Whole}

-- what the lines of a totals say
abbrev pub read_view : TotalsRead → Whole
read_view read = record {
  notes = read.notes;
  parts = map part_of read.hists.items;
  of = read.of.items;
  fold = read.fold;
}
