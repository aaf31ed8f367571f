-- A totals of the code as a value of the definitions.
use Rattle.reading_sums.specs.Views.{parts_of}
use Rattle.sum_texts.specs.declared.totals.Totals.{Totals}
use Rattle.sum_texts.specs.Lines.{Whole}

-- what a totals says
abbrev pub whole_of : Totals → Whole
whole_of totals = record {
  notes = totals.sums.notes;
  parts = parts_of totals.sums;
  of = totals.of.items;
  fold = totals.fold;
}
