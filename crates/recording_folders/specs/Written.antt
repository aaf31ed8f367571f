-- What the totals of a fold say.
use Rattle.std.specs.Prelude.{Some, ◌<◌, ◌^◌}
use Rattle.std.specs.List.{AllByRecursion}
use Rattle.reading_sums.specs.Views.{parts_of}
use Rattle.reading_sums.specs.declared.sums.Sums.{Sums}
use Rattle.sum_texts.specs.Lines.{Whole, FitsSegment}
use Rattle.recording_folders.specs.declared.folding.Fold.{Fold}

-- the sum, with the names and the serial of the fold
abbrev pub whole_of_fold : Sums → Fold → Whole
whole_of_fold sums next = record {
  notes = sums.notes;
  parts = parts_of sums;
  of = next.names.items;
  fold = Some next.serial;
}

-- the numbers of a fold fit 64 bits
pub record FitsFold (next : Fold) : Type 0 where
  pub names : AllByRecursion FitsSegment next.names.items
  pub serial : next.serial < 2 ^ 64
