use Rattle.std.proofs.Common.{◌≡◌, ◌++◌, vec_len, length, map}
use Rattle.std.specs.List.{All}
use Rattle.image_reader.specs.Readable.{IsReadable}
use Rattle.image_reader.specs.Views.{histogram_view}
use Rattle.reading_sums.specs.Shown.{groups_of, shown_of, shown_from, shown_parts}
use Rattle.reading_sums.specs.Views.{part_of}
use Rattle.reading_sums.specs.Whole.{IsWholeHist}
use Rattle.reading_sums.proofs.shown.readings_of.Given as goal

-- if all are whole, those so far are readable, and those that are left are whole; those so far, and what is shown of the rest, are what is
-- shown
abbrev pub invariant-loop-rest : goal.invariant-loop-rest
invariant-loop-rest l = record {
  readable : All IsWholeHist l.hists → All IsReadable (map histogram_view l.readings.items) × All IsWholeHist l.rest;
  shown : map histogram_view l.readings.items ++ shown_from (vec_len l.readings) (map shown_of (groups_of (map part_of l.rest))) ≡ shown_parts (map part_of l.hists);
}

abbrev pub decreases-loop-rest : goal.decreases-loop-rest
decreases-loop-rest l = length l.rest
