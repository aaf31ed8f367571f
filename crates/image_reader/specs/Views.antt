-- The values of this crate, as values of the definition of a reading.
use Rattle.std.specs.Prelude.{ℕ, map}
use Rattle.bucket_ranges.specs.Reading as definition
use Rattle.bucket_ranges.specs.declared.reading.RecordFault.{RecordFault}
use Rattle.image_reader.specs.declared.reading.HistReading.{HistReading}
use Rattle.image_reader.specs.declared.reading.BadRecord.{BadRecord}
use Rattle.image_reader.specs.declared.reading.Reading.{Reading}

-- a histogram that was read, as the definition of a reading has it
abbrev pub histogram_view : HistReading → definition.Histogram
histogram_view hist = record {
  reference = hist.reference;
  name = hist.name.items;
  spec = hist.spec;
  counts = hist.counts.items;
  marks = hist.marks.items;
  sum = hist.sum;
  sum_mark = hist.sum_mark;
  redundant = hist.redundant;
}

-- a bad record: its reference and its fault
abbrev pub bad_view : BadRecord → ℕ × RecordFault
bad_view bad = (bad.reference, bad.fault)

-- what was read, as the definition of a reading has it
abbrev pub reading_view : Reading → definition.Reading
reading_view reading = record {
  id = reading.id;
  full = reading.full;
  corrupt = reading.corrupt;
  hists = map histogram_view reading.hists.items;
  bad = map bad_view reading.bad.items;
  stopped = reading.stopped;
}
