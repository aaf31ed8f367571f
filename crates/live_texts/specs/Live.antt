-- A live reading as a reading that has its histograms and nothing else.
use Rattle.std.specs.Prelude.{◌≡◌, false, ℕ, pos, List, [], map, None, All}
use Rattle.bucket_ranges.specs.Reading.{Histogram, Reading}
use Rattle.image_reader.specs.Readable.{IsReadable}
use Rattle.live_reading.specs.declared.live_reading.LiveHistogram.{LiveHistogram}
use Rattle.live_reading.specs.declared.live_reading.LiveReading.{LiveReading}

-- a histogram with this name, this spec, and what the snapshot of it saw. It has no marks, and the place of its record is not known.
abbrev pub hist_of : LiveHistogram → Histogram
hist_of live = record {
  reference = 0;
  name = live.name.items;
  spec = live.spec;
  counts = live.snapshot.counts.items;
  marks = [];
  sum = live.snapshot.sum;
  sum_mark = pos 0;
  redundant = live.snapshot.redundant;
}

-- the reading that has these histograms: no flag is set, no record is bad, and the list ends
abbrev pub reading_of : LiveReading → Reading
reading_of live = record {
  id = 0;
  full = false;
  corrupt = false;
  hists = map hist_of live.hists.items;
  bad = [];
  stopped = None;
}

-- each of its histograms can be one of a segment
abbrev pub AreReadable : LiveReading → Type 0
AreReadable live = All IsReadable (map hist_of live.hists.items)
