-- The lines of a list, as values of their definition.
use Rattle.reading_shows.specs.declared.listing.ListEntry.{ListEntry}
use Rattle.reading_shows.specs.Listing.{ListLine}

-- a line, as the definition of a list has it
abbrev pub entry_view : ListEntry → ListLine
entry_view entry = record {
  name = entry.name.items;
  kind = entry.kind.items;
  units = entry.units.items;
  mean = entry.mean.items;
  median = entry.median.items;
  high = entry.high.items;
  greatest = entry.greatest.items;
  rank = entry.rank.items;
}
