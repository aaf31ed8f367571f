-- An earlier reading, as a value of the definition of a text.
use Rattle.std.specs.Prelude.{map}
use Rattle.image_reader.specs.Views.{histogram_view}
use Rattle.reading_shows.specs.declared.since.Since as code
use Rattle.reading_shows.specs.Since.{Since}

-- what a text says of an earlier reading, as the definition has it
abbrev pub since_view : code.Since → Since
since_view since = record { is_told = since.is_told; hists = map histogram_view since.hists.now }
