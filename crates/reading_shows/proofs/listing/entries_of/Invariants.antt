use Rattle.std.proofs.Common.{◌≡◌, map, take}
use Rattle.image_reader.specs.Views.{histogram_view}
use Rattle.reading_shows.specs.Listing.{line_of}
use Rattle.reading_shows.specs.ListViews.{entry_view}
use Rattle.reading_shows.proofs.listing.entries_of.Given as goal

abbrev pub invariant-loop-hist : goal.invariant-loop-hist
invariant-loop-hist l =
    map entry_view l.entries.items ≡ map (line_of l.is_human) (map (λ hist. histogram_view hist.now) (take l.hist-index l.hists))
