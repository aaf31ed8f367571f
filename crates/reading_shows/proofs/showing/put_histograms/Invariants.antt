use Rattle.std.proofs.Common.{◌≡◌, ◌++◌, take}
use Rattle.std.specs.List.{flat_map}
use Rattle.image_reader.specs.Views.{histogram_view}
use Rattle.reading_shows.specs.Showing.{histogram_text}
use Rattle.reading_shows.specs.SinceViews.{since_view}
use Rattle.reading_shows.proofs.showing.put_histograms.Given as goal

abbrev pub invariant-loop-hist : goal.invariant-loop-hist
invariant-loop-hist l = l.text.items ≡ l.initial.text.items ++ flat_map (λ hist. histogram_text l.style (since_view l.since) (histogram_view hist.now)) (take l.hist-index l.hists)
