use Rattle.std.proofs.Common.{◌≡◌, map, take}
use Rattle.std.specs.List.{filter}
use Rattle.image_reader.specs.Views.{histogram_view}
use Rattle.reading_shows.specs.Choice.{is_chosen}
use Rattle.reading_shows.proofs.choice.chosen.Given as goal

abbrev pub invariant-loop-hist : goal.invariant-loop-hist
invariant-loop-hist l = map (λ one. histogram_view one.now) l.hists.items ≡ filter (is_chosen l.choice) (map histogram_view (take l.hist-index l.reading.hists.items))
