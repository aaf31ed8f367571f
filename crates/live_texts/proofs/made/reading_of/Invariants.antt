use Rattle.std.proofs.Common.{◌≡◌, take, map}
use Rattle.image_reader.specs.Views.{histogram_view}
use Rattle.live_texts.specs.Live.{hist_of}
use Rattle.live_texts.proofs.made.reading_of.Given as goal

abbrev pub invariant-loop-hist : goal.invariant-loop-hist
invariant-loop-hist l = map histogram_view l.hists.items ≡ map hist_of (take l.hist-index l.live.hists.items)
