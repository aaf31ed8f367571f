use Rattle.std.proofs.Common.{take}
use Rattle.std.specs.List.{All}
use Rattle.image_reader.specs.Readable.{IsReadable}
use Rattle.image_reader.specs.Views.{histogram_view}
use Rattle.live_texts.proofs.readable.are_readable.Given as goal

abbrev pub invariant-loop-hist : goal.invariant-loop-hist
invariant-loop-hist l = All (λ hist. IsReadable (histogram_view hist)) (take l.hist-index l.hists)
