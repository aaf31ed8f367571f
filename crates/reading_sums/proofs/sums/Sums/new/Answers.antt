-- A sum of no images has no histograms.
use Rattle.reading_sums.proofs.HistOrder.{none-whole}
use Rattle.reading_sums.proofs.sums.Sums.new.Goals as goal

pub returns-clause-well_formed : goal.returns-clause-well_formed
returns-clause-well_formed c = none-whole _ c.new.ensures.items
