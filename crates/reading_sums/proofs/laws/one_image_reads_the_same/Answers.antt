-- The parts of such a sum are the histograms of the reading in another order, and each is the only one of its name.
use Rattle.reading_sums.proofs.Alone.{shows-alone, none-left-out, full-alone, corrupt-alone}
use Rattle.reading_sums.proofs.laws.one_image_reads_the_same.Goals as goal

pub returns-clause-shown : goal.returns-clause-shown
returns-clause-shown c = shows-alone

pub returns-clause-left_out : goal.returns-clause-left_out
returns-clause-left_out c = none-left-out

pub returns-clause-full : goal.returns-clause-full
returns-clause-full c = full-alone

pub returns-clause-corrupt : goal.returns-clause-corrupt
returns-clause-corrupt c = corrupt-alone

pub returns-clause-images : goal.returns-clause-images
returns-clause-images c = λ number reading sums one. one.sum.notes.images
