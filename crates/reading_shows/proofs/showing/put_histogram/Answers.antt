use Rattle.reading_shows.proofs.showing.put_histogram.Goals as goal

pub returns : goal.returns
returns c = rw c.counts_before-before.ensures at c.put_behind.ensures
