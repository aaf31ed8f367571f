use Rattle.std.proofs.Common.{arith}
use Rattle.hist_core.proofs.Left.Searches.{histograms_less}
use Rattle.hist_core.proofs.AddCall.Searches.{histogram_inside, loads_histogram}
use Rattle.hist_core.proofs.sample_search.SampleSearch.load_histogram.Goals as goal

pub overflow_add-of : goal.overflow_add-of
overflow_add-of c = let inside = histogram_inside c.args.self.now c.args.words.now c.args.at c.requires.loads c.requires.stands in omega (arith, inside.0, inside.1)

pub offset_bounds-words-at : goal.offset_bounds-words-at
offset_bounds-words-at c = let inside = histogram_inside c.args.self.now c.args.words.now c.args.at c.requires.loads c.requires.stands in omega (arith, inside.0, inside.1)

pub bounds-words-at : goal.bounds-words-at
bounds-words-at c = let inside = histogram_inside c.args.self.now c.args.words.now c.args.at c.requires.loads c.requires.stands in omega (arith, inside.0)

pub returns-clause-steps : goal.returns-clause-steps
returns-clause-steps c = λ shape version a long is. loads_histogram shape version c.args.self.now a c.args.words.now long is c.args.at c.requires.loads

pub returns-clause-less : goal.returns-clause-less
returns-clause-less c = histograms_less c.args.self.now c.args.words.now c.args.at 0 c.requires.loads
