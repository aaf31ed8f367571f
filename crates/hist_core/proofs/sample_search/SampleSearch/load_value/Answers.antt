use Rattle.std.proofs.Common.{arith, subst}
use Rattle.hist_core.specs.SampleSearch.{IsIts}
use Rattle.hist_core.proofs.Left.Searches.{others_less}
use Rattle.hist_core.proofs.AddCall.Searches.{value_inside, found_so, other_so}
use Rattle.hist_core.proofs.sample_search.SampleSearch.load_value.Goals as goal

pub overflow_add-word : goal.overflow_add-word
overflow_add-word c = let inside = value_inside c.args.self.now c.args.words.now c.args.at c.args.of c.requires.loads c.requires.stands in omega (arith, inside.0, inside.1)

pub offset_bounds-words-at : goal.offset_bounds-words-at
offset_bounds-words-at c = let inside = value_inside c.args.self.now c.args.words.now c.args.at c.args.of c.requires.loads c.requires.stands in omega (arith, inside.0, inside.1)

pub bounds-words-at : goal.bounds-words-at
bounds-words-at c = let inside = value_inside c.args.self.now c.args.words.now c.args.at c.args.of c.requires.loads c.requires.stands in omega (arith, inside.0)

pub returns-then-is_its-clause-steps : goal.returns-then-is_its-clause-steps
returns-then-is_its-clause-steps c = λ shape version a long is.
    found_so shape version c.args.self.now a c.args.words.now long is c.args.at c.args.of c.requires.loads
    (subst (IsIts c.args.self.now c.args.of _) c.if-is_its.true c.is_its.ensures)

pub returns-clause-steps : goal.returns-clause-steps
returns-clause-steps c = λ shape version a long is.
    other_so shape version c.args.self.now a c.args.words.now long is c.args.at c.args.of c.requires.loads
    (subst (IsIts c.args.self.now c.args.of _) c.if-is_its.false c.is_its.ensures)

pub returns-clause-less : goal.returns-clause-less
returns-clause-less c = others_less c.args.self.now c.args.words.now c.args.at c.args.of c.requires.loads
