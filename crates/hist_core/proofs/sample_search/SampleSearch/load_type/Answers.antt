use Rattle.segment_invariant.proofs.Prelude.Std.{◌+◌, arith, sym, subst}
use Rattle.segment_invariant.proofs.Prelude.Machine.{word_at}
use Rattle.hist_core.specs.declared.sample_search.SampleSearchStep.TheVariants.{More}
use Rattle.hist_core.specs.declared.sample_search.SampleSearchStage.{SampleSearchStage}
use Rattle.hist_core.specs.StepsBy.{StepsBy}
use Rattle.hist_core.specs.SampleSearch.{SampleSearchGives}
use Rattle.hist_core.specs.Left.{SearchLowers}
use Rattle.hist_core.proofs.Left.Searches.{types_less}
use Rattle.hist_core.proofs.AddCall.Searches.{type_inside, loads_type}
use Rattle.hist_core.proofs.sample_search.SampleSearch.load_type.Goals as goal

pub overflow_add-tag : goal.overflow_add-tag
overflow_add-tag c = let inside = type_inside c.args.self.now c.args.words.now c.args.at c.requires.loads c.requires.stands in omega (arith, inside.0, inside.1)

pub offset_bounds-words-at : goal.offset_bounds-words-at
offset_bounds-words-at c = let inside = type_inside c.args.self.now c.args.words.now c.args.at c.requires.loads c.requires.stands in omega (arith, inside.0, inside.1)

pub bounds-words-at : goal.bounds-words-at
bounds-words-at c = let inside = type_inside c.args.self.now c.args.words.now c.args.at c.requires.loads c.requires.stands in omega (arith, inside.0)

pub returns-clause-steps : goal.returns-clause-steps
returns-clause-steps c = λ shape version a long is.
    let s = c.args.self.now in let words = c.args.words.now in
    subst (λ (stage : SampleSearchStage). StepsBy shape.size version a words words (SampleSearchGives shape (record s { stage = stage }) More a)) (sym c.behind_type-self.ensures)
    (loads_type shape version s a words long is c.args.at c.requires.loads)

pub returns-clause-less : goal.returns-clause-less
returns-clause-less c =
    let s = c.args.self.now in let words = c.args.words.now in
    subst (λ (stage : SampleSearchStage). SearchLowers s words (record s { stage = stage }) words More) (sym c.behind_type-self.ensures)
    (types_less s words c.args.at (word_at words (c.args.at + 2)) c.requires.loads)
