use Rattle.segment_invariant.proofs.Prelude.Std.{◌∷◌, ℕ, [], sym, ap, props, ∥∥₁_elim}
use Rattle.hist_core.specs.SampleSearch.{wanted_of}
use Rattle.hist_core.proofs.Left.Searches.{makes_less}
use Rattle.hist_core.proofs.AddCall.Searches.{stood_making, makes_so}
use Rattle.hist_core.proofs.sample_search.SampleSearch.make.Goals as goal

pub step-said-requires : goal.step-said-requires
step-said-requires c = record {
  stands = ∥∥₁_elim c.requires.stands (hlevel props) (λ (shape, a, long, is). ∣ (
    shape,
    wanted_of c.args.self.now,
    a,
    long,
    ap (λ (w : ℕ). c.args.self.now.histogram ∷ w ∷ []) (sym c.value_word.ensures),
    (stood_making shape 1 c.args.self.now a c.args.words.now long is c.in-Making.new_record c.in-Making.is).1,
  ) ∣₁);
}

pub returns-in-Making-clause-steps : goal.returns-in-Making-clause-steps
returns-in-Making-clause-steps c = λ shape version a long is.
    let s = c.args.self.now in
    makes_so shape version s a c.args.words.now long is c.in-Making.new_record c.in-Making.is c.step-said.new.self c.step-said.new.words c.step-said.result
    c.made.new.self c.made.result
    (c.step-said.ensures.steps shape version (wanted_of s) a long (ap (λ (w : ℕ). s.histogram ∷ w ∷ []) (sym c.value_word.ensures))
    (stood_making shape version s a c.args.words.now long is c.in-Making.new_record c.in-Making.is).1)
    c.made.ensures

pub returns-in-Making-clause-less : goal.returns-in-Making-clause-less
returns-in-Making-clause-less c =
    let s = c.args.self.now in
    makes_less s c.args.words.now c.in-Making.new_record c.step-said.new.self c.in-Making.is (s.histogram ∷ c.value_word.result ∷ []) c.step-said.new.words
    (ap (λ (w : ℕ). s.histogram ∷ w ∷ []) c.value_word.ensures) c.step-said.result c.made.new.self c.made.result c.step-said.ensures.less c.made.ensures
