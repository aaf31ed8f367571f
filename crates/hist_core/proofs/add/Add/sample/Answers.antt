use Rattle.segment_invariant.proofs.Prelude.Std.{props, ∥∥₁_elim}
use Rattle.hist_core.proofs.Left.Adds.{samples_less}
use Rattle.hist_core.proofs.AddCall.Samples.{stood_sampling, samples_so}
use Rattle.hist_core.proofs.add.Add.sample.Goals as goal

pub step-said-requires : goal.step-said-requires
step-said-requires c = record {
  stands = ∥∥₁_elim c.requires.stands (hlevel props) (λ (shape, known, amid, a, long, is).
      ∣ (shape, a, long, (stood_sampling shape known amid c.args.self.now a c.args.words.now is c.in-Sampling.sample_search c.in-Sampling.is).4) ∣₁);
}

pub returns-in-Sampling-clause-steps : goal.returns-in-Sampling-clause-steps
returns-in-Sampling-clause-steps c = λ shape known amid a long is.
    let add = c.args.self.now in
    samples_so shape known amid add a c.args.words.now is c.in-Sampling.sample_search c.in-Sampling.is c.step-said.new.self c.step-said.ensures.same c.step-said.new.words
    c.step-said.result c.sampled.new.self c.sampled.result
    (c.step-said.ensures.steps shape add.version a long (stood_sampling shape known amid add a c.args.words.now is c.in-Sampling.sample_search c.in-Sampling.is).4)
    c.sampled.ensures

pub returns-in-Sampling-clause-less : goal.returns-in-Sampling-clause-less
returns-in-Sampling-clause-less c =
    samples_less c.args.self.now c.args.words.now c.step-said.new.words c.in-Sampling.sample_search c.step-said.new.self c.in-Sampling.is
    c.step-said.result c.sampled.new.self c.sampled.result c.step-said.ensures.less c.sampled.ensures
