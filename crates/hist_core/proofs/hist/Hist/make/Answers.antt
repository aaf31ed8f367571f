use Rattle.segment_invariant.proofs.Prelude.Std.{sym, props, ∥∥₁_elim}
use Rattle.hist_core.specs.Hist.{wanted_of}
use Rattle.hist_core.proofs.Left.Hists.{makes_less}
use Rattle.hist_core.proofs.Parts.NewRecords.{stood_making, makes_so}
use Rattle.hist_core.proofs.Parts.Sames.{made_asks}
use Rattle.hist_core.proofs.hist.Hist.make.Goals as goal

pub step-said-requires : goal.step-said-requires
step-said-requires c = record {
  stands = ∥∥₁_elim c.requires.stands (hlevel props) (λ (shape, a, long, is). ∣ (
    shape,
    wanted_of c.args.self.now,
    a,
    long,
    sym c.deref.ensures.value,
    (stood_making shape 1 c.args.self.now a c.args.words.now is c.in-Making.new_record c.in-Making.is).3,
  ) ∣₁);
}

pub returns-in-Making-clause-steps : goal.returns-in-Making-clause-steps
returns-in-Making-clause-steps c = λ shape version a long is.
    makes_so shape version c.args.self.now a c.args.words.now is c.in-Making.new_record c.in-Making.is c.step-said.new.self c.step-said.new.words c.step-said.result
    c.made.new.self c.made.result
    (c.step-said.ensures.steps shape version (wanted_of c.args.self.now) a long (sym c.deref.ensures.value) (stood_making shape version c.args.self.now a c.args.words.now is c.in-Making.new_record c.in-Making.is).3)
    c.made.ensures

pub returns-in-Making-clause-asks : goal.returns-in-Making-clause-asks
returns-in-Making-clause-asks c = made_asks _ c.step-said.result c.made.new.self c.made.result c.made.ensures

pub returns-in-Making-clause-less : goal.returns-in-Making-clause-less
returns-in-Making-clause-less c =
    makes_less c.args.self.now c.args.words.now c.in-Making.new_record c.step-said.new.self c.in-Making.is _ c.step-said.new.words c.deref.ensures.value
    c.step-said.result c.made.new.self c.made.result c.step-said.ensures.less c.made.ensures
