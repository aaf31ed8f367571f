use Rattle.segment_invariant.proofs.Prelude.Std.{ℕ, subst, ◌∙◌, props, ∥∥₁_elim}
use Rattle.list_core.specs.Publish.{IsReach}
use Rattle.hist_core.proofs.Left.Records.{publishing_less}
use Rattle.hist_core.proofs.Makes.Publishes.{one_way, publishes_so, asks_reach, asks_more}
use Rattle.hist_core.proofs.new_record.NewRecord.publish.Goals as goal

pub step-said-requires-clause-reach : goal.step-said-requires-clause-reach
step-said-requires-clause-reach c = ∥∥₁_elim c.requires.stands (hlevel (props, one_way))
    (λ (shape, wanted, a, long, its, is). asks_reach shape 1 wanted c.args.self.now a c.args.words.now long is c.in-Publishing.publish c.in-Publishing.is)

pub step-said-requires-clause-running : goal.step-said-requires-clause-running
step-said-requires-clause-running c = ∥∥₁_elim c.requires.stands (hlevel props)
    (λ (shape, wanted, a, long, its, is). asks_more shape 1 wanted c.args.self.now a c.args.words.now long is c.in-Publishing.publish c.in-Publishing.is)

pub returns-in-Publishing-clause-steps : goal.returns-in-Publishing-clause-steps
returns-in-Publishing-clause-steps c = λ shape version wanted a long its is.
    publishes_so shape version wanted c.args.self.now a c.args.words.now long is c.in-Publishing.publish c.in-Publishing.is c.step-said.new.self c.step-said.new.words
    c.step-said.result c.published.result c.step-said.ensures.step c.step-said.ensures.more
    (subst (λ (n : ℕ). IsReach n c.step-said.new.self) (c.step-said.auto.words ∙ long) c.step-said.ensures.reach) c.published.ensures

pub returns-in-Publishing-clause-less : goal.returns-in-Publishing-clause-less
returns-in-Publishing-clause-less c =
    publishing_less c.args.payload.now c.args.words.now c.step-said.new.words c.args.self.now c.in-Publishing.publish c.in-Publishing.is
    (∥∥₁_elim c.requires.stands (hlevel (props, one_way))
    (λ (shape, wanted, a, long, its, is). asks_reach shape 1 wanted c.args.self.now a c.args.words.now long is c.in-Publishing.publish c.in-Publishing.is))
    c.step-said.new.self c.step-said.result c.published.result c.step-said.ensures.step c.published.ensures
