use Rattle.segment_invariant.proofs.Prelude.Std.{◌≡◌, length, props, ∥∥₁_elim}
use Rattle.hist_core.proofs.Left.Allocs.{aimed_one_way}
use Rattle.hist_core.proofs.Left.Adds.{allocates_less}
use Rattle.hist_core.proofs.AddCall.Mounts.{allocates_so, asks_lawful, asks_long, asks_more}
use Rattle.hist_core.proofs.add.Add.allocate.Goals as goal

pub step-said-requires-clause-long : goal.step-said-requires-clause-long
step-said-requires-clause-long c = ∥∥₁_elim c.requires.stands (hlevel props)
    (λ (shape, known, amid, a, long, is). asks_long shape known amid c.args.self.now a c.args.words.now is c.in-Allocating.alloc c.in-Allocating.is long)

pub step-said-requires-clause-running : goal.step-said-requires-clause-running
step-said-requires-clause-running c = ∥∥₁_elim c.requires.stands (hlevel props)
    (λ (shape, known, amid, a, long, is). asks_more shape known amid c.args.self.now a c.args.words.now is c.in-Allocating.alloc c.in-Allocating.is)

pub returns-in-Allocating-clause-steps : goal.returns-in-Allocating-clause-steps
returns-in-Allocating-clause-steps c = λ shape known amid a long is.
    allocates_so shape known amid c.args.self.now a c.args.words.now is c.in-Allocating.alloc c.in-Allocating.is long c.step-said.new.self c.step-said.new.words
    c.step-said.result c.allocated.new.self c.allocated.result c.step-said.ensures.step c.step-said.ensures.more c.allocated.ensures

pub returns-in-Allocating-clause-less : goal.returns-in-Allocating-clause-less
returns-in-Allocating-clause-less c =
    let long : length c.args.words.now ≡ c.in-Allocating.alloc.shape.size = ∥∥₁_elim c.requires.stands (hlevel props)
    (λ (shape, known, amid, a, long, is). asks_long shape known amid c.args.self.now a c.args.words.now is c.in-Allocating.alloc c.in-Allocating.is long) in
    allocates_less c.args.self.now c.args.words.now c.step-said.new.words c.in-Allocating.alloc c.step-said.new.self c.in-Allocating.is
    (∥∥₁_elim c.requires.stands (hlevel (props, aimed_one_way))
    (λ (shape, known, amid, a, long, is). asks_lawful shape known amid c.args.self.now a c.args.words.now is c.in-Allocating.alloc c.in-Allocating.is))
    long c.step-said.result c.allocated.new.self c.allocated.result c.step-said.ensures.step c.allocated.ensures
