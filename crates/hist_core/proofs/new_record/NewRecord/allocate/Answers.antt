use Rattle.segment_invariant.proofs.Prelude.Std.{◌≡◌, length, props, ∥∥₁_elim}
use Rattle.hist_core.proofs.Left.Allocs.{aimed_one_way}
use Rattle.hist_core.proofs.Left.Records.{allocating_less}
use Rattle.hist_core.proofs.Makes.Claims.{allocates_so, asks_lawful, asks_long, asks_more}
use Rattle.hist_core.proofs.new_record.NewRecord.allocate.Goals as goal

pub step-said-requires-clause-long : goal.step-said-requires-clause-long
step-said-requires-clause-long c = ∥∥₁_elim c.requires.stands (hlevel props)
    (λ (shape, wanted, a, long, its, is). asks_long shape 1 wanted c.args.self.now a c.args.words.now long is c.in-Allocating.alloc c.in-Allocating.is)

pub step-said-requires-clause-running : goal.step-said-requires-clause-running
step-said-requires-clause-running c = ∥∥₁_elim c.requires.stands (hlevel props)
    (λ (shape, wanted, a, long, its, is). asks_more shape 1 wanted c.args.self.now a c.args.words.now long is c.in-Allocating.alloc c.in-Allocating.is)

pub returns-in-Allocating-clause-steps : goal.returns-in-Allocating-clause-steps
returns-in-Allocating-clause-steps c = λ shape version wanted a long its is.
    allocates_so shape version wanted c.args.self.now a c.args.words.now long is c.in-Allocating.alloc c.in-Allocating.is c.step-said.new.self c.step-said.new.words
    c.step-said.result c.allocated.new.self c.allocated.result c.step-said.ensures.step c.step-said.ensures.more c.allocated.ensures

pub returns-in-Allocating-clause-less : goal.returns-in-Allocating-clause-less
returns-in-Allocating-clause-less c =
    let long : length c.args.words.now ≡ c.in-Allocating.alloc.shape.size = ∥∥₁_elim c.requires.stands (hlevel props)
    (λ (shape, wanted, a, long, its, is). asks_long shape 1 wanted c.args.self.now a c.args.words.now long is c.in-Allocating.alloc c.in-Allocating.is) in
    allocating_less c.args.payload.now c.args.words.now c.step-said.new.words c.args.self.now c.in-Allocating.alloc c.in-Allocating.is
    (∥∥₁_elim c.requires.stands (hlevel (props, aimed_one_way))
    (λ (shape, wanted, a, long, its, is). asks_lawful shape 1 wanted c.args.self.now a c.args.words.now long is c.in-Allocating.alloc c.in-Allocating.is))
    long c.step-said.new.self c.step-said.result c.allocated.new.self c.allocated.result c.step-said.ensures.step c.allocated.ensures
