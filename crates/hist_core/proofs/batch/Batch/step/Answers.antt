use Rattle.segment_invariant.proofs.Prelude.Std.{◌≤◌, sym, subst, arith, vec_len, props, ∥∥₁_elim}
use Rattle.hist_core.specs.Batch.{IsRefusedAt}
use Rattle.hist_core.proofs.BatchCall.Batching.{not_more}
use Rattle.hist_core.proofs.batch.Batch.step.Goals as goal

pub add_sum-requires-clause-counted : goal.add_sum-requires-clause-counted
add_sum-requires-clause-counted c =
    let batch = c.args.self.now in
    let most : batch.added ≤ vec_len batch.items = ∥∥₁_elim c.requires.stands (hlevel props) (λ (shape, known, a, long, is). not_more shape known batch a is) in
    omega (arith, most, c.if-self-len.false, c.len.ensures)

pub returns-else-self-len-clause-refused : goal.returns-else-self-len-clause-refused
returns-else-self-len-clause-refused c = subst (IsRefusedAt c.args.self.now c.add_sum.new.self) (sym c.add_sum.ensures.done) tt

pub returns-else-self-len-clause-less : goal.returns-else-self-len-clause-less
returns-else-self-len-clause-less c = c.add_sum.ensures.less
