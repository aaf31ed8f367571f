use Rattle.segment_invariant.proofs.Prelude.Std.{arith, props, ∥∥₁_elim}
use Rattle.hist_core.proofs.Left.Adds.{purges_less}
use Rattle.hist_core.proofs.AddCall.Mounts.{purges_so, purge_inside}
use Rattle.hist_core.proofs.add.Add.purge.Goals as goal

pub overflow_add-at : goal.overflow_add-at
overflow_add-at c = ∥∥₁_elim c.requires.stands (hlevel props) (λ (shape, known, amid, a, long, is).
    let inside = purge_inside shape known amid c.args.self.now a c.args.words.now is c.args.at c.args.counts c.requires.next long in
    let many = is.lawful_shape.many in omega (arith, inside, many, long))

pub store-requires : goal.store-requires
store-requires c = ∥∥₁_elim c.requires.stands (hlevel props) (λ (shape, known, amid, a, long, is).
    let inside = purge_inside shape known amid c.args.self.now a c.args.words.now is c.args.at c.args.counts c.requires.next long in omega (arith, inside))

pub returns-clause-steps : goal.returns-clause-steps
returns-clause-steps c = λ shape known amid a long is.
    purges_so shape known amid c.args.self.now a c.args.words.now is c.args.at c.args.counts c.requires.next c.store.new.words c.store.ensures.words

pub returns-clause-less : goal.returns-clause-less
returns-clause-less c = purges_less c.args.self.now c.args.words.now c.store.new.words c.args.at c.args.counts c.requires.next
