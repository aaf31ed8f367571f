use Rattle.segment_invariant.proofs.Prelude.Std.{◌≤◌, ◌+◌, ◌*◌, sym, subst, props, ∥∥₁_elim}
use Rattle.segment_invariant.proofs.Prelude.Machine.{Dimensions, IsShape}
use Rattle.hist_core.proofs.Left.Adds.{begins_less, seeks_less}
use Rattle.hist_core.proofs.AddCall.Mounts.{seeks_none, seeks_some}
use Rattle.hist_core.proofs.add.Add.seek_counts.Goals as goal

pub begin_allocating-requires-clause-lawful : goal.begin_allocating-requires-clause-lawful
begin_allocating-requires-clause-lawful c =
    ∥∥₁_elim c.requires.stands (hlevel props) (λ (shape, known, amid, a, long, is). subst IsShape (sym is.counting.shaped) is.lawful_shape)

pub begin_allocating-requires-clause-one_page : goal.begin_allocating-requires-clause-one_page
begin_allocating-requires-clause-one_page c = ∥∥₁_elim c.requires.stands (hlevel props)
    (λ (shape, known, amid, a, long, is). subst (λ (d : Dimensions). 4 + 2 * c.args.self.now.buckets ≤ d.page) (sym is.counting.shaped) is.counting.fits)

pub returns-then-counts-eq0-clause-steps : goal.returns-then-counts-eq0-clause-steps
returns-then-counts-eq0-clause-steps c = λ shape known amid a long is.
    seeks_none shape known amid c.args.self.now a c.args.words.now is c.requires.next c.if-counts-eq0.true c.begin_allocating.new.self c.begin_allocating.result c.begin_allocating.ensures

pub returns-clause-steps : goal.returns-clause-steps
returns-clause-steps c = λ shape known amid a long is. seeks_some shape known amid c.args.self.now a c.args.words.now is c.requires.next c.if-counts-eq0.false

pub returns-then-counts-eq0-clause-less : goal.returns-then-counts-eq0-clause-less
returns-then-counts-eq0-clause-less c =
    begins_less c.args.self.now c.args.words.now c.requires.next c.begin_allocating.new.self c.begin_allocating.result c.begin_allocating.ensures

pub returns-clause-less : goal.returns-clause-less
returns-clause-less c = seeks_less c.args.self.now c.args.words.now 0 c.requires.next
