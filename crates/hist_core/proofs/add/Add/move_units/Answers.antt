use Rattle.segment_invariant.proofs.Prelude.Std.{sym, ap, subst, arith, props, ∥∥₁_elim}
use Rattle.hist_core.specs.declared.add.AddStep.TheVariants.{More}
use Rattle.hist_core.specs.declared.add.AddStage.{AddStage}
use Rattle.hist_core.specs.declared.add.AddStage.TheVariants.{Counting}
use Rattle.hist_core.specs.StepsBy.{StepsBy}
use Rattle.hist_core.specs.Add.{StandsAtStage, AddGives}
use Rattle.hist_core.proofs.Left.Adds.{moves_less}
use Rattle.hist_core.proofs.AddCall.Moves.{moves_so, move_inside}
use Rattle.hist_core.proofs.AddCall.Packs.{small_bucket}
use Rattle.hist_core.proofs.add.Add.move_units.Goals as goal

pub overflow_add-bucket : goal.overflow_add-bucket
overflow_add-bucket c = ∥∥₁_elim c.requires.stands (hlevel props) (λ (shape, known, amid, a, long, is).
    let inside = move_inside shape known amid c.args.self.now a c.args.words.now is c.args.counts c.args.bucket c.args.units c.requires.next long in
    let many = is.lawful_shape.many in omega (arith, inside, many, long))

pub overflow_add-counts : goal.overflow_add-counts
overflow_add-counts c = ∥∥₁_elim c.requires.stands (hlevel props) (λ (shape, known, amid, a, long, is).
    let inside = move_inside shape known amid c.args.self.now a c.args.words.now is c.args.counts c.args.bucket c.args.units c.requires.next long in
    let many = is.lawful_shape.many in omega (arith, inside, many, long))

pub fetch_add-requires : goal.fetch_add-requires
fetch_add-requires c = ∥∥₁_elim c.requires.stands (hlevel props) (λ (shape, known, amid, a, long, is).
    move_inside shape known amid c.args.self.now a c.args.words.now is c.args.counts c.args.bucket c.args.units c.requires.next long)

pub count_in-requires : goal.count_in-requires
count_in-requires c =
    let small = small_bucket c.args.self.now _ (λ shape known amid a is. (subst (StandsAtStage shape known amid c.args.self.now a) c.requires.next is.stands).0) c.requires.stands in
    omega (arith, small)

pub returns-clause-steps : goal.returns-clause-steps
returns-clause-steps c = λ shape known amid a long is.
    let add = c.args.self.now in
    let gives : AddStage → Type 0 = λ stage. StepsBy shape.size add.version a c.args.words.now c.fetch_add.new.words (AddGives shape known amid (record add { stage = stage }) More a) in
    subst gives (ap Counting (sym c.count_in.ensures))
    (moves_so shape known amid add a c.args.words.now is c.args.counts c.args.bucket c.args.units c.requires.next c.fetch_add.new.words c.fetch_add.ensures)

pub returns-clause-less : goal.returns-clause-less
returns-clause-less c =
    moves_less c.args.self.now c.args.words.now c.fetch_add.new.words c.args.counts c.args.bucket c.args.units c.count_in.result c.requires.next
