use Rattle.std.proofs.Common.{rules, ◌≡◌, false, ◌+◌, ◌++◌, inl, inr, ⊎_elim, sym, subst, arith}
use Rattle.std.proofs.lemmas.Result.{err_from_is_err_and}
use Rattle.std.specs.Io.KnownBytes.{Appends}
use Rattle.stepped.specs.Form.{texts}
use Rattle.stepped.specs.Replay.{placed}
use Rattle.stepped.proofs.Shown.{ends_behind, goes_next, writes_placed}
use Rattle.stepped.proofs.replay.Replay.steps.Goals as goal

pub returns-in_err-step-clause-err : goal.returns-in_err-step-clause-err
returns-in_err-step-clause-err g c =
    let place = c.args.place in let contents = g.W.Write.contents in let so_far = c.loop.invariant in
    let p = err_from_is_err_and c.from_residual.result c.from_residual.ensures.1 in
    rw (p.1, p.2) (⊎_elim (λ write. inl write)
    (λ (why, faults, is, same). inr (
      why,
      so_far.0,
      (c.loop.counter, c.loop.self.world.world_state, c.loop-test.true, so_far.1, faults),
      is,
      subst (λ (writer : _). Appends (contents c.args.writer.now) (contents writer) (texts c.args.self.now.form (placed place.number place.actor so_far.0))) (sym same) so_far.3.1,
    ))
    c.in_err-step.ensures.err)

pub returns-then-not-branch-clause-ok : goal.returns-then-not-branch-clause-ok
returns-then-not-branch-clause-ok g c =
    let place = c.args.place in let contents = g.W.Write.contents in let so_far = c.loop.invariant in let its = c.in_ok-step.ensures.ok in
    let over : c.in_ok-step.field-0 ≡ false = search rules in (
      so_far.0 ++ its.0,
      record {
        events = c.loop.counter + 1;
        goes = goes_next place.actor c.loop.counter c.args.self.now.world.world_state c.loop.self.world.world_state c.step.new.self.world.world_state so_far.0 its.0 so_far.1 its.1;
        spent = omega (arith, so_far.2, c.step.ensures.left, c.if-self-eq0.false);
        few = omega (arith, c.loop-test.true);
        whole = inr (inr (ends_behind so_far.0 its.0 (its.3 over)));
      },
      writes_placed place.number place.actor c.args.self.now.form c.loop.self.form c.step.new.self.form (contents c.args.writer.now) (contents c.loop.writer) (contents c.step.new.writer) so_far.0 its.0 so_far.3 its.2,
    )

pub loop-preserved : goal.loop-preserved
loop-preserved g c =
    let place = c.args.place in let contents = g.W.Write.contents in let so_far = c.loop.invariant in let its = c.in_ok-step.ensures.ok in (
      so_far.0 ++ its.0,
      goes_next place.actor c.loop.counter c.args.self.now.world.world_state c.loop.self.world.world_state c.step.new.self.world.world_state so_far.0 its.0 so_far.1 its.1,
      omega (arith, so_far.2, c.step.ensures.left, c.if-self-eq0.false),
      writes_placed place.number place.actor c.args.self.now.form c.loop.self.form c.step.new.self.form (contents c.args.writer.now) (contents c.loop.writer) (contents c.step.new.writer) so_far.0 its.0 so_far.3 its.2,
    )
