use Rattle.std.proofs.Common.{◌<◌, ◌+◌, ◌++◌, inl, inr, ⊎_elim, arith}
use Rattle.std.proofs.lemmas.Result.{err_from_is_err_and}
use Rattle.stepped.specs.Replay.{placed}
use Rattle.stepped.proofs.Shown.{replays_all, replays_next, stops_next, texts_behind, writes_both}
use Rattle.stepped.proofs.replay.Replay.run.Goals as goal

pub returns-then-self-eq0-clause-replays : goal.returns-then-self-eq0-clause-replays
returns-then-self-eq0-clause-replays g c =
    let l = c.loop-i in let so_far = l.invariant in (
      so_far.0,
      replays_all c.args.orders.now l.i c.args.self.now.left c.args.self.now.world.world_state l.self.world.world_state l.self.left so_far.0 (omega (arith, c.if-self-eq0.true)) so_far.1,
      so_far.2,
    )

pub returns-in_err-obey-clause-stops : goal.returns-in_err-obey-clause-stops
returns-in_err-obey-clause-stops g c =
    let l = c.loop-i in let so_far = l.invariant in let contents = g.W.Write.contents in let order = c.index-orders-i.result in
    let p = err_from_is_err_and c.from_residual.result c.from_residual.ensures.1 in
    let some : 0 < l.self.left = omega (arith, c.if-self-eq0.false) in
    rw (p.1, p.2) (⊎_elim (λ write. inl write)
    (λ (why, deeds, fails, is, shown). inr (
      l.i + 2,
      why,
      so_far.0 ++ placed (l.i + 2) order.actor deeds,
      stops_next c.args.orders.now l.i order c.args.self.now.left c.args.self.now.world.world_state l.self.world.world_state l.self.left so_far.0 why deeds
          c.loop-i-test.true c.index-orders-i.is so_far.1 some fails,
      is,
      texts_behind c.args.self.now.form l.self.form (contents c.args.writer.now) (contents l.writer) (contents c.obey.new.writer) so_far.0 (placed (l.i + 2) order.actor deeds) so_far.2 shown,
    ))
    c.in_err-obey.ensures.err)

pub loop-i-preserved : goal.loop-i-preserved
loop-i-preserved g c =
    let l = c.loop-i in let so_far = l.invariant in let contents = g.W.Write.contents in let order = c.index-orders-i.result in
    let its = c.in_ok-obey.ensures.ok in
    let some : 0 < l.self.left = omega (arith, c.if-self-eq0.false) in (
      so_far.0 ++ placed (l.i + 2) order.actor its.0,
      replays_next c.args.orders.now l.i order c.args.self.now.left c.args.self.now.world.world_state l.self.world.world_state c.obey.new.self.world.world_state l.self.left
          c.obey.new.self.left so_far.0 its.0 c.loop-i-test.true c.index-orders-i.is so_far.1 some its.1,
      writes_both c.args.self.now.form l.self.form c.obey.new.self.form (contents c.args.writer.now) (contents l.writer) (contents c.obey.new.writer) so_far.0 (placed (l.i + 2) order.actor its.0) so_far.2 its.2,
    )
