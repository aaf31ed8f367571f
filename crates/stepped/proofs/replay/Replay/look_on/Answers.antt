use Rattle.std.proofs.Common.{◌≡◌, ◌<◌, ◌+◌, ◌∙◌, ap, arith, subst, sym, take}
use Rattle.stepped.specs.Look.{Look, TakesLook, look_behind, look_of}
use Rattle.stepped.proofs.Looked.{looks_all, looks_next}
use Rattle.stepped.proofs.replay.Replay.look_on.Goals as goal

pub returns-then-self-eq0 : goal.returns-then-self-eq0
returns-then-self-eq0 c =
    let l = c.loop-i in record {
      looks = looks_all c.args.orders.now l.i c.args.self.now.left c.args.self.now.world.world_state l.self.world.world_state l.self.left
          (look_of c.args.copies.now) (look_of l.copies) (omega (arith, c.if-self-eq0.true)) l.invariant;
    }

pub loop-i-preserved : goal.loop-i-preserved
loop-i-preserved c =
    let l = c.loop-i in let order = c.index-orders-i.result in let its = c.in_ok-obey.ensures.ok in
    let mid = l.self.world.world_state in let new = c.obey.new.self.world.world_state in let first = look_of c.args.copies.now in
    let some : 0 < l.self.left = omega (arith, c.if-self-eq0.false) in
    let follows : look_of c.follow.new.self ≡ look_behind (look_of l.copies) order.actor order.kind mid.words.items =
    c.in_ok-follow.ensures ∙ ap (look_behind (look_of l.copies) order.actor order.kind) c.words.ensures.words in
    subst (λ (look : Look). TakesLook (take (l.i + 1) c.args.orders.now) c.args.self.now.left c.args.self.now.world.world_state new c.obey.new.self.left first look) (sym follows)
    (looks_next c.args.orders.now l.i order c.args.self.now.left c.args.self.now.world.world_state mid new l.self.left c.obey.new.self.left first (look_of l.copies) its.0
    c.loop-i-test.true c.index-orders-i.is l.invariant some its.1)
