-- Each turn takes the next input of the source.
use Rattle.std.proofs.Common.{◌≡◌, ◌∙◌, false, arith}
use Rattle.sum_commands.specs.Sources.{has_ended}
use Rattle.sum_commands.proofs.Taking.{next-so-far}
use Rattle.sum_commands.proofs.summing.Summed.add_up_to.Goals as goal

pub loop-self-preserved : goal.loop-self-preserved
loop-self-preserved g c =
    let at = c.loop-self.invariant in
    let goes_on : has_ended c.args.is_strict c.loop-self.self ≡ false = cc in (
      λ before. next-so-far (g.S.Source.are_whole c.args.source.now) (g.S.Source.may_be c.args.source.now) c.args.is_strict c.loop-self.self c.add_next.new.self (at.0 before) goes_on c.in_ok-add_next.ensures,
      (c.in_ok-add_next.ensures).first ∙ at.1,
      λ most start end.
          let step = (c.in_ok-add_next.ensures).reached in let below = c.loop-self-test.true in omega (arith, step, below, end),
    )
