-- Each turn adds what the workers of a round made.
use Rattle.std.proofs.Common.{arith}
use Rattle.sum_commands.proofs.Taking.{all-within, none-so-far}
use Rattle.sum_commands.proofs.working.sum_of_inputs.Goals as goal

pub loop-all-init : goal.loop-all-init
loop-all-init g c =
    let reached = c.none-all.ensures.reached in (
      record {
        sum = none-so-far (g.S.Source.are_whole c.args.source.now) (g.S.Source.may_be c.args.source.now) c.args.how.is_strict 0 c.none-all.result c.none-all.ensures;
        first = c.none-all.ensures.first;
        within = omega (arith, reached);
      },
      omega arith,
    )

pub loop-all-preserved : goal.loop-all-preserved
loop-all-preserved g c = (
  c.in_ok-add_all.ensures.sum c.args.inputs
      (all-within g.S.Opened.OpenInput.is_whole g.S.Opened.OpenInput.may_be (g.S.Source.are_whole c.args.source.now) (g.S.Source.may_be c.args.source.now) c.args.inputs c.args.how.is_strict c.in_ok-runs.runs.items c.in_ok-done.done.items
      c.in_ok-runs.ensures.runs c.in_ok-done.ensures.len c.in_ok-done.ensures.each) c.loop-all.invariant.0,
  c.in_ok-runs.ensures.within,
)
