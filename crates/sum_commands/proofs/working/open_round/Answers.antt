-- Each turn moves at least one place on.
use Rattle.std.proofs.Common.{◌<◌, All, length, inl, inr, ap, sym, subst, arith}
use Rattle.std.proofs.lemmas.List.Elements.{All-nil}
use Rattle.sum_commands.specs.Sources.{IsOpenedRun}
use Rattle.sum_commands.proofs.working.open_round.Goals as goal

pub loop-place-init : goal.loop-place-init
loop-place-init g c =
    let left = c.requires.left in (
      omega (arith, left),
      omega arith,
      inr (ap length c.new-runs.ensures.items),
      subst (All (IsOpenedRun g.S.Opened.OpenInput.is_whole g.S.Opened.OpenInput.may_be (g.S.Source.are_whole c.args.source.now) (g.S.Source.may_be c.args.source.now) c.args.part.1 c.args.how.is_strict)) (sym c.new-runs.ensures.items)
          (All-nil (IsOpenedRun g.S.Opened.OpenInput.is_whole g.S.Opened.OpenInput.may_be (g.S.Source.are_whole c.args.source.now) (g.S.Source.may_be c.args.source.now) c.args.part.1 c.args.how.is_strict)),
    )

pub loop-place-preserved : goal.loop-place-preserved
loop-place-preserved g c =
    let at = c.loop-place.invariant in
    let on : c.args.part.0 < c.min-place.result = omega arith in (omega arith, omega (arith, on), inl on, at.3)
