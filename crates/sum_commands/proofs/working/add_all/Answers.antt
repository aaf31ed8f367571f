-- Each turn adds the sum of one worker.
use Rattle.std.proofs.Common.{◌≤◌, ◌∷◌, List, Result, All, IfOk, sym, subst, ◌∙◌, arith}
use Rattle.std.specs.declared.alloc.AllocError.{AllocError}
use Rattle.std.specs.Vec.Iter.{into_iter_items}
use Rattle.std.proofs.lemmas.List.Elements.{All-head, All-tail}
use Rattle.sum_commands.specs.declared.summing.Summed.{Summed}
use Rattle.sum_commands.specs.Sources.{IsSumBefore, SumEndsWithin}
use Rattle.sum_commands.proofs.working.add_all.Goals as goal

pub loop-summed-init : goal.loop-summed-init
loop-summed-init g c = (
  tt,
  tt,
  λ inputs are. (
    subst (All (λ one. IfOk one (SumEndsWithin (g.S.Source.are_whole c.args.source.now) (g.S.Source.may_be c.args.source.now) c.args.is_strict inputs)))
        (sym c.into_iter-summed-iterator.ensures.into_iter_gives.0) are,
    λ before. before,
  ),
)

pub loop-summed-preserved : goal.loop-summed-preserved
loop-summed-preserved g c = (
  c.loop-summed.invariant.0,
  c.loop-summed.invariant.1,
  λ inputs are.
      let at = c.loop-summed.invariant.2 inputs are in
      let rest : List (Result Summed AllocError) = into_iter_items c.next.new.self in
      let left : All (λ one. IfOk one (SumEndsWithin (g.S.Source.are_whole c.args.source.now) (g.S.Source.may_be c.args.source.now) c.args.is_strict inputs)) (c.in-Some.summed ∷ rest) =
      subst (All (λ one. IfOk one (SumEndsWithin (g.S.Source.are_whole c.args.source.now) (g.S.Source.may_be c.args.source.now) c.args.is_strict inputs))) c.in-Some.ensures.steps.0 at.0 in
      let here : SumEndsWithin (g.S.Source.are_whole c.args.source.now) (g.S.Source.may_be c.args.source.now) c.args.is_strict inputs c.in_ok-summed.field-0 =
      subst (λ one. IfOk one (SumEndsWithin (g.S.Source.are_whole c.args.source.now) (g.S.Source.may_be c.args.source.now) c.args.is_strict inputs)) c.in_ok-summed.was
      (All-head (λ one. IfOk one (SumEndsWithin (g.S.Source.are_whole c.args.source.now) (g.S.Source.may_be c.args.source.now) c.args.is_strict inputs)) c.in-Some.summed rest left) in (
        All-tail (λ one. IfOk one (SumEndsWithin (g.S.Source.are_whole c.args.source.now) (g.S.Source.may_be c.args.source.now) c.args.is_strict inputs)) c.in-Some.summed rest left,
        λ first.
            let before : IsSumBefore (g.S.Source.are_whole c.args.source.now) (g.S.Source.may_be c.args.source.now) c.args.is_strict inputs c.loop-summed.all = at.1 first in record {
              sum = c.in_ok-add_summed.ensures.sum here.sum before.sum;
              first = c.in_ok-add_summed.ensures.first ∙ before.first;
              within = let reached = here.sum.sum.reached in
                  let order : c.in_ok-summed.field-0.first ≤ c.in_ok-summed.field-0.reached = omega (arith, reached) in
                  c.in_ok-add_summed.ensures.within inputs before.within order here.within;
            },
      ),
)

pub returns : goal.returns
returns g c = record { sum = λ inputs are before. (c.loop-summed.invariant.2 inputs are).1 before }
