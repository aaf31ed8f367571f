-- Each turn takes the next input that was opened.
use Rattle.std.proofs.Common.{◌≡◌, ◌++◌, ◌∷◌, [], List, All, length, false, ap, sym, subst, ◌∙◌, arith, append_assoc}
use Rattle.std.specs.Vec.Iter.{into_iter_items}
use Rattle.std.proofs.lemmas.List.{length-append}
use Rattle.sum_commands.specs.Sources.{IsOpenedAt, has_ended}
use Rattle.sum_commands.proofs.Taking.{none-of-run, next-of-run, opened-taken}
use Rattle.sum_commands.proofs.working.RunJob.run.Goals as goal

pub loop-opened-init : goal.loop-opened-init
loop-opened-init g c = (
  tt,
  tt,
  none-of-run (All g.O.OpenInput.is_whole c.args.self.opened.items) (IsOpenedAt g.O.OpenInput.may_be c.args.self.first c.args.self.opened.items) c.args.self.is_strict c.args.self.first c.none-summed.result c.none-summed.ensures,
  ([], c.into_iter-opened-iterator.ensures.into_iter_gives.0, let reached = c.none-summed.ensures.reached in omega (arith, reached)),
)

pub add_opened-requires : goal.add_opened-requires
add_opened-requires g c =
    let at = c.loop-opened.invariant.3 in
    let split = ap length (subst (λ z. at.0 ++ z ≡ c.args.self.opened.items) c.in-Some.ensures.steps.0 at.1) in
    let all = length-append at.0 (c.in-Some.opened ∷ into_iter_items c.next.new.self) in
    let fits = c.requires in let reached = at.2 in omega (arith, split, all, fits, reached)

pub loop-opened-preserved : goal.loop-opened-preserved
loop-opened-preserved g c =
    let at = c.loop-opened.invariant in
    let rest : List g.row.O.Denot = into_iter_items c.next.new.self in
    let done : List g.row.O.Denot = at.3.0 in
    let one = c.in-Some.opened in
    let split : done ++ one ∷ rest ≡ c.args.self.opened.items = subst (λ z. done ++ z ≡ c.args.self.opened.items) c.in-Some.ensures.steps.0 at.3.1 in
    let goes_on : has_ended c.args.self.is_strict c.loop-opened.summed ≡ false = cc in (
      at.0,
      at.1,
      next-of-run (All g.O.OpenInput.is_whole c.args.self.opened.items) (IsOpenedAt g.O.OpenInput.may_be c.args.self.first c.args.self.opened.items) c.args.self.is_strict c.loop-opened.summed c.add_opened.new.self at.2 goes_on
          (opened-taken g.O.OpenInput.is_whole g.O.OpenInput.may_be c.args.self.first c.args.self.opened.items done one rest c.loop-opened.summed c.add_opened.new.self at.3.2 (sym split)
          c.in_ok-add_opened.ensures),
      (
        done ++ one ∷ [],
        append_assoc done (one ∷ []) rest ∙ split,
        let step = (c.in_ok-add_opened.ensures).reached in let before = at.3.2 in omega (arith, step, before, length-append done (one ∷ [])),
      ),
    )

pub returns : goal.returns
returns g c =
    let at = c.loop-opened.invariant in record {
      sum = at.2;
      within = let reached = at.3.2 in let split = ap length at.3.1 in
          omega (arith, reached, split, length-append at.3.0 (into_iter_items c.loop-opened.opened-iterator));
    }
