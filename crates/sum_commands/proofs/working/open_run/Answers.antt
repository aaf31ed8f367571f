-- What was opened is the input at its place.
use Rattle.std.proofs.Common.{◌≡◌, ◌++◌, ◌∷◌, [], All, length, refl, ap, sym, subst, arith}
use Rattle.std.proofs.lemmas.List.{length-append}
use Rattle.std.proofs.lemmas.List.Elements.{All-append, All-cons, All-nil}
use Rattle.sum_commands.specs.Sources.{AreOpenedFrom}
use Rattle.sum_commands.proofs.Taking.{opened-append}
use Rattle.sum_commands.proofs.working.open_run.Goals as goal

pub loop-place-init : goal.loop-place-init
loop-place-init g c =
    let none = ap length c.new-opened.ensures.items in (
      omega (arith, none),
      subst (AreOpenedFrom g.S.Opened.OpenInput.may_be (g.S.Source.may_be c.args.source.now) c.args.part.0) (sym c.new-opened.ensures.items) tt,
      λ w. subst (All g.S.Opened.OpenInput.is_whole) (sym c.new-opened.ensures.items) (All-nil g.S.Opened.OpenInput.is_whole),
    )

pub loop-place-preserved : goal.loop-place-preserved
loop-place-preserved g c =
    let at = c.loop-place.invariant in
    let items : c.push.new.self.items ≡ c.loop-place.opened.items ++ c.in-Some.input ∷ [] = c.in_ok-push-in-Some.ensures.items in
    let more = ap length items in
    let before = at.0 in (
      omega (arith, more, before, length-append c.loop-place.opened.items (c.in-Some.input ∷ [])),
      subst (AreOpenedFrom g.S.Opened.OpenInput.may_be (g.S.Source.may_be c.args.source.now) c.args.part.0) (sym items)
          (opened-append g.S.Opened.OpenInput.may_be (g.S.Source.may_be c.args.source.now) c.args.part.0 c.loop-place.opened.items c.in-Some.input at.1
          (λ input is. subst (λ n. g.S.Source.may_be c.args.source.now n input) (sym at.0) (c.in-Some.ensures.opened input is))),
      λ w. subst (All g.S.Opened.OpenInput.is_whole) (sym items)
          (All-append g.S.Opened.OpenInput.is_whole c.loop-place.opened.items (c.in-Some.input ∷ []) (at.2 w)
          (All-cons g.S.Opened.OpenInput.is_whole c.in-Some.input [] (c.in-Some.ensures.whole w) (All-nil g.S.Opened.OpenInput.is_whole))),
    )

pub returns-clause-run : goal.returns-clause-run
returns-clause-run g c =
    let at = c.loop-place.invariant in record {
      are = at.1;
      each = at.2;
      within = let before = at.0 in let end = c.loop-place.auto.place-end in let order = c.requires in omega (arith, before, end, order);
      strict = refl;
    }
