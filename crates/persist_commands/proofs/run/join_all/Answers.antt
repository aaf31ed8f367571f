use Rattle.std.proofs.Common.{◌≡◌, ◌∙◌, ◌∷◌, List, All, ap, arith, refl, sym, subst, map}
use Rattle.std.specs.Vec.Iter.{into_iter_items}
use Rattle.std.proofs.lemmas.List.{nil_from_length}
use Rattle.std.proofs.lemmas.List.Elements.{All-tail}
use Rattle.segment_machine.specs.declared.actor.Actor.{Actor}
use Rattle.live_segment.specs.Holders.{view_of_opener}
use Rattle.persist_commands.specs.declared.worker.Ended.{Ended}
use Rattle.persist_commands.specs.Recording.{EndedAt, all_joined, view_of_ended}
use Rattle.persist_commands.specs.Stop.{EndTogether}
use Rattle.persist_commands.proofs.Stops.{told_alone, told_behind, told_on}
use Rattle.persist_commands.proofs.run.join_all.Goals as goal

pub loop-ended-preserved : goal.loop-ended-preserved
loop-ended-preserved c =
    let rest : List Ended = into_iter_items c.next.new.self in
    let one = c.in-Some.ended in
    let steps : into_iter_items c.loop-ended.ended-iterator ≡ one ∷ rest = c.in-Some.ensures.steps.0 in
    let at = c.loop-ended.invariant in (
      at.0,
      at.1,
      c.join.ensures.takes.0.table ∙ at.2,
      All-tail (EndedAt c.args.opener.now.seat.table_id) one rest (subst (All (EndedAt c.args.opener.now.seat.table_id)) steps at.3),
      ap (λ (a : Actor). all_joined a (map view_of_ended rest)) c.join.ensures.takes.1
          ∙ subst (λ (l : List Ended). all_joined (view_of_opener c.loop-ended.opener) (map view_of_ended l) ≡ all_joined (view_of_opener c.args.opener.now) (map view_of_ended c.args.all.items)) steps at.4,
      λ together told.
          at.5 together
          (subst (λ (l : List Ended). EndTogether (c.loop-ended.outcome ∷ map (λ ended. ended.outcome) l) together) (sym steps)
          (told_on c.loop-ended.outcome one.outcome c.both-outcome.result (map (λ ended. ended.outcome) rest) together c.both-outcome.ensures told)),
    )

pub loop-ended-init : goal.loop-ended-init
loop-ended-init c =
    let items = c.into_iter-ended-iterator.ensures.into_iter_gives.0 in (
      tt,
      tt,
      refl,
      subst (All (EndedAt c.args.opener.now.seat.table_id)) (sym items) c.requires.at,
      ap (λ (l : List Ended). all_joined (view_of_opener c.args.opener.now) (map view_of_ended l)) items,
      λ together told.
          subst (λ (l : List Ended). EndTogether (map (λ ended. ended.outcome) l) together) items
          (told_behind (map (λ ended. ended.outcome) (into_iter_items c.into_iter-ended-iterator.result)) together told),
    )

pub returns-clause-told : goal.returns-clause-told
returns-clause-told c =
    let len = c.in-None.ensures.steps.0 in
    let ok = c.loop-ended.ended-iterator.rest.ok in
    let none = nil_from_length (into_iter_items c.loop-ended.ended-iterator) (omega (arith, len, ok)) in
    c.loop-ended.invariant.5 c.loop-ended.outcome
    (subst (λ (l : List Ended). EndTogether (c.loop-ended.outcome ∷ map (λ ended. ended.outcome) l) c.loop-ended.outcome) (sym none)
    (told_alone c.loop-ended.outcome))
