use Rattle.std.proofs.Common.{◌≡◌, ◌∷◌, All, Result, map}
use Rattle.std.specs.Prelude.{⊤}
use Rattle.std.specs.Vec.Iter.{into_iter_items}
use Rattle.live_segment.specs.Holders.{view_of_opener}
use Rattle.persist_commands.specs.declared.stop.Stop.{Stop}
use Rattle.persist_commands.specs.Recording.{EndedAt, all_joined, view_of_ended}
use Rattle.persist_commands.specs.Stop.{EndTogether}
use Rattle.persist_commands.proofs.run.join_all.Given as goal

abbrev pub invariant-loop-ended : goal.invariant-loop-ended
invariant-loop-ended l =
    goal.iterator-loop-ended.can_next l.ended-iterator × goal.iterator-loop-ended.is_finite l.ended-iterator
    × (l.opener.seat.table_id ≡ l.fn.opener.seat.table_id)
    × All (EndedAt l.fn.opener.seat.table_id) (into_iter_items l.ended-iterator)
    × (all_joined (view_of_opener l.opener) (map view_of_ended (into_iter_items l.ended-iterator)) ≡ all_joined (view_of_opener l.fn.opener) (map view_of_ended l.fn.all.items))
    × ((together : Result ⊤ Stop) → EndTogether (l.outcome ∷ map (λ ended. ended.outcome) (into_iter_items l.ended-iterator)) together
    → EndTogether (map (λ ended. ended.outcome) l.fn.all.items) together)
