use Rattle.std.proofs.Common.{rules, ℕ, List, ◌∷◌, Option, ap, sym, subst, ◌∙◌}
use Rattle.atomic_table.specs.Table.{Me, rest}
use Rattle.segment_memory.specs.declared.room.Room.{Room}
use Rattle.segment_memory.specs.Shelf.{HasSize}
use Rattle.segment_memory.proofs.Shelves.{reaches, places}
use Rattle.segment_memory.proofs.shelf.Shelf.replace.Goals as goal

pub swap_new_seat-found-requires : goal.swap_new_seat-found-requires
swap_new_seat-found-requires c = (search rules, reaches _ _)

pub store-requires : goal.store-requires
store-requires c = (
  search rules,
  search rules,
  places _ _ _ _ (c.args.room, ap (λ (me : Me (Option Room) ℕ). me.1) c.exchange-old.ensures.3 ∙ ap (λ (held : List (ℕ × Option Room)). (0, c.args.room) ∷ rest held) (c.swap_new_seat-found.ensures.1 c.if-found-ne-FREE.false).1, subst (λ (n : ℕ). HasSize n c.args.room) (sym c.args.self.now.keyed) c.requires),
)
