-- The steps on a shelf keep its rule.
use Rattle.std.proofs.Common.{◌≡◌, ℕ, List, ◌∷◌, [], Option, length, get_or, refl, sym, subst, ◌∙◌, arith, length-set, get_or-set_same}
use mathlib.Core.Logic.{dite}
use mathlib.Core.Option.{some, none}
use native.Mathlib.Decide.{ℕ_discrete}
use lib.ListN.{get_elem?}
use Rattle.atomic_table.proofs.Lists.{set_here}
use Rattle.atomic_table.specs.Table.{keeps, takes, gives, put_back, Me, Arrives, Allows}
use Rattle.segment_memory.specs.declared.room.Room.{Room}
use Rattle.segment_memory.specs.Shelf.{HasSize, IsShelf, IsRoomTaken}

pub reaches : (n slots : ℕ) → Arrives (IsShelf n) slots 0 (λ _. 1) (λ found after. found ≡ 0 → IsRoomTaken n after)
reaches n slots s g wide _ = let one = get_or-set_same s.words 0 1 0 (omega (arith, g.0)) in
    dite (ℕ_discrete (get_or s.words 0 0) 0)
    (λ free. let t = g.2 free in (n, takes 0 t.0, t.1, (length-set s.words 0 1 ∙ g.0, length-set s.homes 0 none ∙ g.1, λ e. absurd (omega arith)), λ _. (t.0, refl, t.2)))
    (λ held. (n, keeps, tt, (length-set s.words 0 1 ∙ g.0, g.1, λ e. absurd (omega arith)), λ e. absurd (held e)))

pub places : (n slots id : ℕ) (me : Me (Option Room) ℕ) → IsRoomTaken n me → Allows (IsShelf n) slots id me 0 (λ _. 0) (λ _ _. Unit {0})
places n slots id me taken s g wide seen _ =
    let value = taken.0 in
    let back : (length (put_back s.homes me.1) ≡ 1) × (get_elem? (put_back s.homes me.1) 0 ≡ some (some value)) =
    subst (λ (c : List (ℕ × Option Room)). (length (put_back s.homes c) ≡ 1) × (get_elem? (put_back s.homes c) 0 ≡ some (some value))) (sym taken.1)
    (length-set s.homes 0 (some value) ∙ g.1, set_here s.homes 0 (some value) (omega (arith, g.1))) in
    (me.0, gives, tt, (length-set s.words 0 0 ∙ g.0, back.0, λ _. (value, back.1, taken.2)), tt)
