-- Whether two seats are of one table.
use Rattle.std.specs.Prelude.{ℕ, ◌==◌, ◌&&◌, Bool, true, false, List, [], ◌∷◌}
use Rattle.atomic_table.specs.Seated.{TableId}

-- two lists have the same numbers
abbrev pub have_same : List ℕ → List ℕ → Bool
have_same [] [] = true
have_same [] (y ∷ ys) = false
have_same (x ∷ xs) [] = false
have_same (x ∷ xs) (y ∷ ys) = (x == y) && have_same xs ys

-- two tables are the same
abbrev pub is_same_table : TableId → TableId → Bool
is_same_table a b =
    (a.words == b.words) && (a.slots == b.slots) && (a.views_name == b.views_name) && (a.atom == b.atom) && (a.block == b.block)
    && (a.offset == b.offset) && have_same a.slot_names b.slot_names
