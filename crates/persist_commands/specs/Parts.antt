-- The parts of a list by number.
use Rattle.std.specs.Prelude.{◌==◌, ℕ, ◌%◌, List, map}
use Rattle.std.specs.List.{enumerate_from, filter}

-- the elements whose number leaves `part` when it is divided by the number of parts, of a list whose first element has this number
abbrev pub part_from : {X : Type 0} → ℕ → ℕ → ℕ → List X → List X
part_from first parts part xs = map (λ numbered. numbered.1) (filter (λ numbered. numbered.0 % parts == part) (enumerate_from first xs))

-- the same of a list whose first element has the number 0
abbrev pub part_of : {X : Type 0} → ℕ → ℕ → List X → List X
part_of parts part xs = part_from 0 parts part xs
