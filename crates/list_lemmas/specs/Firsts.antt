-- The first element of a list that has a property.
use Rattle.std.specs.Prelude.{◌≡◌, List, ◌∷◌, ◌++◌}
use Rattle.std.specs.List.{All}

-- x comes first in a list: `is` holds of it, and `other` of each one before it. If no element has both, at most one comes first.
abbrev pub ComesFirst : {X : Type 0} → (X → Type 0) → (X → Type 0) → List X → X → Type 0
ComesFirst {X} other is list x = (front behind : List X) × (list ≡ front ++ x ∷ behind) × All other front × is x

-- it is the first that has the property: no one before it has it
abbrev pub IsFirstThat : {X : Type 0} → (X → Type 0) → List X → X → Type 0
IsFirstThat is = ComesFirst (λ other. ¬ (is other)) is
