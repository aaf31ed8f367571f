-- Checks in an order. Each one says whether it fails, and which fault that is.
use Rattle.std.specs.Prelude.{Bool, List, [], ◌∷◌, Option, Some, None, Result, Ok, Err, if◌then◌else◌}

-- the fault of the first check that fails
abbrev pub first_fault : {F : Type 0} → List (Bool × F) → Option F
first_fault [] = None
first_fault (check ∷ rest) = if check.0 then Some check.1 else first_fault rest

-- the fault of the first check that fails, or the value if none fails
abbrev pub checked : {F X : Type 0} → List (Bool × F) → X → Result X F
checked [] x = Ok x
checked (check ∷ rest) x = if check.0 then Err check.1 else checked rest x
