-- What was visited along a list: the first number of each key, and all of each group of keys.
use Rattle.std.specs.Prelude.{◌≡◌, ◌==◌, Bool, true, ℕ, List, [], ◌∷◌, Option, Some, None, if◌then◌else◌, nat_eq}
use Rattle.std.specs.HashMap as hash
use Rattle.list_index.specs.declared.firsts.Firsts.{Firsts}
use Rattle.list_index.specs.Groups.{group_of, numbers_of}

-- the first number that was entered with a key
abbrev pub first_of : Firsts → ℕ → Option ℕ
first_of firsts key = hash.get nat_eq firsts.map key

-- whether it has the numbers of groups too
abbrev pub is_grouping : Firsts → Bool
is_grouping firsts = firsts.has_groups

-- how many numbers were entered, also with keys that had one
abbrev pub entered_of : Firsts → ℕ
entered_of firsts = firsts.entered

-- how many numbers may be entered
abbrev pub limit_of : Firsts → ℕ
limit_of firsts = firsts.limit

-- the numbers that were entered with keys of a group, in their order
abbrev pub all_of : Firsts → ℕ → List ℕ
all_of firsts group = numbers_of firsts.groups group

-- a number that was visited, with its key if it has one
abbrev pub Met : Type 0
Met = ℕ × Option ℕ

-- the first of them with a key
abbrev pub first_met : List Met → ℕ → Option ℕ
first_met [] key = None
first_met ((at, Some own) ∷ rest) key = if own == key then Some at else first_met rest key
first_met ((at, None) ∷ rest) key = first_met rest key

-- those of them whose keys are of a group
abbrev pub met_in : List Met → ℕ → List ℕ
met_in [] group = []
met_in ((at, Some own) ∷ rest) group = if group_of own == group then at ∷ met_in rest group else met_in rest group
met_in ((at, None) ∷ rest) group = met_in rest group

-- Of each key the first of those that were visited is held, and if there are groups, of each group all.
pub record Holds (met : List Met) (firsts : Firsts) : Type 0 where
  pub first : (key : ℕ) → first_of firsts key ≡ first_met met key
  pub all : is_grouping firsts ≡ true → (group : ℕ) → all_of firsts group ≡ met_in met group

-- nothing has changed
pub record IsUnchanged (old new : Firsts) : Type 0 where
  pub first : (key : ℕ) → first_of new key ≡ first_of old key
  pub all : (group : ℕ) → all_of new group ≡ all_of old group
