-- The names that are asked for and that no histogram of a reading has.
use Rattle.std.specs.Prelude.{◌≡◌, Bool, not, true, ℕ, List, [], Option, All}
use Rattle.std.specs.Borrow.{Bor}
use Rattle.std.specs.List.{find, list_any}
use Rattle.std.specs.Str.{bytes_eq}
use Rattle.bucket_ranges.specs.Reading.{Reading}
use Rattle.text_styles.specs.declared.choice.Choice.{Choice}
use Rattle.text_styles.specs.declared.choice.Choice.TheVariants.{All as Everything, Named, Part}

-- the names that a choice asks for; a part of a name is not one of these
abbrev pub names_of : Choice → List (Bor (List ℕ))
names_of Everything = []
names_of (Named names) = names.items
names_of (Part part) = []

-- whether a histogram of a reading has this name
abbrev pub is_there : Reading → Bor (List ℕ) → Bool
is_there reading name = list_any (λ hist. bytes_eq name.now hist.name) reading.hists

-- the first name that a choice asks for and no histogram has
abbrev pub first_missing : Choice → Reading → Option (Bor (List ℕ))
first_missing choice reading = find (λ name. not (is_there reading name)) (names_of choice)

-- a histogram has each name that a choice asks for
abbrev pub AreAllThere : Choice → Reading → Type 0
AreAllThere choice reading = All (λ name. is_there reading name ≡ true) (names_of choice)
