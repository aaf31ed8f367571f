-- The record of a script that asks for a custom histogram: fields with commas between them, and a line feed.
use Rattle.std.specs.Prelude.{Bool, ◌||◌, ◌==◌, if◌then◌else◌, ℕ, List, [], ◌∷◌, ◌++◌, codes}
use Rattle.std.specs.Fmt.{decimal}
use Rattle.std.specs.List.{flat_map, list_any}

-- whether a field has to be in quotes: it has a comma, a quote, a line feed or a carriage return
abbrev pub has_special : List ℕ → Bool
has_special field = list_any (λ byte. byte == 44 || byte == 34 || byte == 10 || byte == 13) field

-- a byte of a field in quotes: a quote is doubled
abbrev pub doubled : ℕ → List ℕ
doubled byte = if byte == 34 then 34 ∷ 34 ∷ [] else byte ∷ []

-- a field of a script
abbrev pub script_field : List ℕ → List ℕ
script_field field = if has_special field then 34 ∷ (flat_map doubled field ++ 34 ∷ []) else field

-- a comma and a value
abbrev pub value_field : ℕ → List ℕ
value_field value = 44 ∷ decimal value

-- the record of a name and values
abbrev pub custom_record : List ℕ → List ℕ → List ℕ
custom_record name values =
    codes "hist," ++ (script_field name ++ (codes ",custom" ++ (flat_map value_field values ++ 10 ∷ [])))
