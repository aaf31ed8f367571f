-- The names of the histograms that are read.
use Rattle.std.specs.Prelude.{◌≡◌, Bool, ℕ, List, ◌++◌, take, drop, All}
use Rattle.std.specs.List.{list_any}
use Rattle.std.specs.Str.{bytes_eq}
use Rattle.std.specs.Int.Digits.{digits_of, number_from_digits}
use Rattle.std.specs.declared.vec.Vec.{Vec}
use Rattle.std.specs.declared.alloc.Global.{Global}
use Rattle.image_reader.specs.declared.names.Names.{Names}

-- the number whose digits are the first eight bytes of a name, or all bytes of a shorter one
unfoldable pub prefix_of : List ℕ → ℕ
prefix_of name = number_from_digits 256 (take 8 name)

-- the name of a key: the digits of its number, and then its bytes
unfoldable pub name_of_key : ℕ × Vec ℕ Global → List ℕ
name_of_key key = digits_of 256 key.0 ++ key.1.items

-- whether a name is among those that are held
abbrev pub holds : Names → List ℕ → Bool
holds names name = list_any (λ key. bytes_eq name (name_of_key key)) names.set.keys

-- a key is the one of its name
abbrev pub IsKey : ℕ × Vec ℕ Global → Type 0
IsKey key = (key.0 ≡ prefix_of (name_of_key key)) × (key.1.items ≡ drop 8 (name_of_key key))

abbrev pub AreKeys : Names → Type 0
AreKeys names = All IsKey names.set.keys
