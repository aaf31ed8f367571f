-- A name as text of a page.
use Rattle.std.specs.Prelude.{Bool, not, ◌==◌, ◌&&◌, ◌||◌, nat_lt, if◌then◌else◌, ℕ, List, [], ◌∷◌, codes}
use Rattle.std.specs.List.{flat_map}

-- how a page writes a byte of a name: the five characters with a meaning in HTML are escaped, and a byte that is no printable ASCII
-- character is replaced by U+FFFD, in UTF-8
abbrev pub escaped_byte : ℕ → List ℕ
escaped_byte byte =
    if byte == 38 then codes "&amp;"
    else (if byte == 60 then codes "&lt;"
    else (if byte == 62 then codes "&gt;"
    else (if byte == 34 then codes "&quot;"
    else (if byte == 39 then codes "&#39;"
    else (if nat_lt 31 byte && nat_lt byte 127 then byte ∷ []
    else 239 ∷ 191 ∷ 189 ∷ [])))))

-- a name as a page writes it, also one of a forged image
abbrev pub escaped : List ℕ → List ℕ
escaped name = flat_map escaped_byte name

-- a byte that can open or end neither a tag nor a value in quotes
abbrev pub is_inert : ℕ → Bool
is_inert byte = not (byte == 60 || (byte == 62 || (byte == 34 || byte == 39)))
