-- A name in a page opens and ends nothing.
use Rattle.std.specs.Prelude.{◌≡◌, ◌==◌, ◌&&◌, if◌then◌else◌, Bool, true, false, ℕ, List, [], ◌∷◌, codes}
use Rattle.std.specs.List.{list_all}
use Rattle.std.proofs.Common.{◌∙◌, ap, refl}
use Rattle.std.proofs.lemmas.List.Folds.{list_all-append}
use Rattle.reading_shows.specs.Escapes.{escaped, escaped_byte, is_inert}

-- how a byte is written, by the results of the tests on it
by-tests : (byte : ℕ) (ampersand less greater double single plain : Bool) → (byte == 60) ≡ less → (byte == 62) ≡ greater → (byte == 34) ≡ double → (byte == 39) ≡ single
    → list_all is_inert
    (if ampersand then codes "&amp;"
    else (if less then codes "&lt;"
    else (if greater then codes "&gt;"
    else (if double then codes "&quot;"
    else (if single then codes "&#39;"
    else (if plain then byte ∷ []
    else 239 ∷ 191 ∷ 189 ∷ [])))))) ≡ true
by-tests byte true less greater double single plain l g d s = refl
by-tests byte false true greater double single plain l g d s = refl
by-tests byte false false true double single plain l g d s = refl
by-tests byte false false false true single plain l g d s = refl
by-tests byte false false false false true plain l g d s = refl
by-tests byte false false false false false true l g d s = rw (l, g, d, s) refl
by-tests byte false false false false false false l g d s = refl

inert-byte : (byte : ℕ) → list_all is_inert (escaped_byte byte) ≡ true
inert-byte byte = by-tests byte (byte == 38) (byte == 60) (byte == 62) (byte == 34) (byte == 39) _ refl refl refl refl

pub inert-escaped : (name : List ℕ) → list_all is_inert (escaped name) ≡ true
inert-escaped [] = refl
inert-escaped (byte ∷ name) =
    list_all-append is_inert (escaped_byte byte) (escaped name)
    ∙ (ap (λ b. b && list_all is_inert (escaped name)) (inert-byte byte) ∙ inert-escaped name)
