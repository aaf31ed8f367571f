-- The texts of lists, one after the other.
use Rattle.std.proofs.Common.{◌≡◌, ◌∙◌, ℕ, ℤ, ◌+◌, ◌<◌, List, [], ◌∷◌, ◌++◌, length, take, get_or, ap, sym}
use Rattle.std.proofs.lemmas.List.{append-nil, take_more}
use Rattle.std.proofs.lemmas.List.Concat.{flat_map-append}
use Rattle.std.specs.List.{flat_map}
use Rattle.stepped.specs.Said.{key_text, keys_text}
use Rattle.stepped.specs.Value.{letter_text, letters_text}

-- the text of one more
flat_more : {A : Type 0} (f : A → List ℕ) (l : List A) (i : ℕ) (one : A) → i < length l → one ≡ get_or l i one
    → flat_map f (take (i + 1) l) ≡ flat_map f (take i l) ++ f one
flat_more {A} f l i one near is =
    ap (flat_map f) (take_more l i one near ∙ ap (λ (x : A). take i l ++ x ∷ []) (sym is))
    ∙ (flat_map-append f (take i l) (one ∷ []) ∙ ap (λ (s : List ℕ). flat_map f (take i l) ++ s) (append-nil (f one)))

-- one byte more
pub letters_more : (bytes : List ℕ) (i byte : ℕ) → i < length bytes → byte ≡ get_or bytes i byte
    → letters_text (take (i + 1) bytes) ≡ letters_text (take i bytes) ++ letter_text byte
letters_more bytes i byte near is = flat_more letter_text bytes i byte near is

-- one key more
pub keys_more : (counts : List (ℤ × ℕ)) (i : ℕ) (one : ℤ × ℕ) → i < length counts → one ≡ get_or counts i one
    → keys_text (take (i + 1) counts) ≡ keys_text (take i counts) ++ key_text one
keys_more counts i one near is = flat_more key_text counts i one near is
