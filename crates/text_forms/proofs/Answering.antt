-- What holds of the bytes of words, once they were read, holds of the bytes that the reader had left.
use Rattle.std.proofs.Common.{◌≡◌, List, ℕ, Option, Some, None, Result, Ok, Err, subst}
use Rattle.std.specs.Prelude.{IfErr, IfOk, IfSome, OnOk}
use Rattle.segment_image.specs.Words.{bytes_of_words}

-- what holds of the bytes of words holds of those from which they were read
known_of_bytes : (words : List ℕ) (P : List ℕ → Type 0) → P (bytes_of_words words) → (remaining : Option (List ℕ))
    → IfSome remaining (λ bytes. bytes_of_words words ≡ bytes) → IfSome remaining P
known_of_bytes words P known None same = tt
known_of_bytes words P known (Some bytes) same = subst P same known

-- the same of a result: if it is Ok, of its value, and of its fault
pub done_on_bytes : {X E : Type 0} (r : Result X E) (words : List ℕ) (P : List ℕ → Type 0) → OnOk r (P (bytes_of_words words))
    → (remaining : Option (List ℕ)) → IfSome remaining (λ bytes. bytes_of_words words ≡ bytes) → OnOk r (IfSome remaining P)
done_on_bytes (Ok x) words P known remaining same = known_of_bytes words P known remaining same
done_on_bytes (Err fault) words P known remaining same = tt

pub value_of_bytes : {X E : Type 0} (r : Result X E) (words : List ℕ) (P : List ℕ → X → Type 0) → IfOk r (P (bytes_of_words words))
    → (remaining : Option (List ℕ)) → IfSome remaining (λ bytes. bytes_of_words words ≡ bytes) → IfOk r (λ x. IfSome remaining (λ bytes. P bytes x))
value_of_bytes (Ok x) words P known remaining same = known_of_bytes words (λ bytes. P bytes x) known remaining same
value_of_bytes (Err fault) words P known remaining same = tt

pub fault_of_bytes : {X E : Type 0} (r : Result X E) (words : List ℕ) (P : List ℕ → E → Type 0) → IfErr r (P (bytes_of_words words))
    → (remaining : Option (List ℕ)) → IfSome remaining (λ bytes. bytes_of_words words ≡ bytes) → IfErr r (λ fault. IfSome remaining (λ bytes. P bytes fault))
fault_of_bytes (Ok x) words P known remaining same = tt
fault_of_bytes (Err fault) words P known remaining same = known_of_bytes words (λ bytes. P bytes fault) known remaining same
