-- What a call that reads bytes or words has taken from its reader, and what follows from where it stops.
use Rattle.std.proofs.Common.{◌≡◌, ◌≢◌, ◌∙◌, sym, ap, ℕ, ◌+◌, ◌*◌, ◌-◌, ◌%◌, ◌<◌, ◌≤◌, Option, None, Some, IfSome, List, [], ◌∷◌, ◌++◌, length, take, refl, arith}
use Rattle.std.proofs.lemmas.List.{append-nil, append_assoc, length-append, length-take}
use Rattle.std.specs.Io.KnownBytes.{Consumes, IsAtEnd}
use Rattle.std.proofs.KnownBytes.{Consumes-trans}
use Rattle.segment_image.specs.Words.{bytes_of_words}
use Rattle.segment_image.specs.Transfer.{TakesAtMost}

-- there are eight bytes for each word
pub length-bytes_of_words : (words : List ℕ) → length (bytes_of_words words) ≡ 8 * length words
length-bytes_of_words [] = refl
length-bytes_of_words (word ∷ words) = let rest = length-bytes_of_words words in omega (arith, rest)

-- the bytes so far, and then at most `size` more
pub TakesAtMost-after : (a b c : Option (List ℕ)) (read : List ℕ) (size most : ℕ) → Consumes a b read
    → TakesAtMost size b c → length read + size ≤ most → TakesAtMost most a c
TakesAtMost-after a b c read size most first more fits = (
  read ++ more.0,
  Consumes-trans a b c read more.0 first more.1,
  omega (arith, length-append read more.0),
)

-- a reader gave bytes, and the bytes of words are those of the words before, followed by these
pub record IsReadSo (a b : Option (List ℕ)) (old new : List ℕ) : Type 0 where
  pub read : List ℕ
  pub taken : Consumes a b read
  pub bytes_are : bytes_of_words new ≡ bytes_of_words old ++ read

-- this many bytes were read
pub length-read : (a b : Option (List ℕ)) (old new : List ℕ) (so : IsReadSo a b old new) → length so.read + 8 * length old ≡ 8 * length new
length-read a b old new so =
    let all : length (bytes_of_words new) ≡ length (bytes_of_words old ++ so.read) = ap length so.bytes_are in
    omega (arith, all, length-append (bytes_of_words old) so.read, length-bytes_of_words old, length-bytes_of_words new)

-- nothing was read yet
pub IsReadSo-none : (a : Option (List ℕ)) (words : List ℕ) → IsReadSo a a words words
IsReadSo-none None words = record { read = []; taken = tt; bytes_are = sym (append-nil (bytes_of_words words)) }
IsReadSo-none (Some x) words = record { read = []; taken = refl; bytes_are = sym (append-nil (bytes_of_words words)) }

-- more words came
pub IsReadSo-more : (a b c : Option (List ℕ)) (old words new more : List ℕ) → IsReadSo a b old words → Consumes b c more
    → bytes_of_words new ≡ bytes_of_words words ++ more → IsReadSo a c old new
IsReadSo-more a b c old words new more so came are = record {
  read = so.read ++ more;
  taken = Consumes-trans a b c so.read more so.taken came;
  bytes_are = are ∙ ap (λ (front : List ℕ). front ++ more) so.bytes_are ∙ append_assoc (bytes_of_words old) so.read more;
}

-- at the end all that the reader had was read
pub IsReadSo-all : (a b : Option (List ℕ)) (old new : List ℕ) → IsReadSo a b old new → IsAtEnd b
    → IfSome a (λ bytes. bytes_of_words new ≡ bytes_of_words old ++ bytes)
IsReadSo-all None b old new so end = tt
IsReadSo-all (Some x) None old new so end = absurd so.taken
IsReadSo-all (Some x) (Some y) old new so end = grind (arith, append-nil, so.taken, so.bytes_are, end)

-- the bytes so far, and then at most `size` more
pub TakesAtMost-more : (a b c : Option (List ℕ)) (old words : List ℕ) (size most : ℕ) → IsReadSo a b old words
    → TakesAtMost size b c → 8 * length words + size ≤ most + 8 * length old → TakesAtMost most a c
TakesAtMost-more a b c old words size most so more fits =
    TakesAtMost-after a b c so.read size most so.taken more (omega (arith, length-read a b old words so))

-- more bytes than the limit came
pub past_limit : (a b c : Option (List ℕ)) (read block : List ℕ) (filled limit : ℕ) → Consumes a b read
    → Consumes b c (take filled block) → filled ≤ length block → limit < length read + filled
    → IfSome a (λ bytes. limit < length bytes)
past_limit None b c read block filled limit first more within over = tt
past_limit (Some x) None c read block filled limit first more within over = absurd first
past_limit (Some x) (Some y) None read block filled limit first more within over = absurd more
past_limit (Some x) (Some y) (Some z) read block filled limit first more within over =
    grind (arith, length-append, length-take)

-- the same, if words were made of those so far
pub too_long : (a b c : Option (List ℕ)) (old words block : List ℕ) (filled limit : ℕ) → IsReadSo a b old words
    → Consumes b c (take filled block) → filled ≤ length block → length old ≤ limit → 8 * limit < 8 * length words + filled
    → IfSome a (λ bytes. 8 * (limit - length old) < length bytes)
too_long a b c old words block filled limit so more within fewer over =
    past_limit a b c so.read block filled (8 * (limit - length old)) so.taken more within (omega (arith, length-read a b old words so))

-- the bytes ended inside a word
pub not_words : (a b c : Option (List ℕ)) (old words block : List ℕ) (filled limit : ℕ) → IsReadSo a b old words
    → Consumes b c (take filled block) → IsAtEnd c → filled ≤ length block → length old ≤ limit → 8 * length words + filled ≤ 8 * limit → filled % 8 ≢ 0
    → IfSome a (λ bytes. (length bytes ≤ 8 * (limit - length old)) × (length bytes % 8 ≢ 0))
not_words None b c old words block filled limit so more end within fewer fits part = tt
not_words (Some x) None c old words block filled limit so more end within fewer fits part = absurd so.taken
not_words (Some x) (Some y) None old words block filled limit so more end within fewer fits part = absurd more
not_words (Some x) (Some y) (Some z) old words block filled limit so more end within fewer fits part =
    let read = length-read (Some x) (Some y) old words so in
    let whole : length x + 8 * length old ≡ 8 * length words + filled = grind (arith, length-append, length-take, so.taken, read) in
    (omega arith, omega arith)
