-- If an actor saw the name and the spec of the first record of a name, that record is the histogram of the segment.
use Rattle.segment_invariant.proofs.Prelude.Std.{◌≡◌, ℕ, zero, suc, ◌<◌, List, [], ◌∷◌, ◌++◌, length, drop, take, replicate, sym, ap, ◌∙◌, arith, length-append, slice_index, take-append_seam, length-replicate}
use Rattle.segment_invariant.proofs.Prelude.Machine.{AreNameWords}
use Rattle.segment_image.specs.Words.{bytes_of_words}
use Rattle.segment_image.proofs.ReadWords.{length-bytes_of_words}
use Rattle.segment_invariant.proofs.Walking.Words.{letters_long}

-- ---- the words of a name

-- words that have the bytes of a name have those of no other name that is as long
pub names_same : (name other letters : List ℕ) → AreNameWords name letters → AreNameWords other letters → length name ≡ length other → name ≡ other
names_same name other letters (k, few, are) (j, less, also) long =
    sym (take-append_seam name (replicate k 0)) ∙ (ap (take (length name)) (sym are ∙ also) ∙ (ap (λ (n : ℕ). take n (other ++ replicate j 0)) long ∙ take-append_seam other (replicate j 0)))

-- and two lists of words of a name have the same bytes
pub bytes_same : (name letters others : List ℕ) → AreNameWords name letters → AreNameWords name others → bytes_of_words letters ≡ bytes_of_words others
bytes_same name letters others (k, few, are) (j, less, also) =
    let long = letters_long name letters (k, few, are) in
    let as_long = letters_long name others (j, less, also) in
    let first = ap length are in
    let second = ap length also in
    let bytes = length-bytes_of_words letters in
    let more = length-bytes_of_words others in
    let zeros = length-replicate {A = ℕ} k 0 in
    let none = length-replicate {A = ℕ} j 0 in
    let a = length-append name (replicate {A = ℕ} k 0) in
    let b = length-append name (replicate {A = ℕ} j 0) in
    let same : k ≡ j = omega (arith, long, as_long, first, second, bytes, more, zeros, none, a, b) in
    are ∙ (ap (λ (n : ℕ). name ++ replicate n 0) same ∙ sym also)

-- so each of their words has the same bytes
pub word_bytes : (xs ys : List ℕ) (i : ℕ) → length xs ≡ length ys → i < length xs → bytes_of_words xs ≡ bytes_of_words ys
    → bytes_of_words (slice_index xs i ∷ []) ≡ bytes_of_words (slice_index ys i ∷ [])
word_bytes [] ys i long below same = absurd (omega (arith, below))
word_bytes (x ∷ xs) [] i long below same = absurd (omega (arith, long))
word_bytes (x ∷ xs) (y ∷ ys) zero long below same = ap (take 8) same
word_bytes (x ∷ xs) (y ∷ ys) (suc i) long below same = word_bytes xs ys i (omega (arith, long)) (omega (arith, below)) (ap (drop 8) same)
