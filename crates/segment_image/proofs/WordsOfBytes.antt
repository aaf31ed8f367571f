-- The words of bytes that come one part after the other.
use Rattle.std.proofs.Common.{◌≡◌, ℕ, zero, suc, ◌+◌, ◌*◌, ◌/◌, ◌%◌, ◌<◌, ◌≤◌, List, [], ◌∷◌, ◌++◌, length, drop, refl, sym, ap, ◌∙◌, append_assoc, arith}
use Rattle.std.proofs.lemmas.List.{append-nil, drop-append-le, get_or_append_left, length-drop, length-append, nil_from_length}
use Rattle.std.proofs.lemmas.List.Concat.{flat_map-append}
use Rattle.byteorder.specs.Endian.{little_bytes, little_number}
use Rattle.segment_image.specs.Words.{bytes_of_words, words_from, words_in}

-- the number of the first eight bytes, whatever follows
first_number : (xs ys : List ℕ) → 8 ≤ length xs → little_number 8 (xs ++ ys) ≡ little_number 8 xs
first_number xs ys long = grind (arith, get_or_append_left)

words_from-append : (n m : ℕ) (xs ys : List ℕ) → length xs ≡ 8 * n → words_from (n + m) (xs ++ ys) ≡ words_from n xs ++ words_from m ys
words_from-append zero m xs ys long =
    let none : zero + m ≡ m = omega arith in
    ap (λ k. words_from k (xs ++ ys)) none ∙ ap (λ l. words_from m (l ++ ys)) (nil_from_length xs (omega (arith, long)))
words_from-append (suc n) m xs ys long =
    let more : suc n + m ≡ suc (n + m) = omega arith in
    let rest : drop 8 (xs ++ ys) ≡ drop 8 xs ++ ys = drop-append-le 8 xs ys (omega (arith, long)) in
    let left : length (drop 8 xs) ≡ 8 * n = omega (arith, long, length-drop 8 xs) in
    ap (λ k. words_from k (xs ++ ys)) more
    ∙ ap (λ w. w ∷ words_from (n + m) (drop 8 (xs ++ ys))) (first_number xs ys (omega (arith, long)))
    ∙ ap (λ l. little_number 8 xs ∷ words_from (n + m) l) rest
    ∙ ap (λ l. little_number 8 xs ∷ l) (words_from-append n m (drop 8 xs) ys left)

length-words_from : (n : ℕ) (bytes : List ℕ) → length (words_from n bytes) ≡ n
length-words_from zero bytes = refl
length-words_from (suc n) bytes = ap suc (length-words_from n (drop 8 bytes))

pub length-words_in : (bytes : List ℕ) → length (words_in bytes) ≡ length bytes / 8
length-words_in bytes = length-words_from (length bytes / 8) bytes

-- whole words, and then the words of what follows
pub words_in-append : (xs ys : List ℕ) → length xs % 8 ≡ 0 → words_in (xs ++ ys) ≡ words_in xs ++ words_in ys
words_in-append xs ys whole =
    let sum : length (xs ++ ys) / 8 ≡ length xs / 8 + length ys / 8 = omega (arith, whole, length-append xs ys) in
    ap (λ k. words_from k (xs ++ ys)) sum
    ∙ words_from-append (length xs / 8) (length ys / 8) xs ys (omega (arith, whole))

-- fewer than eight bytes are no word
pub words_in-short : (xs : List ℕ) → length xs < 8 → words_in xs ≡ []
words_in-short xs short = let none : length xs / 8 ≡ 0 = omega (arith, short) in ap (λ k. words_from k xs) none

-- eight bytes are one word
words_in-one : (xs : List ℕ) → length xs ≡ 8 → words_in xs ≡ little_number 8 xs ∷ []
words_in-one xs long = let one : length xs / 8 ≡ 1 = omega (arith, long) in ap (λ k. words_from k xs) one

-- a chunk of eight bytes, and the words after it, at the end of the words before
pub words_in-chunk : (words chunk rest : List ℕ) → length chunk ≡ 8
    → (words ++ little_number 8 chunk ∷ []) ++ words_in rest ≡ words ++ words_in (chunk ++ rest)
words_in-chunk words chunk rest long =
    append_assoc words (little_number 8 chunk ∷ []) (words_in rest)
    ∙ ap (λ l. words ++ (l ++ words_in rest)) (sym (words_in-one chunk long))
    ∙ ap (λ l. words ++ l) (sym (words_in-append chunk rest (omega (arith, long))))

-- and so do the bytes of a word that has the eight bytes of a chunk
pub bytes-chunk : (words chunk rest : List ℕ) (word : ℕ) → little_bytes 8 word ≡ chunk
    → bytes_of_words (words ++ word ∷ []) ++ rest ≡ bytes_of_words words ++ (chunk ++ rest)
bytes-chunk words chunk rest word is =
    ap (λ l. l ++ rest) (flat_map-append (little_bytes 8) words (word ∷ []) ∙ ap (λ l. bytes_of_words words ++ l) (append-nil (little_bytes 8 word) ∙ is))
    ∙ append_assoc (bytes_of_words words) chunk rest
