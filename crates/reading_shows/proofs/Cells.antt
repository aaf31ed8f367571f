-- Repeated pieces, and texts at the right end of columns.
use Rattle.std.proofs.Common.{◌≡◌, ◌∙◌, ℕ, zero, suc, ◌+◌, ◌-◌, ◌*◌, ◌/◌, ◌%◌, ◌≤◌, List, [], ◌∷◌, ◌++◌, length, take, ap, sym, refl, subst, replicate, append_assoc, arith}
use Rattle.std.specs.Prelude.{codes}
use Rattle.std.specs.List.{flat_map}
use Rattle.std.proofs.Math.Nat.{div-add-mod, mul-suc, mul-zero}
use Rattle.std.proofs.lemmas.Grind.{flat_map-append, replicate_next}
use Rattle.std.proofs.lemmas.List.{append-nil, length-append, replicate-append-replicate, take-replicate}
use Rattle.reading_texts.specs.Exporting.{joined}
use Rattle.reading_texts.proofs.Adding.{joined-more, written-both}
use Rattle.reading_shows.specs.Columns.{at_right, times}
use Rattle.reading_shows.proofs.Steps.{times-more}

-- a repeated byte
pub times-byte : (n : ℕ) (byte : ℕ) → times n (byte ∷ []) ≡ replicate n byte
times-byte zero byte = refl
times-byte (suc n) byte =
    let next : n + 1 ≡ suc n = omega arith in
    subst (λ k. times k (byte ∷ []) ≡ replicate k byte) next
    (times-more n (byte ∷ []) ∙ (ap (λ s. s ++ byte ∷ []) (times-byte n byte) ∙ sym (replicate_next n byte)))

-- a piece repeated `m` times, and then `n` more
pub times-add : (m n : ℕ) (piece : List ℕ) → times (m + n) piece ≡ times m piece ++ times n piece
times-add m n piece =
    ap (flat_map (λ one. one)) (sym (replicate-append-replicate m n piece)) ∙ flat_map-append (λ one. one) (replicate m piece) (replicate n piece)

-- a piece repeated `n` times, repeated `m` times
pub times-times : (m n : ℕ) (piece : List ℕ) → times m (times n piece) ≡ times (n * m) piece
times-times zero n piece = ap (λ k. times k piece) (sym (mul-zero n))
times-times (suc m) n piece =
    let back : m + 1 ≡ suc m = omega arith in
    ap (λ k. times k (times n piece)) (sym back)
    ∙ (times-more m (times n piece)
    ∙ (ap (λ s. s ++ times n piece) (times-times m n piece)
    ∙ (sym (times-add (n * m) n piece) ∙ ap (λ k. times k piece) (sym (mul-suc n m)))))

-- a repeated piece, written `many` at a time
pub times-by : (many count : ℕ) (piece : List ℕ) → times (count / many) (times many piece) ++ times (count % many) piece ≡ times count piece
times-by many count piece =
    ap (λ s. s ++ times (count % many) piece) (times-times (count / many) many piece)
    ∙ (sym (times-add (many * (count / many)) (count % many) piece) ∙ ap (λ k. times k piece) (div-add-mod count many))

-- the first `count` of many pieces are the piece repeated `count` times
pub times-first : (many count : ℕ) (piece : List ℕ) → count ≤ many → flat_map (λ one. one) (take count (replicate many piece)) ≡ times count piece
times-first many count piece h = ap (flat_map (λ one. one)) (take-replicate count many piece h)

-- a piece after its blanks is at the right end of a column
pub at-right-written : (first : List ℕ) (width len : ℕ) (piece : List ℕ) {second third : List ℕ} → len ≡ length piece → second ≡ first ++ times (width - len) (codes " ")
    → third ≡ second ++ piece → third ≡ first ++ at_right width piece
at-right-written first width len piece is before after =
    written-both first (times (width - len) (codes " ")) piece before after ∙ ap (λ n. first ++ (times (width - n) (codes " ") ++ piece)) is

-- in a column without a width it is alone
pub at-right-none : (piece : List ℕ) → at_right 0 piece ≡ piece
at-right-none piece =
    let none : 0 - length piece ≡ 0 = omega arith in
    ap (λ n. times n (codes " ") ++ piece) none

-- the first of parts that are written one after the other
pub joined-begun : (first part : List ℕ) {second : List ℕ} → second ≡ first ++ part → second ≡ first ++ joined (part ∷ [])
joined-begun first part written = written ∙ ap (λ s. first ++ s) (sym (append-nil part))

-- one more of them, in a column without a width
pub joined-narrow : (first : List ℕ) (parts : List (List ℕ)) (part : List ℕ) {second third : List ℕ} → second ≡ first ++ joined parts
    → third ≡ second ++ at_right 0 part → third ≡ first ++ joined (parts ++ part ∷ [])
joined-narrow first parts part {second} before after = joined-more first parts part before (after ∙ ap (λ s. second ++ s) (at-right-none part))

-- some more of them
pub joined-parts : (first : List ℕ) (some others : List (List ℕ)) {second third : List ℕ} → second ≡ first ++ joined some → third ≡ second ++ joined others
    → third ≡ first ++ joined (some ++ others)
joined-parts first some others before after =
    written-both first (joined some) (joined others) before after ∙ ap (λ s. first ++ s) (sym (flat_map-append (λ part. part) some others))

-- three parts, and four
pub joined-three : (a b c : List ℕ) → joined (a ∷ b ∷ c ∷ []) ≡ a ++ b ++ c
joined-three a b c = sym (append_assoc a b c ∙ ap (λ s. a ++ (b ++ s)) (sym (append-nil c)))

pub joined-four : (a b c d : List ℕ) → joined (a ∷ b ∷ c ∷ d ∷ []) ≡ a ++ b ++ c ++ d
joined-four a b c d =
    sym (append_assoc (a ++ b) c d ∙ (append_assoc a b (c ++ d) ∙ ap (λ s. a ++ (b ++ (c ++ s))) (sym (append-nil d))))

-- how long the text of a range is
pub length-range : (low high : List ℕ) → length low + length high + 4 ≡ length (joined (codes "[" ∷ low ∷ codes ", " ∷ high ∷ codes ")" ∷ []))
length-range low high =
    let end = codes ")" ++ [] in
    let behind = codes ", " ++ (high ++ end) in
    omega (arith, length-append low behind, length-append high end)

-- how long a percent is
pub length-percent : (before behind : List ℕ) → length before + length behind + 2 ≡ length (before ++ codes "." ++ behind ++ codes "%")
length-percent before behind =
    omega (arith, length-append (before ++ codes "." ++ behind) (codes "%"), length-append (before ++ codes ".") behind, length-append before (codes "."))
