-- Readings in their order.
use Rattle.std.proofs.Common.{◌≡◌, ℕ, ◌+◌, List, [], ◌∷◌, ◌++◌, map, length, suc, refl, ap, sym, ◌∙◌, arith}
use Rattle.bucket_ranges.specs.Reading.{Reading}
use Rattle.reading_sums.specs.Sums.{numbered_from, raised}

pub numbered-append : (first : ℕ) (xs ys : List Reading)
    → numbered_from first (xs ++ ys) ≡ numbered_from first xs ++ numbered_from (first + length xs) ys
numbered-append first [] ys = ap (λ n. numbered_from n ys) (let e : first ≡ first + 0 = omega arith in e)
numbered-append first (x ∷ xs) ys =
    let e : (first + 1) + length xs ≡ first + suc (length xs) = omega arith in
    ap (λ z. (first, x) ∷ z) (numbered-append (first + 1) xs ys ∙ ap (λ n. numbered_from (first + 1) xs ++ numbered_from n ys) e)

pub numbered-raised : (by first : ℕ) (xs : List Reading) → map (raised by) (numbered_from first xs) ≡ numbered_from (first + by) xs
numbered-raised by first [] = refl
numbered-raised by first (x ∷ xs) =
    let e : (first + 1) + by ≡ (first + by) + 1 = omega arith in
    ap (λ z. (first + by, x) ∷ z) (numbered-raised by (first + 1) xs ∙ ap (λ n. numbered_from n xs) e)

pub numbered-length : (first : ℕ) (xs : List Reading) → length (numbered_from first xs) ≡ length xs
numbered-length first [] = refl
numbered-length first (x ∷ xs) = ap suc (numbered-length (first + 1) xs)

-- one more, which has the number of those before it
pub next-numbered : (number : ℕ) (readings : List Reading) (reading : Reading) → number ≡ length (numbered_from 0 readings)
    → numbered_from 0 readings ++ (number, reading) ∷ [] ≡ numbered_from 0 (readings ++ reading ∷ [])
next-numbered number readings reading is =
    let e : number ≡ 0 + length readings = omega (arith, is, numbered-length 0 readings) in
    ap (λ n. numbered_from 0 readings ++ (n, reading) ∷ []) e ∙ sym (numbered-append 0 readings (reading ∷ []))

-- others after them, whose numbers are raised by how many there are
pub behind-numbered : (by : ℕ) (readings others : List Reading) → by ≡ length (numbered_from 0 readings)
    → numbered_from 0 readings ++ map (raised by) (numbered_from 0 others) ≡ numbered_from 0 (readings ++ others)
behind-numbered by readings others is =
    let e : 0 + by ≡ 0 + length readings = omega (arith, is, numbered-length 0 readings) in
    ap (λ z. numbered_from 0 readings ++ z) (numbered-raised by 0 others ∙ ap (λ n. numbered_from n others) e)
    ∙ sym (numbered-append 0 readings others)
