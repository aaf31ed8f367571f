-- The front of a list of which a part was written.
use Rattle.std.proofs.Common.{◌≡◌, ℕ, ◌+◌, ◌≤◌, Option, List, ◌++◌, length, take, sym, subst, arith}
use Rattle.std.proofs.Math.Seq.{take-append-add}
use Rattle.std.proofs.lemmas.List.{take-append-le, length-take}
use Rattle.std.proofs.KnownBytes.{Consumes-trans}
use Rattle.std.specs.Io.KnownBytes.{Consumes}
use borrow.Rule.Slice.PartMut.{put_mid}

-- what was before the part, and then the front of the part
pub take-put_mid_part : (at size n : ℕ) (xs ys : List ℕ) → at ≤ length xs → n ≤ length ys
    → take (at + n) (put_mid at size xs ys) ≡ take at xs ++ take n ys
take-put_mid_part at size n xs ys within fits = grind (arith, take-append-add, take-append-le, length-take)

-- a reader gave the bytes before the part, and then the front of the part
pub Consumes-put_mid : (a b c : Option (List ℕ)) (at size n : ℕ) (xs ys : List ℕ) → at ≤ length xs → n ≤ length ys
    → Consumes a b (take at xs) → Consumes b c (take n ys) → Consumes a c (take (at + n) (put_mid at size xs ys))
Consumes-put_mid a b c at size n xs ys within fits first second =
    subst (λ (bytes : List ℕ). Consumes a c bytes) (sym (take-put_mid_part at size n xs ys within fits))
    (Consumes-trans a b c (take at xs) (take n ys) first second)
