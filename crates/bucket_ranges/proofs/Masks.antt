-- The upper half of a difference of 64 bits.
use Rattle.std.proofs.Common.{◌≡◌, Bool, true, false, nat_le, ℕ, ◌+◌, ◌-◌, ◌/◌, ◌%◌, ◌<◌, ◌≤◌, if◌then◌else◌, refl, ◌∙◌, arith, bit_and}
use Rattle.std.proofs.lemmas.Nat.{and_mask}
use Rattle.std.proofs.lemmas.Bool.{leb-true, leb-false}
use Rattle.std.specs.Int.Bits.{and_zero_r}

reached-by : (half boundary value : ℕ) (reached : Bool) → half < 4294967296 → boundary < 4294967296 → value < 4294967296
    → (reached ≡ true → boundary ≤ value) → (reached ≡ false → value < boundary)
    → bit_and half ((boundary + (18446744073709551616 - (value + 1))) % 18446744073709551616 / 4294967296) ≡ (if reached then half else 0)
reached-by half boundary value true small low high le lt =
    let at = le refl in
    let upper : (boundary + (18446744073709551616 - (value + 1))) % 18446744073709551616 / 4294967296 ≡ 4294967295 = omega (arith, at) in
    rw upper (and_mask half 32 ∙ omega (arith, small))
reached-by half boundary value false small low high le lt =
    let at = lt refl in
    let upper : (boundary + (18446744073709551616 - (value + 1))) % 18446744073709551616 / 4294967296 ≡ 0 = omega (arith, at) in
    rw upper (and_zero_r half)

pub reached : (half boundary value : ℕ) → half < 4294967296 → boundary < 4294967296 → value < 4294967296
    → bit_and half ((boundary + (18446744073709551616 - (value + 1))) % 18446744073709551616 / 4294967296)
    ≡ (if nat_le boundary value then half else 0)
reached half boundary value small low high =
    reached-by half boundary value (nat_le boundary value) small low high (leb-true boundary value) (leb-false boundary value)
