-- What is true of the first few numbers.
use Rattle.std.proofs.Common.{ℕ, zero, suc, ◌<◌, arith}

-- what holds of 0, 1 and 2 holds of each number below three
pub below_three : (holds : ℕ → Type 0) → holds 0 → holds 1 → holds 2 → (i : ℕ) → i < 3 → holds i
below_three holds a b c zero below = a
below_three holds a b c (suc zero) below = b
below_three holds a b c (suc (suc zero)) below = c
below_three holds a b c (suc (suc (suc i))) below = absurd (omega (arith, below))
