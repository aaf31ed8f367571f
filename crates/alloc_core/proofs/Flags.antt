-- The word of flags: to set a flag leaves the other and all other bits, and each word is one of them.
use Rattle.std.proofs.Common.{◌≡◌, ℕ, zero, suc, ◌+◌, ◌*◌, ◌/◌, ◌%◌, ◌<◌, ◌==◌, Bool, true, false, not, sym, refl, ap, ◌∙◌, arith}
use Rattle.std.specs.Prelude.{bit_and, bit_or, ◌↔◌, if◌then◌else◌}
use Rattle.std.specs.Int.Bits.{or_add_and, or_shifted_r, and_shifted}
use Rattle.std.proofs.lemmas.Nat.{and_or_apart}
use Rattle.alloc_core.specs.Layout.{flags_of}

-- of the two lowest bits the others say nothing
low_bits : (others low bits : ℕ) → low < 4 → bits < 4 → bit_and (others * 4 + low) bits ≡ bit_and low bits
low_bits others low bits small few =
    ap (λ (n : ℕ). bit_and n bits) (sym (or_shifted_r others 2 low small)) ∙ and_or_apart bits low (others * 4) (and_shifted others 2 bits few)

-- bits that are set among the two lowest leave the others
low_set : (others low bits : ℕ) → low < 4 → bits < 4 → bit_or (others * 4 + low) bits ≡ others * 4 + bit_or low bits
low_set others low bits small few =
    omega (arith, or_add_and (others * 4 + low) bits, or_add_and low bits, low_bits others low bits small few)

-- the corrupt flag is set
pub corrupts : (corrupt full : Bool) (others : ℕ) → bit_or (flags_of corrupt full others) 1 ≡ flags_of true full others
corrupts false false others = low_set others 0 1 (omega arith) (omega arith)
corrupts true false others = low_set others 1 1 (omega arith) (omega arith)
corrupts false true others = low_set others 2 1 (omega arith) (omega arith)
corrupts true true others = low_set others 3 1 (omega arith) (omega arith)

-- the full flag is set
pub fills : (corrupt full : Bool) (others : ℕ) → bit_or (flags_of corrupt full others) 2 ≡ flags_of corrupt true others
fills false false others = low_set others 0 2 (omega arith) (omega arith)
fills true false others = low_set others 1 2 (omega arith) (omega arith)
fills false true others = low_set others 2 2 (omega arith) (omega arith)
fills true true others = low_set others 3 2 (omega arith) (omega arith)

-- the other bits, and each of the two
pub other_bits : (corrupt full : Bool) (others : ℕ) → flags_of corrupt full others / 4 ≡ others
other_bits false false others = omega arith
other_bits true false others = omega arith
other_bits false true others = omega arith
other_bits true true others = omega arith

pub corrupt_bit : (corrupt full : Bool) (others : ℕ) → (bit_and (flags_of corrupt full others) 1 ≡ 1) ↔ (corrupt ≡ true)
corrupt_bit false false others = (λ e. absurd (omega (arith, e, low_bits others 0 1 (omega arith) (omega arith))), λ e. cc e)
corrupt_bit false true others = (λ e. absurd (omega (arith, e, low_bits others 2 1 (omega arith) (omega arith))), λ e. cc e)
corrupt_bit true false others = (λ e. refl, λ e. low_bits others 1 1 (omega arith) (omega arith))
corrupt_bit true true others = (λ e. refl, λ e. low_bits others 3 1 (omega arith) (omega arith))

pub full_bit : (corrupt full : Bool) (others : ℕ) → (bit_and (flags_of corrupt full others) 2 ≡ 2) ↔ (full ≡ true)
full_bit false false others = (λ e. absurd (omega (arith, e, low_bits others 0 2 (omega arith) (omega arith))), λ e. cc e)
full_bit true false others = (λ e. absurd (omega (arith, e, low_bits others 1 2 (omega arith) (omega arith))), λ e. cc e)
full_bit false true others = (λ e. refl, λ e. low_bits others 2 2 (omega arith) (omega arith))
full_bit true true others = (λ e. refl, λ e. low_bits others 3 2 (omega arith) (omega arith))

-- each of the two, as it is read
pub corrupt_read : (corrupt full : Bool) (others : ℕ) → not (bit_and (flags_of corrupt full others) 1 == 0) ≡ corrupt
corrupt_read false false others = ap (λ (n : ℕ). not (n == 0)) (low_bits others 0 1 (omega arith) (omega arith))
corrupt_read true false others = ap (λ (n : ℕ). not (n == 0)) (low_bits others 1 1 (omega arith) (omega arith))
corrupt_read false true others = ap (λ (n : ℕ). not (n == 0)) (low_bits others 2 1 (omega arith) (omega arith))
corrupt_read true true others = ap (λ (n : ℕ). not (n == 0)) (low_bits others 3 1 (omega arith) (omega arith))

pub full_read : (corrupt full : Bool) (others : ℕ) → not (bit_and (flags_of corrupt full others) 2 == 0) ≡ full
full_read false false others = ap (λ (n : ℕ). not (n == 0)) (low_bits others 0 2 (omega arith) (omega arith))
full_read true false others = ap (λ (n : ℕ). not (n == 0)) (low_bits others 1 2 (omega arith) (omega arith))
full_read false true others = ap (λ (n : ℕ). not (n == 0)) (low_bits others 2 2 (omega arith) (omega arith))
full_read true true others = ap (λ (n : ℕ). not (n == 0)) (low_bits others 3 2 (omega arith) (omega arith))

-- a bit, by what it is worth
worth : (bit weight : ℕ) → bit < 2 → (if bit == 1 then weight else 0) ≡ bit * weight
worth zero weight small = omega arith
worth (suc zero) weight small = omega arith
worth (suc (suc n)) weight small = absurd (omega arith)

-- each word is a word of flags
pub word_of_flags : (word : ℕ) → flags_of (word % 2 == 1) (word / 2 % 2 == 1) (word / 4) ≡ word
word_of_flags word =
    let corrupt = worth (word % 2) 1 (omega arith) in
    let full = worth (word / 2 % 2) 2 (omega arith) in
    omega (arith, corrupt, full)
