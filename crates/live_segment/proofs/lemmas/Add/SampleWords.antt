-- The word of a sample's value: the value of an `i32` that it holds, if it holds one.
use Rattle.std.proofs.Common.{◌≡◌, ◌≢◌, ℕ, ◌<◌, ◌^◌, true, ℤ, pos, negsuc, w32, w64, FitsSigned, rules, arith, sym, ap, ◌∙◌, subst}
use Rattle.std.specs.Int.{cast_signed, cast_unsigned}
use Rattle.std.proofs.lemmas.Bool.{lt-ltb, ltb-true}
use Rattle.std.proofs.lemmas.Int.{of_z-to_z}
use Rattle.bucket_ranges.specs.Reading.{is_i32}
use Rattle.segment_machine.proofs.Values.{value_word}

-- a number that fits is a value, and a value fits
pub fits_is_value : (value : ℤ) → FitsSigned w32 value → is_i32 value ≡ true
fits_is_value (pos n) fits = lt-ltb n 2147483648 (omega (arith, fits))
fits_is_value (negsuc n) fits = lt-ltb n 2147483648 (omega (arith, fits))

pub value_fits : (value : ℤ) → is_i32 value ≡ true → FitsSigned w32 value
value_fits (pos n) is = let low = ltb-true n 2147483648 is in search rules
value_fits (negsuc n) is = let low = ltb-true n 2147483648 is in search rules

module _ (word : ℕ) (number : ℤ) (small : word < 2 ^ 64) (is : number ≡ cast_signed w64 word) where
  -- it holds this value
  pub holds_value : (value : ℤ) → value ≡ number → word ≡ cast_unsigned w64 value
  holds_value value same = sym (of_z-to_z w64 word small) ∙ ap (cast_unsigned w64) (sym is ∙ sym same)

  -- it holds none
  pub holds_none : ¬ (FitsSigned w32 number) → (value : ℤ) → is_i32 value ≡ true → word ≢ cast_unsigned w64 value
  holds_none none value valued same =
      none (subst (FitsSigned w32) (sym (is ∙ (ap (cast_signed w64) same ∙ value_word value valued))) (value_fits value valued))
