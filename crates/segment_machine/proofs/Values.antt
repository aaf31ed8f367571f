-- A value and its word.
use Rattle.std.proofs.Common.{◌≡◌, true, ℤ, pos, negsuc, rules}
use Rattle.std.specs.Int.{w64, cast_signed, cast_unsigned}
use Rattle.std.proofs.lemmas.Bool.{ltb-true}
use Rattle.std.proofs.lemmas.Int.{to_z-of_z}
use Rattle.bucket_ranges.specs.Reading.{is_i32}

-- a sample's value by its word
pub value_word : (value : ℤ) → is_i32 value ≡ true → cast_signed w64 (cast_unsigned w64 value) ≡ value
value_word (pos n) is = let low = ltb-true n 2147483648 is in to_z-of_z w64 (pos n) (search rules)
value_word (negsuc n) is = let low = ltb-true n 2147483648 is in to_z-of_z w64 (negsuc n) (search rules)
