-- Scales: the values of custom specs that are as far apart as a share of their size. Of each octave, from a power of two
-- up to the next, a scale with `bits` bits has 2^bits values at equal distances; below 2^bits it has every number.
use Rattle.std.specs.Prelude.{Bool, true, false, ◌||◌, ◌==◌, nat_lt, nat_le, ℕ, ◌+◌, ◌-◌, ◌*◌, ◌^◌, ◌≤◌, ◌<◌, ◌≡◌, ◌⊎◌, List, [], ◌∷◌, ◌++◌, length, slice_index, Option, unwrap_or}
use Rattle.std.specs.List.{range_with_len, list_any, filter, find}
use Rattle.segment_image.specs.Checks.{first_fault}
use Rattle.bucket_ranges.specs.declared.limits.TheConstants.{LAST_BOUNDARY, MAX_VALUE, MAX_CUSTOM_VALUES}
use Rattle.bucket_ranges.specs.declared.scale.TheConstants.{MAX_SCALE_BITS}
use Rattle.bucket_ranges.specs.declared.spec.SpecFault.{SpecFault}
use Rattle.bucket_ranges.specs.declared.spec.SpecFault.TheVariants.{BadMin, BadMax, TooFew, TooMany}

-- whether a number of 32 bits is m * 2^e for some m below 2^(bits + 1) and some e
unfoldable pub is_scale_value : ℕ → ℕ → Bool
is_scale_value bits value =
    list_any (λ e. list_any (λ m. m * 2 ^ e == value) (range_with_len 0 (2 ^ (bits + 1)))) (range_with_len 0 32)

-- the last value of a scale up to `max`: the first such number from `max` on, or `max` if 2,147,483,646 comes first
unfoldable pub scale_last : ℕ → ℕ → ℕ
scale_last max bits = unwrap_or (find (is_scale_value bits) (range_with_len max (LAST_BOUNDARY - max))) max

-- all such numbers from `min` up to a last value, and the last value
unfoldable pub values_up_to : ℕ → ℕ → ℕ → List ℕ
values_up_to min last bits =
    filter (λ value. is_scale_value bits value || value == last) (range_with_len min (last + 1 - min))

-- the values of a scale
abbrev pub scale_values : ℕ → ℕ → ℕ → List ℕ
scale_values min max bits = values_up_to min (scale_last max bits) bits

-- what can be wrong with the bounds and the bits of a scale, in order
abbrev pub bound_checks : ℕ → ℕ → ℕ → List (Bool × SpecFault)
bound_checks min max bits =
    (min == 0, BadMin)
    ∷ (nat_le max min || nat_lt MAX_VALUE max, BadMax)
    ∷ (bits == 0, TooFew)
    ∷ (nat_lt MAX_SCALE_BITS bits, TooMany)
    ∷ []

-- what can be wrong with a scale, in order
abbrev pub scale_checks : ℕ → ℕ → ℕ → List (Bool × SpecFault)
scale_checks min max bits =
    bound_checks min max bits ++ (nat_lt MAX_CUSTOM_VALUES (length (scale_values min max bits)), TooMany) ∷ []

-- the first fault of a scale
abbrev pub scale_fault : ℕ → ℕ → ℕ → Option SpecFault
scale_fault min max bits = first_fault (scale_checks min max bits)

-- how far apart the values of a scale are in the octave of a number: a power of two, such that the number is below
-- 2^(bits + 1) of them, and has 2^bits of them unless they are 1
pub record IsScaleDistance (bits number distance : ℕ) : Type 0 where
  pub power : (e : ℕ) × (e < 31) × (distance ≡ 2 ^ e)
  pub below : number < 2 ^ (bits + 1) * distance
  pub least : (distance ≡ 1) ⊎ (2 ^ bits * distance ≤ number)

-- the next value of a scale from a number on: the first number of the scale, or the last value if that comes first
pub record IsNextValue (bits from last value : ℕ) : Type 0 where
  pub low : from ≤ value
  pub high : value ≤ last
  pub found : value < last → is_scale_value bits value ≡ true
  pub first : (n : ℕ) → from ≤ n → n < value → is_scale_value bits n ≡ false

-- a value is at most 1 above the one before it, or at most 1 + 2^-bits times that
abbrev pub IsScaleStep : ℕ → ℕ → ℕ → Type 0
IsScaleStep bits before value = (value ≤ before + 1) ⊎ (2 ^ bits * value ≤ (2 ^ bits + 1) * before)

-- each value is at most such a step above the one before it
abbrev pub HaveScaleSteps : ℕ → List ℕ → Type 0
HaveScaleSteps bits values =
    (i : ℕ) → i + 1 < length values → IsScaleStep bits (slice_index values i) (slice_index values (i + 1))
