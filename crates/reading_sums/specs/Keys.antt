-- The keys of histograms, and what lists of them have together.
use Rattle.std.specs.Prelude.{◌≡◌, Bool, ℕ, ◌+◌, ◌<◌, ℤ, ◌<ℤ◌, pos, List, length, map, slice_index, get_or, sum_by, if◌then◌else◌}
use Rattle.std.specs.List.{range_with_len, list_any}
use Rattle.std.specs.Ordering.{int_eq}
use Rattle.reading_sums.specs.declared.key.KeySum.{KeySum}
use Rattle.reading_sums.specs.declared.order.Side.{Side}
use Rattle.reading_sums.specs.declared.order.Side.TheVariants.{Left, Right, Both}

-- the key at an index: its value, its units and its mark, which is 0 if there is none
abbrev pub key_from : List (ℤ × ℕ) → List ℕ → ℕ → KeySum
key_from counts marks i = record {
  value = (get_or counts i (pos 0, 0)).0;
  units = (get_or counts i (pos 0, 0)).1;
  marks = slice_index marks i;
}

-- the keys of a histogram with these counts and marks
abbrev pub keys_from : List (ℤ × ℕ) → List ℕ → List KeySum
keys_from counts marks = map (key_from counts marks) (range_with_len 0 (length counts))

-- the units of one value
abbrev pub units_at : List KeySum → ℤ → ℕ
units_at keys value = sum_by (λ key. if int_eq key.value value then key.units else 0) keys

-- the marks of one value
abbrev pub marks_at : List KeySum → ℤ → ℕ
marks_at keys value = sum_by (λ key. if int_eq key.value value then key.marks else 0) keys

-- whether a value is among the keys
abbrev pub has_key : List KeySum → ℤ → Bool
has_key keys value = list_any (λ key. int_eq key.value value) keys

-- two lists have the same values, and for each value the same units and the same marks
pub record SameKeys (a b : List KeySum) : Type 0 where
  pub values : (value : ℤ) → has_key a value ≡ has_key b value
  pub units : (value : ℤ) → units_at a value ≡ units_at b value
  pub marks : (value : ℤ) → marks_at a value ≡ marks_at b value

-- a key has the units and the marks of two keys of its value
pub record IsKeyOfBoth (a b both : KeySum) : Type 0 where
  pub value : both.value ≡ a.value
  pub units : both.units ≡ a.units + b.units
  pub marks : both.marks ≡ a.marks + b.marks

-- which list begins with the least key: it is not empty, and its first key is below the first of the other list, if there is one; or both
-- begin with keys of one value
abbrev pub IsSide : List KeySum → List KeySum → Side → Type 0
IsSide a b Left = (0 < length a) × ((d : KeySum) → 0 < length b → (get_or a 0 d).value <ℤ (get_or b 0 d).value)
IsSide a b Right = (0 < length b) × ((d : KeySum) → 0 < length a → (get_or b 0 d).value <ℤ (get_or a 0 d).value)
IsSide a b Both = (0 < length a) × (0 < length b) × ((d : KeySum) → (get_or a 0 d).value ≡ (get_or b 0 d).value)
