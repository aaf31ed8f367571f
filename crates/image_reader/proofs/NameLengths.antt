-- The length of a name.
use Rattle.std.proofs.Common.{◌≡◌, Bool, true, false, ◌&&◌, not, ◌==◌, ℕ, ◌+◌, ◌-◌, ◌*◌, ◌<◌, ◌≤◌, List, length, take, drop, ◌⊎◌, inl, inr, arith, length-take, length-drop}
use Rattle.std.specs.Prelude.{nat_le, slice_index}
use Rattle.std.specs.List.{list_all}
use Rattle.std.proofs.lemmas.Bool.{and_left, and_parts, and_right, cases_Bool, leb-true, lt-leb}
use Rattle.segment_image.specs.Words.{bytes_of_words}
use Rattle.segment_image.proofs.ReadWords.{length-bytes_of_words}
use Rattle.segment_image.specs.Blocks.{field_at}
use Rattle.bucket_ranges.specs.Reading.{name_words, name_of, is_name, is_name_byte, has_name}

-- a name whose words lie in the image has the length that its record says
pub length-name_of : (words : List ℕ) (at : ℕ) → at + (15 + name_words (field_at words at 14)) ≤ length words
    → length (name_of words at) ≡ field_at words at 14
length-name_of words at within =
    let len : ℕ = field_at words at 14 in
    let taken : ℕ = name_words len in
    let behind : List ℕ = drop (at + 15) words in
    let front : List ℕ = take (at + 15 + taken - (at + 15)) behind in
    let dropped : length behind ≡ length words - (at + 15) = length-drop (at + 15) words in
    let some : length front ≡ taken = omega (arith, length-take (at + 15 + taken - (at + 15)) behind, dropped) in
    let enough : len ≤ 8 * taken = omega arith in
    omega (arith, length-take len (bytes_of_words front), length-bytes_of_words front, some, enough)

-- a name is neither empty nor longer than 128 bytes
pub is_name-length : (name : List ℕ) → (length name ≡ 0) ⊎ (128 < length name) → is_name name ≡ false
is_name-length name bad =
    let few : Bool = nat_le 1 (length name) in
    let many : Bool = nat_le (length name) 128 in
    let first : Bool = not (slice_index name 0 == 0x21) in
    let bytes : Bool = list_all is_name_byte name in
    and_left ((few && many) && first) bytes (and_left (few && many) first (elim bad [
      | inl none ↦ and_left few many (lt-leb 1 (length name) (omega arith))
      | inr more ↦ and_right few many (lt-leb (length name) 128 more)
    ]))

-- so a record that says so has no name
pub has_name-length : (words : List ℕ) (at : ℕ) → at + field_at words at 0 ≤ length words
    → (field_at words at 14 ≡ 0) ⊎ (128 < field_at words at 14) → has_name words at ≡ false
has_name-length words at within bad =
    let fits : Bool = nat_le (15 + name_words (field_at words at 14)) (field_at words at 0) in
    elim (cases_Bool fits) [
      | inl long ↦
          let room : 15 + name_words (field_at words at 14) ≤ field_at words at 0 = leb-true _ _ long in
          let len = length-name_of words at (omega arith) in
          and_right fits (is_name (name_of words at)) (is_name-length (name_of words at) (elim bad [
            | inl none ↦ inl (omega arith)
            | inr more ↦ inr (omega arith)
          ]))
      | inr short ↦ and_left fits (is_name (name_of words at)) short
    ]

-- the words of a name lie in its record
pub named_within : (words : List ℕ) (at : ℕ) → at + field_at words at 0 ≤ length words → has_name words at ≡ true
    → at + (15 + name_words (field_at words at 14)) ≤ length words
named_within words at within named =
    let room : 15 + name_words (field_at words at 14) ≤ field_at words at 0 =
    leb-true _ _ (and_parts (nat_le (15 + name_words (field_at words at 14)) (field_at words at 0)) (is_name (name_of words at)) named).0 in
    omega arith
