-- The zeros after a name.
use Rattle.std.proofs.Common.{◌≡◌, true, ℕ, ◌+◌, ◌-◌, ◌/◌, ◌<◌, ◌≤◌, List, [], ◌∷◌, ◌++◌, length, take, drop, get_or, replicate, refl, sym, ap, subst, ◌∙◌, arith, length-drop, length-take}
use Rattle.std.specs.Prelude.{◌==◌, ◌%◌, Decides}
use Rattle.std.specs.List.{list_all, slice_range}
use Rattle.std.proofs.lemmas.Bool.{and_parts, and_from, eqb-true, eq-eqb, leb-true}
use Rattle.std.proofs.lemmas.Bool.Decides.{Decides-at, Decides-like}
use Rattle.std.proofs.lemmas.List.{append-nil, get_or-drop, length-replicate, take-append-drop, take_more}
use Rattle.std.proofs.lemmas.List.Concat.{flat_map-append}
use Rattle.std.proofs.Math.Seq.{drop-append-add, drop-append_seam}
use Rattle.byteorder.specs.Endian.{little_bytes}
use Rattle.segment_image.specs.Words.{bytes_of_words}
use Rattle.segment_image.specs.Blocks.{field_at}
use Rattle.segment_image.proofs.ReadWords.{length-bytes_of_words}
use Rattle.bucket_ranges.specs.Reading.{has_name, name_of, name_words}
use Rattle.image_reader.proofs.NameLengths.{length-name_of}
use Rattle.image_adoption.specs.Conditions.{HasPaddedName}

-- bytes that are all 0
zeros_are : (bytes : List ℕ) → Decides (list_all (λ byte. byte == 0) bytes) (bytes ≡ replicate (length bytes) 0)
zeros_are [] = (λ all. refl, λ same. refl)
zeros_are (byte ∷ bytes) = more (zeros_are bytes)
  where
    more : Decides (list_all (λ byte. byte == 0) bytes) (bytes ≡ replicate (length bytes) 0)
        → Decides (list_all (λ byte. byte == 0) (byte ∷ bytes)) (byte ∷ bytes ≡ replicate (length (byte ∷ bytes)) 0)
    more (to, from) = (
      λ all.
          let parts = and_parts _ _ all in
          let first = eqb-true byte 0 parts.0 in
          let rest = to parts.1 in
          λ i. first i ∷ rest i,
      λ same.
          let first : byte ≡ 0 = cc same in
          let rest : bytes ≡ replicate (length bytes) 0 = cc same in
          and_from _ _ (eq-eqb byte 0 first) (from rest),
    )

-- a name is not empty, and its words lie in the image
pub named_long : (words : List ℕ) (at : ℕ) → has_name words at ≡ true → at + field_at words at 0 ≤ length words
    → (1 ≤ field_at words at 14) × (at + (15 + name_words (field_at words at 14)) ≤ length words)
named_long words at named within =
    let parts = and_parts _ _ named in
    let fits = leb-true (15 + name_words (field_at words at 14)) (field_at words at 0) parts.0 in
    let room : at + (15 + name_words (field_at words at 14)) ≤ length words = omega (arith, fits, within) in
    let some = leb-true 1 (length (name_of words at)) (and_parts _ _ (and_parts _ _ (and_parts _ _ parts.1).0).0).0 in
    (omega (arith, some, length-name_of words at room), room)

-- the name of a record, whose words lie in the image
module _ (words : List ℕ) (at len : ℕ) (has : field_at words at 14 ≡ len) (some : 1 ≤ len) (within : at + (15 + name_words len) ≤ length words) where
  abbrev last : ℕ
  last = len - 1

  abbrev behind : List ℕ
  behind = drop (at + 15) words

  abbrev letters : List ℕ
  letters = slice_range words (at + 15) (at + 15 + name_words len)

  -- its words end with the one that has its last byte
  letters_end : letters ≡ take (last / 8) behind ++ get_or words (at + 15 + last / 8) 0 ∷ []
  letters_end =
      let many : at + 15 + name_words len - (at + 15) ≡ last / 8 + 1 = omega (arith, some) in
      let below : last / 8 < length behind = omega (arith, length-drop (at + 15) words, within, some) in
      ap (λ (n : ℕ). take n behind) many
      ∙ (take_more behind (last / 8) 0 below ∙ ap (λ (word : ℕ). take (last / 8) behind ++ word ∷ []) (get_or-drop (at + 15) words (last / 8) 0))

  -- what comes after it is in that word
  rest_is : drop len (bytes_of_words letters) ≡ drop (last % 8 + 1) (little_bytes 8 (get_or words (at + 15 + last / 8) 0))
  rest_is =
      let front : List ℕ = take (last / 8) behind in
      let word : ℕ = get_or words (at + 15 + last / 8) 0 in
      let below : last / 8 ≤ length behind = omega (arith, length-drop (at + 15) words, within, some) in
      let long : length (bytes_of_words front) + (last % 8 + 1) ≡ len = omega (arith, length-bytes_of_words front, length-take (last / 8) behind, below, some) in
      ap (λ (words : List ℕ). drop len (bytes_of_words words)) letters_end
      ∙ (ap (drop len) (flat_map-append (little_bytes 8) front (word ∷ []) ∙ ap (λ (bytes : List ℕ). bytes_of_words front ++ bytes) (append-nil (little_bytes 8 word)))
      ∙ (ap (λ (n : ℕ). drop n (bytes_of_words front ++ little_bytes 8 word)) (sym long)
      ∙ drop-append-add (bytes_of_words front) (little_bytes 8 word) (last % 8 + 1)))

  name_long : length (name_of words at) ≡ len
  name_long = length-name_of words at (subst (λ (n : ℕ). at + (15 + name_words n) ≤ length words) (sym has) within) ∙ has

  name_is : name_of words at ≡ take len (bytes_of_words letters)
  name_is = ap (λ (n : ℕ). take n (bytes_of_words (slice_range words (at + 15) (at + 15 + name_words n)))) has

  abbrev rest : List ℕ
  rest = drop len (bytes_of_words letters)

  few_left : length rest < 8
  few_left =
      let bytes = length-bytes_of_words letters in
      let taken = length-take (at + 15 + name_words len - (at + 15)) behind in
      omega (arith, length-drop len (bytes_of_words letters), bytes, taken, length-drop (at + 15) words, within, some)

  same_letters : slice_range words (at + 15) (at + 15 + name_words (length (name_of words at))) ≡ letters
  same_letters = ap (λ (n : ℕ). slice_range words (at + 15) (at + 15 + name_words n)) name_long

  -- so the name is padded if these bytes are 0
  pub padded_decides : Decides (list_all (λ byte. byte == 0) (drop (last % 8 + 1) (little_bytes 8 (get_or words (at + 15 + last / 8) 0)))) (HasPaddedName words at)
  padded_decides =
      Decides-at _ (list_all (λ byte. byte == 0) rest) (ap (list_all (λ byte. byte == 0)) (sym rest_is))
      (Decides-like (list_all (λ byte. byte == 0) rest) padded unpadded (zeros_are rest))
    where
      padded : rest ≡ replicate (length rest) 0 → HasPaddedName words at
      padded zeros = (
        length rest,
        few_left,
        ap bytes_of_words same_letters
            ∙ (sym (take-append-drop len (bytes_of_words letters))
            ∙ (ap (λ (front : List ℕ). front ++ rest) (sym name_is) ∙ ap (λ (back : List ℕ). name_of words at ++ back) zeros)),
      )

      unpadded : HasPaddedName words at → rest ≡ replicate (length rest) 0
      unpadded (k, few, is) =
          let behind_name : rest ≡ replicate k 0 =
          ap (drop len) (sym (ap bytes_of_words same_letters) ∙ is)
          ∙ (ap (λ (n : ℕ). drop n (name_of words at ++ replicate k 0)) (sym name_long) ∙ drop-append_seam (name_of words at) (replicate k 0)) in
          behind_name ∙ ap (λ (n : ℕ). replicate n 0) (sym (length-replicate k 0) ∙ ap length (sym behind_name))
