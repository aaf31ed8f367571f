-- The records of a kept segment among its words: which ones the list has, and what the words of a histogram's record say.
use Rattle.segment_invariant.proofs.Prelude.Std.{◌≡◌, ℕ, ◌+◌, ◌-◌, ◌<◌, List, ◌++◌, All, length, replicate, take, drop, get_or, refl, ap, ◌∙◌, arith, length-append, append_assoc, slice_index, Contains, get_or-drop, get_or_append_left, length-replicate, take-append_seam, some, none, get_elem?, from_map, at_from, contains_at, all_at}
use Rattle.segment_invariant.proofs.Prelude.Machine.{Dimensions, word_at, field_at, spec_ranges, name_words, name_of, IsShown}
use Rattle.segment_invariant.proofs.Prelude.Invariant.{Record, Sample, histogram, Piece, words_of, record_words, Listed, Anatomy, layout_of, order_of, HasRecord, HasSample, StandsAs, IsLawfulRecord}
use Rattle.std.specs.List.{slice_range}
use Rattle.std.proofs.lemmas.List.{ext_get_or, get_or-take, get_or-append_right, length-take, length-drop}
use Rattle.segment_image.specs.Words.{bytes_of_words}
use Rattle.segment_image.proofs.ReadWords.{length-bytes_of_words}
use Rattle.alloc_core.proofs.Layouts.{length_shown}
use Rattle.segment_invariant.proofs.Blocks.Pieces.{piece_word, piece_ends, free_within}

-- ---- which ones the list has

-- a record of the list holds what it was given
pub listed_there : (anatomy : Anatomy) (at : ℕ) → All (λ l. StandsAs anatomy.pieces l l.made) anatomy.records → Contains (order_of anatomy) at
    → (l : Listed) × Contains anatomy.records l × (l.reference ≡ at) × StandsAs anatomy.pieces l l.made
listed_there anatomy at standing there =
    let place = at_from (order_of anatomy) at there in
    let from = from_map (λ (l : Listed). l.reference) anatomy.records place.0 at place.1 in (
      from.0,
      contains_at anatomy.records place.0 from.0 from.1,
      from.2,
      all_at (λ l. StandsAs anatomy.pieces l l.made) anatomy.records place.0 from.0 standing from.1,
    )

-- ---- what the words say

module _ (shape : Dimensions) (words : List ℕ) (anatomy : Anatomy) (shown : IsShown shape words (layout_of anatomy)) where
  -- a part of the words of a block among all words
  pub piece_part : (k : ℕ) (p : Piece) (front part rest : List ℕ) → get_elem? anatomy.pieces k ≡ some p → words_of p.body ≡ front ++ (part ++ rest)
      → slice_range words (p.at + length front) (p.at + length front + length part) ≡ part
  piece_part k p front part rest there is =
      let n : ℕ = length front in
      let m : ℕ = length part in
      let whole = ap length is in
      let behind = length-append front (part ++ rest) in
      let long = length-append part rest in
      let ends = piece_ends shape words anatomy shown k p there in
      let within = free_within shape words anatomy shown in
      let size = length_shown shape words (layout_of anatomy) shown in
      let span : p.at + n + m - (p.at + n) ≡ m = omega arith in
      ap (λ (count : ℕ). take count (drop (p.at + n) words)) span
      ∙ ext_get_or 0 (take m (drop (p.at + n) words)) part
      (omega (arith, length-take m (drop (p.at + n) words), length-drop (p.at + n) words, whole, behind, long, ends, within, size))
      (λ i below.
      let inside : i < m = omega (arith, below, length-take m (drop (p.at + n) words)) in
      let place : p.at + n + i ≡ p.at + (n + i) = omega arith in
      let back : n + i - n ≡ i = omega arith in
      get_or-take m (drop (p.at + n) words) i 0 inside
      ∙ (get_or-drop (p.at + n) words i 0
      ∙ (ap (word_at words) place
      ∙ (piece_word shape words anatomy shown k p (n + i) there (omega (arith, whole, behind, long, inside))
      ∙ (ap (λ (ws : List ℕ). get_or ws (n + i) 0) is
      ∙ (get_or-append_right front (part ++ rest) n (n + i) 0 refl (omega arith)
      ∙ (ap (λ (j : ℕ). get_or (part ++ rest) j 0) back
      ∙ get_or_append_left part rest 0 i inside)))))))

  -- a word of a histogram's record
  pub record_word : (at : ℕ) (r : Record) (j : ℕ) → HasRecord anatomy.pieces at r → j < 15 → field_at words at j ≡ slice_index (record_words r) j
  record_word at r j (k, there) below = piece_word shape words anatomy shown k _ j there (omega (arith, below))

  -- and the type of a sample
  pub sample_type : (at : ℕ) (s : Sample) → HasSample anatomy.pieces at s → field_at words at 2 ≡ 3
  sample_type at s (k, there) = piece_word shape words anatomy shown k _ 2 there (omega arith)

  -- the name of a record takes as many words as it has
  pub name_long : (version : ℕ) (r : Record) → IsLawfulRecord version shape.page r → name_words (length r.name) ≡ length r.letters
  name_long version r lawful =
      let (k, few, is) = lawful.lettered in
      let bytes = ap length is in
      let words_long = length-bytes_of_words r.letters in
      let name_long = length-append r.name (replicate k 0) in
      let zeros = length-replicate {A = ℕ} k 0 in
      omega (arith, bytes, words_long, name_long, zeros, few)

  -- the words of its name
  pub letters_part : (version : ℕ) (at : ℕ) (r : Record) → HasRecord anatomy.pieces at r → IsLawfulRecord version shape.page r
      → slice_range words (at + 15) (at + 15 + name_words (length r.name)) ≡ r.letters
  letters_part version at r there lawful =
      let fields : List ℕ = take 15 (record_words r) in
      ap (λ (n : ℕ). slice_range words (at + 15) (at + 15 + n)) (name_long version r lawful)
      ∙ piece_part there.0 (record { at = at; owner = none; body = histogram r }) fields r.letters (spec_ranges r.spec ++ r.rest) there.1
      (ap (λ (behind : List ℕ). fields ++ behind) (append_assoc r.letters (spec_ranges r.spec) r.rest))

  -- a record has the name that it was given
  pub record_name : (version : ℕ) (at : ℕ) (r : Record) → HasRecord anatomy.pieces at r → IsLawfulRecord version shape.page r → name_of words at ≡ r.name
  record_name version at r there lawful =
      let (k, few, is) = lawful.lettered in
      ap (λ (len : ℕ). take len (bytes_of_words (slice_range words (at + 15) (at + 15 + name_words len)))) (record_word at r 14 there (omega arith))
      ∙ (ap (λ (letters : List ℕ). take (length r.name) (bytes_of_words letters)) (letters_part version at r there lawful)
      ∙ (ap (take (length r.name)) is ∙ take-append_seam r.name (replicate k 0)))
