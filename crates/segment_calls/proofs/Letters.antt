-- The words of a name.
use Rattle.std.proofs.Common.{◌≡◌, ◌≢◌, ℕ, zero, suc, ◌+◌, ◌-◌, ◌<◌, ◌≤◌, List, [], ◌∷◌, ◌++◌, length, drop, replicate, refl, sym, ap, ◌∙◌, arith, append_assoc, length-append, min, ◌*◌, true, true≢false, ◌%◌, div-add-mod', mod-lt}
use Rattle.std.specs.Prelude.{slice_index, nat_le}
use Rattle.std.proofs.lemmas.List.{append-nil, get_or-append-add, get_or_append_left, length-replicate}
use Rattle.std.proofs.lemmas.Bool.{leb-true, and_parts}
use Rattle.std.proofs.lemmas.List.Folds.{list_all_at}
use Rattle.segment_image.proofs.ReadWords.{length-bytes_of_words}
use Rattle.bucket_ranges.specs.Reading.{is_name, is_name_byte, name_words}
use Rattle.std.proofs.lemmas.List.Concat.{flat_map-append}
use Rattle.byteorder.specs.Endian.{little_bytes}
use Rattle.segment_image.specs.Words.{bytes_of_words}
use Rattle.segment_calls.specs.Asked.{AreNameWords}

-- zeros after up to eight bytes
pub zeros_behind : (n : ℕ) → n ≤ 8 → drop n (0 ∷ 0 ∷ 0 ∷ 0 ∷ 0 ∷ 0 ∷ 0 ∷ 0 ∷ []) ≡ replicate {A = ℕ} (8 - n) 0
zeros_behind zero few = refl
zeros_behind (suc zero) few = refl
zeros_behind (suc (suc zero)) few = refl
zeros_behind (suc (suc (suc zero))) few = refl
zeros_behind (suc (suc (suc (suc zero)))) few = refl
zeros_behind (suc (suc (suc (suc (suc zero))))) few = refl
zeros_behind (suc (suc (suc (suc (suc (suc zero)))))) few = refl
zeros_behind (suc (suc (suc (suc (suc (suc (suc zero))))))) few = refl
zeros_behind (suc (suc (suc (suc (suc (suc (suc (suc zero)))))))) few = refl
zeros_behind (suc (suc (suc (suc (suc (suc (suc (suc (suc n))))))))) few = absurd (omega (arith, few))

-- words that have the bytes of a name but for its rest, or, if nothing is left, zeros after it up to a whole word
pub record HaveBytes (name rest words : List ℕ) : Type 0 where
  pub zeros : ℕ
  pub few : zeros < 8
  pub whole : 0 < length rest → zeros ≡ 0
  pub bytes : bytes_of_words words ++ rest ≡ name ++ replicate zeros 0

pub none_yet : (name : List ℕ) → HaveBytes name name []
none_yet name = record { zeros = 0; few = omega arith; whole = λ some. refl; bytes = sym (append-nil name) }

pub all_of : (name words : List ℕ) (rest : List ℕ) → length rest ≡ 0 → HaveBytes name rest words → AreNameWords name words
all_of name words [] none have = (have.zeros, have.few, sym (append-nil (bytes_of_words words)) ∙ have.bytes)
all_of name words (x ∷ rest) none have = absurd (omega (arith, none))

-- one word more
module _ (name rest words chunk : List ℕ) (word : ℕ) (have : HaveBytes name rest words) (some : 0 < length rest)
    (cut : length chunk ≡ min 8 (length rest)) (holds : little_bytes 8 word ≡ chunk ++ replicate (8 - length chunk) 0) where
  longer : bytes_of_words (words ++ word ∷ []) ≡ (bytes_of_words words ++ chunk) ++ replicate (8 - length chunk) 0
  longer =
      flat_map-append (little_bytes 8) words (word ∷ [])
      ∙ (ap (λ (l : List ℕ). bytes_of_words words ++ l) (append-nil (little_bytes 8 word) ∙ holds)
      ∙ sym (append_assoc (bytes_of_words words) chunk (replicate (8 - length chunk) 0)))

  so_far : bytes_of_words words ++ rest ≡ name
  so_far = have.bytes ∙ (ap (λ (n : ℕ). name ++ replicate n 0) (have.whole some) ∙ append-nil name)

  pub one_word_more : (left : List ℕ) → rest ≡ chunk ++ left → HaveBytes name left (words ++ word ∷ [])
  one_word_more [] is = record {
    zeros = 8 - length chunk;
    few = omega (arith, cut, some);
    whole = λ more. absurd (omega (arith, more));
    bytes = append-nil (bytes_of_words (words ++ word ∷ [])) ∙ (longer
        ∙ ap (λ (l : List ℕ). l ++ replicate (8 - length chunk) 0) (ap (λ (l : List ℕ). bytes_of_words words ++ l) (sym (is ∙ append-nil chunk)) ∙ so_far));
  }
  one_word_more (x ∷ left) is =
      let long = ap length is ∙ length-append chunk (x ∷ left) in
      let full : 8 - length chunk ≡ 0 = omega (arith, cut, long) in
      record {
        zeros = 0;
        few = omega arith;
        whole = λ more. refl;
        bytes = ap (λ (l : List ℕ). l ++ x ∷ left) (longer ∙ (ap (λ (n : ℕ). (bytes_of_words words ++ chunk) ++ replicate n 0) full ∙ append-nil (bytes_of_words words ++ chunk)))
            ∙ (append_assoc (bytes_of_words words) chunk (x ∷ left) ∙ (ap (λ (l : List ℕ). bytes_of_words words ++ l) (sym is) ∙ (so_far ∙ sym (append-nil name))));
      }

-- the words of a name are as many as its length says
pub letters_long : (name letters : List ℕ) → AreNameWords name letters → name_words (length name) ≡ length letters
letters_long name letters (k, few, are) =
    let n : ℕ = length name in
    let bytes = length-bytes_of_words letters in
    let all = ap length are in
    let e = length-append name (replicate {A = ℕ} k 0) in
    let f = length-replicate {A = ℕ} k 0 in
    let d = div-add-mod' (n + 7) 8 in
    let m : (n + 7) % 8 < 8 = mod-lt (n + 7) (omega arith) in
    omega (arith, few, bytes, all, e, f, d, m)

-- ---- the last word of a name

-- a word that is 0 has no other bytes
zero_bytes : (words : List ℕ) (p : ℕ) → slice_index words (length words - 1) ≡ 0 → 8 * (length words - 1) ≤ p → p < 8 * length words
    → slice_index (bytes_of_words words) p ≡ 0
zero_bytes [] p last from below = absurd (omega (arith, below))
zero_bytes (word ∷ []) p last from below = ap (λ (w : ℕ). slice_index (bytes_of_words (w ∷ [])) p) last ∙ no_bytes p
  where
    no_bytes : (p : ℕ) → slice_index (bytes_of_words (0 ∷ [])) p ≡ 0
    no_bytes zero = refl
    no_bytes (suc zero) = refl
    no_bytes (suc (suc zero)) = refl
    no_bytes (suc (suc (suc zero))) = refl
    no_bytes (suc (suc (suc (suc zero)))) = refl
    no_bytes (suc (suc (suc (suc (suc zero))))) = refl
    no_bytes (suc (suc (suc (suc (suc (suc zero)))))) = refl
    no_bytes (suc (suc (suc (suc (suc (suc (suc zero))))))) = refl
    no_bytes (suc (suc (suc (suc (suc (suc (suc (suc p)))))))) = refl
zero_bytes (word ∷ next ∷ rest) p last from below =
    let there : p ≡ 8 + (p - 8) = omega (arith, from) in
    let before : length (word ∷ next ∷ rest) - 1 ≡ suc (length (next ∷ rest) - 1) = omega arith in
    ap (slice_index (bytes_of_words (word ∷ next ∷ rest))) there
    ∙ (get_or-append-add (little_bytes 8 word) (bytes_of_words (next ∷ rest)) (p - 8) 0
    ∙ zero_bytes (next ∷ rest) (p - 8) (sym (ap (slice_index (word ∷ next ∷ rest)) before) ∙ last) (omega (arith, from)) (omega (arith, below)))

module _ (name words : List ℕ) (lawful : is_name name ≡ true) (spells : AreNameWords name words) where
  some_byte : 1 ≤ length name
  some_byte = let parts = and_parts _ _ lawful in leb-true 1 (length name) (and_parts (nat_le 1 (length name)) _ (and_parts _ _ parts.0).0).0

  -- the bytes of the words are those of the name and a few more
  bytes_long : 8 * length words ≡ length name + spells.0
  bytes_long =
      let bytes = length-bytes_of_words words in
      let all = ap length spells.2 in
      let e = length-append name (replicate {A = ℕ} spells.0 0) in
      let f = length-replicate {A = ℕ} spells.0 0 in
      omega (arith, bytes, all, e, f)

  pub some_letter : 0 < length words
  some_letter = let a = some_byte in let b = bytes_long in omega (arith, a, b)

  -- so the last word of a valid name is not 0
  pub last_letter : slice_index words (length words - 1) ≢ 0
  last_letter none =
      let least = some_byte in let long = bytes_long in let few = spells.1 in
      let p : ℕ = length name - 1 in
      let inside : p < length name = omega (arith, least) in
      let zeros : slice_index name p ≡ 0 =
      sym (get_or_append_left name (replicate spells.0 0) 0 p inside)
      ∙ (ap (λ (l : List ℕ). slice_index l p) (sym spells.2) ∙ zero_bytes words p none (omega (arith, few, long, least)) (omega (arith, long, least))) in
      absurd (true≢false (sym (and_parts _ _ lawful).1 ∙ list_all_at is_name_byte name p 0 inside (ap is_name_byte zeros)))
