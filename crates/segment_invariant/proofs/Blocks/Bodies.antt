-- A block of one's own that may be published holds just the words of what it is published as: a valid record or sample that counts nothing,
-- or a counts block of zeros.
use Rattle.segment_invariant.proofs.Prelude.Std.{◌≡◌, ◌≢◌, ◌⊎◌, ℕ, suc, ◌+◌, ◌-◌, ◌*◌, ◌≤◌, ℤ, true, List, [], ◌∷◌, ◌++◌, length, replicate, All, inl, inr, refl, sym, ap, ◌∙◌, subst, arith, length-append, append_assoc, Some, None, nat_le, w64, cast_unsigned, and_parts, leb-true, length-replicate}
use Rattle.segment_invariant.proofs.Prelude.Machine.{Spec, Linear, Boolean, Custom, Sparse, SingleWord, Empty, buckets_of, spec_fault, spec_fields, spec_ranges, single_of, packed_bucket, Own, units_in, AreNameWords}
use Rattle.segment_invariant.proofs.Prelude.Invariant.{Record, Counts, Sample, record_words, form_at, IsLawfulRecord, IsCountsOf, CountsNothing}
use Rattle.std.specs.Prelude as std
use Rattle.std.proofs.lemmas.List.{replicate-append-replicate}
use Rattle.std.proofs.lemmas.List.Elements.{All-replicate}
use Rattle.segment_image.proofs.ReadWords.{length-bytes_of_words}
use Rattle.bucket_ranges.specs.Reading.{is_name, is_i32}
use Rattle.segment_invariant.specs.Body.{own_words, counts_words, sample_words, spec_field}
use Rattle.segment_invariant.specs.Invariant.{IsLawfulSample}

-- ---- the single word of a new record

-- nothing is packed in it
pub record IsBlank (form : std.Option SingleWord) : Type 0 where
  pub some_form : form ≢ None
  pub unpacked : packed_bucket form ≡ None
  pub empty : units_in form ≡ 0

blank_empty : IsBlank (Some Empty)
blank_empty = record { some_form = λ is. cc is; unpacked = refl; empty = refl }

pub blank_form : (version n : ℕ) → (version ≡ 1) ⊎ (version ≡ 2) → IsBlank (single_of version n 0)
blank_form version n (inl one) = subst (λ (v : ℕ). IsBlank (single_of v n 0)) (sym one) blank_empty
blank_form version n (inr two) = subst (λ (v : ℕ). IsBlank (single_of v n 0)) (sym two) blank_empty

-- ---- a record

fields_are : (spec : Spec) → spec_fields spec ≡ spec_field spec 0 ∷ spec_field spec 1 ∷ spec_field spec 2 ∷ spec_field spec 3 ∷ []
fields_are (Linear min max n) = refl
fields_are Boolean = refl
fields_are (Custom values) = refl
fields_are Sparse = refl

-- what a block with such a payload is published as
abbrev pub record_of : Own → List ℕ → Spec → List ℕ → Record
record_of own name spec letters = record {
  name = name;
  spec = spec;
  size = own.size;
  next = own.next;
  counts = 0;
  single = 0;
  mark = 0;
  sum = 0;
  sum_mark = 0;
  noted = 0;
  letters = letters;
  rest = replicate (own.size - 4 - length own.payload) 0;
}

one_letter : (name letters : List ℕ) → is_name name ≡ true → AreNameWords name letters → 1 ≤ length letters
one_letter name letters named (k, few, are) =
    let least : 1 ≤ length name = leb-true 1 (length name) (and_parts (nat_le 1 (length name)) _ (and_parts _ _ (and_parts _ _ named).0).0).0 in
    let bytes = length-bytes_of_words letters in
    let all = ap length are in
    let e = length-append name (replicate {A = ℕ} k 0) in
    omega (arith, least, bytes, all, e)

module _ (own : Own) (name : List ℕ) (spec : Spec) (letters : List ℕ)
    (payload_is : own.payload ≡ spec_fields spec ++ 0 ∷ 0 ∷ 0 ∷ 0 ∷ 0 ∷ 0 ∷ length name ∷ (letters ++ spec_ranges spec)) where
  abbrev r : Record
  r = record_of own name spec letters

  -- its words are those of the block
  pub record_words_are : own.tag ≡ 1 → record_words r ≡ own_words own
  record_words_are tag =
      let more : List ℕ = 0 ∷ 0 ∷ 0 ∷ 0 ∷ 0 ∷ 0 ∷ length name ∷ (letters ++ spec_ranges spec) in
      let whole : own.payload ≡ spec_field spec 0 ∷ spec_field spec 1 ∷ spec_field spec 2 ∷ spec_field spec 3 ∷ more =
      payload_is ∙ ap (λ (fields : List ℕ). fields ++ more) (fields_are spec) in
      sym (λ i. own.size ∷ 0xC8799269 ∷ tag i ∷ own.next ∷ (whole i ++ replicate (own.size - 4 - length own.payload) 0))

  pub payload_long : length own.payload ≡ 11 + (length letters + length (spec_ranges spec))
  payload_long =
      let whole = ap length payload_is in
      let e = length-append (spec_fields spec) (0 ∷ 0 ∷ 0 ∷ 0 ∷ 0 ∷ 0 ∷ length name ∷ (letters ++ spec_ranges spec)) in
      let f : length (spec_fields spec) ≡ 4 = ap length (fields_are spec) in
      let g = length-append letters (spec_ranges spec) in
      omega (arith, whole, e, f, g)

  module _ (version page : ℕ) (versions : (version ≡ 1) ⊎ (version ≡ 2)) (room : length own.payload + 4 ≤ own.size) (named : is_name name ≡ true)
      (lettered : AreNameWords name letters) (lawful : spec_fault spec ≡ None) (fits : 4 + 2 * buckets_of spec ≤ page) where
    pub is_blank : IsBlank (form_at version r)
    is_blank = blank_form version (buckets_of spec) versions

    -- it counts nothing
    pub record_nothing : CountsNothing r
    record_nothing = (refl, refl, refl, refl, refl, refl)

    -- it is valid
    pub record_lawful : IsLawfulRecord version page r
    record_lawful =
        let zeros = length-replicate {A = ℕ} (own.size - 4 - length own.payload) 0 in
        let long = payload_long in
        let one = one_letter name letters named lettered in
        record {
          sized = omega (arith, zeros, long, room);
          least = omega (arith, long, room, one);
          named = named;
          lettered = lettered;
          lawful = lawful;
          fields = ap length (fields_are spec);
          fits = fits;
          formed = is_blank.some_form;
          unpacked = λ nothing. refl;
          off = λ off. absurd (cc off);
          sparse = λ kind. (refl, refl, refl);
          narrow = (omega arith, omega arith);
        }

-- ---- a counts block

abbrev pub counts_of : Own → ℕ → List ℕ → Spec → Counts
counts_of block at name spec = record {
  of = at;
  name = name;
  spec = spec;
  size = block.size;
  next = block.next;
  units = replicate (buckets_of spec) 0;
  marks = replicate (buckets_of spec) 0;
  rest = replicate (block.size - 4 - (buckets_of spec + buckets_of spec)) 0;
}

-- zeros in three parts
zeros_split : (n rest : ℕ) → replicate {A = ℕ} (n + n + rest) 0 ≡ replicate {A = ℕ} n 0 ++ replicate {A = ℕ} n 0 ++ replicate {A = ℕ} rest 0
zeros_split n rest =
    sym (replicate-append-replicate (n + n) rest 0)
    ∙ ap (λ (l : List ℕ). l ++ replicate {A = ℕ} rest 0) (sym (replicate-append-replicate n n 0))

module _ (block : Own) (at : ℕ) (name : List ℕ) (spec : Spec) (tag : block.tag ≡ 2) (bare : block.payload ≡ []) (room : 4 + 2 * buckets_of spec ≤ block.size) where
  abbrev c : Counts
  c = counts_of block at name spec

  -- the zeros of the block are those of its counts, of its marks and of what follows them
  zeros_are : replicate {A = ℕ} (block.size - 4 - length block.payload) 0 ≡ c.units ++ c.marks ++ c.rest
  zeros_are =
      let none : length block.payload ≡ 0 = ap length bare in
      let all : block.size - 4 - length block.payload ≡ buckets_of spec + buckets_of spec + (block.size - 4 - (buckets_of spec + buckets_of spec)) =
      omega (arith, none, room) in
      ap (λ (k : ℕ). replicate {A = ℕ} k 0) all ∙ zeros_split (buckets_of spec) (block.size - 4 - (buckets_of spec + buckets_of spec))

  -- its words are those of the block
  pub counts_words_are : counts_words c ≡ own_words block
  counts_words_are = sym (λ i. block.size ∷ 0xC8799269 ∷ tag i ∷ block.next ∷ (bare_zeros i))
    where
      bare_zeros : block.payload ++ replicate {A = ℕ} (block.size - 4 - length block.payload) 0 ≡ c.units ++ c.marks ++ c.rest
      bare_zeros = ap (λ (l : List ℕ). l ++ replicate {A = ℕ} (block.size - 4 - length block.payload) 0) bare ∙ zeros_are

  pub counts_zeros : All (λ n. n ≡ 0) c.units × All (λ n. n ≡ 0) c.marks
  counts_zeros = (All-replicate (λ (n : ℕ). n ≡ 0) (buckets_of spec) 0 refl, All-replicate (λ (n : ℕ). n ≡ 0) (buckets_of spec) 0 refl)

  -- it is the counts block of the record that names it
  pub counts_lawful : (version : ℕ) (r : Record) → r.name ≡ name → r.spec ≡ spec → r.mark ≡ 0 → packed_bucket (form_at version r) ≡ None
      → IsCountsOf version at r c
  counts_lawful version r named same unmarked unpacked =
      let n : ℕ = buckets_of spec in
      let units = length-replicate {A = ℕ} n 0 in
      let rest = length-replicate {A = ℕ} (block.size - 4 - (n + n)) 0 in
      let buckets : buckets_of r.spec ≡ n = ap buckets_of same in
      record {
        mine = refl;
        named = sym named;
        same = sym same;
        units = units ∙ sym buckets;
        marks = units ∙ sym buckets;
        sized = omega (arith, units, rest, room);
        packed = λ i is. absurd (cc (sym unpacked ∙ is));
        unused = λ on. counts_zeros;
        mark = λ one i is. absurd (cc (sym unpacked ∙ is));
      }

-- ---- a sample

abbrev pub sample_of : Own → List ℕ → ℕ → ℤ → Sample
sample_of own name histogram value = record {
  of = histogram;
  name = name;
  value = value;
  size = own.size;
  next = own.next;
  units = 0;
  mark = 0;
  rest = replicate (own.size - 8) 0;
}

-- zeros after a front that ends in zeros
zeros_behind : (payload front : List ℕ) (k n : ℕ) → payload ++ replicate k 0 ≡ front → payload ++ replicate (k + n) 0 ≡ front ++ replicate n 0
zeros_behind payload front k n is =
    ap (λ (l : List ℕ). payload ++ l) (sym (replicate-append-replicate k n 0))
    ∙ (sym (append_assoc payload (replicate {A = ℕ} k 0) (replicate {A = ℕ} n 0))
    ∙ ap (λ (l : List ℕ). l ++ replicate {A = ℕ} n 0) is)

module _ (own : Own) (name : List ℕ) (histogram : ℕ) (value : ℤ) (k : ℕ)
    (payload_is : own.payload ++ replicate k 0 ≡ histogram ∷ cast_unsigned w64 value ∷ []) (room : 8 ≤ own.size) where
  abbrev s : Sample
  s = sample_of own name histogram value

  -- after what was stored of its payload come its count, its mark and what follows them
  payload_whole : own.payload ++ replicate {A = ℕ} (own.size - 4 - length own.payload) 0 ≡ histogram ∷ cast_unsigned w64 value ∷ 0 ∷ 0 ∷ s.rest
  payload_whole =
      let both = ap length payload_is in
      let e = length-append own.payload (replicate {A = ℕ} k 0) in
      let f = length-replicate {A = ℕ} k 0 in
      let split : own.size - 4 - length own.payload ≡ k + suc (suc (own.size - 8)) = omega (arith, both, e, f, room) in
      ap (λ (n : ℕ). own.payload ++ replicate {A = ℕ} n 0) split
      ∙ zeros_behind own.payload (histogram ∷ cast_unsigned w64 value ∷ []) k (suc (suc (own.size - 8))) payload_is

  -- its words are those of the block
  pub sample_words_are : own.tag ≡ 3 → sample_words s ≡ own_words own
  sample_words_are tag = sym (λ i. own.size ∷ 0xC8799269 ∷ tag i ∷ own.next ∷ payload_whole i)

  pub sample_lawful : is_i32 value ≡ true → IsLawfulSample s
  sample_lawful valued =
      let rest = length-replicate {A = ℕ} (own.size - 8) 0 in
      record { sized = omega (arith, rest, room); valued = valued; taken = omega arith }
