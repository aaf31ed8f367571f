-- What the words of a block are, as those of a record, a counts block, a sample, or anything else.
use Rattle.segment_invariant.proofs.Prelude.Std.{◌≡◌, ◌≢◌, Bool, true, false, ℕ, ◌+◌, ◌-◌, ◌*◌, ◌^◌, ◌<◌, ◌≤◌, List, [], ◌∷◌, ◌++◌, length, take, drop, refl, sym, ap, ◌∙◌, arith, ◌==◌, if◌then◌else◌, slice_index, w64, and_parts, eqb-true, eqb-false, leb-true}
use Rattle.segment_invariant.proofs.Prelude.Machine.{field_at, Linear, Boolean, Custom, Sparse, spec_fields, spec_ranges, name_words, name_of, spec_of, record_buckets, sample_value}
use Rattle.segment_invariant.proofs.Prelude.Invariant.{Record, Counts, Sample, Body, histogram, counts, sample, other, words_of}
use Rattle.std.specs.List.{slice_range}
use Rattle.std.proofs.lemmas.Int.{of_z-to_z}
use Rattle.segment_image.specs.Words.{bytes_of_words}
use Rattle.segment_image.proofs.ReadWords.{length-bytes_of_words}
use Rattle.std.proofs.lemmas.List.{length-take-le}
use Rattle.bucket_ranges.specs.Reading.{is_kind, name_length, named_words, is_custom_named, is_linear_named, is_boolean_named, is_sparse_named, spec_named, is_spec_named, inner_ranges, record_words}
use Rattle.bucket_ranges.proofs.Named.{inner-distinct, IsInner-from_named}
use Rattle.segment_promises.proofs.Adopting.Slices.{run_more, run_long, three_runs, fields, fields_run}

module _ (words : List ℕ) where
  -- `n` words of a block, from its word `i` on
  abbrev pub run : ℕ → ℕ → ℕ → List ℕ
  run at i n = take n (drop (at + i) words)

  abbrev pub size_at : ℕ → ℕ
  size_at at = field_at words at 0

  -- a histogram's record, a sample, the counts of a record, and any other block
  abbrev pub record_at : ℕ → Record
  record_at at = record {
    name = name_of words at;
    spec = spec_of words at;
    size = size_at at;
    next = field_at words at 3;
    counts = field_at words at 8;
    single = field_at words at 9;
    mark = field_at words at 10;
    sum = field_at words at 11;
    sum_mark = field_at words at 12;
    noted = field_at words at 13;
    letters = run at 15 (name_words (name_length words at));
    rest = run at (record_words words at) (size_at at - record_words words at);
  }

  abbrev pub sample_at : ℕ → Sample
  sample_at at = record {
    of = field_at words at 4;
    name = name_of words (field_at words at 4);
    value = sample_value words at;
    size = size_at at;
    next = field_at words at 3;
    units = field_at words at 6;
    mark = field_at words at 7;
    rest = run at 8 (size_at at - 8);
  }

  abbrev pub counts_at : ℕ → ℕ → Counts
  counts_at owner at =
      let n = record_buckets words owner in record {
        of = owner;
        name = name_of words owner;
        spec = spec_of words owner;
        size = size_at at;
        next = field_at words at 3;
        units = run at 4 n;
        marks = run at (4 + n) n;
        rest = run at (4 + 2 * n) (size_at at - (4 + 2 * n));
      }

  abbrev pub other_at : ℕ → Body
  other_at at = other (size_at at) (field_at words at 2) (field_at words at 3) (run at 4 (size_at at - 4))

  -- the words of a block of this size
  abbrev pub whole : ℕ → List ℕ
  whole at = take (size_at at) (drop at words)

  -- its fields and what follows them
  fields_first : (at n : ℕ) → n ≤ size_at at → at + size_at at ≤ length words → whole at ≡ fields words at 0 n ++ run at n (size_at at - n)
  fields_first at n few within =
      run_more words at n (size_at at - n) (size_at at) (omega (arith, few))
      ∙ ap (λ (ws : List ℕ). ws ++ run at n (size_at at - n)) (ap (λ (k : ℕ). take n (drop k words)) (omega_zero at) ∙ fields_run words at 0 n (omega (arith, few, within)))
    where
      omega_zero : (at : ℕ) → at ≡ at + 0
      omega_zero at = omega arith

  -- ---- other blocks and samples

  pub other_words : (at : ℕ) → 4 ≤ size_at at → at + size_at at ≤ length words → field_at words at 1 ≡ 0xC8799269 → words_of (other_at at) ≡ whole at
  other_words at least within cookie =
      (λ i. size_at at ∷ sym cookie i ∷ field_at words at 2 ∷ field_at words at 3 ∷ run at 4 (size_at at - 4)) ∙ sym (fields_first at 4 least within)

  pub sample_words : (at : ℕ) → 8 ≤ size_at at → at + size_at at ≤ length words → field_at words at 1 ≡ 0xC8799269 → field_at words at 2 ≡ 3
      → field_at words at 5 < 2 ^ 64 → words_of (sample (sample_at at)) ≡ whole at
  sample_words at least within cookie three small =
      (λ i. size_at at ∷ sym cookie i ∷ sym three i ∷ field_at words at 3 ∷ field_at words at 4 ∷ of_z-to_z w64 (field_at words at 5) small i
      ∷ field_at words at 6 ∷ field_at words at 7 ∷ run at 8 (size_at at - 8)) ∙ sym (fields_first at 8 least within)

  -- ---- counts blocks

  pub counts_words : (owner at : ℕ) → 4 + 2 * record_buckets words owner ≤ size_at at → at + size_at at ≤ length words → field_at words at 1 ≡ 0xC8799269
      → field_at words at 2 ≡ 2 → words_of (counts (counts_at owner at)) ≡ whole at
  counts_words owner at least within cookie two =
      let n : ℕ = record_buckets words owner in
      let left : ℕ = size_at at - (4 + 2 * n) in
      let behind = three_runs words (at + 4) (at + (4 + n)) (at + (4 + 2 * n)) n n left (size_at at - 4) (omega arith) (omega arith) (omega (arith, least)) in
      (λ i. size_at at ∷ sym cookie i ∷ sym two i ∷ field_at words at 3 ∷ behind i) ∙ sym (fields_first at 4 (omega (arith, least)) within)

  -- ---- the records of histograms

  -- if the words of a name lie among all words, it has as many bytes as its length says
  pub name_long : (at : ℕ) → at + named_words words at ≤ length words → length (name_of words at) ≡ name_length words at
  name_long at within =
      let n : ℕ = name_words (name_length words at) in
      let from : ℕ = at + 15 in
      let span : from + n - from ≡ n = omega arith in
      let letters = ap (λ (k : ℕ). length (take k (drop from words))) span ∙ run_long words from n (omega (arith, within)) in
      let bytes = length-bytes_of_words (slice_range words from (from + n)) in
      length-take-le (name_length words at) (bytes_of_words (slice_range words from (from + n))) (omega (arith, letters, bytes))

  -- a spec that words name has the fields and the ranges that they are
  pub fields_named : (kind min max n : ℕ) (inner : List ℕ) → is_kind kind ≡ true → is_spec_named kind min max n inner ≡ true
      → (spec_fields (spec_named kind min max n inner) ≡ kind ∷ min ∷ max ∷ n ∷ [])
      × (spec_ranges (spec_named kind min max n inner) ≡ (if kind == 3 then inner else []))
  fields_named kind min max n inner known named =
      by_kind (kind == 4) (kind == 3) (kind == 2) (eqb-true kind 4) (eqb-true kind 3) (eqb-true kind 2) (eqb-false kind 4) (eqb-false kind 3) (eqb-false kind 2) named
    where
      by_kind : (four three two : Bool) → (four ≡ true → kind ≡ 4) → (three ≡ true → kind ≡ 3) → (two ≡ true → kind ≡ 2)
          → (four ≡ false → kind ≢ 4) → (three ≡ false → kind ≢ 3) → (two ≡ false → kind ≢ 2)
          → (if four then is_sparse_named min max n else (if three then is_custom_named min max n inner else (if two then is_boolean_named min max n else is_linear_named min max n))) ≡ true
          → (spec_fields (if four then Sparse else (if three then Custom inner else (if two then Boolean else Linear min max n))) ≡ kind ∷ min ∷ max ∷ n ∷ [])
          × (spec_ranges (if four then Sparse else (if three then Custom inner else (if two then Boolean else Linear min max n))) ≡ (if three then inner else []))
      by_kind true true two is third also apart differs unlike named = let e = is refl in let f = third refl in absurd (omega (arith, e, f))
      by_kind true false two is third also apart differs unlike named =
          let parts = and_parts _ _ named in
          let ends = and_parts _ _ parts.0 in
          ((λ i. sym (is refl) i ∷ sym (eqb-true min 0 ends.0) i ∷ sym (eqb-true max 0 ends.1) i ∷ sym (eqb-true n 0 parts.1) i ∷ []), refl)
      by_kind false true two is third also apart differs unlike named =
          let inside = IsInner-from_named min max n inner named in
          let own = inner-distinct inner inside.up in
          let count = inside.count in
          let few = inside.few in
          let parts = and_parts _ _ named in
          let least = eqb-true (slice_index inner 0) min (and_parts _ _ parts.0).1 in
          let most = eqb-true (slice_index inner (n - 2)) max parts.1 in
          let last : length inner - 1 ≡ n - 2 = omega (arith, count, few) in
          let more : length inner + 1 ≡ n = omega (arith, count, few) in (
            (λ i. sym (third refl) i ∷ slice_index (own i) 0 ∷ slice_index (own i) (length (own i) - 1) ∷ (length (own i) + 1) ∷ [])
                ∙ (λ i. kind ∷ least i ∷ (ap (slice_index inner) last ∙ most) i ∷ more i ∷ []),
            own,
          )
      by_kind false false true is third also apart differs unlike named =
          let parts = and_parts _ _ named in
          let ends = and_parts _ _ parts.0 in
          ((λ i. sym (also refl) i ∷ sym (eqb-true min 1 ends.0) i ∷ sym (eqb-true max 2 ends.1) i ∷ sym (eqb-true n 3 parts.1) i ∷ []), refl)
      by_kind false false false is third also apart differs unlike named =
          let from = and_parts _ _ known in
          let low = leb-true 1 kind from.0 in
          let high = leb-true kind 4 from.1 in
          let four = apart refl in
          let three = differs refl in
          let two = unlike refl in
          let one : kind ≡ 1 = omega (arith, low, high, four, three, two) in
          ((λ i. sym one i ∷ min ∷ max ∷ n ∷ []), refl)

  -- the ranges of a custom record are a run after its name
  ranges_run : (at first n : ℕ) (custom : Bool) → (if custom then slice_range words first (first + n) else []) ≡ take (if custom then n else 0) (drop first words)
  ranges_run at first n true = ap (λ (k : ℕ). take k (drop first words)) span
    where
      span : first + n - first ≡ n
      span = omega arith
  ranges_run at first n false = refl

  pub record_words_are : (at : ℕ) → record_words words at ≤ size_at at → at + size_at at ≤ length words → field_at words at 1 ≡ 0xC8799269
      → field_at words at 2 ≡ 1 → is_kind (field_at words at 4) ≡ true
      → is_spec_named (field_at words at 4) (field_at words at 5) (field_at words at 6) (field_at words at 7) (inner_ranges words at) ≡ true
      → words_of (histogram (record_at at)) ≡ whole at
  record_words_are at least within cookie one known named =
      let long = name_long at (omega (arith, least, within)) in
      let (specified, ranges) = fields_named (field_at words at 4) (field_at words at 5) (field_at words at 6) (field_at words at 7) (inner_ranges words at) known named in
      let nw : ℕ = name_words (name_length words at) in
      let more : ℕ = if field_at words at 4 == 3 then field_at words at 7 - 1 else 0 in
      let inner = ranges ∙ ranges_run at (at + 15 + nw) (field_at words at 7 - 1) (field_at words at 4 == 3) in
      let behind = ap (λ (ws : List ℕ). (run at 15 nw ++ ws) ++ run at (15 + nw + more) (size_at at - (15 + nw + more))) inner
      ∙ three_runs words (at + 15) (at + 15 + nw) (at + (15 + nw + more)) nw more (size_at at - (15 + nw + more)) (size_at at - 15) refl (omega arith) (omega (arith, least)) in
      (λ i. size_at at ∷ sym cookie i ∷ sym one i ∷ field_at words at 3 ∷ slice_index (specified i) 0 ∷ slice_index (specified i) 1 ∷ slice_index (specified i) 2
      ∷ slice_index (specified i) 3 ∷ field_at words at 8 ∷ field_at words at 9 ∷ field_at words at 10 ∷ field_at words at 11 ∷ field_at words at 12
      ∷ field_at words at 13 ∷ long i ∷ behind i)
      ∙ sym (fields_first at 15 (omega (arith, least)) within)
