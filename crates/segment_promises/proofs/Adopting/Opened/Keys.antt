-- The keys of an image: what its reading lists of a histogram has the key of a bucket, or the value of a first sample; and the opener saw
-- that sample.
use Rattle.segment_invariant.proofs.Prelude.Std.{◌≡◌, ◌⊎◌, inl, inr, Bool, true, false, ℕ, zero, suc, ◌+◌, ◌^◌, ◌<◌, ℤ, pos, List, [], ◌∷◌, All, Contains, filter, flat_map, refl, sym, ap, ◌∙◌, subst, arith, ⊎_elim, length, Some, ◌==◌, ◌&&◌, if◌then◌else◌, slice_index, w64, int_eq, range_with_len, eqb-true, eq-eqb, Decides-int_eq, append-nil, All-nil, All-head, All-tail, some, none, get_elem?, at_map, none_in, row_in, all_of, at_from, contains_at, contains_filter, contains_mapped}
use Rattle.segment_invariant.proofs.Prelude.Machine.{word_at, field_at, head_of, boundaries_of, is_of_type, is_sparse, name_of, spec_of, record_buckets, sample_value, total_of, IsListed, Reading, reading_along, Sighting, word_seen, SawSample}
use Rattle.segment_invariant.proofs.Prelude.Invariant.{Anatomy, sample, Stands, WasFixed, Sees, IsFirstOf, HasKey}
use Rattle.std.specs.List.{find}
use Rattle.std.specs.List.Sorted.{IsStrictlySortedBy}
use Rattle.std.proofs.lemmas.Bool.{cases_lt}
use Rattle.std.proofs.lemmas.Int.{of_z-to_z}
use Rattle.std.proofs.lemmas.List.{get_or_past}
use Rattle.bucket_ranges.specs.Reading.{sample_count, is_sample, is_bad_sample, with_earlier, by_value, lawful_samples, first_samples, sample_counts, bucket_counts}
use Rattle.bucket_ranges.proofs.FirstSamples.{first_samples-ascend, first_samples-first}
use Rattle.segment_invariant.specs.Consistent.{IsSample}
use Rattle.segment_invariant.specs.Invariant.{IsLawfulSample}
use Rattle.segment_invariant.proofs.Consistency.Books.{range_at}
use Rattle.segment_promises.specs.Adoption.{IsAdoptable, seen_sample}
use Rattle.segment_promises.proofs.Filters.{filtered}
use Rattle.segment_promises.proofs.Readings.Finds.{find_one, find_both, found_at}
use Rattle.segment_promises.proofs.Readings.Samples.{mapped_filter, kept_by, without_earlier, earlier_at}
use Rattle.segment_promises.proofs.Readings.Sparse.{is_sample_of, one_of_value, found_sample, sample_found}
use Rattle.segment_promises.proofs.Adopting.Bodies.{sample_at}
use Rattle.segment_promises.proofs.Adopting.Distinct.{among_rows}
use Rattle.segment_promises.proofs.Adopting.Images.{no_sample_fault}
use Rattle.segment_promises.proofs.Adopting.Openers.{opener}
use Rattle.segment_promises.proofs.Adopting.Opened.Anatomy.{opened, order_is, are_cut}
use Rattle.segment_promises.proofs.Adopting.Opened.Names.{read, read_first, read_as}
use Rattle.segment_promises.proofs.Adopting.Opened.Pieces.{listed_body}
use Rattle.segment_promises.proofs.Adopting.Opened.Values.{sparse_named, sample_listed, first_value, lawful_sample}

-- ---- what was seen

-- if each sighting says the word that is there, and some is of a word, that word was seen
honest : (words : List ℕ) (l : List Sighting) (at : ℕ) (s : Sighting) → All (λ s. s.word ≡ word_at words s.at) l → Contains l s → s.at ≡ at
    → word_seen l at ≡ Some (word_at words at)
honest words [] at s all there is = absurd (none_in s there)
honest words (t ∷ rest) at s all there is = by_test (t.at == at) (eqb-true t.at at) (eq-eqb t.at at) there (honest words rest at s (All-tail (λ s. s.word ≡ word_at words s.at) t rest all))
  where
    first : t.word ≡ word_at words t.at
    first = All-head (λ s. s.word ≡ word_at words s.at) t rest all

    by_test : (b : Bool) → (b ≡ true → t.at ≡ at) → (t.at ≡ at → b ≡ true) → Contains (t ∷ rest) s
        → (Contains rest s → s.at ≡ at → word_seen rest at ≡ Some (word_at words at)) → (if b then Some t.word else word_seen rest at) ≡ Some (word_at words at)
    by_test true same apart there later = ap Some (first ∙ ap (word_at words) (same refl))
    by_test false same apart (zero, below, it) later = cc (apart (ap (λ (s : Sighting). s.at) it ∙ is))
    by_test false same apart (suc k, below, it) later = later (k, omega (arith, below), it) is

-- each word is one, also where there is none
each_narrow : (words : List ℕ) → All (λ word. word < 2 ^ 64) words → (i : ℕ) → word_at words i < 2 ^ 64
each_narrow words narrow i = ⊎_elim
    (λ below. narrow i 0 below)
    (λ past. let none_there = get_or_past words i 0 past in omega (arith, none_there))
    (cases_lt i (length words))

module _ (words references : List ℕ) (reading : Reading) (narrow : All (λ word. word < 2 ^ 64) words) (listed : IsListed words (head_of words) references)
    (reads : reading ≡ reading_along words (head_of words) references) (adoptable : IsAdoptable words references reading) where
  abbrev its : Anatomy
  its = opened words references reading narrow listed reads adoptable

  abbrev sightings : List Sighting
  sightings = flat_map (seen_sample words) (filter (is_of_type words 3) references)

  -- a sighting is of one of three words of a sample
  of_sample : (s : Sighting) → Contains sightings s
      → (at i : ℕ) × Contains references at × (field_at words at 2 ≡ 3) × ((i ≡ 2) ⊎ (i ≡ 4) ⊎ (i ≡ 5)) × (record { at = at + i; word = field_at words at i } ≡ s)
  of_sample s there =
      let (k, at, here, mine) = among_rows (seen_sample words) (filter (is_of_type words 3) references) s there in
      let (among, passes) = filtered (is_of_type words 3) references at (contains_at (filter (is_of_type words 3) references) k at here) in
      let (i, one, is) = contains_mapped (λ (i : ℕ). record { at = at + i; word = field_at words at i }) (2 ∷ 4 ∷ 5 ∷ []) s mine in
      (at, i, among, eqb-true (field_at words at 2) 3 passes, of_three i one, is)
    where
      of_three : (i : ℕ) → Contains (2 ∷ 4 ∷ 5 ∷ []) i → (i ≡ 2) ⊎ (i ≡ 4) ⊎ (i ≡ 5)
      of_three i (zero, below, is) = inl (sym is)
      of_three i (suc zero, below, is) = inr (inl (sym is))
      of_three i (suc (suc zero), below, is) = inr (inr (sym is))
      of_three i (suc (suc (suc k)), below, is) = absurd (omega (arith, below))

  all_honest : All (λ (s : Sighting). s.word ≡ word_at words s.at) sightings
  all_honest = all_of (λ (s : Sighting). s.word ≡ word_at words s.at) sightings (λ s there.
      let (at, i, among, three, one, is) = of_sample s there in
      subst (λ (s : Sighting). s.word ≡ word_at words s.at) is refl)

  -- the three words of a sample were seen
  pub saw_sample : (k at : ℕ) → get_elem? references k ≡ some at → field_at words at 2 ≡ 3 → (cursors : ℕ)
      → SawSample (opener words references reading cursors).seen (field_at words at 4) (sample_value words at) at
  saw_sample k at here three cursors =
      let word = λ (j i : ℕ) (there : get_elem? (2 ∷ 4 ∷ 5 ∷ []) j ≡ some i).
      let (m, listed_at) = at_from (filter (is_of_type words 3) references) at
      (contains_filter (is_of_type words 3) references at (contains_at references k at here) (eq-eqb _ 3 three)) in
      honest words sightings (at + i) (record { at = at + i; word = field_at words at i }) all_honest
      (row_in (seen_sample words) (filter (is_of_type words 3) references) m at (record { at = at + i; word = field_at words at i }) listed_at
      (contains_at (seen_sample words at) j (record { at = at + i; word = field_at words at i })
      (at_map (λ (i : ℕ). record { at = at + i; word = field_at words at i }) (2 ∷ 4 ∷ 5 ∷ []) j i there))) refl in
      let right : IsLawfulSample (sample_at words at) = lawful_sample words references reading narrow listed reads adoptable k at here three in
      (word 0 2 refl ∙ ap Some three, word 1 4 refl, word 2 5 refl ∙ ap Some (sym (of_z-to_z w64 (field_at words at 5) (each_narrow words narrow (at + 5)))), right.valued)

  -- and are those of a block
  fixed : All (WasFixed its.pieces) sightings
  fixed = all_of (WasFixed its.pieces) sightings (λ s there.
      let (at, i, among, three, one, is) = of_sample s there in
      let stands = subst (Stands its.pieces at none) (sample_listed words references reading narrow listed reads adoptable at three)
      (listed_body words references reading narrow listed reads adoptable at among) in
      subst (WasFixed its.pieces) is (elim one [
        | inl two ↦ (at, 2, sample (sample_at words at), stands, ap (λ (i : ℕ). at + i) two, inl refl, sym three ∙ ap (field_at words at) (sym two))
        | inr (inl four) ↦ (at, 4, sample (sample_at words at), stands, ap (λ (i : ℕ). at + i) four, inr (inl refl), ap (field_at words at) (sym four))
        | inr (inr five) ↦ (at, 5, sample (sample_at words at), stands, ap (λ (i : ℕ). at + i) five, inr (inr (inl refl)), of_z-to_z w64 (field_at words at 5) (each_narrow words narrow (at + 5)) ∙ ap (field_at words at) (sym five))
      ]))

  -- what the opener has seen is the present, or an earlier state
  pub sees : (cursors : ℕ) (shared : List ℕ) → Sees its shared (opener words references reading cursors).seen
  sees cursors shared = record {
    free = inl (sym (are_cut words references reading narrow listed reads adoptable).ends);
    walked = ([], order_is words references reading narrow listed reads adoptable ∙ sym (append-nil references));
    tails = All-nil _;
    singles = All-nil _;
    counters = All-nil _;
    in_use = All-nil _;
    met = All-nil _;
    fixed = fixed;
    shared = All-nil _;
  }

  -- ---- which samples are read

  pub samples_are : lawful_samples words (head_of words) references ≡ filter (is_of_type words 3) references
  samples_are =
      mapped_filter (λ (placed : List ℕ × ℕ). placed.1) (is_sample words (head_of words)) (is_of_type words 3) (with_earlier references)
      (λ k placed there.
      let (before, here) = earlier_at references k placed there in
      kept_by (is_of_type words 3 placed.1) (is_bad_sample words (head_of words) placed.0 placed.1)
      (λ three. ap (λ (earlier : List ℕ). is_bad_sample words (head_of words) earlier placed.1) before
      ∙ no_sample_fault words references reading listed reads adoptable k placed.1 here (eqb-true (field_at words placed.1 2) 3 three)))
      ∙ ap (filter (is_of_type words 3)) (without_earlier references)

  module _ (at : ℕ) where
    abbrev pub samples : List ℕ
    samples = first_samples words (lawful_samples words (head_of words) references) at

    pub ascending : IsStrictlySortedBy (by_value words) samples
    ascending = first_samples-ascend words (lawful_samples words (head_of words) references) at

    of_value : (value : ℤ) → find (λ s. int_eq value (sample_value words s)) samples ≡ find (is_sample_of words at value) references
    of_value value =
        first_samples-first words (lawful_samples words (head_of words) references) at value
        ∙ (ap (λ (list : List ℕ). find (λ s. int_eq value (sample_value words s)) (filter (λ s. field_at words s 4 == at) list)) samples_are
        ∙ (find_both (λ s. int_eq value (sample_value words s)) (λ s. field_at words s 4 == at) (filter (is_of_type words 3) references)
        ∙ find_both (λ s. (field_at words s 4 == at) && int_eq value (sample_value words s)) (is_of_type words 3) references))

    -- what is listed of a value is its first sample, and each first sample is listed
    pub listed_first : (i x : ℕ) → get_elem? samples i ≡ some x → IsSample words references at (sample_value words x) x
    listed_first i x there =
        let value : ℤ = sample_value words x in
        found_sample words references at value x
        (sym (of_value value)
        ∙ find_one (λ s. int_eq value (sample_value words s)) samples i x there ((Decides-int_eq value value).1 refl)
        (λ j y here same. one_of_value words samples j i y x ascending here there (sym ((Decides-int_eq value (sample_value words y)).0 same))))

    pub first_listed : (value : ℤ) (place : ℕ) → IsSample words references at value place → (i : ℕ) × (get_elem? samples i ≡ some place)
    first_listed value place first =
        let (i, there, same) = found_at (λ s. int_eq value (sample_value words s)) samples place (of_value value ∙ sample_found words references at value place first) in
        (i, there)

  -- ---- the keys of a histogram

  pub key_there : (at : ℕ) → Contains (read words references reading narrow listed reads adoptable) at → (count : ℤ × ℕ)
      → Contains (read_as words references reading narrow listed reads adoptable at).counts count → HasKey its.records (name_of words at) count.0
  key_there at there count = by_kind (is_sparse words at) refl
    where
      by_kind : (b : Bool) → is_sparse words at ≡ b
          → Contains (if b then sample_counts words (samples at) else bucket_counts (head_of words).version words at) count → HasKey its.records (name_of words at) count.0
      by_kind true is among =
          let (x, here, same) = contains_mapped (λ (s : ℕ). (sample_value words s, sample_count words s)) (samples at) count among in
          let (i, place) = at_from (samples at) x here in (
            spec_of words at,
            at,
            read_first words references reading narrow listed reads adoptable at there,
            inr (
              sparse_named words at is,
              x,
              subst (λ (key : ℤ). IsFirstOf its.records at key x) (ap (λ (count : ℤ × ℕ). count.0) same)
                  (first_value words references reading narrow listed reads adoptable at (sample_value words x) x (listed_first at i x place)),
            ),
          )
      by_kind false is among =
          let (i, here, same) = contains_mapped (λ (i : ℕ). (pos (slice_index (boundaries_of (spec_of words at)) i), total_of (head_of words).version words at i))
          (range_with_len 0 (record_buckets words at)) count among in
          let (j, place) = at_from (range_with_len 0 (record_buckets words at)) i here in
          let (spot, below) = range_at 0 (record_buckets words at) j i place in (
            spec_of words at,
            at,
            read_first words references reading narrow listed reads adoptable at there,
            inl (i, omega (arith, spot, below), sym (ap (λ (count : ℤ × ℕ). count.0) same)),
          )
