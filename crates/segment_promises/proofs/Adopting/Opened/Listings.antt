-- What is read of a histogram of an image is what its blocks hold: of each key the units and the mark.
use Rattle.segment_invariant.proofs.Prelude.Std.{◌≡◌, ◌≢◌, ◌⊎◌, inl, inr, Bool, true, false, ℕ, ◌+◌, ◌^◌, ◌<◌, ℤ, List, All, Contains, refl, sym, ap, ◌∙◌, arith, length, Option, Some, None, ◌==◌, if◌then◌else◌, slice_index, int_eq, range_with_len, eqb-true, eqb-false, eq-eqb, Decides-int_eq, All-contains, split_among, ◌≤◌, map, ⊎_elim, at_from}
use Rattle.segment_invariant.proofs.Prelude.Machine.{field_at, head_of, Spec, SingleWord, buckets_of, spec_fault, spec_fields, packed_bucket, units_packed, is_packed_bucket, is_sparse, name_of, spec_of, record_buckets, record_single, total_of, mark_of, sample_value, IsListed, Reading, reading_along, units_in, units_listed}
use Rattle.segment_invariant.proofs.Prelude.Invariant.{Record, Counts, Sample, Body, Anatomy, key_of_bucket, at_bucket, keyed, all_held, units_held, marks_held}
use Rattle.bucket_ranges.specs.declared.spec.Spec.TheVariants as spec
use Rattle.bucket_ranges.specs.Reading.{sample_count, sample_mark}
use Rattle.segment_invariant.specs.Consistent.{IsSample, IsSampleOf}
use Rattle.list_lemmas.proofs.Firsts.{first_or_none}
use Rattle.segment_invariant.proofs.Consistency.Books.{IsBook, units_book, marks_book, keyed_one, range_at, range_there}
use Rattle.segment_invariant.proofs.Consistency.Keys.{one_key, packed_within, packed_units, packed_mark}
use Rattle.segment_invariant.proofs.Consistency.Marks.{packed_is}
use Rattle.segment_invariant.proofs.Lists.FewTerms.{sum_none}
use Rattle.segment_promises.specs.Adoption.{IsAdoptable}
use Rattle.segment_promises.specs.Reads.{units_read, mark_read}
use Rattle.std.specs.List.{zip}
use Rattle.bucket_ranges.specs.Reading.{sample_counts, sample_marks, bucket_counts, bucket_marks}
use Rattle.segment_promises.proofs.Readings.Keys.{under_or_not, units_are_held, marks_are_held}
use Rattle.segment_promises.proofs.Adopting.Opened.Names.{read_as}
use Rattle.segment_promises.proofs.Adopting.Opened.Values.{lawful_sample}
use Rattle.segment_promises.proofs.Adopting.Opened.Lawful.{marks_small}
use Rattle.segment_promises.proofs.Readings.Keys.{IsUnder, IsListing, int_test}
use Rattle.segment_promises.proofs.Readings.Sparse.{one_of_value}
use Rattle.segment_promises.proofs.Adopting.Bodies.{record_at, counts_at}
use Rattle.segment_promises.proofs.Adopting.Opened.Anatomy.{opened}
use Rattle.segment_promises.proofs.Adopting.Opened.Held.{bucket_held, value_held, no_value_held}
use Rattle.segment_promises.proofs.Adopting.Opened.Keys.{samples, ascending, listed_first, first_listed}
use Rattle.segment_promises.proofs.Adopting.Opened.Lawful.{specified, is_lawful, are_counts, unit_word, mark_word, long_units, long_marks}
use Rattle.segment_promises.proofs.Adopting.Opened.Names.{read, read_listed}
use Rattle.segment_promises.proofs.Adopting.Opened.Values.{sparse_named}

-- a packed number has no units under a key that no bucket has
no_key_packed : (kind : Spec) (k : ℤ) (packed : Option ℕ) (n : ℕ) → ((b : ℕ) → packed ≡ Some b → key_of_bucket kind b ≢ k) → at_bucket kind k packed n ≡ 0
no_key_packed kind k None n absent = refl
no_key_packed kind k (Some b) n absent = int_test (key_of_bucket kind b) k n (absent b refl)

no_key_counted : (kind : Spec) (k : ℤ) (numbers : List ℕ) → ((b : ℕ) → b < length numbers → key_of_bucket kind b ≢ k) → keyed kind k numbers ≡ 0
no_key_counted kind k numbers absent =
    sum_none (λ i. if int_eq (key_of_bucket kind i) k then slice_index numbers i else 0) (range_with_len 0 (length numbers))
    (λ j y there _. let (same, below) = range_at 0 (length numbers) j y there in int_test (key_of_bucket kind y) k (slice_index numbers y) (absent y (omega (arith, same, below))))

-- a record is a sample of a value of a histogram or not
sample_or_not : (words : List ℕ) (of : ℕ) (value : ℤ) (at : ℕ) → IsSampleOf words of value at ⊎ (¬ (IsSampleOf words of value at))
sample_or_not words of value at =
    by_tests (field_at words at 2 == 3) (field_at words at 4 == of) (int_eq (sample_value words at) value) (eqb-true (field_at words at 2) 3) (eqb-false (field_at words at 2) 3)
    (eqb-true (field_at words at 4) of) (eqb-false (field_at words at 4) of) (Decides-int_eq (sample_value words at) value)
  where
    by_tests : (three mine same : Bool) → (three ≡ true → field_at words at 2 ≡ 3) → (three ≡ false → field_at words at 2 ≢ 3)
        → (mine ≡ true → field_at words at 4 ≡ of) → (mine ≡ false → field_at words at 4 ≢ of)
        → (same ≡ true → sample_value words at ≡ value) × (sample_value words at ≡ value → same ≡ true)
        → IsSampleOf words of value at ⊎ (¬ (IsSampleOf words of value at))
    by_tests true true true is un its other is_value = inl (is refl, its refl, is_value.0 refl)
    by_tests true true false is un its other is_value = inr (λ s. cc (is_value.1 s.2))
    by_tests true false same is un its other is_value = inr (λ s. other refl s.1)
    by_tests false mine same is un its other is_value = inr (λ s. un refl s.0)

module _ (words references : List ℕ) (reading : Reading) (narrow : All (λ word. word < 2 ^ 64) words) (listed : IsListed words (head_of words) references)
    (reads : reading ≡ reading_along words (head_of words) references) (adoptable : IsAdoptable words references reading)
    (at : ℕ) (first : Contains (read words references reading narrow listed reads adoptable) at) where
  abbrev its : Anatomy
  its = opened words references reading narrow listed reads adoptable

  abbrev name : List ℕ
  name = name_of words at

  abbrev kind : Spec
  kind = spec_of words at

  abbrev n : ℕ
  n = record_buckets words at

  abbrev form : Option SingleWord
  form = record_single 2 words at

  there : Contains references at
  there = (read_listed words references reading narrow listed reads adoptable at first).0

  one : field_at words at 2 ≡ 1
  one = (read_listed words references reading narrow listed reads adoptable at first).1

  abbrev pub units_of_key : ℤ → ℕ
  units_of_key key = all_held (units_held 2 name key) its.pieces

  abbrev pub marks_of_key : ℤ → ℕ
  marks_of_key key = all_held (marks_held 2 name key) its.pieces

  -- the key of a bucket
  abbrev key_at : ℕ → ℤ
  key_at i = key_of_bucket kind i

  -- ---- with buckets

  module _ (buckets : is_sparse words at ≡ false) where
    bucketed : kind ≢ spec.Sparse
    bucketed sparse = both (is_sparse words at) buckets
        (eq-eqb (field_at words at 4) 4 (ap (λ (fields : List ℕ). slice_index fields 0) (sym (specified words references reading narrow listed reads adoptable at there one) ∙ ap spec_fields sparse)))
      where
        both : (b : Bool) → b ≡ false → b ≡ true → ⊥
        both true e f = cc e
        both false e f = cc f

    lawful : spec_fault kind ≡ None
    lawful = (is_lawful words references reading narrow listed reads adoptable at there one).lawful

    within : (b : ℕ) → packed_bucket form ≡ Some b → b < buckets_of kind
    within b is = packed_within 2 n (field_at words at 9) b is

    total_held : (i : ℕ) → i < n → total_of 2 words at i ≡ units_of_key (key_at i)
    total_held i below =
        by_test (field_at words at 8 == 0) (eqb-false (field_at words at 8) 0)
        (bucket_held words references reading narrow listed reads adoptable name (key_at i) _ _ _ _ (units_book 2 name (key_at i) (inr refl)) at first refl bucketed)
      where
        packs : at_bucket kind (key_at i) (packed_bucket form) (units_in form) ≡ units_packed form i
        packs = packed_units kind lawful bucketed i below form within

        by_test : (b : Bool) → (b ≡ false → field_at words at 8 ≢ 0)
            → units_of_key (key_at i) ≡ at_bucket kind (key_at i) (packed_bucket form) (units_in form)
            + (if b then 0 else keyed kind (key_at i) (counts_at words at (field_at words at 8)).units)
            → (if b then 0 else field_at words (field_at words at 8) (4 + i)) + units_packed form i ≡ units_of_key (key_at i)
        by_test true some_there is = omega (arith, is, packs)
        by_test false some_there is =
            let counted = keyed_one kind (counts_at words at (field_at words at 8)).units i lawful bucketed
            (long_units words references reading narrow listed reads adoptable at there one (some_there refl)) below in
            let word = unit_word words references reading narrow listed reads adoptable at there one (some_there refl) i below in
            omega (arith, is, packs, counted, word)

    mark_held : (i : ℕ) → i < n → mark_of 2 words at i ≡ marks_of_key (key_at i)
    mark_held i below =
        by_test (field_at words at 8 == 0) (eqb-false (field_at words at 8) 0) (is_packed_bucket form i) (packed_is form i)
        (packed_mark kind lawful bucketed i below form (field_at words at 10) within)
        (bucket_held words references reading narrow listed reads adoptable name (key_at i) _ _ _ _ (marks_book 2 name (key_at i)) at first refl bucketed)
      where
        by_test : (b : Bool) → (b ≡ false → field_at words at 8 ≢ 0) → (t : Bool) → (t ≡ true → packed_bucket form ≡ Some i)
            → at_bucket kind (key_at i) (packed_bucket form) (field_at words at 10) ≡ (if t then field_at words at 10 else 0)
            → marks_of_key (key_at i) ≡ at_bucket kind (key_at i) (packed_bucket form) (field_at words at 10)
            + (if b then 0 else keyed kind (key_at i) (counts_at words at (field_at words at 8)).marks)
            → (if t then field_at words at 10 else (if b then 0 else field_at words (field_at words at 8) (4 + n + i))) ≡ marks_of_key (key_at i)
        by_test true some_there true packs its_mark is = omega (arith, is, its_mark)
        by_test true some_there false packs its_mark is = omega (arith, is, its_mark)
        by_test false some_there t packs its_mark is =
            let counted = keyed_one kind (counts_at words at (field_at words at 8)).marks i lawful bucketed
            (long_marks words references reading narrow listed reads adoptable at there one (some_there refl)) below in
            by_packed t packs its_mark counted
          where
            next : 4 + (n + i) ≡ 4 + n + i
            next = omega arith

            by_packed : (t : Bool) → (t ≡ true → packed_bucket form ≡ Some i)
                → at_bucket kind (key_at i) (packed_bucket form) (field_at words at 10) ≡ (if t then field_at words at 10 else 0)
                → keyed kind (key_at i) (counts_at words at (field_at words at 8)).marks ≡ slice_index (counts_at words at (field_at words at 8)).marks i
                → (if t then field_at words at 10 else field_at words (field_at words at 8) (4 + n + i)) ≡ marks_of_key (key_at i)
            by_packed true packs its_mark counted =
                let none_there = (are_counts words references reading narrow listed reads adoptable at there one (some_there refl)).packed i (packs refl) in
                omega (arith, is, its_mark, counted, none_there)
            by_packed false packs its_mark counted =
                let word = mark_word words references reading narrow listed reads adoptable at there one (some_there refl) i below in
                let spot = ap (field_at words (field_at words at 8)) next in
                omega (arith, is, its_mark, counted, word, spot)

    -- of a key that no bucket has nothing is held
    no_key : (holds : Body → ℕ) (packed : Record → ℕ) (numbers : Counts → List ℕ) (valued : Sample → ℕ) (k : ℤ) → IsBook 2 name k holds packed numbers valued
        → ((some_there : field_at words at 8 ≢ 0) → length (numbers (counts_at words at (field_at words at 8))) ≡ n)
        → ¬ (IsUnder key_at (range_with_len 0 n) k) → all_held holds its.pieces ≡ 0
    no_key holds packed numbers valued k book long absent =
        by_test (field_at words at 8 == 0) (eqb-false (field_at words at 8) 0)
        (bucket_held words references reading narrow listed reads adoptable name k holds packed numbers valued book at first refl bucketed)
      where
        other_key : (b : ℕ) → b < n → key_at b ≢ k
        other_key b below same = absent (b, 0 + b, range_there 0 n b below, (let e : 0 + b ≡ b = omega arith in ap key_at e) ∙ same)

        none_packed : at_bucket kind k (packed_bucket form) (packed (record_at words at)) ≡ 0
        none_packed = no_key_packed kind k (packed_bucket form) (packed (record_at words at)) (λ b is. other_key b (within b is))

        by_test : (b : Bool) → (b ≡ false → field_at words at 8 ≢ 0)
            → all_held holds its.pieces ≡ at_bucket kind k (packed_bucket form) (packed (record_at words at))
            + (if b then 0 else keyed kind k (numbers (counts_at words at (field_at words at 8)))) → all_held holds its.pieces ≡ 0
        by_test true some_there is = omega (arith, is, none_packed)
        by_test false some_there is =
            let many = long (some_there refl) in
            let counted = no_key_counted kind k (numbers (counts_at words at (field_at words at 8))) (λ b below. other_key b (omega (arith, below, many))) in
            omega (arith, is, none_packed, counted)

    bucket_listing : (number : ℕ → ℕ) (held : ℤ → ℕ) → ((i : ℕ) → i < n → number i ≡ held (key_at i)) → ((k : ℤ) → ¬ (IsUnder key_at (range_with_len 0 n) k) → held k ≡ 0)
        → IsListing key_at number held (range_with_len 0 n)
    bucket_listing number held each absent = record {
      apart = λ i j x y here also same.
          let (low, inside) = range_at 0 n i x here in
          let (high, below) = range_at 0 n j y also in
          let equal = one_key kind x y lawful bucketed (omega (arith, low, inside)) (omega (arith, high, below)) same in
          omega (arith, low, high, equal);
      holds = λ i x here. let (low, inside) = range_at 0 n i x here in each x (omega (arith, low, inside));
      others = absent;
    }

    totals_listed : IsListing key_at (total_of 2 words at) units_of_key (range_with_len 0 n)
    totals_listed = bucket_listing (total_of 2 words at) units_of_key total_held
        (λ k absent. no_key (units_held 2 name k) _ _ _ k (units_book 2 name k (inr refl)) (long_units words references reading narrow listed reads adoptable at there one) absent)

    marks_listed : IsListing key_at (mark_of 2 words at) marks_of_key (range_with_len 0 n)
    marks_listed = bucket_listing (mark_of 2 words at) marks_of_key mark_held
        (λ k absent. no_key (marks_held 2 name k) _ _ _ k (marks_book 2 name k) (long_marks words references reading narrow listed reads adoptable at there one) absent)

  -- ---- sparse

  module _ (is : is_sparse words at ≡ true) where
    sparse : kind ≡ spec.Sparse
    sparse = sparse_named words at is

    abbrev its_samples : List ℕ
    its_samples = samples words references reading narrow listed reads adoptable at

    no_sample : (k : ℤ) → ¬ (IsUnder (sample_value words) its_samples k) → (x : ℕ) → Contains references x → ¬ (IsSampleOf words at k x)
    no_sample k absent x among sampled = by_first (first_or_none (IsSampleOf words at k) (sample_or_not words at k) references)
      where
        by_first : ((y : ℕ) × IsSample words references at k y) ⊎ All (λ x. ¬ (IsSampleOf words at k x)) references → ⊥
        by_first (inl (y, its)) = let (i, here) = first_listed words references reading narrow listed reads adoptable at k y its in absent (i, y, here, its.4.2)
        by_first (inr nobody) = All-contains (λ x. ¬ (IsSampleOf words at k x)) references x nobody among sampled

    value_listing : (number : ℕ → ℕ) (held : ℤ → ℕ) → ((x : ℕ) → IsSample words references at (sample_value words x) x → number x ≡ held (sample_value words x))
        → ((k : ℤ) → ¬ (IsUnder (sample_value words) its_samples k) → held k ≡ 0) → IsListing (sample_value words) number held its_samples
    value_listing number held each absent = record {
      apart = λ i j x y here also same. one_of_value words its_samples i j x y (ascending words references reading narrow listed reads adoptable at) here also same;
      holds = λ i x here. each x (listed_first words references reading narrow listed reads adoptable at i x here);
      others = absent;
    }

    counts_listed : IsListing (sample_value words) (sample_count words) units_of_key its_samples
    counts_listed = value_listing (sample_count words) units_of_key
        (λ x its_first. sym (value_held words references reading narrow listed reads adoptable name (sample_value words x) _ _ _ _
        (units_book 2 name (sample_value words x) (inr refl)) at first refl sparse x its_first))
        (λ k absent. no_value_held words references reading narrow listed reads adoptable name k _ _ _ _ (units_book 2 name k (inr refl)) at first refl sparse (no_sample k absent))

    sample_marks_listed : IsListing (sample_value words) (sample_mark words) marks_of_key its_samples
    sample_marks_listed = value_listing (sample_mark words) marks_of_key
        (λ x its_first. sym (value_held words references reading narrow listed reads adoptable name (sample_value words x) _ _ _ _
        (marks_book 2 name (sample_value words x)) at first refl sparse x its_first))
        (λ k absent. no_value_held words references reading narrow listed reads adoptable name k _ _ _ _ (marks_book 2 name k) at first refl sparse (no_sample k absent))

  -- ---- so what is read is what is held

  abbrev all_samples : List ℕ
  all_samples = samples words references reading narrow listed reads adoptable at

  pub units_are : (key : ℤ) → units_read (read_as words references reading narrow listed reads adoptable at) key ≡ units_of_key key
  units_are key = by_kind (is_sparse words at) refl
    where
      by_kind : (b : Bool) → is_sparse words at ≡ b
          → units_listed (if b then sample_counts words all_samples else bucket_counts (head_of words).version words at) key ≡ units_of_key key
      by_kind true is = units_are_held (sample_value words) (sample_count words) units_of_key all_samples (counts_listed is) key
      by_kind false is =
          ap (λ (v : ℕ). units_listed (bucket_counts v words at) key) adoptable.version
          ∙ units_are_held key_at (total_of 2 words at) units_of_key (range_with_len 0 n) (totals_listed is) key

  pub marks_are : (key : ℤ) → mark_read (read_as words references reading narrow listed reads adoptable at) key ≡ marks_of_key key
  marks_are key = by_kind (is_sparse words at) refl
    where
      by_kind : (b : Bool) → is_sparse words at ≡ b
          → units_listed (zip (map (λ (count : ℤ × ℕ). count.0) (if b then sample_counts words all_samples else bucket_counts (head_of words).version words at))
          (if b then sample_marks words all_samples else bucket_marks (head_of words).version words at)) key ≡ marks_of_key key
      by_kind true is = marks_are_held (sample_value words) (sample_mark words) marks_of_key all_samples (sample_marks_listed is) (sample_count words) key
      by_kind false is =
          ap (λ (v : ℕ). units_listed (zip (map (λ (count : ℤ × ℕ). count.0) (bucket_counts v words at)) (bucket_marks v words at)) key) adoptable.version
          ∙ marks_are_held key_at (mark_of 2 words at) marks_of_key (range_with_len 0 n) (marks_listed is) (total_of 2 words at) key

  -- and no mark is above the units
  pub marks_below : (key : ℤ) → marks_of_key key ≤ units_of_key key
  marks_below key = by_kind (is_sparse words at) refl
    where
      by_kind : (b : Bool) → is_sparse words at ≡ b → marks_of_key key ≤ units_of_key key
      by_kind true is = ⊎_elim
          (λ (i, x, here, same).
          let its_first = listed_first words references reading narrow listed reads adoptable at i x here in
          let among : Contains references x = split_among its_first.0 its_first.1 its_first.2 in
          let (k, spot) = at_from references x among in
          let small = (lawful_sample words references reading narrow listed reads adoptable k x spot its_first.4.0).taken in
          let units = (counts_listed is).holds i x here ∙ ap units_of_key same in
          let mark = (sample_marks_listed is).holds i x here ∙ ap marks_of_key same in
          omega (arith, small, units, mark))
          (λ absent. let none_there = (sample_marks_listed is).others key absent in omega (arith, none_there))
          (under_or_not (sample_value words) all_samples key)
      by_kind false is = ⊎_elim
          (λ (i, x, here, same).
          let (low, inside) = range_at 0 n i x here in
          let small = marks_small words references reading narrow listed reads adoptable at there one x (omega (arith, low, inside)) in
          let units = (totals_listed is).holds i x here ∙ ap units_of_key same in
          let mark = (marks_listed is).holds i x here ∙ ap marks_of_key same in
          omega (arith, small, units, mark))
          (λ absent. let none_there = (marks_listed is).others key absent in omega (arith, none_there))
          (under_or_not key_at (range_with_len 0 n) key)
