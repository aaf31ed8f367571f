-- A histogram's record on the list of an image is valid, whether it is read or passed over: its words, its single word, its marks, and the
-- counts block that it names.
use Rattle.segment_invariant.proofs.Prelude.Std.{◌≡◌, ◌≢◌, Bool, true, false, ℕ, ◌+◌, ◌-◌, ◌*◌, ◌/◌, ◌^◌, ◌<◌, ◌≤◌, List, [], ◌∷◌, ◌++◌, length, take, drop, All, Contains, refl, sym, ap, ◌∙◌, subst, arith, Option, Some, None, length-append, get_or-drop, ◌%◌, not, ◌==◌, ◌&&◌, ◌||◌, nat_lt, if◌then◌else◌, slice_index, unwrap_or, range_with_len, eqb-true, eq-eqb, ne_eqb, ltb-false, le-ltb, leb-true, some, contains_at, contains_map}
use Rattle.segment_invariant.proofs.Prelude.Machine.{field_at, head_of, SingleWord, Empty, FrozenEmpty, Frozen, spec_fields, spec_ranges, single_of, packed_bucket, is_packed_bucket, units_packed, is_packed_word, name_of, name_words, spec_of, is_sparse, record_single, record_buckets, record_fault, total_of, mark_of, IsListed, Reading, reading_along, is_off, units_in, AreNameWords, word_at}
use Rattle.segment_invariant.proofs.Prelude.Invariant.{Record, Counts, histogram, counts, words_of, IsLawfulRecord, IsCountsOf}
use Rattle.std.proofs.Common.{get_or-take}
use Rattle.std.specs.Prelude.{is_none, option_map}
use Rattle.std.specs.List.{list_any, slice_range}
use Rattle.std.proofs.lemmas.Bool.{or_parts, not-false, both_ways}
use Rattle.std.proofs.lemmas.List.Folds.{list_any-from_Any}
use Rattle.bucket_ranges.specs.Single.{is_disabled, frozen_of, packed_of}
use Rattle.bucket_ranges.specs.Reading.{is_bad_record_sum, inner_ranges, name_length, is_bad_single, is_bad_mark, is_large_mark_at, has_large, totals_of}
use Rattle.bucket_ranges.proofs.Named.{named-lawful}
use Rattle.segment_invariant.specs.Invariant.{total_in, mark_in}
use Rattle.segment_invariant.proofs.Consistency.Keys.{packed_within}
use Rattle.segment_invariant.proofs.Consistency.Marks.{packed_all}
use Rattle.segment_invariant.proofs.Consistency.Books.{range_there}
use Rattle.segment_invariant.specs.Consistent.{counts_word}
use Rattle.std.proofs.lemmas.List.{get_or_default}
use Rattle.segment_promises.specs.Adoption.{IsAdoptable}
use Rattle.segment_promises.proofs.Adopting.Slices.{run_long}
use Rattle.segment_promises.proofs.Adopting.Bodies.{record_at, counts_at, size_at, other_at, fields_named, name_long, record_words_are, other_words, counts_words}
use Rattle.segment_promises.proofs.Adopting.Images.{no_record_fault, block_page, listed_block, free_bounds}
use Rattle.segment_promises.proofs.Adopting.Opened.Records.{kind_found, name_found, spec_found, sparse_found, counts_found, single_found, mark_found, named_found, sums_found}

-- ---- forms

-- a form without a fault is there, and is off only if there are counts
form_there : (form : Option SingleWord) (reference : ℕ) → is_bad_single form reference ≡ false → (form ≢ None) × (is_disabled form ≡ true → reference ≢ 0)
form_there (Some single) reference good = ((λ e. cc e), λ off none_there. both (is_disabled (Some single)) (reference == 0) off (eq-eqb reference 0 none_there) good)
  where
    both : (a b : Bool) → a ≡ true → b ≡ true → (a && b) ≡ false → ⊥
    both true true p q e = cc e
    both true false p q e = cc q
    both false b p q e = cc p
form_there None reference good = cc good

-- in version 2 a word that is off has a form that is off, if it has one
off_disabled : (n word : ℕ) → single_of 2 n word ≢ None → is_off word ≡ true → is_disabled (single_of 2 n word) ≡ true
off_disabled n word formed off =
    by_tests (word == 0) (nat_lt word (2 ^ 63)) (eqb-true word 0)
    (le-ltb word (2 ^ 63) (leb-true (2 ^ 63) word off)) formed
  where
    frozen : (zero_there packed : Bool) (form : SingleWord) → is_disabled (Some form) ≡ true
        → (if zero_there then Some FrozenEmpty else (if packed then Some form else None)) ≢ None
        → is_disabled (if zero_there then Some FrozenEmpty else (if packed then Some form else None)) ≡ true
    frozen true packed form disabled there = refl
    frozen false true form disabled there = disabled
    frozen false false form disabled there = absurd (there refl)

    by_tests : (empty low : Bool) → (empty ≡ true → word ≡ 0) → low ≡ false
        → (if empty then Some Empty else (if low then packed_of n word else frozen_of n (word - 2 ^ 63))) ≢ None
        → is_disabled (if empty then Some Empty else (if low then packed_of n word else frozen_of n (word - 2 ^ 63))) ≡ true
    by_tests true low is not_low there = let e = is refl in let from = leb-true (2 ^ 63) word off in absurd (omega (arith, e, from))
    by_tests false true is not_low there = cc not_low
    by_tests false false is not_low there = frozen (word - 2 ^ 63 == 0) (is_packed_word n (word - 2 ^ 63)) (Frozen ((word - 2 ^ 63) / 2 ^ 32) ((word - 2 ^ 63) % 2 ^ 32)) refl there

-- ---- marks

-- a list has no element that passes a test of any
none_passes : {X : Type 0} (p : X → Bool) (l : List X) (x : X) → list_any p l ≡ false → Contains l x → p x ≡ false
none_passes p l x none_there (k, below, is) = by_test (p x) refl
  where
    by_test : (b : Bool) → p x ≡ b → p x ≡ false
    by_test true passes = absurd (both_ways (list_any p l) none_there (list_any-from_Any p l (k, x, below, is, passes)))
    by_test false fails = fails

-- in version 2 a mark without a fault is at most its total
mark_small : (mark total : ℕ) (packed beyond : Bool) → (nat_lt total mark && (not (packed && false) || beyond)) ≡ false → mark ≤ total
mark_small mark total packed beyond good = by_test (nat_lt total mark) (ltb-false total mark) packed good
  where
    by_test : (b : Bool) → (b ≡ false → mark ≤ total) → (packed : Bool) → (b && (not (packed && false) || beyond)) ≡ false → mark ≤ total
    by_test true small true e = cc e
    by_test true small false e = cc e
    by_test false small packed e = small refl

-- ---- zeros

all_zero : (l : List ℕ) → ((i : ℕ) → i < length l → slice_index l i ≡ 0) → All (λ n. n ≡ 0) l
all_zero l zeros i d below = sym (get_or_default l i 0 d below) ∙ zeros i below

-- ---- a record of an image

module _ (words references : List ℕ) (reading : Reading) (narrow : All (λ word. word < 2 ^ 64) words) (listed : IsListed words (head_of words) references)
    (reads : reading ≡ reading_along words (head_of words) references) (adoptable : IsAdoptable words references reading)
    (at : ℕ) (there : Contains references at) (one : field_at words at 2 ≡ 1) where
  abbrev r : Record
  r = record_at words at

  abbrev n : ℕ
  n = record_buckets words at

  abbrev form : Option SingleWord
  form = record_single 2 words at

  none_bad : record_fault words (head_of words) at ≡ None
  none_bad = no_record_fault words references reading listed reads adoptable at there one

  its_block : (5 ≤ size_at words at) × (at + size_at words at ≤ length words) × (field_at words at 1 ≡ 0xC8799269)
  its_block =
      let (from, least, within, paged, cookie) = block_page words references reading listed reads adoptable at (listed_block words references reading listed reads adoptable at there) in
      let bound = (free_bounds words references reading listed reads adoptable).1 in
      (least, omega (arith, within, bound), cookie)

  pub specified : (spec_fields (spec_of words at) ≡ field_at words at 4 ∷ field_at words at 5 ∷ field_at words at 6 ∷ field_at words at 7 ∷ [])
  specified =
      (fields_named words (field_at words at 4) (field_at words at 5) (field_at words at 6) (field_at words at 7) (inner_ranges words at)
      (kind_found words (head_of words) at none_bad).1 (spec_found words (head_of words) at none_bad).1).0

  its_length : length (name_of words at) ≡ name_length words at
  its_length =
      let fits = (name_found words (head_of words) at none_bad).0 in
      let within = its_block.1 in
      name_long words at (omega (arith, fits, within))

  lettered : AreNameWords (name_of words at) (take (name_words (name_length words at)) (drop (at + 15) words))
  lettered = subst (AreNameWords (name_of words at)) same (adoptable.undamaged.padded at there one)
    where
      span : at + 15 + name_words (name_length words at) - (at + 15) ≡ name_words (name_length words at)
      span = omega arith

      same : slice_range words (at + 15) (at + 15 + name_words (length (name_of words at))) ≡ take (name_words (name_length words at)) (drop (at + 15) words)
      same = ap (λ (k : ℕ). slice_range words (at + 15) (at + 15 + name_words k)) its_length ∙ ap (λ (k : ℕ). take k (drop (at + 15) words)) span

  good_single : (form ≢ None) × (is_disabled form ≡ true → field_at words at 8 ≢ 0)
  good_single = form_there form (field_at words at 8)
      (subst (λ (v : ℕ). is_bad_single (record_single v words at) (field_at words at 8) ≡ false) adoptable.version (single_found words (head_of words) at none_bad))

  good_marks : is_bad_mark 2 words at ≡ false
  good_marks = subst (λ (v : ℕ). is_bad_mark v words at ≡ false) adoptable.version (mark_found words (head_of words) at none_bad)

  pub unpacked : packed_bucket form ≡ None → field_at words at 10 ≡ 0
  unpacked empty = eqb-true (field_at words at 10) 0 (by_none (is_none (packed_bucket form)) (ap is_none empty) (or_parts _ _ good_marks).0)
    where
      by_none : (b : Bool) → b ≡ true → (b && not (field_at words at 10 == 0)) ≡ false → (field_at words at 10 == 0) ≡ true
      by_none true is good = not-false _ good
      by_none false is good = cc is

  -- each mark is at most its total, and each total is at most what a segment may count
  pub marks_small : (i : ℕ) → i < n → mark_of 2 words at i ≤ total_of 2 words at i
  marks_small i below =
      mark_small (mark_of 2 words at i) (total_of 2 words at i) (is_packed_bucket form i) (nat_lt 65535 (mark_of 2 words at i))
      (none_passes (is_large_mark_at 2 words (field_at words at 8) n form (field_at words at 10)) (range_with_len 0 n) i (or_parts _ _ good_marks).1
      (contains_at (range_with_len 0 n) i i (range_there 0 n i below ∙ ap some from_none)))
    where
      from_none : 0 + i ≡ i
      from_none = omega arith

  whole_long : size_at words at ≡ 15 + (length r.letters + (length (spec_ranges r.spec) + length r.rest))
  whole_long =
      let (fits, named, paged) = spec_found words (head_of words) at none_bad in
      let (least, within, cookie) = its_block in
      let holds = ap length (record_words_are words at fits within cookie one (kind_found words (head_of words) at none_bad).1 named) in
      let long = run_long words at (size_at words at) within in
      let first = length-append r.letters (spec_ranges r.spec) in
      let all = length-append (r.letters ++ spec_ranges r.spec) r.rest in
      omega (arith, holds, long, first, all)

  -- its words are those of a block that is taken word by word
  pub as_other : words_of (histogram r) ≡ words_of (other_at words at)
  as_other =
      let (fits, named, paged) = spec_found words (head_of words) at none_bad in
      let (least, within, cookie) = its_block in
      record_words_are words at fits within cookie one (kind_found words (head_of words) at none_bad).1 named ∙ sym (other_words words at (omega (arith, least)) within cookie)

  below_words : (i : ℕ) → i < 16 → field_at words at i < 2 ^ 64
  below_words i few =
      let least = (kind_found words (head_of words) at none_bad).0 in
      let within = its_block.1 in
      narrow (at + i) 0 (omega (arith, few, least, within))

  pub is_lawful : IsLawfulRecord 2 (head_of words).shape.page r
  is_lawful = record {
    sized = whole_long;
    least = (kind_found words (head_of words) at none_bad).0;
    named = (name_found words (head_of words) at none_bad).1;
    lettered = lettered;
    lawful = named-lawful (field_at words at 4) (field_at words at 5) (field_at words at 6) (field_at words at 7) (inner_ranges words at) (spec_found words (head_of words) at none_bad).1;
    fields = ap length specified;
    fits = (spec_found words (head_of words) at none_bad).2;
    formed = good_single.0;
    unpacked = unpacked;
    off = λ off. good_single.1 (off_disabled n (field_at words at 9) good_single.0 off);
    sparse = λ is. sparse_found words (head_of words) at none_bad (eq-eqb (field_at words at 4) 4 (ap (λ (fields : List ℕ). slice_index fields 0) (sym specified ∙ ap spec_fields is)));
    narrow = (below_words 11 (omega arith), below_words 12 (omega arith));
  }

  -- while it names no counts, its single mark is at most its packed units
  pub packed_small : field_at words at 8 ≡ 0 → field_at words at 10 ≤ units_in form
  packed_small none_there = by_packed (packed_bucket form) refl
    where
      by_packed : (packed : Option ℕ) → packed_bucket form ≡ packed → field_at words at 10 ≤ units_in form
      by_packed None is = let e = unpacked is in omega (arith, e)
      by_packed (Some b) is =
          let small = marks_small b (packed_within 2 n (field_at words at 9) b is) in
          let packs : is_packed_bucket form b ≡ true = ap (λ (packed : Option ℕ). unwrap_or (option_map (λ (bucket : ℕ). bucket == b) packed) false) is ∙ eq-eqb b b refl in
          let mark : mark_of 2 words at b ≡ field_at words at 10 =
          ap (λ (t : Bool). if t then field_at words at 10 else (if field_at words at 8 == 0 then 0 else field_at words (field_at words at 8) (4 + n + b))) packs in
          let total : total_of 2 words at b ≡ units_packed form b =
          ap (λ (t : Bool). (if t then 0 else field_at words (field_at words at 8) (4 + b)) + units_packed form b) (eq-eqb (field_at words at 8) 0 none_there) ∙ none_more (units_packed form b) in
          let all = packed_all form b is in
          omega (arith, small, mark, total, all)
        where
          none_more : (n : ℕ) → 0 + n ≡ n
          none_more n = omega arith

  -- ---- the counts that it names

  module _ (some_there : field_at words at 8 ≢ 0) where
    abbrev place : ℕ
    place = field_at words at 8

    abbrev c : Counts
    c = counts_at words at place

    counts_block : (is_sparse words at ≡ false) × (4 + 2 * n ≤ size_at words place) × (place + size_at words place ≤ length words)
    counts_block =
        let (buckets, block, tag, size) = named_found words (head_of words) at none_bad some_there in
        let (from, least, within, paged, cookie) = block_page words references reading listed reads adoptable place block in
        let bound = (free_bounds words references reading listed reads adoptable).1 in
        (buckets, size, omega (arith, within, bound))

    -- a word of it, by its place among the counts and the marks
    pub unit_word : (i : ℕ) → i < n → slice_index c.units i ≡ counts_word words at i
    unit_word i below = get_or-take n (drop (place + 4) words) i 0 below ∙ (get_or-drop (place + 4) words i 0 ∙ ap (word_at words) next)
      where
        next : place + 4 + i ≡ place + (4 + i)
        next = omega arith

    pub mark_word : (i : ℕ) → i < n → slice_index c.marks i ≡ counts_word words at (n + i)
    mark_word i below = get_or-take n (drop (place + (4 + n)) words) i 0 below ∙ (get_or-drop (place + (4 + n)) words i 0 ∙ ap (word_at words) next)
      where
        next : place + (4 + n) + i ≡ place + (4 + (n + i))
        next = omega arith

    pub long_units : length c.units ≡ n
    long_units = let size = counts_block.1 in let within = counts_block.2 in run_long words (place + 4) n (omega (arith, size, within))

    pub long_marks : length c.marks ≡ n
    long_marks = let size = counts_block.1 in let within = counts_block.2 in run_long words (place + (4 + n)) n (omega (arith, size, within))

    long_rest : length c.rest ≡ size_at words place - (4 + 2 * n)
    long_rest = let size = counts_block.1 in let within = counts_block.2 in run_long words (place + (4 + 2 * n)) (size_at words place - (4 + 2 * n)) (omega (arith, size, within))

    pub are_counts : IsCountsOf 2 at r c
    are_counts = record {
      mine = refl;
      named = refl;
      same = refl;
      units = long_units;
      marks = long_marks;
      sized = let size = counts_block.1 in omega (arith, size, long_units, long_marks, long_rest);
      packed = λ i packs. mark_word i (packed_within 2 n (field_at words at 9) i packs) ∙ adoptable.undamaged.packed at there one i counts_block.0 some_there packs;
      unused = λ on. (
        all_zero c.units (λ i below. let inside : i < n = omega (arith, below, long_units) in
            unit_word i inside ∙ adoptable.undamaged.unused at there one i counts_block.0 some_there on (omega (arith, inside))),
        all_zero c.marks (λ i below. let inside : i < n = omega (arith, below, long_marks) in
            mark_word i inside ∙ adoptable.undamaged.unused at there one (n + i) counts_block.0 some_there on (omega (arith, inside))),
      );
      mark = λ first. absurd (omega (arith, first));
    }

    pub counts_as_other : words_of (counts c) ≡ words_of (other_at words place)
    counts_as_other =
        let (buckets, block, tag, size) = named_found words (head_of words) at none_bad some_there in
        let (from, least, paged_within, paged, cookie) = block_page words references reading listed reads adoptable place block in
        let within = counts_block.2 in
        counts_words words at place size within cookie tag ∙ sym (other_words words place (omega (arith, least)) within cookie)

    pub bucketed : is_sparse words at ≡ false
    bucketed = counts_block.0

    -- its totals and marks are those of the record
    pub total_is : (i : ℕ) → i < n → total_in 2 r c i ≡ total_of 2 words at i
    total_is i below =
        ap (λ (k : ℕ). k + units_packed form i) (unit_word i below)
        ∙ ap (λ (t : Bool). (if t then 0 else field_at words place (4 + i)) + units_packed form i) (sym (ne_eqb place 0 some_there))

    pub mark_is : (i : ℕ) → i < n → mark_in 2 r c i ≡ mark_of 2 words at i
    mark_is i below =
        ap (λ (k : ℕ). if is_packed_bucket form i then field_at words at 10 else k) (mark_word i below ∙ ap (field_at words place) next)
        ∙ ap (λ (t : Bool). if is_packed_bucket form i then field_at words at 10 else (if t then 0 else field_at words place (4 + n + i))) (sym (ne_eqb place 0 some_there))
      where
        next : 4 + (n + i) ≡ 4 + n + i
        next = omega arith

  pub sums_bounded : is_bad_record_sum words at ≡ false
  sums_bounded = sums_found words (head_of words) at none_bad

  -- ---- its totals

  pub totals_small : is_sparse words at ≡ false → (i : ℕ) → i < n → total_of 2 words at i ≤ 4294967295
  totals_small buckets i below =
      ltb-false 4294967295 (total_of 2 words at i)
      (none_passes (λ total. nat_lt 4294967295 total) (totals_of 2 words at) (total_of 2 words at i)
      (subst (λ (v : ℕ). has_large (totals_of v words at) ≡ false) adoptable.version (counts_found words (head_of words) at none_bad buckets).1)
      (contains_map (total_of 2 words at) (range_with_len 0 n) i (contains_at (range_with_len 0 n) i i (range_there 0 n i below ∙ ap some from_none))))
    where
      from_none : 0 + i ≡ i
      from_none = omega arith
