-- A mark that a look has is no more than the total of its bucket: at the moment at which it was loaded it was no more, and totals rise.
use Rattle.segment_invariant.proofs.Prelude.Std.{◌≡◌, ◌≢◌, ◌⊎◌, ℕ, ◌+◌, ◌<◌, ◌≤◌, ◌==◌, Bool, true, false, length, inl, inr, refl, sym, ap, subst, ◌∙◌, arith, slice_index, if◌then◌else◌, Option, Some, None, eq-eqb, ne_eqb, eqb-true, eqb-false}
use Rattle.segment_invariant.proofs.Prelude.Machine.{Dimensions, State, word_at, field_at, buckets_of, SingleWord, single_of, packed_bucket, is_packed_bucket, units_packed, total_of, mark_of, Leads}
use Rattle.segment_invariant.proofs.Prelude.Invariant.{Anatomy, Record, Counts, histogram, counts, form_at, HasRecord, HasCounts, Invariant}
use Rattle.std.specs.Prelude.{option_map, unwrap_or}
use Rattle.std.proofs.Math.Decide.{dec_lt}
use Rattle.alloc_core.proofs.Layouts.{length_shown}
use Rattle.bucket_ranges.specs.Reading.{count_at}
use Rattle.segment_looks.specs.Looks.{counts_reference}
use Rattle.segment_invariant.specs.Invariant.{IsCountsOf}
use Rattle.segment_invariant.specs.Words.{AreBounded}
use Rattle.segment_invariant.specs.Seen.{IsCounterIn}
use Rattle.segment_invariant.specs.Body.{layout_of}
use Rattle.segment_invariant.proofs.Blocks.Places.{counter_within}
use Rattle.segment_invariant.proofs.Frames.LaidOut.{laid_out}
use Rattle.segment_invariant.proofs.Consistency.Records.{record_word}
use Rattle.segment_invariant.proofs.Consistency.Specs.{buckets_are, form_is}
use Rattle.segment_invariant.proofs.Consistency.Totals.{count_word, mark_word, total_words}
use Rattle.segment_promises.proofs.Readings.Kept.{words_kept}
use Rattle.segment_promises.proofs.Readings.Later.{all_bounded}
use Rattle.look_promises.specs.Runs.{AreLoaded}
use Rattle.look_promises.specs.Images.{IsTotalAmong, total_looked, mark_looked, LooksBoundMarks}
use Rattle.look_promises.proofs.Moments.Runs.{kept_at, chain_at}
use Rattle.look_promises.proofs.Copies.ThreeCopies.{ThreeCopies, three_copies, seen_in}
use Rattle.look_promises.proofs.Moments.Listed.{ends_at, place_of}
use Rattle.look_promises.proofs.NewRecords.Starts.{not_yet}
use Rattle.look_promises.proofs.Moments.Room.{record_was, word_was}
use Rattle.look_promises.proofs.Copies.References.{looked}
use Rattle.look_promises.proofs.Copies.Named.{one_within}
use Rattle.look_promises.proofs.Copies.Units.{zero_there}
use Rattle.look_promises.proofs.Amounts.Totals.{leads_on, totals_between}

-- ---- the packed bucket

packs : (form : Option SingleWord) (i : ℕ) → is_packed_bucket form i ≡ true → packed_bucket form ≡ Some i
packs form i is = by_packed (packed_bucket form) refl
  where
    by_packed : (packed : Option ℕ) → packed_bucket form ≡ packed → packed_bucket form ≡ Some i
    by_packed None here = cc (is, here)
    by_packed (Some bucket) here = here ∙ ap Some (eqb-true bucket i (cc (is, here)))

pub packs_it : (form : Option SingleWord) (i : ℕ) → packed_bucket form ≡ Some i → is_packed_bucket form i ≡ true
packs_it form i is = by_packed (packed_bucket form) refl
  where
    by_packed : (packed : Option ℕ) → packed_bucket form ≡ packed → is_packed_bucket form i ≡ true
    by_packed None here = cc (is, here)
    by_packed (Some bucket) here = let same : bucket ≡ i = cc (is, here) in ap (λ (packed : Option ℕ). unwrap_or (option_map (λ (b : ℕ). b == i) packed) false) here ∙ eq-eqb bucket i same

-- a word leads to those that name the same bucket, or names none
pub same_packed : (n old new : ℕ) → Leads 2 n old new → (packed_bucket (single_of 2 n old) ≡ None) ⊎ (packed_bucket (single_of 2 n new) ≡ packed_bucket (single_of 2 n old))
same_packed n old new (inl same) = inr (ap (λ (w : ℕ). packed_bucket (single_of 2 n w)) (sym same))
same_packed n old new (inr (inl nothing)) = inl (ap (λ (w : ℕ). packed_bucket (single_of 2 n w)) nothing)
same_packed n old new (inr (inr (on, packed, rest))) = inr packed

-- ---- totals and marks of a state

module _ (shape : Dimensions) (opened : Anatomy) (state : State) (kept : Invariant shape opened state) (two : kept.anatomy.version ≡ 2)
    (x : ℕ) (r : Record) (has : HasRecord kept.anatomy.pieces x r) where
  abbrev buckets : ℕ
  buckets = buckets_of r.spec

  bounded : AreBounded 2 state.words x buckets
  bounded = subst (λ (v : ℕ). AreBounded v state.words x buckets) two (all_bounded shape opened state.words (words_kept shape opened state kept) x r has)

  -- the total of a bucket by the words is its total
  pub total_there : (i : ℕ) → i < buckets → IsTotalAmong 2 kept.anatomy.pieces x i (total_of 2 state.words x i)
  total_there i below = (r, has, by_counts (r.counts == 0) (eqb-true r.counts 0) (eqb-false r.counts 0))
    where
      words_say : total_of 2 state.words x i ≡ count_at state.words r.counts i + units_packed (form_at 2 r) i
      words_say = total_words shape opened state.words (laid_out shape opened state kept) x r has 2 i

      by_counts : (b : Bool) → (b ≡ true → r.counts ≡ 0) → (b ≡ false → r.counts ≢ 0)
          → ((r.counts ≡ 0) × (total_of 2 state.words x i ≡ units_packed (form_at 2 r) i))
          ⊎ ((c : Counts) × HasCounts kept.anatomy.pieces r.counts c × (total_of 2 state.words x i ≡ slice_index c.units i + units_packed (form_at 2 r) i))
      by_counts true none_there some_there =
          let nothing : count_at state.words r.counts i ≡ 0 = ap (λ (b : Bool). if b then 0 else field_at state.words r.counts (4 + i)) (eq-eqb r.counts 0 (none_there refl)) in
          let say = words_say in
          inl (none_there refl, omega (arith, say, nothing))
      by_counts false none_there some_there =
          let (c, mounted, it) = kept.records.mounted x r has (some_there refl) in
          let units = it.units in
          let count : count_at state.words r.counts i ≡ slice_index c.units i =
          ap (λ (b : Bool). if b then 0 else field_at state.words r.counts (4 + i)) (ne_eqb r.counts 0 (some_there refl))
          ∙ count_word shape opened state.words (laid_out shape opened state kept) r.counts c i mounted (omega (arith, below, units)) in
          inr (c, mounted, words_say ∙ ap (λ (m : ℕ). m + units_packed (form_at 2 r) i) count)

  pub total_most : (i : ℕ) → i < buckets → total_of 2 state.words x i ≤ 4294967295
  total_most i below = bounded.total i below

  mark_most : (i : ℕ) → i < buckets → mark_of 2 state.words x i ≤ total_of 2 state.words x i
  mark_most i below = elim (bounded.mark i below) [
    | inl le ↦ le
    | inr (one_is, packed, few) ↦ absurd (omega (arith, one_is))
  ]

  abbrev behind_counts : ℕ → ℕ → ℕ → ℕ
  behind_counts reference many i = if reference == 0 then 0 else field_at state.words reference (4 + many + i)

  mark_is : (i : ℕ) → mark_of 2 state.words x i ≡ (if is_packed_bucket (form_at 2 r) i then r.mark else behind_counts r.counts buckets i)
  mark_is i =
      let anatomy = kept.anatomy in
      let lawful = kept.records.lawful x r has in
      let form = form_is shape state.words anatomy kept.shown anatomy.version x r has lawful 2 in
      let many = buckets_are shape state.words anatomy kept.shown anatomy.version x r has lawful in
      let single = record_word shape state.words anatomy kept.shown x r 10 has (omega arith) in
      let named = record_word shape state.words anatomy kept.shown x r 8 has (omega arith) in
      λ j. if is_packed_bucket (form j) i then single j else behind_counts (named j) (many j) i

  -- the single mark is no more than the total of the packed bucket
  pub single_most : (i : ℕ) → i < buckets → packed_bucket (form_at 2 r) ≡ Some i → r.mark ≤ total_of 2 state.words x i
  single_most i below packed =
      let is : mark_of 2 state.words x i ≡ r.mark =
      mark_is i ∙ ap (λ (b : Bool). if b then r.mark else behind_counts r.counts buckets i) (packs_it (form_at 2 r) i packed) in
      let most = mark_most i below in
      omega (arith, is, most)

  -- and it is 0 while there is none
  pub single_none : packed_bucket (form_at 2 r) ≡ None → r.mark ≡ 0
  single_none none_packed =
      (kept.records.lawful x r has).unpacked (subst (λ (v : ℕ). packed_bucket (form_at v r) ≡ None) (sym two) none_packed)

  -- so is a mark after the counts
  pub behind_most : (i : ℕ) → i < buckets → r.counts ≢ 0 → field_at state.words r.counts (4 + buckets + i) ≤ total_of 2 state.words x i
  behind_most i below ne = by_test (is_packed_bucket (form_at 2 r) i) refl
    where
      by_test : (b : Bool) → is_packed_bucket (form_at 2 r) i ≡ b → field_at state.words r.counts (4 + buckets + i) ≤ total_of 2 state.words x i
      by_test true is =
          let (c, mounted, it) = kept.records.mounted x r has ne in
          let units = it.units in
          let marks = it.marks in
          let nothing = it.packed i (subst (λ (v : ℕ). packed_bucket (form_at v r) ≡ Some i) (sym two) (packs (form_at 2 r) i is)) in
          let word = mark_word shape opened state.words (laid_out shape opened state kept) r.counts c buckets i mounted units (omega (arith, below, marks)) in
          omega (arith, nothing, word)
      by_test false is =
          let mark : mark_of 2 state.words x i ≡ field_at state.words r.counts (4 + buckets + i) =
          mark_is i ∙ (ap (λ (b : Bool). if b then r.mark else behind_counts r.counts buckets i) is
          ∙ ap (λ (b : Bool). if b then 0 else field_at state.words r.counts (4 + buckets + i)) (ne_eqb r.counts 0 ne)) in
          let most = mark_most i below in
          omega (arith, mark, most)

-- ---- those of a look

module _ (copies : ThreeCopies) where
  open copies use {run, shape, opened, at, last, moments, one, two, three, loaded}
  open seen_in copies use {late, list}

  version_at : (m : ℕ) → (kept_at run m).anatomy.version ≡ 2
  version_at m = (kept_at run m).same.0 ∙ run.version

  pub loaded_from : (m : ℕ) → ((j : ℕ) → j < shape.size → m ≤ moments.two j) → AreLoaded shape at m last (record moments { one = λ j. m }) (at m).words two three
  loaded_from m before = record {
    copy_one = record { long = length_shown shape (at m).words (layout_of (kept_at run m).anatomy) (kept_at run m).shown; each = λ j lt. refl };
    copy_two = loaded.copy_two;
    copy_three = loaded.copy_three;
    ordered = record { begins = λ j lt. omega arith; second = λ j i lj li. before i li; third = loaded.ordered.third; ends = loaded.ordered.ends };
  }

  -- the words of one moment are a first copy of those that come later
  abbrev pub from_moment : (m : ℕ) → ((j : ℕ) → j < shape.size → m ≤ moments.two j) → ThreeCopies
  from_moment m before = record copies { first = m; moments = record moments { one = λ j. m }; one = (at m).words; loaded = loaded_from m before }

  module _ (k i : ℕ) (below : k < length list) (r : Record) (has : HasRecord late.anatomy.pieces (slice_index list k) r) (bucket : i < buckets_of r.spec) where
    abbrev x : ℕ
    x = slice_index list k

    abbrev n : ℕ
    n = buckets_of r.spec

    abbrev place : ℕ
    place = counts_reference two three x

    abbrev total : ℕ
    total = total_looked two x place n i

    few : total ≤ 4294967295
    few =
        let most = total_most shape opened (at last) late (version_at last) x r has i bucket in
        let up = (totals_between copies x i r has bucket).1 _
        (total_there shape opened (at last) late (version_at last) x r has i bucket) in
        omega (arith, most, up)

    -- the total of a moment before the second copy
    module _ (m : ℕ) (before : (j : ℕ) → j < shape.size → m ≤ moments.two j) (down : m ≤ last) (there : k < length (chain_at run m)) where
      abbrev q : Record
      q = (record_was run m last k down r has there).of

      abbrev was : HasRecord (kept_at run m).anatomy.pieces x q
      was = (record_was run m last k down r has there).stands

      kinds : n ≡ buckets_of q.spec
      kinds = ap (λ (z : Record). buckets_of z.spec) (record_was run m last k down r has there).goes.is

      its_bucket : i < buckets_of q.spec
      its_bucket = let same = kinds in let low = bucket in omega (arith, same, low)

      rises : total_of 2 (at m).words x i ≤ total
      rises = (totals_between (from_moment m before) x i r has bucket).0 _
          (total_there shape opened (at m) (kept_at run m) (version_at m) x q was i its_bucket)

      leads : Leads 2 n q.single (word_at two (x + 9))
      leads = leads_on (from_moment m before) k i below r has bucket q was

      -- the single mark, if the second copy has the bucket packed
      single_then : is_packed_bucket (single_of 2 n (word_at two (x + 9))) i ≡ true → q.mark ≤ total
      single_then is = by_form (packed_bucket (form_at 2 q)) refl
        where
          form : single_of 2 n q.single ≡ form_at 2 q
          form = ap (λ (m : ℕ). single_of 2 m q.single) kinds

          later : packed_bucket (single_of 2 n (word_at two (x + 9))) ≡ Some i
          later = packs (single_of 2 n (word_at two (x + 9))) i is

          by_form : (packed : Option ℕ) → packed_bucket (form_at 2 q) ≡ packed → q.mark ≤ total
          by_form None nothing =
              let zero_mark = single_none shape opened (at m) (kept_at run m) (version_at m) x q was nothing in omega (arith, zero_mark)
          by_form (Some b) here = elim (same_packed n q.single (word_at two (x + 9)) leads) [
            | inl nothing ↦ absurd (cc (nothing, here, form))
            | inr same ↦
                let most = single_most shape opened (at m) (kept_at run m) (version_at m) x q was i its_bucket (ap packed_bucket (sym form) ∙ (sym same ∙ later)) in
                let up = rises in
                omega (arith, most, up)
          ]

      -- a mark after the counts, if the record names them
      behind_then : word_at (at m).words (x + 8) ≡ r.counts → r.counts ≢ 0 → word_at (at m).words (r.counts + (4 + n + i)) ≤ total
      behind_then names ne =
          let named : q.counts ≡ r.counts = sym (word_was run m last k down r has there 8 (omega arith)) ∙ names in
          let most = behind_most shape opened (at m) (kept_at run m) (version_at m) x q was i its_bucket (λ nothing. ne (sym named ∙ nothing)) in
          let same : word_at (at m).words (q.counts + (4 + buckets_of q.spec + i)) ≡ word_at (at m).words (r.counts + (4 + n + i)) =
          (λ j. word_at (at m).words (named j + (4 + sym kinds j + i))) in
          let up = rises in
          omega (arith, most, same, up)

    spot : (j : ℕ) → j < 15 → x + j < shape.size
    spot j lt = let ends = ends_at run last x (histogram r) has in omega (arith, ends, lt)

    abbrev single_moment : ℕ
    single_moment = moments.one (x + 10)

    single_mark : is_packed_bucket (single_of 2 n (word_at two (x + 9))) i ≡ true → word_at one (x + 10) ≤ total
    single_mark is =
        let down = (one_within copies (x + 10) (spot 10 (omega arith))).1 in
        elim (dec_lt k (length (chain_at run single_moment))) [
          | yes there ↦
              let word = loaded.copy_one.each (x + 10) (spot 10 (omega arith)) ∙ word_was run single_moment last k down r has there 10 (omega arith) in
              let most = single_then single_moment (λ j lt. loaded.ordered.second (x + 10) j (spot 10 (omega arith)) lt) down there is in
              omega (arith, word, most)
          | no far ↦
              let nothing = loaded.copy_one.each (x + 10) (spot 10 (omega arith))
              ∙ not_yet run single_moment last k 10 down (histogram r) below (omega (arith, far)) has (omega arith, omega arith) in
              omega (arith, nothing)
        ]

    module _ (ne : r.counts ≢ 0) where
      abbrev y : ℕ
      y = r.counts + (4 + n + i)

      abbrev mark_moment : ℕ
      mark_moment = moments.one y

      abbrev its : (c : Counts) × HasCounts late.anatomy.pieces r.counts c × IsCountsOf late.anatomy.version x r c
      its = late.records.mounted x r has ne

      counter : IsCounterIn (counts its.0) (4 + n + i)
      counter =
          let units = its.2.units in
          let marks = its.2.marks in
          let low = bucket in
          (omega arith, omega (arith, units, marks, low))

      inside : y < shape.size
      inside =
          let ends = ends_at run last r.counts (counts its.0) its.1 in
          let within = counter_within (counts its.0) (4 + n + i) counter in
          omega (arith, ends, within)

      down : mark_moment ≤ last
      down = (one_within copies y inside).1

      behind_mark : word_at one y ≤ total
      behind_mark = by_test (word_at (at mark_moment).words (x + 8) == r.counts) (eqb-true (word_at (at mark_moment).words (x + 8)) r.counts)
          (eqb-false (word_at (at mark_moment).words (x + 8)) r.counts)
        where
          word : word_at one y ≡ word_at (at mark_moment).words y
          word = loaded.copy_one.each y inside

          by_test : (b : Bool) → (b ≡ true → word_at (at mark_moment).words (x + 8) ≡ r.counts) → (b ≡ false → word_at (at mark_moment).words (x + 8) ≢ r.counts)
              → word_at one y ≤ total
          by_test false names other =
              let nothing = zero_there run last mark_moment k (4 + n + i) down below r its.0 has its.1 counter (other refl) in
              let is = word in
              omega (arith, nothing, is)
          by_test true names other = elim (dec_lt k (length (chain_at run mark_moment))) [
            | yes there ↦
                let most = behind_then mark_moment (λ j lt. loaded.ordered.second y j inside lt) down there (names refl) ne in
                let is = word in
                omega (arith, most, is)
            | no far ↦ absurd (ne (sym (names refl)
                ∙ not_yet run mark_moment last k 8 down (histogram r) below (omega (arith, far)) has (omega arith, omega arith)))
          ]

    abbrev beside : ℕ → ℕ
    beside p = if p == 0 then 0 else field_at one p (4 + n + i)

    pub marks_below : (total ≤ 4294967295) × (mark_looked one two x place n i ≤ total)
    marks_below = (few, by_packed (is_packed_bucket (single_of 2 n (word_at two (x + 9))) i) refl)
      where
        by_packed : (b : Bool) → is_packed_bucket (single_of 2 n (word_at two (x + 9))) i ≡ b → (if b then word_at one (x + 10) else beside place) ≤ total
        by_packed true is = single_mark is
        by_packed false is = by_place (place == 0) (eqb-true place 0) (eqb-false place 0)
          where
            by_place : (b : Bool) → (b ≡ true → place ≡ 0) → (b ≡ false → place ≢ 0) → (if b then 0 else field_at one place (4 + n + i)) ≤ total
            by_place true none_there some_there = omega arith
            by_place false none_there some_there = elim (looked copies k below r has) [
              | inl nothing ↦ absurd (some_there refl nothing)
              | inr its ↦
                  let most = behind_mark (λ nothing. some_there refl (its ∙ nothing)) in
                  let same : field_at one place (4 + n + i) ≡ word_at one (r.counts + (4 + n + i)) = ap (λ (p : ℕ). field_at one p (4 + n + i)) its in
                  omega (arith, most, same)
            ]

  pub marks_bounded : (reference i : ℕ) (r : Record) → HasRecord late.anatomy.pieces reference r → i < buckets_of r.spec
      → (total_looked two reference (counts_reference two three reference) (buckets_of r.spec) i ≤ 4294967295)
      × (mark_looked one two reference (counts_reference two three reference) (buckets_of r.spec) i
      ≤ total_looked two reference (counts_reference two three reference) (buckets_of r.spec) i)
  marks_bounded reference i r has bucket =
      let (k, below, place) = place_of run last reference r has in
      subst (λ (x : ℕ). (total_looked two x (counts_reference two three x) (buckets_of r.spec) i ≤ 4294967295)
      × (mark_looked one two x (counts_reference two three x) (buckets_of r.spec) i ≤ total_looked two x (counts_reference two three x) (buckets_of r.spec) i)) place
      (marks_below k i below r (subst (λ (x : ℕ). HasRecord late.anatomy.pieces x r) (sym place) has) bucket)

pub looks_bound_marks : LooksBoundMarks
looks_bound_marks shape opened at first last moments one two three run loaded =
    let copies = three_copies shape opened at first last moments one two three run loaded in (kept_at copies.run last, marks_bounded copies)
