-- The records of a look are kept: valid, each with its own counts block, and in one that is not the first of its name nothing is counted.
use Rattle.segment_invariant.proofs.Prelude.Std.{◌≡◌, ◌≢◌, ℕ, ◌+◌, ◌^◌, ◌<◌, ◌≤◌, ◌==◌, ◌&&◌, Bool, true, false, if◌then◌else◌, ℤ, List, ◌∷◌, ◌++◌, length, length-append, drop, take-append-drop, append_assoc, inl, inr, refl, sym, ap, subst, ◌∙◌, arith, slice_index, Option, Some, None, none, All, eq-eqb, replicate}
use Rattle.segment_invariant.proofs.Prelude.Machine.{Spec, word_at, buckets_of, single_of, packed_bucket, units_packed, units_in}
use Rattle.segment_invariant.proofs.Prelude.Invariant.{Anatomy, Record, Counts, Sample, Listed, histogram, counts, sample, words_of, form_at, HasRecord, HasCounts, HasSample, IsFirst, IsFirstOf, CountsNothing, IsLawfulRecord, IsCountsOf}
use Rattle.bucket_ranges.specs.declared.spec.Spec.TheVariants as spec
use Rattle.segment_machine.specs.declared.actor.Made.TheVariants as made
use Rattle.segment_looks.specs.Looks.{counts_looked, counts_reference, is_frozen}
use Rattle.std.specs.List.{slice_range}
use Rattle.segment_invariant.specs.Invariant.{IsLawfulSample, RecordsAreKept}
use Rattle.segment_invariant.proofs.Blocks.Pieces.{one_stands}
use Rattle.segment_invariant.proofs.Consistency.Keys.{packed_within}
use Rattle.look_promises.specs.Images.{looked_counts, total_looked, mark_looked}
use Rattle.look_promises.proofs.Moments.Runs.{kept_at}
use Rattle.look_promises.proofs.Moments.Firsts.{first_on, value_on}
use Rattle.look_promises.proofs.Copies.ThreeCopies.{ThreeCopies, seen_in}
use Rattle.look_promises.proofs.Moments.Listed.{ends_at}
use Rattle.look_promises.proofs.Copies.Named.{one_within, two_within}
use Rattle.look_promises.proofs.Copies.References.{named}
use Rattle.look_promises.proofs.Copies.Between.{all_between}
use Rattle.look_promises.proofs.Words.Counted.{range_long, looked_long}
use Rattle.look_promises.proofs.Amounts.Totals.{range_word, packed_as, for_bucket}
use Rattle.look_promises.proofs.Amounts.Marks.{marks_bounded, packs_it}
use Rattle.look_promises.proofs.Amounts.Forms as forms
use Rattle.look_promises.proofs.Amounts.Unpacked.{marks_packed}
use Rattle.look_promises.proofs.Amounts.Samples.{samples_bounded}
use Rattle.look_promises.proofs.Kept.Views.{view, nothing_later}
use Rattle.look_promises.proofs.Kept.CountWords.{zeros, zeros_each, packed_mark, unused_mark}
use Rattle.look_promises.proofs.Looked.Taken.{record_looked, IsTaken}

module _ (copies : ThreeCopies) (image : List ℕ) where
  open copies use {run, shape, at, last, moments, one, two, three, loaded}
  open seen_in copies use {late, list, records as followed}

  late_two : late.anatomy.version ≡ 2
  late_two = late.same.0 ∙ run.version

  -- ---- a record that it follows

  module _ (x : ℕ) (r : Record) (has : HasRecord late.anatomy.pieces x r) where
    abbrev n : ℕ
    n = buckets_of r.spec

    spot : (j : ℕ) → j < 15 → x + j < shape.size
    spot j lt = let ends = ends_at run last x (histogram r) has in omega (arith, ends, lt)

    abbrev place : ℕ
    place = counts_reference two three x

    -- no counts reference is taken if none was loaded
    either : (b : Bool) (second third : ℕ) → second ≡ 0 → third ≡ 0 → (if b then third else second) ≡ 0
    either true second third early late_one = late_one
    either false second third early late_one = early

    pub no_reference : word_at two (x + 8) ≡ 0 → word_at three (x + 8) ≡ 0 → place ≡ 0
    no_reference second third = either ((word_at two (x + 8) == 0) && is_frozen two x) (word_at two (x + 8)) (word_at three (x + 8)) second third

    -- what holds of each word that changes, at any moment, if it holds of 0 and of the record then
    abbrev Each : (ℕ → Type 0) → ℕ → Type 0
    Each P j = (m : ℕ) (q : Record) → HasRecord (kept_at run m).anatomy.pieces x q → q.spec ≡ r.spec → P (slice_index (words_of (histogram q)) j)

    at_moment : (P : ℕ → Type 0) (j m word : ℕ) → 8 ≤ j → j < 14 → m ≤ last → word ≡ word_at (at m).words (x + j) → P 0 → Each P j → P word
    at_moment P j m word from below down same zero_has each = elim (view run m last x j word r down has from below same) [
      | inl nothing ↦ subst P (sym nothing) zero_has
      | inr v ↦ subst P (sym v.is) (each m v.of v.stands (sym (ap (λ (z : Record). z.spec) v.goes.is)))
    ]

    in_one : (P : ℕ → Type 0) (j : ℕ) → 8 ≤ j → j < 14 → P 0 → Each P j → P (word_at one (x + j))
    in_one P j from below =
        let near = spot j (omega (arith, below)) in
        at_moment P j (moments.one (x + j)) (word_at one (x + j)) from below (one_within copies (x + j) near).1 (loaded.copy_one.each (x + j) near)

    in_two : (P : ℕ → Type 0) (j : ℕ) → 8 ≤ j → j < 14 → P 0 → Each P j → P (word_at two (x + j))
    in_two P j from below =
        let near = spot j (omega (arith, below)) in
        at_moment P j (moments.two (x + j)) (word_at two (x + j)) from below (two_within copies (x + j) near).1 (loaded.copy_two.each (x + j) near)

    in_three : (P : ℕ → Type 0) (j : ℕ) → 8 ≤ j → j < 14 → P 0 → Each P j → P (word_at three (x + j))
    in_three P j from below =
        let near = spot j (omega (arith, below)) in
        at_moment P j (moments.three (x + j)) (word_at three (x + j)) from below (loaded.ordered.ends (x + j) near) (loaded.copy_three.each (x + j) near)

    -- of a sparse one these are 0
    abbrev IsNone : ℕ → Type 0
    IsNone word = word ≡ 0

    sparse_nothing : r.spec ≡ spec.Sparse → (place ≡ 0) × (word_at two (x + 9) ≡ 0) × (word_at one (x + 10) ≡ 0)
    sparse_nothing is = (
      no_reference
          (in_two IsNone 8 (omega arith) (omega arith) refl (λ m q stands same. (((kept_at run m).records.lawful x q stands).sparse (same ∙ is)).0))
          (in_three IsNone 8 (omega arith) (omega arith) refl (λ m q stands same. (((kept_at run m).records.lawful x q stands).sparse (same ∙ is)).0)),
      in_two IsNone 9 (omega arith) (omega arith) refl (λ m q stands same. (((kept_at run m).records.lawful x q stands).sparse (same ∙ is)).1),
      in_one IsNone 10 (omega arith) (omega arith) refl (λ m q stands same. (((kept_at run m).records.lawful x q stands).sparse (same ∙ is)).2),
    )

    abbrev IsNarrow : ℕ → Type 0
    IsNarrow word = word < 2 ^ 64

    pub lawful : (next : ℕ) → IsLawfulRecord 2 shape.page (record_looked one two three x next r)
    lawful next =
        let l = late.records.lawful x r has in
        let formed = forms.both copies x r has in
        record {
          sized = l.sized;
          least = l.least;
          named = l.named;
          lettered = l.lettered;
          lawful = l.lawful;
          fields = l.fields;
          fits = l.fits;
          formed = formed.0;
          unpacked = marks_packed copies x r has;
          off = formed.1;
          sparse = sparse_nothing;
          narrow = (
            in_two IsNarrow 11 (omega arith) (omega arith) (omega arith) (λ m q stands same. ((kept_at run m).records.lawful x q stands).narrow.0),
            in_one IsNarrow 12 (omega arith) (omega arith) (omega arith) (λ m q stands same. ((kept_at run m).records.lawful x q stands).narrow.1),
          );
        }

    -- while it names no counts its single mark is at most what is packed
    pub packed : place ≡ 0 → word_at one (x + 10) ≤ units_in (single_of 2 n (word_at two (x + 9)))
    packed none_there = by_packed (packed_bucket (single_of 2 n (word_at two (x + 9)))) refl
      where
        by_packed : (bucket : Option ℕ) → packed_bucket (single_of 2 n (word_at two (x + 9))) ≡ bucket → word_at one (x + 10) ≤ units_in (single_of 2 n (word_at two (x + 9)))
        by_packed None is = let nothing = marks_packed copies x r has is in omega (arith, nothing)
        by_packed (Some i) is =
            let form = single_of 2 n (word_at two (x + 9)) in
            let below = packed_within 2 n (word_at two (x + 9)) i is in
            let most = (marks_bounded copies x i r has below).1 in
            let mark : mark_looked one two x place n i ≡ word_at one (x + 10) =
            ap (λ (b : Bool). if b then word_at one (x + 10) else (if place == 0 then 0 else word_at one (place + (4 + n + i)))) (packs_it form i is) in
            let total : total_looked two x place n i ≡ 0 + units_packed form i =
            ap (λ (b : Bool). (if b then 0 else slice_index (counts_looked two x (place + 4) n) i) + units_packed form i) (eq-eqb place 0 none_there) in
            let all : units_packed form i ≡ units_in form = packed_as form i ∙ (ap (λ (bucket : Option ℕ). for_bucket bucket i (units_in form)) is
            ∙ ap (λ (b : Bool). if b then units_in form else 0) (eq-eqb i i refl)) in
            omega (arith, most, mark, total, all)

    -- in one that is not the first of its name nothing is counted
    pub later : (next other : ℕ) (kind : Spec) → IsFirst late.anatomy.records r.name kind other → other ≢ x → CountsNothing (record_looked one two three x next r)
    later next other kind its apart = (
      no_reference (second 8 (omega arith) (omega arith)) (third 8 (omega arith) (omega arith)),
      second 9 (omega arith) (omega arith),
      first_copy 10 (omega arith) (omega arith),
      second 11 (omega arith) (omega arith),
      first_copy 12 (omega arith) (omega arith),
      first_copy 13 (omega arith) (omega arith),
    )
      where
        first_copy : (j : ℕ) → 8 ≤ j → j < 14 → word_at one (x + j) ≡ 0
        first_copy j from below =
            let near = spot j (omega (arith, below)) in
            nothing_later run (moments.one (x + j)) last x j (word_at one (x + j)) other r kind
            (one_within copies (x + j) near).1 has its apart from below (loaded.copy_one.each (x + j) near)

        second : (j : ℕ) → 8 ≤ j → j < 14 → word_at two (x + j) ≡ 0
        second j from below =
            let near = spot j (omega (arith, below)) in
            nothing_later run (moments.two (x + j)) last x j (word_at two (x + j)) other r kind
            (two_within copies (x + j) near).1 has its apart from below (loaded.copy_two.each (x + j) near)

        third : (j : ℕ) → 8 ≤ j → j < 14 → word_at three (x + j) ≡ 0
        third j from below =
            let near = spot j (omega (arith, below)) in
            nothing_later run (moments.three (x + j)) last x j (word_at three (x + j)) other r kind (loaded.ordered.ends (x + j) near) has its apart from below
            (loaded.copy_three.each (x + j) near)

    -- ---- its counts

    module _ (some_counts : r.counts ≢ 0) (c : Counts) (stands : HasCounts late.anatomy.pieces r.counts c) (of_it : IsCountsOf late.anatomy.version x r c) where
      abbrev p : ℕ
      p = r.counts

      long_block : p + (4 + (n + n)) ≤ shape.size
      long_block =
          let ends = ends_at run last p (counts c) stands in
          let units = of_it.units in
          let marks = of_it.marks in
          let inner = length-append c.units c.marks in
          let long = length-append (c.units ++ c.marks) c.rest in
          omega (arith, ends, units, marks, inner, long)

      units_long : length (counts_looked two x (p + 4) n) ≡ n
      units_long = let fits = long_block in let all = loaded.copy_two.long in looked_long (is_frozen two x) two (p + 4) n (omega (arith, fits, all))

      marks_long : length (slice_range one (p + 4 + n) (p + 4 + n + n)) ≡ n
      marks_long = let fits = long_block in let all = loaded.copy_one.long in range_long one (p + 4 + n) n (omega (arith, fits, all))

      mark_is : (i : ℕ) → i < n → slice_index (slice_range one (p + 4 + n) (p + 4 + n + n)) i ≡ word_at one (p + (4 + n + i))
      mark_is i below =
          let index : p + 4 + n + i ≡ p + (4 + n + i) = omega arith in
          range_word one (p + 4 + n) n i below ∙ ap (word_at one) index

      on_units : (b : Bool) → is_frozen two x ≡ b → b ≡ false → All (λ m. m ≡ 0) (counts_looked two x (p + 4) n)
      on_units b is on = subst (λ (b : Bool). All (λ m. m ≡ 0) (if b then slice_range two (p + 4) (p + 4 + n) else replicate {A = ℕ} n 0)) (sym (is ∙ on)) (zeros n)

      pub counts_of : (next : ℕ) → IsCountsOf 2 x (record_looked one two three x next r) (looked_counts one two x p n c)
      counts_of next =
          let units = units_long in
          let marks = marks_long in
          let old_units = of_it.units in
          let old_marks = of_it.marks in
          let size = of_it.sized in
          record {
            mine = of_it.mine;
            named = of_it.named;
            same = of_it.same;
            units = units;
            marks = marks;
            sized = omega (arith, units, marks, old_units, old_marks, size);
            packed = λ i is. mark_is i (packed_within 2 n (word_at two (x + 9)) i is)
                ∙ packed_mark copies x r has some_counts c stands of_it i is;
            unused = λ on. (
              on_units (is_frozen two x) refl on,
              zeros_each (slice_range one (p + 4 + n) (p + 4 + n + n)) (λ i below.
                  let small : i < n = omega (arith, below, marks) in
                  mark_is i small ∙ unused_mark copies x r has some_counts c stands of_it i small on),
            );
            mark = λ is. absurd (omega (arith, is));
          }

  -- ---- the anatomy

  module _ (anatomy : Anatomy) (taken : IsTaken copies image anatomy) where
    abbrev behind : List Listed
    behind = drop (length followed) late.anatomy.records

    all_records : late.anatomy.records ≡ anatomy.records ++ behind
    all_records = sym (take-append-drop (length followed) late.anatomy.records) ∙ ap (λ (list : List Listed). list ++ behind) (sym taken.listed)

    first_of_all : (name : List ℕ) (kind : Spec) (other : ℕ) → IsFirst anatomy.records name kind other → IsFirst late.anatomy.records name kind other
    first_of_all = first_on anatomy.records late.anatomy.records behind all_records

    its_lawful : (x : ℕ) (q : Record) → HasRecord anatomy.pieces x q → IsLawfulRecord anatomy.version shape.page q
    its_lawful x q has =
        let a = taken.record_from x q has in
        subst (λ (v : ℕ). IsLawfulRecord v shape.page q) (sym taken.version)
        (subst (IsLawfulRecord 2 shape.page) (sym a.is) (lawful x a.of a.stands (word_at image (x + 3))))

    its_counts : (x : ℕ) (q : Record) → HasRecord anatomy.pieces x q → q.counts ≢ 0
        → (c : Counts) × HasCounts anatomy.pieces q.counts c × IsCountsOf anatomy.version x q c
    its_counts x q has some_there =
        let a = taken.record_from x q has in
        let r = a.of in
        let takes : q.counts ≡ counts_reference two three x = ap (λ (z : Record). z.counts) a.is in
        let looks : counts_reference two three x ≢ 0 = (λ nothing. some_there (takes ∙ nothing)) in
        let its : counts_reference two three x ≡ r.counts = elim (named copies x r a.followed a.stands) [
          | inl nothing ↦ absurd (looks nothing)
          | inr same ↦ same
        ] in
        let some_counts : r.counts ≢ 0 = (λ nothing. looks (its ∙ nothing)) in
        let (c, stands, of_it) = late.records.mounted x r a.stands some_counts in
        let d = looked_counts one two x r.counts (buckets_of r.spec) c in
        let there = taken.counts_there x r c a.stands a.followed looks stands in
        let mine = counts_of x r a.stands some_counts c stands of_it (word_at image (x + 3)) in (
          d,
          subst (λ (p : ℕ). HasCounts anatomy.pieces p d) (sym its ∙ sym takes) there,
          subst (λ (v : ℕ). IsCountsOf v x q d) (sym taken.version) (subst (λ (q : Record). IsCountsOf 2 x q d) (sym a.is) mine),
        )

    its_record : (place : ℕ) (d : Counts) → HasCounts anatomy.pieces place d → (q : Record) × HasRecord anatomy.pieces d.of q × (q.counts ≡ place)
    its_record place d has =
        let a = taken.counts_from place d has in
        let here : HasCounts late.anatomy.pieces a.r.counts a.of = subst (λ (p : ℕ). HasCounts late.anatomy.pieces p a.of) (sym a.names) a.stands in
        let (e, stands, it) = late.records.mounted a.x a.r a.has (λ nothing. a.some (a.looked ∙ (sym a.names ∙ nothing))) in
        let bodies : counts e ≡ counts a.of = (one_stands shape (at last).words late.anatomy late.shown a.r.counts none none (counts e) (counts a.of) stands here).1 in
        let same : e ≡ a.of = cc bodies in
        let mine : d.of ≡ a.x = ap (λ (z : Counts). z.of) a.is ∙ (ap (λ (z : Counts). z.of) (sym same) ∙ it.mine) in
        let q = record_looked one two three a.x (word_at image (a.x + 3)) a.r in
        (q, subst (λ (x : ℕ). HasRecord anatomy.pieces x q) (sym mine) (taken.record_there a.x a.r a.has a.followed), a.looked)

    its_packed : (x : ℕ) (q : Record) → HasRecord anatomy.pieces x q → q.counts ≡ 0 → q.mark ≤ units_in (form_at anatomy.version q)
    its_packed x q has none_there =
        let a = taken.record_from x q has in
        subst (λ (v : ℕ). q.mark ≤ units_in (form_at v q)) (sym taken.version)
        (subst (λ (q : Record). q.mark ≤ units_in (form_at 2 q)) (sym a.is)
        (packed x a.of a.stands (sym (ap (λ (z : Record). z.counts) a.is) ∙ none_there)))

    its_samples : (x : ℕ) (t : Sample) → HasSample anatomy.pieces x t → IsLawfulSample t
    its_samples x t has =
        let a = taken.sample_from x t has in
        let l = late.records.valued x a.of a.stands in
        subst IsLawfulSample (sym a.is)
        (record { sized = l.sized; valued = l.valued; taken = (samples_bounded copies x a.of a.stands).1 })

    its_sampled : (front rest : List Listed) (x of : ℕ) (value : ℤ) → anatomy.records ≡ front ++ record { reference = x; made = Some (made.Sample of value) } ∷ rest
        → (name : List ℕ) × IsFirst front name spec.Sparse of × ((s : Sample) → HasSample anatomy.pieces x s → s.name ≡ name)
    its_sampled front rest x of value parts =
        let l : Listed = record { reference = x; made = Some (made.Sample of value) } in
        let (name, its, mine) = late.records.sampled front (rest ++ behind) x of value
        (all_records ∙ (ap (λ (list : List Listed). list ++ behind) parts ∙ append_assoc front (l ∷ rest) behind)) in
        (name, its, λ t has. let a = taken.sample_from x t has in ap (λ (z : Sample). z.name) a.is ∙ mine a.of a.stands)

    its_later : (x other : ℕ) (q : Record) (kind : Spec) → HasRecord anatomy.pieces x q → IsFirst anatomy.records q.name kind other → other ≢ x → CountsNothing q
    its_later x other q kind has its apart =
        let a = taken.record_from x q has in
        let called : q.name ≡ a.of.name = ap (λ (z : Record). z.name) a.is in
        subst CountsNothing (sym a.is)
        (later x a.of a.stands (word_at image (x + 3)) other kind
        (subst (λ (name : List ℕ). IsFirst late.anatomy.records name kind other) called (first_of_all q.name kind other its)) apart)

    its_later_samples : (x other : ℕ) (t : Sample) → HasSample anatomy.pieces x t → IsFirstOf anatomy.records t.of t.value other → other ≢ x
        → (t.units ≡ 0) × (t.mark ≡ 0)
    its_later_samples x other t has its apart =
        let a = taken.sample_from x t has in
        let all : IsFirstOf late.anatomy.records t.of t.value other = value_on anatomy.records late.anatomy.records behind all_records t.of t.value other its in
        let mine : IsFirstOf late.anatomy.records a.of.of a.of.value other =
        subst (λ (z : Sample). IsFirstOf late.anatomy.records z.of z.value other) a.is all in
        let nothing = late.records.later_samples x other a.of a.stands mine apart in
        let none_units = nothing.0 in
        let none_marks = nothing.1 in
        let units = (all_between copies x 6 (sample a.of) a.followed a.stands (inl refl)).1.1 in
        let marks = (all_between copies x 7 (sample a.of) a.followed a.stands (inr refl)).0.1 in
        let unit_is = ap (λ (z : Sample). z.units) a.is in
        let mark_is = ap (λ (z : Sample). z.mark) a.is in
        (omega (arith, unit_is, units, none_units), omega (arith, mark_is, marks, none_marks))

    pub records_kept : RecordsAreKept shape.page anatomy
    records_kept = record {
      lawful = its_lawful;
      mounted = its_counts;
      named = its_record;
      packed = its_packed;
      valued = its_samples;
      sampled = its_sampled;
      later = its_later;
      later_samples = its_later_samples;
    }
