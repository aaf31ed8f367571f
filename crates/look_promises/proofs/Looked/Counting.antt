-- The units that a look holds of a name and a key: no fewer than those of the calls that had ended at its first moment, and no more than those of
-- the calls that had begun at its last.
use Rattle.segment_invariant.proofs.Prelude.Std.{◌≡◌, ◌≢◌, ℕ, ◌+◌, ◌<◌, ◌≤◌, ◌==◌, ℤ, Bool, true, false, List, ◌++◌, drop, take-append-drop, length, inl, inr, refl, sym, ap, subst, ◌∙◌, arith, slice_index, if◌then◌else◌, none, Contains, flat_map, eqb-false}
use Rattle.segment_invariant.proofs.Prelude.Machine.{word_at, field_at, Spec, buckets_of, units_packed, all_counted, tally_units, total_of}
use Rattle.segment_invariant.proofs.Prelude.Invariant.{Record, Counts, Sample, Listed, form_at, key_of_bucket, HasKey, HasRecord, HasCounts, HasSample, IsFirst, IsFirstOf}
use Rattle.std.proofs.Math.Decide.{dec_lt}
use Rattle.bucket_ranges.specs.declared.spec.Spec.TheVariants as spec
use Rattle.bucket_ranges.specs.Reading.{count_at}
use Rattle.segment_machine.specs.Actor.{log_of}
use Rattle.segment_looks.specs.Looks.{IsLook, counts_looked, counts_reference}
use Rattle.segment_invariant.specs.Invariant.{RecordsAreKept}
use Rattle.segment_invariant.specs.Words.{AreLaid}
use Rattle.segment_invariant.proofs.Blocks.Pieces.{one_stands}
use Rattle.segment_invariant.proofs.Lists.Tallies.{tally_at}
use Rattle.segment_invariant.proofs.Consistency.Books.{same_name, sample_first}
use Rattle.segment_invariant.proofs.Consistency.Firsts.{record_of_first, sample_of_first}
use Rattle.segment_invariant.proofs.Consistency.Totals.{total_held, total_words, count_word}
use Rattle.segment_promises.specs.Reads.{begun_of}
use Rattle.segment_promises.proofs.Readings.Buckets.{units_of_key, no_units}
use Rattle.segment_promises.proofs.Readings.Entries.{all_ended, all_begun}
use Rattle.segment_promises.proofs.Readings.Samples.{first_held}
use Rattle.look_promises.specs.Images.{total_looked, looked_counts}
use Rattle.look_promises.proofs.Moments.Runs.{rises_at}
use Rattle.look_promises.proofs.Moments.Firsts.{first_on, value_on, take_on}
use Rattle.look_promises.proofs.Copies.ThreeCopies.{ThreeCopies, seen_in, hd_of}
use Rattle.look_promises.proofs.Copies.Following.{first_last}
use Rattle.look_promises.proofs.Copies.References.{named}
use Rattle.look_promises.proofs.Amounts.Calls.{ended, counted_most}
use Rattle.look_promises.proofs.Amounts.Values.{values_held}
use Rattle.look_promises.proofs.Looked.Taken.{record_looked}
use Rattle.look_promises.proofs.Looked.Anatomy.{seen_of, shown, blocks}
use Rattle.look_promises.proofs.Looked.Lists.{few, is_laid}
use Rattle.look_promises.proofs.Looked.Opening.{are_passed_over}

module _ (copies : ThreeCopies) (image : List ℕ) (look : IsLook (hd_of copies) copies.one copies.two copies.three image) where
  open copies use {run, shape, opened, at, first, last, one, two, three}
  open seen_in copies use {early, late, list, records}
  open seen_of copies image look use {of_look, has}

  -- ---- its list lies between those of the two moments

  pub front_of_late : late.anatomy.records ≡ of_look.records ++ drop (length records) late.anatomy.records
  front_of_late = sym (take-append-drop (length records) late.anatomy.records)

  pub behind_early : (more : List Listed) × (of_look.records ≡ early.anatomy.records ++ more)
  behind_early =
      let (behind, longer) = (rises_at run first last (first_last copies)).records in
      take_on early.anatomy.records late.anatomy.records behind (length records) longer (few copies image look).1

  -- so what is first on it is first at the last moment
  pub first_late : (name : List ℕ) (kind : Spec) (x : ℕ) → IsFirst of_look.records name kind x → IsFirst late.anatomy.records name kind x
  first_late = first_on of_look.records late.anatomy.records (drop (length records) late.anatomy.records) front_of_late

  value_late : (of : ℕ) (value : ℤ) (x : ℕ) → IsFirstOf of_look.records of value x → IsFirstOf late.anatomy.records of value x
  value_late = value_on of_look.records late.anatomy.records (drop (length records) late.anatomy.records) front_of_late

  -- and what was first at the first moment is first on it
  first_here : (name : List ℕ) (kind : Spec) (x : ℕ) → IsFirst early.anatomy.records name kind x → IsFirst of_look.records name kind x
  first_here = let (more, all) = behind_early in first_on early.anatomy.records of_look.records more all

  value_here : (of : ℕ) (value : ℤ) (x : ℕ) → IsFirstOf early.anatomy.records of value x → IsFirstOf of_look.records of value x
  value_here = let (more, all) = behind_early in value_on early.anatomy.records of_look.records more all

  key_here : (name : List ℕ) (key : ℤ) → HasKey early.anatomy.records name key → HasKey of_look.records name key
  key_here name key (kind, x, its, inl bucketed) = (kind, x, first_here name kind x its, inl bucketed)
  key_here name key (kind, x, its, inr (sparse, place, valued)) = (kind, x, first_here name kind x its, inr (sparse, place, value_here x key place valued))

  -- ---- if its records are kept

  module _ (kept : RecordsAreKept shape.page of_look) where
    abbrev pub laid : AreLaid shape opened image
    laid = record {
      anatomy = of_look;
      shown = shown copies image look;
      same = sym run.version;
      versions = inr refl;
      blocks = blocks copies image look;
      list = is_laid copies image look;
      records = kept;
      passed_over = are_passed_over copies image look;
    }

    -- a total by its words is the one that is looked
    pub total_is : (x i : ℕ) (r : Record) → HasRecord late.anatomy.pieces x r → Contains records x → i < buckets_of r.spec
        → total_of 2 image x i ≡ total_looked two x (counts_reference two three x) (buckets_of r.spec) i
    total_is x i r stands there below =
        let q : Record = record_looked one two three x (word_at image (x + 3)) r in
        let words = total_words shape opened image laid x q (has.record_there x r stands there) 2 i in
        words ∙ ap (λ (n : ℕ). n + units_packed (form_at 2 q) i) (by_reference (counts_reference two three x == 0) (eqb-false (counts_reference two three x) 0) refl)
      where
        place : ℕ
        place = counts_reference two three x

        counted : counts_reference two three x ≢ 0
            → field_at image (counts_reference two three x) (4 + i) ≡ slice_index (counts_looked two x (counts_reference two three x + 4) (buckets_of r.spec)) i
        counted some_there =
            let names : counts_reference two three x ≡ r.counts = elim (named copies x r there stands) [
              | inl nothing ↦ absurd (some_there nothing)
              | inr same ↦ same
            ] in
            let (c, mounted, it) = late.records.mounted x r stands (λ nothing. some_there (names ∙ nothing)) in
            let d : Counts = looked_counts one two x r.counts (buckets_of r.spec) c in
            let here : HasCounts of_look.pieces r.counts d = has.counts_there x r c stands there some_there mounted in
            let (e, other_here, own) = kept.mounted x (record_looked one two three x (word_at image (x + 3)) r) (has.record_there x r stands there) some_there in
            let same_block = one_stands shape image of_look (shown copies image look) r.counts none none _ _
            (subst (λ (n : ℕ). HasCounts of_look.pieces n e) names other_here) here in
            let same : e ≡ d = cc same_block.1 in
            let long : length d.units ≡ buckets_of r.spec = ap (λ (z : Counts). length z.units) (sym same) ∙ own.units in
            ap (λ (n : ℕ). field_at image n (4 + i)) names
            ∙ (count_word shape opened image laid r.counts d i here (omega (arith, below, long))
            ∙ ap (λ (n : ℕ). slice_index (counts_looked two x (n + 4) (buckets_of r.spec)) i) (sym names))

        by_reference : (b : Bool) → (b ≡ false → counts_reference two three x ≢ 0) → (counts_reference two three x == 0) ≡ b
            → count_at image (counts_reference two three x) i
            ≡ (if counts_reference two three x == 0 then 0 else slice_index (counts_looked two x (counts_reference two three x + 4) (buckets_of r.spec)) i)
        by_reference true some_there is =
            ap (λ (b : Bool). if b then 0 else field_at image (counts_reference two three x) (4 + i)) is
            ∙ sym (ap (λ (b : Bool). if b then 0 else slice_index (counts_looked two x (counts_reference two three x + 4) (buckets_of r.spec)) i) is)
        by_reference false some_there is =
            ap (λ (b : Bool). if b then 0 else field_at image (counts_reference two three x) (4 + i)) is
            ∙ (counted (some_there refl)
            ∙ sym (ap (λ (b : Bool). if b then 0 else slice_index (counts_looked two x (counts_reference two three x + 4) (buckets_of r.spec)) i) is))

    -- ---- of a key that a name has

    -- the record of a bucket, and what is held of it: the total that is looked
    pub record OfBucket (name : List ℕ) (kind : Spec) (x i : ℕ) : Type 0 where
      pub r : Record
      pub stands : HasRecord late.anatomy.pieces x r
      pub named : r.name ≡ name
      pub specified : r.spec ≡ kind
      pub its : IsFirst late.anatomy.records r.name r.spec x
      pub inside : i < buckets_of r.spec
      pub holds : units_of_key of_look name (key_of_bucket kind i) ≡ total_looked two x (counts_reference two three x) (buckets_of r.spec) i

    pub of_bucket : (name : List ℕ) (kind : Spec) (x i : ℕ) → IsFirst of_look.records name kind x → i < buckets_of kind → OfBucket name kind x i
    of_bucket name kind x i its below =
        let (q, (stands, called, specified)) = record_of_first shape opened image laid name kind x its in
        let it = has.record_from x q stands in
        let r : Record = it.of in
        let names : r.name ≡ name = ap (λ (z : Record). z.name) (sym it.is) ∙ called in
        let kinds : r.spec ≡ kind = ap (λ (z : Record). z.spec) (sym it.is) ∙ specified in
        let inside : i < buckets_of q.spec = let e = ap buckets_of specified in omega (arith, below, e) in
        let inside_late : i < buckets_of r.spec = let e = ap buckets_of kinds in omega (arith, below, e) in
        let bucketed : q.spec ≢ spec.Sparse = λ sparse. (let none = ap buckets_of sparse in omega (arith, none, inside)) in
        let held = total_held shape opened image laid name kind x q its stands called specified bucketed i inside in
        let total = total_is x i r it.stands it.followed inside_late in
        let held_is : units_of_key of_look name (key_of_bucket kind i) ≡ units_of_key of_look name (key_of_bucket q.spec i) =
        ap (λ (z : Spec). units_of_key of_look name (key_of_bucket z i)) (sym specified) in
        record {
          r = r;
          stands = it.stands;
          named = names;
          specified = kinds;
          its = subst (λ (name : List ℕ). IsFirst late.anatomy.records name r.spec x) (sym names)
              (subst (λ (kind : Spec). IsFirst late.anatomy.records name kind x) (sym kinds) (first_late name kind x its));
          inside = inside_late;
          holds = omega (arith, held, held_is, total);
        }

    -- the sample of a value, and what is held of it: its count
    pub record OfSample (name : List ℕ) (place : ℕ) (key : ℤ) : Type 0 where
      pub s : Sample
      pub stands : HasSample late.anatomy.pieces place s
      pub named : s.name ≡ name
      pub valued : s.value ≡ key
      pub its : IsFirstOf late.anatomy.records s.of s.value place
      pub holds : units_of_key of_look name key ≡ word_at two (place + 6)

    pub of_sample : (name : List ℕ) (x place : ℕ) (key : ℤ) → IsFirst of_look.records name spec.Sparse x → IsFirstOf of_look.records x key place → OfSample name place key
    of_sample name x place key its valued_first =
        let (t, (stands, whose, valued)) = sample_of_first shape opened image laid x key place valued_first in
        let it = has.sample_from place t stands in
        let s : Sample = it.of in
        let named_first : IsFirst of_look.records t.name spec.Sparse x = subst (IsFirst of_look.records t.name spec.Sparse) whose (sample_first shape opened image laid place t stands) in
        let name_is : t.name ≡ name = same_name shape opened image laid t.name name spec.Sparse spec.Sparse x named_first its in
        let mine : IsFirstOf of_look.records t.of t.value place =
        subst (λ (p : ℕ × ℤ). IsFirstOf of_look.records p.0 p.1 place) (λ j. (sym whose j, sym valued j)) valued_first in
        let held = first_held shape opened image laid place t stands mine in
        let s_value : s.value ≡ key = ap (λ (z : Sample). z.value) (sym it.is) ∙ valued in
        let s_of : s.of ≡ x = ap (λ (z : Sample). z.of) (sym it.is) ∙ whose in
        let units : t.units ≡ word_at two (place + 6) = ap (λ (z : Sample). z.units) it.is in
        let held_is : units_of_key of_look name key ≡ units_of_key of_look t.name t.value = (λ j. units_of_key of_look (sym name_is j) (sym valued j)) in
        record {
          s = s;
          stands = it.stands;
          named = ap (λ (z : Sample). z.name) (sym it.is) ∙ name_is;
          valued = s_value;
          its = subst (λ (p : ℕ × ℤ). IsFirstOf late.anatomy.records p.0 p.1 place) (λ j. (sym s_of j, sym s_value j)) (value_late x key place valued_first);
          holds = omega (arith, held, held_is, units);
        }

    abbrev Between : List ℕ → ℤ → Type 0
    Between name key =
        (tally_units (flat_map log_of (at first).actors) name key ≤ units_of_key of_look name key)
        × (units_of_key of_look name key ≤ tally_units (all_counted (at last).actors) name key)

    by_bucket : (name : List ℕ) (kind : Spec) (x i : ℕ) → IsFirst of_look.records name kind x → i < buckets_of kind → Between name (key_of_bucket kind i)
    by_bucket name kind x i its below =
        let o = of_bucket name kind x i its below in
        let holds = o.holds in
        let least = ended copies x i o.r o.stands o.its o.inside in
        let most = counted_most copies x i o.r o.stands o.its o.inside in
        let tally_least : tally_units (flat_map log_of (at first).actors) o.r.name (key_of_bucket o.r.spec i) ≡ tally_units (flat_map log_of (at first).actors) name (key_of_bucket kind i) =
        (λ j. tally_units (flat_map log_of (at first).actors) (o.named j) (key_of_bucket (o.specified j) i)) in
        let tally_most : tally_units (all_counted (at last).actors) o.r.name (key_of_bucket o.r.spec i) ≡ tally_units (all_counted (at last).actors) name (key_of_bucket kind i) =
        (λ j. tally_units (all_counted (at last).actors) (o.named j) (key_of_bucket (o.specified j) i)) in
        (omega (arith, holds, least, tally_least), omega (arith, holds, most, tally_most))

    by_sample : (name : List ℕ) (x place : ℕ) (key : ℤ) → IsFirst of_look.records name spec.Sparse x → IsFirstOf of_look.records x key place → Between name key
    by_sample name x place key its valued_first =
        let o = of_sample name x place key its valued_first in
        let holds = o.holds in
        let (least, most) = values_held copies place o.s o.stands o.its in
        let tally_least : tally_units (flat_map log_of (at first).actors) o.s.name o.s.value ≡ tally_units (flat_map log_of (at first).actors) name key =
        (λ j. tally_units (flat_map log_of (at first).actors) (o.named j) (o.valued j)) in
        let tally_most : tally_units (all_counted (at last).actors) o.s.name o.s.value ≡ tally_units (all_counted (at last).actors) name key =
        (λ j. tally_units (all_counted (at last).actors) (o.named j) (o.valued j)) in
        (omega (arith, holds, least, tally_least), omega (arith, holds, most, tally_most))

    by_key : (name : List ℕ) (key : ℤ) → HasKey of_look.records name key → Between name key
    by_key name key (kind, x, its, inl (bucket, below, is)) = subst (Between name) (sym is) (by_bucket name kind x bucket its below)
    by_key name key (kind, x, its, inr (sparse, place, valued)) =
        by_sample name x place key (subst (λ (kind : Spec). IsFirst of_look.records name kind x) sparse its) valued

    -- ---- of any key

    pub units_ended : (name : List ℕ) (key : ℤ) → tally_units (flat_map log_of (at first).actors) name key ≤ units_of_key of_look name key
    units_ended name key =
        let least = all_ended shape opened (at first) early name key in
        elim (dec_lt 0 (tally_units (all_counted (at first).actors) name key)) [
          | yes more ↦
              let (entry, among, called, keyed, some_units) = tally_at (all_counted (at first).actors) name key more in
              let was : HasKey early.anatomy.records name key = subst (λ (p : List ℕ × ℤ). HasKey early.anatomy.records p.0 p.1) (λ j. (called j, keyed j)) (early.keys entry among some_units) in
              (by_key name key (key_here name key was)).0
          | no nothing ↦ omega (arith, least, nothing)
        ]

    pub units_counted : (name : List ℕ) (key : ℤ) (kind : Spec) (x : ℕ) → IsFirst of_look.records name kind x
        → units_of_key of_look name key ≤ tally_units (all_counted (at last).actors) name key
    units_counted name key kind x its = elim (dec_lt (tally_units (all_counted (at last).actors) name key) (units_of_key of_look name key)) [
      | yes more ↦
          let (q, (stands, called, specified)) = record_of_first shape opened image laid name kind x its in
          let absent : ¬ (HasKey of_look.records q.name key) = λ keyed.
          (let most = (by_key name key (subst (λ (name : List ℕ). HasKey of_look.records name key) called keyed)).1 in omega (arith, most, more)) in
          let nothing = no_units shape opened image laid x q stands kind (subst (λ (name : List ℕ). IsFirst of_look.records name kind x) (sym called) its) specified key absent in
          let same : units_of_key of_look q.name key ≡ units_of_key of_look name key = ap (λ (name : List ℕ). units_of_key of_look name key) called in
          absurd (omega (arith, nothing, same, more))
      | no fewer ↦ omega (arith, fewer)
    ]

    pub units_begun : (name : List ℕ) (key : ℤ) (kind : Spec) (x : ℕ) → IsFirst of_look.records name kind x
        → units_of_key of_look name key ≤ tally_units (flat_map begun_of (at last).actors) name key
    units_begun name key kind x its =
        let counted = units_counted name key kind x its in
        let most = all_begun shape opened (at last) late name key in
        omega (arith, counted, most)
