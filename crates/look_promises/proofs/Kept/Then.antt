-- What a look reads as has at least what had been counted at each moment before the second copy; and just that, if its units are no more
-- than its redundant count.
use Rattle.segment_invariant.proofs.Prelude.Std.{◌≡◌, ℕ, ◌+◌, ◌<◌, ◌≤◌, Bool, true, false, ◌&&◌, if◌then◌else◌, ℤ, List, ◌++◌, length, length-map, inl, inr, refl, sym, ap, subst, ◌∙◌, arith, sum_by, int_eq, All, Contains}
use Rattle.segment_invariant.proofs.Prelude.Machine.{Spec, Entry, head_of, word_at, buckets_of, is_of, tally_units, tally_noted, all_counted, Histogram, Reading}
use Rattle.segment_invariant.proofs.Prelude.Invariant.{Record, Listed, histogram, key_of_bucket, HasKey, HasSample, IsFirst, IsFirstOf, Invariant}
use Rattle.std.proofs.Math.Decide.{dec_lt}
use Rattle.std.proofs.lemmas.List.{length-take-le}
use Rattle.bucket_ranges.specs.Reading.{IsReading}
use Rattle.bucket_ranges.specs.declared.spec.Spec.TheVariants as spec
use Rattle.segment_looks.specs.Looks.{IsLook}
use Rattle.segment_invariant.specs.Invariant.{RecordsAreKept}
use Rattle.segment_invariant.proofs.Consistency.Firsts.{record_of_first}
use Rattle.segment_invariant.proofs.Consistency.Sums.{noted_is}
use Rattle.segment_invariant.proofs.Counting.Whole.{whole_noted}
use Rattle.segment_invariant.proofs.Lists.Tallies.{tally_at}
use Rattle.image_rules.specs.Adoption.{HasNoFault}
use Rattle.segment_invariant.specs.Words.{WordsAreKept}
use Rattle.segment_promises.specs.Reads.{ReadsNames, ReadsBlocks, noted_at_opening, units_read}
use Rattle.segment_promises.proofs.Readings.Blocks.{words_read}
use Rattle.segment_promises.proofs.Readings.Buckets.{units_of_key}
use Rattle.look_promises.specs.OneMoment.{CountsFirst, units_at_opening, all_units_read, ReadingsNoteNoMore, ReadingsTellTheirMoment}
use Rattle.look_promises.proofs.Moments.Runs.{kept_at, rises_at, chain_at}
use Rattle.look_promises.proofs.Looked.Anatomy.{seen_of}
use Rattle.look_promises.proofs.Copies.ThreeCopies.{ThreeCopies, three_copies, seen_in, hd_of}
use Rattle.look_promises.proofs.Copies.Following.{followed}
use Rattle.look_promises.proofs.Moments.Listed.{sample_place, ends_at}
use Rattle.look_promises.proofs.Copies.Named.{one_within}
use Rattle.look_promises.proofs.Amounts.Marks.{from_moment}
use Rattle.look_promises.proofs.Amounts.Calls as calls
use Rattle.look_promises.proofs.Amounts.Values as values
use Rattle.look_promises.proofs.Looked.Bounds.{in_bounds}
use Rattle.look_promises.proofs.Looked.Counting.{first_late, of_bucket, of_sample}
use Rattle.look_promises.proofs.Looked.Reading.{kept}
use Rattle.look_promises.proofs.Kept.Records.{records_kept}
use Rattle.look_promises.proofs.Kept.Views.{view}
use Rattle.look_promises.proofs.Kept.Noted.{first_counted}
use Rattle.look_promises.proofs.Kept.Certificate.{counts_at, opened_with}
use Rattle.look_promises.proofs.Moments.Firsts.{first_on, value_on, take_on, first_then}
use Rattle.look_promises.proofs.Kept.Keys.{held, in_all, same_each, units_named, as_tally}

module _ (copies : ThreeCopies) (image : List ℕ) (look : IsLook (hd_of copies) copies.one copies.two copies.three image) where
  open copies use {run, shape, opened, at, last, moments, one, two, loaded}
  open seen_in copies use {late, records}
  open seen_of copies image look use {of_look, has}

  its_records : RecordsAreKept shape.page of_look
  its_records = records_kept copies image of_look has

  -- ---- a moment before the second copy

  module _ (m : ℕ) (down : m ≤ last) (before : (j : ℕ) → j < shape.size → m ≤ moments.two j) where
    abbrev then_is : Invariant shape opened (at m)
    then_is = kept_at run m

    abbrev from_then : ThreeCopies
    from_then = from_moment copies m before

    -- the records of then are a front of those of the look
    front_then : (more : List Listed) × (of_look.records ≡ then_is.anatomy.records ++ more)
    front_then =
        let (behind, longer) = (rises_at run m last down).records in
        let (n, short, enough, is, each) = followed from_then in
        let many = ap length is in
        let long = length-take-le n (chain_at run last) short in
        let begin = length-map then_is.anatomy.records (λ (l : Listed). l.reference) in
        take_on then_is.anatomy.records late.anatomy.records behind (length records) longer (omega (arith, many, long, enough, begin))

    pub first_here : (name : List ℕ) (kind : Spec) (x : ℕ) → IsFirst then_is.anatomy.records name kind x → IsFirst of_look.records name kind x
    first_here = let (more, all) = front_then in first_on then_is.anatomy.records of_look.records more all

    value_here : (of : ℕ) (value : ℤ) (x : ℕ) → IsFirstOf then_is.anatomy.records of value x → IsFirstOf of_look.records of value x
    value_here = let (more, all) = front_then in value_on then_is.anatomy.records of_look.records more all

    abbrev counted : List ℕ → ℤ → ℕ
    counted name key = tally_units (all_counted (at m).actors) name key

    abbrev IsLeast : List ℕ → ℤ → Type 0
    IsLeast name key = 0 < counted name key → counted name key ≤ units_of_key of_look name key

    by_bucket : (name : List ℕ) (kind : Spec) (x i : ℕ) → IsFirst of_look.records name kind x → i < buckets_of kind → IsLeast name (key_of_bucket kind i)
    by_bucket name kind x i its below more =
        let o = of_bucket copies image look its_records name kind x i its below in
        let holds = o.holds in
        let tally : counted o.r.name (key_of_bucket o.r.spec i) ≡ counted name (key_of_bucket kind i) = (λ j. counted (o.named j) (key_of_bucket (o.specified j) i)) in
        let least = calls.some_counted from_then x i o.r o.stands o.its o.inside (omega (arith, tally, more)) in
        omega (arith, holds, least, tally)

    by_sample : (name : List ℕ) (x place : ℕ) (key : ℤ) → IsFirst of_look.records name spec.Sparse x → IsFirstOf of_look.records x key place → IsLeast name key
    by_sample name x place key its valued_first more =
        let o = of_sample copies image look its_records name x place key its valued_first in
        let holds = o.holds in
        let tally : counted o.s.name o.s.value ≡ counted name key = (λ j. counted (o.named j) (o.valued j)) in
        let (k, within, is) = sample_place run last place o.s o.stands in
        let least : counted o.s.name o.s.value ≤ word_at two (place + 6) =
        subst (λ (x : ℕ). counted o.s.name o.s.value ≤ word_at two (x + 6)) is
        (values.some_counted from_then k within o.s
        (subst (λ (x : ℕ). HasSample late.anatomy.pieces x o.s) (sym is) o.stands) (subst (IsFirstOf late.anatomy.records o.s.of o.s.value) (sym is) o.its)
        (omega (arith, tally, more))) in
        omega (arith, holds, least, tally)

    by_key : (name : List ℕ) (key : ℤ) → HasKey then_is.anatomy.records name key → IsLeast name key
    by_key name key (kind, x, its, inl (bucket, below, is)) = subst (IsLeast name) (sym is) (by_bucket name kind x bucket (first_here name kind x its) below)
    by_key name key (kind, x, its, inr (sparse, place, valued)) =
        by_sample name x place key (subst (λ (kind : Spec). IsFirst of_look.records name kind x) sparse (first_here name kind x its)) (value_here x key place valued)

    -- it has at least what had been counted
    pub counted_least : (name : List ℕ) (key : ℤ) → counted name key ≤ units_of_key of_look name key
    counted_least name key = elim (dec_lt 0 (counted name key)) [
      | yes more ↦
          let (entry, among, called, keyed, some_units) = tally_at (all_counted (at m).actors) name key more in
          let was : HasKey then_is.anatomy.records name key = subst (λ (p : List ℕ × ℤ). HasKey then_is.anatomy.records p.0 p.1) (λ j. (called j, keyed j)) (then_is.keys entry among some_units) in
          by_key name key was more
      | no nothing ↦ omega (arith, nothing)
    ]

  -- ---- if the redundant count is as much

  module _ (counts : All CountsFirst (at 0).actors) (reading : Reading) (is : IsReading image (head_of image) reading) (h : Histogram) (there : Contains reading.hists h)
      (opening : noted_at_opening opened h.name ≤ units_at_opening (at 0).actors h.name) where
    abbrev x : ℕ
    x = h.reference

    abbrev m : ℕ
    m = moments.one (x + 13)

    abbrev whole_kept : WordsAreKept shape opened image
    whole_kept = kept copies image look its_records
        (in_bounds copies image look its_records)

    reads : HasNoFault reading × ReadsNames of_look.records reading × ((h : Histogram) → Contains reading.hists h → ReadsBlocks of_look h)
    reads = words_read shape opened image reading whole_kept is

    -- the redundant count that is read is no more than what had been counted when it was loaded
    pub noted_counted : (x + 13 < shape.size) × (h.redundant ≤ tally_noted (all_counted (at m).actors) h.name)
    noted_counted =
        let blocks = reads.2 h there in
        let (kind, its, same) = reads.1.given h there in
        let (q, (stands, called, specified)) = record_of_first shape opened image whole_kept.laid h.name kind x its in
        let it = has.record_from x q stands in
        let r : Record = it.of in
        let ends = ends_at run last x (histogram r) it.stands in
        let inside : x + 13 < shape.size = omega (arith, ends) in
        let down : m ≤ last = (one_within copies (x + 13) inside).1 in
        let noted : q.noted ≡ word_at one (x + 13) = ap (λ (z : Record). z.noted) it.is in
        let block = noted_is shape opened image whole_kept.laid h.name kind x q its stands called in
        let read = blocks.redundant in
        let named : r.name ≡ h.name = ap (λ (z : Record). z.name) (sym it.is) ∙ called in
        let kinds : r.spec ≡ kind = ap (λ (z : Record). z.spec) (sym it.is) ∙ specified in
        let late_its : IsFirst late.anatomy.records r.name r.spec x =
        subst (λ (name : List ℕ). IsFirst late.anatomy.records name r.spec x) (sym named)
        (subst (λ (kind : Spec). IsFirst late.anatomy.records h.name kind x) (sym kinds) (first_late copies image look h.name kind x its)) in (
          inside,
          elim (view run m last x 13 (word_at one (x + 13)) r down it.stands (omega arith) (omega arith) (loaded.copy_one.each (x + 13) inside)) [
            | inl nothing ↦ omega (arith, nothing, noted, block, read)
            | inr v ↦
                let then_is = kept_at run m in
                let p = v.of in
                let p_name : p.name ≡ r.name = sym (ap (λ (z : Record). z.name) v.goes.is) in
                let p_first = first_then run m last x down p r v.stands late_its p_name in
                let whole = whole_noted shape opened (at m) then_is p.name p.spec x p p_first v.stands refl in
                let begun = then_is.first_noted p.name in
                let counted_all = first_counted shape opened (at m) then_is (counts_at run counts m) p.name in
                let opens = opened_with run counts m p.name in
                let mine : noted_at_opening opened p.name ≤ units_at_opening (at 0).actors p.name =
                subst (λ (name : List ℕ). noted_at_opening opened name ≤ units_at_opening (at 0).actors name) (sym (p_name ∙ named)) opening in
                let tally : tally_noted (all_counted (at m).actors) p.name ≡ tally_noted (all_counted (at m).actors) h.name =
                ap (tally_noted (all_counted (at m).actors)) (p_name ∙ named) in
                let word = v.is in
                omega (arith, whole, begun, counted_all, opens, mine, tally, word, noted, block, read)
          ],
        )

    abbrev weight : Entry → ℕ
    weight = units_named h.name

    abbrev entries : List Entry
    entries = all_counted (at m).actors

    -- it has no less of each key than then
    below : (k : ℤ) → held (λ (e : Entry). e.key) weight entries k ≤ units_read h k
    below k =
        let (inside, noted) = noted_counted in
        let down : m ≤ last = (one_within copies (x + 13) inside).1 in
        let least = counted_least m down (λ j lt. loaded.ordered.second (x + 13) j inside lt) h.name k in
        let units = (reads.2 h there).units k in
        let tally = as_tally h.name entries k in
        omega (arith, least, units, tally)

    -- so its redundant count is no more than its units
    pub notes_no_more : h.redundant ≤ all_units_read h
    notes_no_more =
        let noted = noted_counted.1 in
        let most = in_all (λ (e : Entry). e.key) weight (λ (count : ℤ × ℕ). count.0) (λ (count : ℤ × ℕ). count.1) (length h.counts) entries h.counts (omega arith) below in
        omega (arith, noted, most)

    -- and just what there was, if its units are no more than that
    pub of_then : all_units_read h ≤ h.redundant → (key : ℤ) → units_read h key ≡ tally_units entries h.name key
    of_then few key =
        let noted = noted_counted.1 in
        same_each (λ (e : Entry). e.key) weight (λ (count : ℤ × ℕ). count.0) (λ (count : ℤ × ℕ). count.1) entries h.counts below (omega (arith, noted, few)) key ∙ as_tally h.name entries key

pub readings_tell_their_moment : ReadingsTellTheirMoment
readings_tell_their_moment shape opened at first last moments one two three image reading h key run counts loaded look is there opening few =
    of_then (three_copies shape opened at first last moments one two three run loaded) image look counts reading is h there opening few key

pub readings_note_no_more : ReadingsNoteNoMore
readings_note_no_more shape opened at first last moments one two three image reading h run counts loaded look is there opening =
    notes_no_more (three_copies shape opened at first last moments one two three run loaded) image look counts reading is h there opening
