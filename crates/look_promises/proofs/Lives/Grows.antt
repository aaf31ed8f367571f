-- What is counted of the histograms of one state is counted in another: in a later state of a run, and in a state of another run that has
-- the same words.
use Rattle.segment_invariant.proofs.Prelude.Std.{◌≡◌, ℕ, ◌+◌, ◌<◌, ◌≤◌, ℤ, List, length, inl, inr, refl, sym, ap, subst, ◌∙◌, arith, slice_index}
use Rattle.segment_invariant.proofs.Prelude.Machine.{Dimensions, State, head_of, Reading, Spec, buckets_of, all_counted, all_summed, reading_along, tally_sum, tally_units}
use Rattle.segment_invariant.proofs.Prelude.Invariant.{Anatomy, Record, Sample, layout_of, order_of, key_of_bucket, HasKey, HasRecord, HasSample, IsFirst, IsFirstOf, Invariant}
use Rattle.std.proofs.Math.Decide.{dec_lt}
use Rattle.alloc_core.proofs.Layouts.{length_shown}
use Rattle.bucket_ranges.specs.Reading.{IsReading}
use Rattle.bucket_ranges.specs.Spec.{SameSpec}
use Rattle.bucket_ranges.specs.declared.spec.Spec.TheVariants as spec
use Rattle.segment_invariant.proofs.Consistency.Books.{one_name, sample_first}
use Rattle.segment_invariant.proofs.Consistency.Firsts.{record_of_first, sample_of_first}
use Rattle.segment_invariant.proofs.Frames.LaidOut.{laid_out}
use Rattle.segment_invariant.proofs.Lists.Tallies.{tally_at}
use Rattle.segment_promises.proofs.Readings.Lists.{list_laid}
use Rattle.segment_promises.proofs.Readings.Stopped.{stopped_reads}
use Rattle.look_promises.proofs.Moments.Runs.{Run, kept_at, rises_at, chain_at}
use Rattle.look_promises.proofs.Moments.Firsts.{first_on, value_on}
use Rattle.look_promises.proofs.Moments.Listed.{sample_place}
use Rattle.look_promises.proofs.Copies.ThreeCopies.{ThreeCopies}
use Rattle.look_promises.proofs.Looked.Kinds.{one_kind, same_as, same_back, same_on}
use Rattle.look_promises.proofs.Amounts.Calls as calls
use Rattle.look_promises.proofs.Amounts.Calls.{no_moving}
use Rattle.look_promises.proofs.Amounts.Values as values

-- each histogram of a state is one of another, which has counted no fewer units of each key
abbrev pub Grows : (shape : Dimensions) (opened reopened : Anatomy) (state other : State) → Invariant shape opened state → Invariant shape reopened other → Type 0
Grows shape opened reopened state other was is =
    (name : List ℕ) (kind : Spec) (x : ℕ) → IsFirst was.anatomy.records name kind x
    → ((sort : Spec) × (y : ℕ) × IsFirst is.anatomy.records name sort y × SameSpec kind sort)
    × ((key : ℤ) → tally_units (all_counted state.actors) name key ≤ tally_units (all_counted other.actors) name key)

-- ---- in a run

module _ (run : Run) (m n : ℕ) (le : m ≤ n) where
  open run use {shape, opened, at}

  abbrev early : Invariant shape opened (at m)
  early = kept_at run m

  abbrev late : Invariant shape opened (at n)
  late = kept_at run n

  -- three copies that were loaded at the later moment
  abbrev then_copies : ThreeCopies
  then_copies = record {
    run = run;
    first = m;
    last = n;
    moments = record { one = λ j. n; two = λ j. n; three = λ j. n };
    one = (at n).words;
    two = (at n).words;
    three = (at n).words;
    loaded = record {
      copy_one = record { long = length_shown shape (at n).words (layout_of late.anatomy) late.shown; each = λ j lt. refl };
      copy_two = record { long = length_shown shape (at n).words (layout_of late.anatomy) late.shown; each = λ j lt. refl };
      copy_three = record { long = length_shown shape (at n).words (layout_of late.anatomy) late.shown; each = λ j lt. refl };
      ordered = record { begins = λ j lt. le; second = λ i j li lj. omega arith; third = λ i j li lj. omega arith; ends = λ j lt. omega arith };
    };
  }

  first_later : (name : List ℕ) (kind : Spec) (x : ℕ) → IsFirst early.anatomy.records name kind x → IsFirst late.anatomy.records name kind x
  first_later = let (behind, longer) = (rises_at run m n le).records in first_on early.anatomy.records late.anatomy.records behind longer

  value_later : (of : ℕ) (value : ℤ) (x : ℕ) → IsFirstOf early.anatomy.records of value x → IsFirstOf late.anatomy.records of value x
  value_later = let (behind, longer) = (rises_at run m n le).records in value_on early.anatomy.records late.anatomy.records behind longer

  abbrev before : List ℕ → ℤ → ℕ
  before name key = tally_units (all_counted (at m).actors) name key

  abbrev counted : List ℕ → ℤ → ℕ
  counted name key = tally_units (all_counted (at n).actors) name key

  abbrev IsKept : List ℕ → ℤ → Type 0
  IsKept name key = 0 < before name key → before name key ≤ counted name key

  of_record : (x i : ℕ) (r : Record) → HasRecord late.anatomy.pieces x r → IsFirst late.anatomy.records r.name r.spec x → i < buckets_of r.spec
      → IsKept r.name (key_of_bucket r.spec i)
  of_record x i r stands its below more =
      let least = calls.some_counted then_copies x i r stands its below more in
      let most = calls.counted_most then_copies x i r stands its below in
      omega (arith, least, most)

  by_bucket : (name : List ℕ) (kind : Spec) (x i : ℕ) → IsFirst early.anatomy.records name kind x → i < buckets_of kind → IsKept name (key_of_bucket kind i)
  by_bucket name kind x i its below =
      let later = first_later name kind x its in
      let (r, (stands, called, specified)) = record_of_first shape opened (at n).words (laid_out shape opened (at n) late) name kind x later in
      let mine : IsFirst late.anatomy.records r.name r.spec x =
      subst (λ (p : List ℕ × Spec). IsFirst late.anatomy.records p.0 p.1 x) (λ j. (sym called j, sym specified j)) later in
      subst (λ (p : List ℕ × Spec). IsKept p.0 (key_of_bucket p.1 i)) (λ j. (called j, specified j))
      (of_record x i r stands mine (subst (λ (kind : Spec). i < buckets_of kind) (sym specified) below))

  of_sample : (x : ℕ) (s : Sample) → HasSample late.anatomy.pieces x s → IsFirstOf late.anatomy.records s.of s.value x → IsKept s.name s.value
  of_sample x s stands its more =
      let (k, within, is) = sample_place run n x s stands in
      let here : HasSample late.anatomy.pieces (slice_index (chain_at run n) k) s = subst (λ (x : ℕ). HasSample late.anatomy.pieces x s) (sym is) stands in
      let mine : IsFirstOf late.anatomy.records s.of s.value (slice_index (chain_at run n) k) = subst (IsFirstOf late.anatomy.records s.of s.value) (sym is) its in
      let least = values.some_counted then_copies k within s here mine more in
      let most = (values.values_held then_copies (slice_index (chain_at run n) k) s here mine).1 in
      omega (arith, least, most)

  by_sample : (name : List ℕ) (x place : ℕ) (key : ℤ) → IsFirst early.anatomy.records name spec.Sparse x → IsFirstOf early.anatomy.records x key place → IsKept name key
  by_sample name x place key its valued_first =
      let later = first_later name spec.Sparse x its in
      let valued_later = value_later x key place valued_first in
      let laid = laid_out shape opened (at n) late in
      let (s, (stands, whose, valued)) = sample_of_first shape opened (at n).words laid x key place valued_later in
      let mine : IsFirstOf late.anatomy.records s.of s.value place =
      subst (λ (p : ℕ × ℤ). IsFirstOf late.anatomy.records p.0 p.1 place) (λ j. (sym whose j, sym valued j)) valued_later in
      let called : s.name ≡ name = one_name shape opened (at n) late s.name name spec.Sparse spec.Sparse x
      (subst (λ (of : ℕ). IsFirst late.anatomy.records s.name spec.Sparse of) whose (sample_first shape opened (at n).words laid place s stands)) later in
      subst (λ (p : List ℕ × ℤ). IsKept p.0 p.1) (λ j. (called j, valued j)) (of_sample place s stands mine)

  by_key : (name : List ℕ) (key : ℤ) → HasKey early.anatomy.records name key → IsKept name key
  by_key name key (kind, x, its, inl (bucket, below, is)) = subst (IsKept name) (sym is) (by_bucket name kind x bucket its below)
  by_key name key (kind, x, its, inr (sparse, place, valued)) =
      by_sample name x place key (subst (λ (kind : Spec). IsFirst early.anatomy.records name kind x) sparse its) valued

  -- what is counted stays counted
  pub counted_rises : (name : List ℕ) (key : ℤ) → before name key ≤ counted name key
  counted_rises name key = elim (dec_lt 0 (before name key)) [
    | yes more ↦
        let (entry, among, called, keyed, some_units) = tally_at (all_counted (at m).actors) name key more in
        let was : HasKey early.anatomy.records name key =
        subst (λ (p : List ℕ × ℤ). HasKey early.anatomy.records p.0 p.1) (λ j. (called j, keyed j)) (early.keys entry among some_units) in
        by_key name key was more
    | no nothing ↦ omega (arith, nothing)
  ]

  pub grows_on : Grows shape opened opened (at m) (at n) early late
  grows_on name kind x its = ((kind, x, first_later name kind x its, (refl, refl)), counted_rises name)

-- ---- by the same words

module _ (shape : Dimensions) (opened reopened : Anatomy) (state other : State) (was : Invariant shape opened state) (is : Invariant shape reopened other)
    (two : was.anatomy.version ≡ 2) (two_again : is.anatomy.version ≡ 2) (same : other.words ≡ state.words) where
  -- what is read of the words
  abbrev reading : Reading
  reading = reading_along state.words (head_of state.words) (order_of was.anatomy)

  reads : IsReading state.words (head_of state.words) reading
  reads = (order_of was.anatomy, list_laid shape opened state.words (laid_out shape opened state was), refl)

  reads_again : IsReading other.words (head_of other.words) reading
  reads_again = subst (λ (words : List ℕ). IsReading words (head_of words) reading) (sym same) reads

  pub grows_over : Grows shape opened reopened state other was is
  grows_over name kind x its =
      let before = stopped_reads shape opened state reading was reads in
      let after = stopped_reads shape reopened other reading is reads_again in
      let (h, among, named) = before.2.read name kind x its in
      let (first, its_first, same_first) = before.2.given h among in
      let one = one_kind _ name h.name kind first x h.reference named its its_first in
      let (sort, its_again, alike) = after.2.given h among in (
        (
          sort,
          h.reference,
          subst (λ (name : List ℕ). IsFirst is.anatomy.records name sort h.reference) named its_again,
          same_on kind h.spec sort (same_back h.spec kind (same_as h.spec first kind same_first (sym one))) alike,
        ),
        λ key.
            let units = (before.3 h among).0.counted key in
            let units_again = (after.3 h among).0.counted key in
            let still = no_moving shape opened state was two h.name key in
            let still_again = no_moving shape reopened other is two_again h.name key in
            subst (λ (name : List ℕ). tally_units (all_counted state.actors) name key ≤ tally_units (all_counted other.actors) name key) named
            (omega (arith, units, units_again, still, still_again)),
      )

  -- and with the same sum
  pub same_sums : (name : List ℕ) (kind : Spec) (x : ℕ) → IsFirst was.anatomy.records name kind x
      → tally_sum (all_summed state.actors) name ≡ tally_sum (all_summed other.actors) name
  same_sums name kind x its =
      let before = stopped_reads shape opened state reading was reads in
      let after = stopped_reads shape reopened other reading is reads_again in
      let (h, among, named) = before.2.read name kind x its in
      subst (λ (name : List ℕ). tally_sum (all_summed state.actors) name ≡ tally_sum (all_summed other.actors) name) named
      (sym (before.3 h among).1.sum ∙ (after.3 h among).1.sum)

-- ---- one after the other

pub grows_again : (shape : Dimensions) (opened reopened again : Anatomy) (state mid other : State) (was : Invariant shape opened state)
    (between : Invariant shape reopened mid) (is : Invariant shape again other)
    → Grows shape opened reopened state mid was between → Grows shape reopened again mid other between is → Grows shape opened again state other was is
grows_again shape opened reopened again state mid other was between is first second name kind x its =
    let ((sort, y, there, same), more) = first name kind x its in
    let ((last, z, beyond, alike), most) = second name sort y there in (
      (last, z, beyond, same_on kind sort last same alike),
      λ key. let least = more key in
          let rest = most key in omega (arith, least, rest),
    )
