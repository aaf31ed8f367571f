-- Which histograms are read of words that are kept: of each name that is on the list the first record, with the spec that its maker was
-- given.
use Rattle.segment_invariant.proofs.Prelude.Std.{inl, inr, ◌≡◌, ℕ, List, map, sym, ap, subst, ◌∙◌, None, Contains, get_elem?, from_map, contains_map, contains_mapped}
use Rattle.segment_invariant.proofs.Prelude.Machine.{Dimensions, head_of, field_at, Spec, SameSpec, spec_of, name_of, record_fault, Histogram, Reading}
use Rattle.segment_invariant.proofs.Prelude.Invariant.{Anatomy, order_of, IsFirst}
use Rattle.bucket_ranges.specs.Reading.{read_records, lawful_samples, histogram_of, IsReading}
use Rattle.segment_invariant.specs.Words.{WordsAreKept}
use Rattle.segment_invariant.proofs.Consistency.Firsts.{record_on_list, first_of_name, name_of_first}
use Rattle.segment_invariant.proofs.Consistency.Specs.{record_spec, same_spelled}
use Rattle.segment_promises.specs.Reads.{ReadsNames}
use Rattle.segment_promises.proofs.Readings.Lists.{read_along}
use Rattle.segment_promises.proofs.Readings.RecordFaults.{no_record_fault, no_passed_fault}
use Rattle.segment_promises.proofs.Readings.Firsts.{read_from, read_to, read_once}

module _ (shape : Dimensions) (opened : Anatomy) (words : List ℕ) (kept : WordsAreKept shape opened words) where
  -- no histogram on the list has a fault
  pub no_listed_fault : (at : ℕ) → Contains (order_of kept.laid.anatomy) at → field_at words at 2 ≡ 1
      → record_fault words (head_of words) at ≡ None
  no_listed_fault at there one =
      elim (record_on_list shape opened words kept.laid at there one) [
        | inl (l, name, kind, r, among, place, made, (has, named, specified)) ↦ no_record_fault shape opened words kept at r has
        | inr (l, front, r, among, nothing, over) ↦ no_passed_fault shape opened words kept.laid front at r over.0
      ]

  module _ (reading : Reading) (is : IsReading words (head_of words) reading) where
    abbrev pub reads : List ℕ
    reads = read_records words (head_of words) (order_of kept.laid.anatomy)

    abbrev pub histogram : ℕ → Histogram
    histogram = histogram_of (head_of words).version words (lawful_samples words (head_of words) (order_of kept.laid.anatomy))

    pub hists_are : reading.hists ≡ map histogram reads
    hists_are = ap (λ (r : Reading). r.hists) (read_along shape opened words kept.laid reading is)

    -- a histogram that is read is that of the first record of its name
    pub read_first : (h : Histogram) → Contains reading.hists h
        → (kind : Spec) × (at : ℕ) × (histogram at ≡ h) × IsFirst kept.laid.anatomy.records (name_of words at) kind at × SameSpec (spec_of words at) kind
    read_first h there =
        let (at, among, made) = contains_mapped histogram reads h (subst (λ (l : List Histogram). Contains l h) hists_are there) in
        let (kind, r, first, (has, named, specified)) = first_of_name shape opened words kept.laid (name_of words at) at
        (read_from words (head_of words) (order_of kept.laid.anatomy) no_listed_fault at among) in
        let spelled = record_spec shape words kept.laid.anatomy kept.laid.shown kept.laid.anatomy.version at r has (kept.laid.records.lawful at r has) in
        let same : SameSpec (spec_of words at) r.spec = subst (λ (s : Spec). SameSpec s r.spec) (sym spelled) (same_spelled r.spec) in
        (kind, at, made, first, subst (SameSpec (spec_of words at)) specified same)

    pub reads_names : ReadsNames kept.laid.anatomy.records reading
    reads_names = record {
      given = λ h there.
          let (kind, at, made, first, same) = read_first h there in (
            kind,
            subst (λ (h : Histogram). IsFirst kept.laid.anatomy.records h.name kind h.reference) made first,
            subst (λ (h : Histogram). SameSpec h.spec kind) made same,
          );
      read = λ name kind at first.
          let is_first = name_of_first shape opened words kept.laid name kind at first in
          let among = contains_map histogram reads at (read_to words (head_of words) (order_of kept.laid.anatomy) no_listed_fault name at is_first) in
          (histogram at, subst (λ (l : List Histogram). Contains l (histogram at)) (sym hists_are) among, is_first.4.1);
      once = λ i j g h here there same.
          let (x, at, from) = from_map histogram reads i g (ap (λ (l : List Histogram). get_elem? l i) (sym hists_are) ∙ here) in
          let (y, place, other) = from_map histogram reads j h (ap (λ (l : List Histogram). get_elem? l j) (sym hists_are) ∙ there) in
          read_once words (head_of words) (order_of kept.laid.anatomy) no_listed_fault i j x y at place
          (ap (λ (h : Histogram). h.name) from ∙ (same ∙ sym (ap (λ (h : Histogram). h.name) other)));
    }
