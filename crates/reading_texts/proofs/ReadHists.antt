-- What is known of the histograms of words that were read: their names differ, and the values of a sparse one ascend.
use Rattle.std.proofs.Common.{◌≡◌, ◌∙◌, ap, sym, subst, refl, ℕ, ◌<◌, ◌^◌, Bool, true, false, not, ◌==◌, List, [], ◌∷◌, map, get_or, arith, All, ℤ, pos, negsuc, None, Ordering, Less, int_cmp, filter}
use Rattle.std.specs.Prelude.{if◌then◌else◌}
use Rattle.std.specs.Int.Signed.{mag}
use Rattle.std.specs.List.{AllPairs, IsDistinct, fold}
use Rattle.std.specs.List.Sorted.{IsPermutation}
use Rattle.std.specs.BTreeSet.{insert_key}
use Rattle.std.specs.Str.{bytes_eq}
use Rattle.std.specs.Cmp.Lexicographic.{nat_list_eq_equiv}
use Rattle.std.proofs.lemmas.Bool.{and_parts, or_parts, not-true, not-false, ltb-true}
use Rattle.std.proofs.lemmas.List.Elements.{All-filter, All-map, All-tail, filter_passes}
use Rattle.std.proofs.lemmas.List.Sorted.{All-permutation, IsPermutation-sym}
use Rattle.std.proofs.lemmas.Map.Keys.{Less-from_sorted, IsDistinct-IsPermutation, IsDistinct-from_apart, apart_from_distinct}
use Rattle.std.proofs.lemmas.Map.Views.{All-insert_key}
use Rattle.segment_image.specs.Blocks.{field_at}
use Rattle.segment_image.specs.declared.head.SegmentHead.{SegmentHead}
use Rattle.bucket_ranges.specs.declared.spec.Spec.{Spec}
use Rattle.bucket_ranges.specs.declared.spec.Spec.TheVariants.{Linear, Boolean, Custom, Sparse}
use Rattle.bucket_ranges.specs.declared.reading.RecordFault.TheVariants.{BadName}
use Rattle.bucket_ranges.specs.Record as record_words
use Rattle.bucket_ranges.specs.Reading.{Histogram, Reading, IsReading, histogram_of, read_records, lawful_records, lawful_samples, with_earlier, is_sample, is_bad_sample, same_name, name_of, is_name, has_name, record_fault, record_checks, first_samples, sample_counts, sample_value, sample_count, bucket_counts, is_i32, by_value}
use Rattle.bucket_ranges.proofs.FirstSamples.{first_samples-ascend}
use Rattle.image_reader.proofs.Lawful.{all_pass, read_records-lawful}
use Rattle.reading_texts.specs.Exporting.{is_sparse}
use Rattle.reading_texts.specs.Rows.{AreSortedByName}
use Rattle.reading_texts.proofs.Pairs.{AllPairs-map, AllPairs-weaker, first_of_each-differ}
use Rattle.reading_texts.proofs.LabelSets.{bytes_eq-same}

-- ---- names

-- the name of a record without a fault is one
named : (words : List ℕ) (head : SegmentHead) (reference : ℕ) → record_fault words head reference ≡ None → is_name (name_of words reference) ≡ true
named words head reference e =
    let passes = all_pass (record_checks words head reference) e in
    let has : not (has_name words reference) ≡ false = passes 1 (false, BadName) (omega arith) in
    (and_parts _ (is_name (name_of words reference)) (not-false (has_name words reference) has)).1

-- two histograms have two names
abbrev pub HaveTwoNames : Histogram → Histogram → Type 0
HaveTwoNames a b = bytes_eq a.name b.name ≡ false

pub two_names : (a b : Histogram) → HaveTwoNames a b → a.name ≡ b.name → ⊥
two_names a b differ same = let one : bytes_eq a.name b.name ≡ true = bytes_eq-same a.name b.name same in cc

-- ---- values

-- the values of a sparse histogram ascend, and are those of an `i32`
pub record HasValues (counts : List (ℤ × ℕ)) : Type 0 where
  pub ascend : AllPairs (λ a b. int_cmp a.0 b.0 ≡ Less) counts
  pub small : All (λ count. is_i32 count.0 ≡ true) counts

pub small-mag : (z : ℤ) → is_i32 z ≡ true → mag z < 2 ^ 63
small-mag (pos n) e = let below : n < 2147483648 = ltb-true n 2147483648 e in omega arith
small-mag (negsuc n) e = let below : n < 2147483648 = ltb-true n 2147483648 e in omega arith

sample_i32 : (words : List ℕ) (head : SegmentHead) (placed : List ℕ × ℕ) → is_sample words head placed ≡ true
    → is_i32 (sample_value words placed.1) ≡ true
sample_i32 words head placed e =
    let good : is_bad_sample words head placed.0 placed.1 ≡ false = not-true _ (and_parts _ _ e).1 in
    not-false _ (or_parts _ _ (or_parts _ _ (or_parts _ _ (or_parts _ _ good).0).0).0).1

lawful_samples-i32 : (words : List ℕ) (head : SegmentHead) (references : List ℕ)
    → All (λ sample. is_i32 (sample_value words sample) ≡ true) (lawful_samples words head references)
lawful_samples-i32 words head references =
    let lawful : List (List ℕ × ℕ) = filter (is_sample words head) (with_earlier references) in
    All-map (λ sample. is_i32 (sample_value words sample) ≡ true) (λ (placed : List ℕ × ℕ). placed.1) lawful
    (λ k d h. sample_i32 words head (get_or lawful k d) (filter_passes (is_sample words head) (with_earlier references) k d h))

-- what holds of each holds of those put in order
in-order : (cmp : ℕ → ℕ → Ordering) (P : ℕ → Type 0) (samples keys : List ℕ) → All P keys → All P samples → All P (fold (insert_key cmp) keys samples)
in-order cmp P [] keys all more = all
in-order cmp P (sample ∷ rest) keys all more =
    in-order cmp P rest (insert_key cmp keys sample) (All-insert_key cmp sample P keys all (more 0 sample (omega arith))) (All-tail P sample rest more)

sampled-values : (words samples : List ℕ) (reference : ℕ) → All (λ sample. is_i32 (sample_value words sample) ≡ true) samples
    → HasValues (sample_counts words (first_samples words samples reference))
sampled-values words samples reference small =
    let firsts : List ℕ = first_samples words samples reference in
    let count : ℕ → ℤ × ℕ = λ sample. (sample_value words sample, sample_count words sample) in
    let P : ℕ → Type 0 = λ sample. is_i32 (sample_value words sample) ≡ true in
    record {
      ascend = AllPairs-map (λ a b. int_cmp a.0 b.0 ≡ Less) count firsts
          (λ i j d below within. Less-from_sorted (by_value words) firsts i j d (first_samples-ascend words samples reference) below within);
      small = All-map (λ (c : ℤ × ℕ). is_i32 c.0 ≡ true) count firsts
          (in-order (by_value words) P (filter (λ sample. field_at words sample 4 == reference) samples) []
          (λ k d h. absurd (omega (arith, h))) (All-filter (λ sample. field_at words sample 4 == reference) P samples small));
    }

not-sparse : (custom boolean : Bool) (inner : List ℕ) (min max n : ℕ)
    → is_sparse (if custom then Custom inner else (if boolean then Boolean else Linear min max n)) ≡ false
not-sparse true boolean inner min max n = refl
not-sparse false true inner min max n = refl
not-sparse false false inner min max n = refl

of-sparse : (sparse : Bool) (other : Spec) (sampled bucketed : List (ℤ × ℕ)) → is_sparse other ≡ false → HasValues sampled
    → is_sparse (if sparse then Sparse else other) ≡ true → HasValues (if sparse then sampled else bucketed)
of-sparse true other sampled bucketed ranged values e = values
of-sparse false other sampled bucketed ranged values e = absurd (cc)

-- a sparse histogram has such values
abbrev pub HasValuesIfSparse : Histogram → Type 0
HasValuesIfSparse hist = is_sparse hist.spec ≡ true → HasValues hist.counts

values_of : (version : ℕ) (words samples : List ℕ) (reference : ℕ) → All (λ sample. is_i32 (sample_value words sample) ≡ true) samples
    → HasValuesIfSparse (histogram_of version words samples reference)
values_of version words samples reference small =
    let kind = field_at words reference 4 in
    of-sparse (kind == 4) _ (sample_counts words (first_samples words samples reference)) (bucket_counts version words reference)
    (not-sparse (kind == 3) (kind == 2) (record_words.inner_ranges words reference) (field_at words reference 5) (field_at words reference 6) (field_at words reference 7))
    (sampled-values words samples reference small)

-- ---- readings

-- histograms that words may read as
pub record AreRead (hists : List Histogram) : Type 0 where
  pub names : All (λ hist. is_name hist.name ≡ true) hists
  pub differ : AllPairs HaveTwoNames hists
  pub values : All HasValuesIfSparse hists

read-step : (words : List ℕ) (head : SegmentHead) (references : List ℕ) (hists : List Histogram)
    → hists ≡ map (histogram_of head.version words (lawful_samples words head references)) (read_records words head references) → AreRead hists
read-step words head references hists e =
    let made : ℕ → Histogram = histogram_of head.version words (lawful_samples words head references) in
    let records : List ℕ = read_records words head references in
    let lawful = read_records-lawful words head references in
    subst AreRead (sym e)
    record {
      names = All-map (λ hist. is_name hist.name ≡ true) made records (λ k d h. named words head (get_or records k d) (lawful k d h));
      differ = AllPairs-map HaveTwoNames made records
          (AllPairs-weaker (λ a b. same_name words a b ≡ false) (λ a b. HaveTwoNames (made a) (made b)) records
          (λ a b apart. nat_list_eq_equiv.symm (name_of words a) (name_of words b) ∙ apart)
          (first_of_each-differ (same_name words) (lawful_records words head references)));
      values = All-map HasValuesIfSparse made records
          (λ k d h. values_of head.version words (lawful_samples words head references) (get_or records k d) (lawful_samples-i32 words head references));
    }

pub AreRead-from : (words : List ℕ) (head : SegmentHead) (reading : Reading) → IsReading words head reading → AreRead reading.hists
AreRead-from words head reading is = read-step words head is.0 reading.hists (ap (λ (r : Reading). r.hists) is.2)

-- in whichever order
pub AreRead-sorted : (hists : List Histogram) (reading : Reading) → AreSortedByName hists reading → AreRead reading.hists → AreRead hists
AreRead-sorted hists reading sorted read =
    let moved : IsPermutation reading.hists hists = IsPermutation-sym hists reading.hists sorted.same in
    let test : Histogram → Histogram → Bool = λ a b. bytes_eq a.name b.name in
    let apart : IsDistinct test reading.hists = IsDistinct-from_apart test reading.hists read.differ in
    let still : IsDistinct test hists =
    IsDistinct-IsPermutation test (λ x y. nat_list_eq_equiv.symm x.name y.name) reading.hists hists moved apart in
    record {
      names = All-permutation (λ hist. is_name hist.name ≡ true) reading.hists hists moved read.names;
      differ = λ i j d below within. apart_from_distinct test hists i j d still below within;
      values = All-permutation HasValuesIfSparse reading.hists hists moved read.values;
    }
