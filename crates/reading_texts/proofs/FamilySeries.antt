-- The lines of families named after histograms are of series of their own.
use Rattle.std.proofs.Common.{◌≡◌, ◌∙◌, ◌⊎◌, ap, sym, subst, refl, inl, inr, ⊎_elim, ℕ, ◌<◌, Bool, true, false, not, ◌&&◌, ◌||◌, List, [], ◌∷◌, ◌++◌, append_assoc, reverse, length, get_or, map, filter, arith, All, Option, Some, None}
use Rattle.std.specs.Prelude.{codes, if◌then◌else◌}
use Rattle.std.specs.Fmt.{decimal, signed_decimal}
use Rattle.std.specs.List.{AllPairs, Contains, flat_map}
use Rattle.std.specs.Str.{bytes_eq}
use Rattle.std.proofs.lemmas.Bool.{or_parts, cases_order}
use Rattle.std.proofs.lemmas.Slice.Eq.{bytes_eq-Decides}
use Rattle.std.proofs.lemmas.List.{append_cancel_left, append_cancel_right, append-nil, reverse-append}
use Rattle.std.proofs.lemmas.List.Concat.{flat_map-append}
use Rattle.std.proofs.lemmas.List.Elements.{All-append, All-cons, All-contains_itself, All-filter, All-map, All-weaker, All-from_get_or, filter_passes}
use Rattle.std.proofs.lemmas.List.Kept.{AllPairs-cons, AllPairs-filter}
use Rattle.bucket_ranges.specs.declared.spec.Spec.{Spec}
use Rattle.bucket_ranges.specs.declared.spec.Spec.TheVariants.{Linear, Boolean, Custom, Sparse}
use Rattle.bucket_ranges.specs.Reading.{Histogram, Reading, first_of_each}
use Rattle.image_reader.specs.Readable.{IsReadable}
use Rattle.image_reader.proofs.Lawful.{All-first_of_each}
use Rattle.reading_texts.specs.Rows.{units_of, rows_of}
use Rattle.reading_texts.specs.Text.{kind_word}
use Rattle.reading_texts.specs.Labels.{text_of_name, own_labels, are_line_labels}
use Rattle.reading_texts.specs.Exporting.{MetricSample, MetricFamily, bucket_sample, infinite_sample, total_sample, total_samples, value_sample, is_sparse, bad_family, flag_family, bad_records, flag_sample}
use Rattle.reading_texts.specs.Families.{FamilyMember, member_of, labels_in_family, led_label_text, same_family, same_kind, is_part_of, clashes, is_of_segment, clash_among, clash_of, or_else, first_clash, metric_of, units_in_family, values_in_family, sum_in_family, ranged_family, value_family, sum_family, families_with, families_by_name}
use Rattle.reading_texts.specs.Series.{HasEachSeriesOnce, all_samples}
use Rattle.reading_texts.proofs.FamilyTexts.{IsMember, are_members, readable_members}
use Rattle.reading_texts.proofs.Rendered.{flat_map-twice}
use Rattle.reading_texts.proofs.Pairs.{AllPairs-append, AllPairs-flat_map, AllPairs-first_of_each, AllPairs-nil, AllPairs-with, AllBetween, AllBetween-of, All-flat_map, first_of_each-differ}
use Rattle.reading_texts.proofs.LabelSets.{KeyAndValue, HasKeptKey, bytes_eq-same}
use Rattle.reading_texts.proofs.ReadHists.{AreRead, HasValuesIfSparse}
use Rattle.reading_texts.proofs.RowLabels.{EndsTell, HasLabelsOf, IsOfLine, all-of_line, ends_tell, own-of_series}
use Rattle.reading_texts.proofs.RowSeries.{AreApart, sum-labels, units_lines, units-labels, units-once, values-labels, values-once}
use Rattle.reading_texts.proofs.ExportSeries.{segment_lines, segment-once}

-- ---- what no clash says

-- two members that do not clash
pub record AreSideBySide (a b : FamilyMember) : Type 0 where
  pub labels : same_family a b ≡ true → bytes_eq a.labels b.labels ≡ false
  pub kind : same_family a b ≡ true → same_kind a b ≡ true
  pub first : is_part_of a.family b.family ≡ false
  pub second : is_part_of b.family a.family ≡ false

inner-step : (family kind labels : Bool) → (family && (not kind || labels)) ≡ false → family ≡ true → (kind ≡ true) × (labels ≡ false)
inner-step true true false e f = (refl, refl)
inner-step true true true e f = absurd (cc)
inner-step true false labels e f = absurd (cc)
inner-step false kind labels e f = absurd (cc)

side_by_side : (a b : FamilyMember) → clashes a b ≡ false → AreSideBySide a b
side_by_side a b e =
    let outer = or_parts _ (is_part_of b.family a.family) e in
    let inner = or_parts _ (is_part_of a.family b.family) outer.0 in
    record {
      labels = λ same. (inner-step (same_family a b) (same_kind a b) (bytes_eq a.labels b.labels) inner.0 same).1;
      kind = λ same. (inner-step (same_family a b) (same_kind a b) (bytes_eq a.labels b.labels) inner.0 same).0;
      first = inner.1;
      second = outer.1;
    }

no_choice : {X : Type 0} (b : Bool) (x : X) (rest : Option X) → (if b then Some x else rest) ≡ None → (b ≡ false) × (rest ≡ None)
no_choice true x rest e = absurd (cc)
no_choice false x rest e = (refl, e)

neither : {X : Type 0} (a b : Option X) → or_else a b ≡ None → (a ≡ None) × (b ≡ None)
neither None b e = (refl, e)
neither (Some x) b e = absurd (cc)

none-among : (one : FamilyMember) (more : List FamilyMember) → clash_among one more ≡ None → All (AreSideBySide one) more
none-among one [] e = λ k d h. absurd (omega (arith, h))
none-among one (other ∷ more) e =
    let parts = no_choice (clashes one other) (one.hist.name, other.hist.name) (clash_among one more) e in
    All-cons (AreSideBySide one) other more (side_by_side one other parts.0) (none-among one more parts.1)

pub none_clash : (members : List FamilyMember) → first_clash members ≡ None → AllPairs AreSideBySide members
none_clash [] e = AllPairs-nil AreSideBySide
none_clash (one ∷ more) e =
    let parts = neither (clash_of one more) (first_clash more) e in
    let here = no_choice (is_of_segment one.family) (one.hist.name, one.family) (clash_among one more) parts.0 in
    AllPairs-cons AreSideBySide one more (none-among one more here.1) (none_clash more parts.1)

pub none_of_segment : (members : List FamilyMember) → first_clash members ≡ None → All (λ member. is_of_segment member.family ≡ false) members
none_of_segment [] e = λ k d h. absurd (omega (arith, h))
none_of_segment (one ∷ more) e =
    let parts = neither (clash_of one more) (first_clash more) e in
    let here = no_choice (is_of_segment one.family) (one.hist.name, one.family) (clash_among one more) parts.0 in
    All-cons (λ member. is_of_segment member.family ≡ false) one more here.0 (none_of_segment more parts.1)

-- ---- members of one family

same-family : (a b c : FamilyMember) → same_family a b ≡ true → same_family a c ≡ true → same_family b c ≡ true
same-family a b c first second =
    bytes_eq-same b.family c.family (sym ((bytes_eq-Decides a.family b.family).0 first) ∙ (bytes_eq-Decides a.family c.family).0 second)

-- their lines have other labels
two-members : (line_labels : List KeyAndValue) (a b : FamilyMember) (u v : MetricSample) → IsMember line_labels a → IsMember line_labels b
    → bytes_eq a.labels b.labels ≡ false → HasLabelsOf (labels_in_family line_labels a.hist) u → HasLabelsOf (labels_in_family line_labels b.hist) v
    → AreApart u v
two-members line_labels a b u v is_a is_b differ of_u of_v one =
    let none : All HasKeptKey [] = λ k d h. absurd (omega (arith, h)) in
    let own : own_labels line_labels (text_of_name a.hist.name) ≡ own_labels line_labels (text_of_name b.hist.name) =
    own-of_series line_labels [] [] (text_of_name a.hist.name) (text_of_name b.hist.name) u v none none of_u of_v one in
    let texts : a.labels ≡ b.labels = is_a ∙ ap (λ labels. flat_map led_label_text (labels ++ line_labels)) own ∙ sym is_b in
    let same : bytes_eq a.labels b.labels ≡ true = bytes_eq-same a.labels b.labels texts in
    cc

-- the lines of the members of a family are apart, if those of each are
group-once : (line_labels : List KeyAndValue) (one : FamilyMember) (members : List FamilyMember) (samples : FamilyMember → List MetricSample)
    → All (IsMember line_labels) members → AllPairs AreSideBySide members
    → ((member : FamilyMember) → All (HasLabelsOf (labels_in_family line_labels member.hist)) (samples member))
    → All (λ member. HasEachSeriesOnce (samples member)) (filter (same_family one) members)
    → HasEachSeriesOnce (flat_map samples (filter (same_family one) members))
group-once line_labels one members samples are apart labels own =
    let group : List FamilyMember = filter (same_family one) members in
    let P : FamilyMember → Type 0 = λ member. IsMember line_labels member × (same_family one member ≡ true) in
    let each : All P group =
    λ k d h. (All-filter (same_family one) (IsMember line_labels) members are k d h, filter_passes (same_family one) members k d h) in
    AllPairs-flat_map AreApart samples group own
    (AllPairs-with P AreSideBySide (λ a b. AllBetween AreApart (samples a) (samples b)) group
    (λ a b p q beside.
    AllBetween-of (HasLabelsOf (labels_in_family line_labels a.hist)) (HasLabelsOf (labels_in_family line_labels b.hist)) AreApart (samples a) (samples b)
    (λ u v of_u of_v. two-members line_labels a b u v p.0 q.0 (beside.labels (same-family one a b p.1 q.1)) of_u of_v) (labels a) (labels b))
    each (AllPairs-filter AreSideBySide (same_family one) members apart))

-- ---- kinds

one-kind : (a b : Spec) → bytes_eq (kind_word a) (kind_word b) ≡ true → is_sparse a ≡ true → is_sparse b ≡ true
one-kind Sparse Sparse e s = refl
one-kind Sparse (Linear min max n) e s = absurd (cc)
one-kind Sparse Boolean e s = absurd (cc)
one-kind Sparse (Custom values) e s = absurd (cc)
one-kind (Linear min max n) b e s = absurd (cc)
one-kind Boolean b e s = absurd (cc)
one-kind (Custom values) b e s = absurd (cc)

kind_symm : (a b : FamilyMember) → same_kind a b ≡ true → same_kind b a ≡ true
kind_symm a b e = bytes_eq-same (kind_word b.hist.spec) (kind_word a.hist.spec) (sym ((bytes_eq-Decides (kind_word a.hist.spec) (kind_word b.hist.spec)).0 e))

-- two of the members are the same, or one is before the other
beside-some : {X : Type 0} (R : X → X → Type 0) (xs : List X) (i j : ℕ) (d : X) → AllPairs R xs → i < length xs → j < length xs
    → (get_or xs i d ≡ get_or xs j d) ⊎ (R (get_or xs i d) (get_or xs j d) ⊎ R (get_or xs j d) (get_or xs i d))
beside-some R xs i j d all within inside = elim (cases_order i j) [
  | inl e ↦ inl (ap (λ k. get_or xs k d) e)
  | inr o ↦ elim o [ inl before ↦ inr (inl (all i j d before inside)) | inr behind ↦ inr (inr (all j i d behind within)) ]
]

-- all members of a sparse one's family are sparse
sparse-group : (members : List FamilyMember) (one : FamilyMember) → AllPairs AreSideBySide members → Contains members one → is_sparse one.hist.spec ≡ true
    → All (λ member. is_sparse member.hist.spec ≡ true) (filter (same_family one) members)
sparse-group members one apart there sparse =
    let P : FamilyMember → Type 0 = λ member. same_family one member ≡ true → is_sparse member.hist.spec ≡ true in
    let all : All P members =
    All-from_get_or P members one (λ j within same.
    let other : FamilyMember = get_or members j one in
    let kind : same_kind one other ≡ true → is_sparse other.hist.spec ≡ true = λ e. one-kind one.hist.spec other.hist.spec e sparse in
    ⊎_elim (λ is. subst (λ (m : FamilyMember). is_sparse m.hist.spec ≡ true) (sym there.2 ∙ is) sparse)
    (λ beside.
    ⊎_elim
    (λ before. kind ((subst (λ (m : FamilyMember). AreSideBySide m other) there.2 before).kind same))
    (λ behind.
    kind (kind_symm other one ((subst (λ (m : FamilyMember). AreSideBySide other m) there.2 behind).kind
    (bytes_eq-same other.family one.family (sym ((bytes_eq-Decides one.family other.family).0 same))))))
    beside)
    (beside-some AreSideBySide members there.0 j one apart there.1 within)) in
    let group : List FamilyMember = filter (same_family one) members in
    λ k d h. All-filter (same_family one) P members all k d h (filter_passes (same_family one) members k d h)

-- ---- the lines of a family

-- what members need so that each one's lines are apart
pub record AreGood (line_labels : List KeyAndValue) (members : List FamilyMember) : Type 0 where
  pub line : All IsOfLine line_labels
  pub members_are : All (IsMember line_labels) members
  pub apart : AllPairs AreSideBySide members
  pub readable : All (λ member. IsReadable member.hist) members
  pub values : All (λ member. HasValuesIfSparse member.hist) members

family-tells : (line_labels : List KeyAndValue) (hist : Histogram) → All IsOfLine line_labels → EndsTell (labels_in_family line_labels hist)
family-tells line_labels hist line = ends_tell [] line_labels (text_of_name hist.name) (λ k d h. absurd (omega (arith, h))) line

units-step : (name : List ℕ) (line_labels : List KeyAndValue) (hist : Histogram) (sparse : Bool) → is_sparse hist.spec ≡ sparse → IsReadable hist
    → All IsOfLine line_labels → HasEachSeriesOnce (if sparse then [] else units_lines name (labels_in_family line_labels hist) hist)
units-step name line_labels hist true e readable line = AllPairs-nil AreApart
units-step name line_labels hist false e readable line =
    units-once name (labels_in_family line_labels hist) hist readable e (family-tells line_labels hist line)

none-if : (P : MetricSample → Type 0) (none : Bool) (lines : List MetricSample) → All P lines → All P (if none then [] else lines)
none-if P true lines all = λ k d h. absurd (omega (arith, h))
none-if P false lines all = all

ranged-once : (name : List ℕ) (line_labels : List KeyAndValue) (members : List FamilyMember) (one : FamilyMember) → AreGood line_labels members
    → HasEachSeriesOnce (flat_map (units_in_family name line_labels) (filter (same_family one) members))
ranged-once name line_labels members one good =
    group-once line_labels one members (units_in_family name line_labels) good.members_are good.apart
    (λ member.
    none-if (HasLabelsOf (labels_in_family line_labels member.hist)) (is_sparse member.hist.spec) (units_lines name (labels_in_family line_labels member.hist) member.hist)
    (units-labels name (labels_in_family line_labels member.hist) member.hist))
    (λ k d h.
    let member : FamilyMember = get_or (filter (same_family one) members) k d in
    units-step name line_labels member.hist (is_sparse member.hist.spec) refl
    (All-filter (same_family one) (λ m. IsReadable m.hist) members good.readable k d h) good.line)

sparse-once : (name : List ℕ) (line_labels : List KeyAndValue) (members : List FamilyMember) (one : FamilyMember) → AreGood line_labels members
    → Contains members one → is_sparse one.hist.spec ≡ true
    → HasEachSeriesOnce (flat_map (values_in_family name line_labels) (filter (same_family one) members))
sparse-once name line_labels members one good there sparse =
    group-once line_labels one members (values_in_family name line_labels) good.members_are good.apart
    (λ member. values-labels name (labels_in_family line_labels member.hist) member.hist)
    (λ k d h.
    let member : FamilyMember = get_or (filter (same_family one) members) k d in
    values-once name (labels_in_family line_labels member.hist) member.hist
    (All-filter (same_family one) (λ m. HasValuesIfSparse m.hist) members good.values k d h (sparse-group members one good.apart there sparse k d h))
    (family-tells line_labels member.hist good.line))

single-once : (sample : MetricSample) → HasEachSeriesOnce (sample ∷ [])
single-once sample = AllPairs-cons AreApart sample [] (λ k d h. absurd (omega (arith, h))) (AllPairs-nil AreApart)

sums-once : (name : List ℕ) (line_labels : List KeyAndValue) (members : List FamilyMember) (one : FamilyMember) → AreGood line_labels members
    → HasEachSeriesOnce (flat_map (sum_in_family name line_labels) (filter (same_family one) members))
sums-once name line_labels members one good =
    group-once line_labels one members (sum_in_family name line_labels) good.members_are good.apart
    (λ member.
    All-cons (HasLabelsOf (labels_in_family line_labels member.hist)) (total_sample name (labels_in_family line_labels member.hist) (signed_decimal member.hist.sum)) []
    (sum-labels name (labels_in_family line_labels member.hist) (signed_decimal member.hist.sum)) (λ k d h. absurd (omega (arith, h))))
    (λ k d h.
    let member : FamilyMember = get_or (filter (same_family one) members) k d in
    single-once (total_sample name (labels_in_family line_labels member.hist) (signed_decimal member.hist.sum)))

-- ---- names of metrics

-- the suffix of a family's name in the names of its metrics
data Ending : Type 0 where
  whole : Ending
  of_bucket : Ending
  of_sum : Ending
  of_count : Ending

abbrev ending_text : Ending → List ℕ
ending_text whole = []
ending_text of_bucket = codes "_bucket"
ending_text of_sum = codes "_sum"
ending_text of_count = codes "_count"

-- a sample of a metric of a family
record IsOfFamily (prefix family : List ℕ) (sample : MetricSample) : Type 0 where
  ending : Ending
  is : sample.metric ≡ prefix ++ 95 ∷ (family ++ ending_text ending)

with-ending : (prefix : List ℕ) (one : FamilyMember) (suffix : List ℕ) → metric_of prefix one ++ suffix ≡ prefix ++ 95 ∷ (one.family ++ suffix)
with-ending prefix one suffix =
    append_assoc prefix (95 ∷ (one.family ++ [])) suffix ∙ ap (λ family. prefix ++ 95 ∷ (family ++ suffix)) (append-nil one.family)

-- texts that end in other bytes
ends-apart : (a b s t : List ℕ) → (get_or (reverse s ++ reverse a) 1 0 ≡ get_or (reverse t ++ reverse b) 1 0 → ⊥) → a ++ s ≡ b ++ t → ⊥
ends-apart a b s t differ e =
    differ (ap (λ text. get_or text 1 0) (sym (reverse-append a s) ∙ ap reverse e ∙ reverse-append b t))

not_part : (family other : List ℕ) (ending : Ending) → is_part_of family other ≡ false → (ending ≡ whole → ⊥) → family ≡ other ++ ending_text ending → ⊥
not_part family other whole unlike ne e = ne refl
not_part family other of_bucket unlike ne e =
    let is : bytes_eq family (other ++ codes "_bucket") ≡ true = bytes_eq-same family (other ++ codes "_bucket") e in
    let other_is : bytes_eq family (other ++ codes "_bucket") ≡ false = (or_parts _ _ (or_parts _ (bytes_eq family (other ++ codes "_count")) unlike).0).0 in
    cc
not_part family other of_sum unlike ne e =
    let is : bytes_eq family (other ++ codes "_sum") ≡ true = bytes_eq-same family (other ++ codes "_sum") e in
    let other_is : bytes_eq family (other ++ codes "_sum") ≡ false = (or_parts _ _ (or_parts _ (bytes_eq family (other ++ codes "_count")) unlike).0).1 in
    cc
not_part family other of_count unlike ne e =
    let is : bytes_eq family (other ++ codes "_count") ≡ true = bytes_eq-same family (other ++ codes "_count") e in
    let other_is : bytes_eq family (other ++ codes "_count") ≡ false = (or_parts _ (bytes_eq family (other ++ codes "_count")) unlike).1 in
    cc

-- families that differ, and are not the names of each other's metrics, have metrics that differ
endings-apart : (f g : List ℕ) (a b : Ending) → (f ≡ g → ⊥) → is_part_of f g ≡ false → is_part_of g f ≡ false → f ++ ending_text a ≡ g ++ ending_text b → ⊥
endings-apart f g whole whole differ first second e = differ (append_cancel_right f g [] e)
endings-apart f g whole of_bucket differ first second e = not_part f g of_bucket first (λ is. absurd (cc)) (sym (append-nil f) ∙ e)
endings-apart f g whole of_sum differ first second e = not_part f g of_sum first (λ is. absurd (cc)) (sym (append-nil f) ∙ e)
endings-apart f g whole of_count differ first second e = not_part f g of_count first (λ is. absurd (cc)) (sym (append-nil f) ∙ e)
endings-apart f g of_bucket whole differ first second e = not_part g f of_bucket second (λ is. absurd (cc)) (sym (append-nil g) ∙ sym e)
endings-apart f g of_sum whole differ first second e = not_part g f of_sum second (λ is. absurd (cc)) (sym (append-nil g) ∙ sym e)
endings-apart f g of_count whole differ first second e = not_part g f of_count second (λ is. absurd (cc)) (sym (append-nil g) ∙ sym e)
endings-apart f g of_bucket of_bucket differ first second e = differ (append_cancel_right f g (codes "_bucket") e)
endings-apart f g of_sum of_sum differ first second e = differ (append_cancel_right f g (codes "_sum") e)
endings-apart f g of_count of_count differ first second e = differ (append_cancel_right f g (codes "_count") e)
endings-apart f g of_bucket of_sum differ first second e = ends-apart f g (codes "_bucket") (codes "_sum") (λ at. omega (arith, at)) e
endings-apart f g of_bucket of_count differ first second e = ends-apart f g (codes "_bucket") (codes "_count") (λ at. omega (arith, at)) e
endings-apart f g of_sum of_bucket differ first second e = ends-apart f g (codes "_sum") (codes "_bucket") (λ at. omega (arith, at)) e
endings-apart f g of_sum of_count differ first second e = ends-apart f g (codes "_sum") (codes "_count") (λ at. omega (arith, at)) e
endings-apart f g of_count of_bucket differ first second e = ends-apart f g (codes "_count") (codes "_bucket") (λ at. omega (arith, at)) e
endings-apart f g of_count of_sum differ first second e = ends-apart f g (codes "_count") (codes "_sum") (λ at. omega (arith, at)) e

families-apart : (prefix f g : List ℕ) (u v : MetricSample) → (f ≡ g → ⊥) → is_part_of f g ≡ false → is_part_of g f ≡ false → IsOfFamily prefix f u
    → IsOfFamily prefix g v → AreApart u v
families-apart prefix f g u v differ first second of_u of_v one =
    let same : 95 ∷ (f ++ ending_text of_u.ending) ≡ 95 ∷ (g ++ ending_text of_v.ending) =
    append_cancel_left prefix (95 ∷ (f ++ ending_text of_u.ending)) (95 ∷ (g ++ ending_text of_v.ending)) (sym of_u.is ∙ one.metric ∙ of_v.is) in
    endings-apart f g of_u.ending of_v.ending differ first second
    (append_cancel_left (95 ∷ []) (f ++ ending_text of_u.ending) (g ++ ending_text of_v.ending) same)

-- a metric of a family is not one of the segment
segment-step : (f : List ℕ) (a : Ending) → is_of_segment f ≡ false → (f ++ ending_text a ≡ codes "bad_records" → ⊥) × (f ++ ending_text a ≡ codes "segment_flag" → ⊥)
segment-step f whole unlike = (
  (λ e.
      let is : bytes_eq f (codes "bad_records") ≡ true = bytes_eq-same f (codes "bad_records") (sym (append-nil f) ∙ e) in
      let isnt : bytes_eq f (codes "bad_records") ≡ false = (or_parts (bytes_eq f (codes "bad_records")) (bytes_eq f (codes "segment_flag")) unlike).0 in
      cc),
  (λ e.
      let is : bytes_eq f (codes "segment_flag") ≡ true = bytes_eq-same f (codes "segment_flag") (sym (append-nil f) ∙ e) in
      let isnt : bytes_eq f (codes "segment_flag") ≡ false = (or_parts (bytes_eq f (codes "bad_records")) (bytes_eq f (codes "segment_flag")) unlike).1 in
      cc),
)
segment-step f of_bucket unlike = (
  (λ e. ends-apart f [] (codes "_bucket") (codes "bad_records") (λ at. omega (arith, at)) e),
  (λ e. ends-apart f [] (codes "_bucket") (codes "segment_flag") (λ at. omega (arith, at)) e),
)
segment-step f of_sum unlike = (
  (λ e. ends-apart f [] (codes "_sum") (codes "bad_records") (λ at. omega (arith, at)) e),
  (λ e. ends-apart f [] (codes "_sum") (codes "segment_flag") (λ at. omega (arith, at)) e),
)
segment-step f of_count unlike = (
  (λ e. ends-apart f [] (codes "_count") (codes "bad_records") (λ at. omega (arith, at)) e),
  (λ e. ends-apart f [] (codes "_count") (codes "segment_flag") (λ at. omega (arith, at)) e),
)

-- the name of a metric of the segment
of-segment : (prefix f word : List ℕ) (u v : MetricSample) (of_u : IsOfFamily prefix f u) → (f ++ ending_text of_u.ending ≡ word → ⊥)
    → v.metric ≡ prefix ++ 95 ∷ word → AreApart u v
of-segment prefix f word u v of_u differ is one =
    differ (append_cancel_left (95 ∷ []) (f ++ ending_text of_u.ending) word
    (append_cancel_left prefix (95 ∷ (f ++ ending_text of_u.ending)) (95 ∷ word) (sym of_u.is ∙ one.metric ∙ is)))

family-or-segment : (prefix f : List ℕ) (line_labels : List KeyAndValue) (reading : Reading) (u : MetricSample) → is_of_segment f ≡ false
    → IsOfFamily prefix f u → All (AreApart u) (segment_lines prefix line_labels reading)
family-or-segment prefix f line_labels reading u unlike of_u =
    let bad = total_sample (prefix ++ codes "_bad_records") line_labels (decimal (bad_records reading)) in
    let first = flag_sample (prefix ++ codes "_segment_flag") line_labels (codes "corrupt") reading.corrupt in
    let second = flag_sample (prefix ++ codes "_segment_flag") line_labels (codes "full") reading.full in
    let isnt = segment-step f of_u.ending unlike in
    All-cons (AreApart u) bad (first ∷ second ∷ []) (of-segment prefix f (codes "bad_records") u bad of_u isnt.0 refl)
    (All-cons (AreApart u) first (second ∷ []) (of-segment prefix f (codes "segment_flag") u first of_u isnt.1 refl)
    (All-cons (AreApart u) second [] (of-segment prefix f (codes "segment_flag") u second of_u isnt.1 refl)
    (λ k d h. absurd (omega (arith, h)))))

-- ---- all lines

-- the lines of the family of one
abbrev family_lines : List ℕ → List KeyAndValue → List FamilyMember → FamilyMember → List MetricSample
family_lines prefix line_labels members one = all_samples (families_with prefix line_labels members one)

-- those of a sparse one, and of another
abbrev value_lines : List ℕ → List KeyAndValue → List FamilyMember → FamilyMember → List MetricSample
value_lines prefix line_labels members one =
    flat_map (values_in_family (metric_of prefix one) line_labels) (filter (same_family one) members)

abbrev sum_lines : List ℕ → List KeyAndValue → List FamilyMember → FamilyMember → List MetricSample
sum_lines prefix line_labels members one =
    flat_map (sum_in_family (metric_of prefix one ++ codes "_sum") line_labels) (filter (same_family one) members)

abbrev ranged_lines : List ℕ → List KeyAndValue → List FamilyMember → FamilyMember → List MetricSample
ranged_lines prefix line_labels members one =
    flat_map (units_in_family (metric_of prefix one) line_labels) (filter (same_family one) members)

-- what holds of them holds of the lines of the family
of-lines : (P : List MetricSample → Type 0) (prefix : List ℕ) (line_labels : List KeyAndValue) (members : List FamilyMember) (one : FamilyMember) (sparse : Bool)
    → is_sparse one.hist.spec ≡ sparse
    → (is_sparse one.hist.spec ≡ true → P (value_lines prefix line_labels members one ++ (sum_lines prefix line_labels members one ++ [])))
    → P (ranged_lines prefix line_labels members one ++ [])
    → P (all_samples (if sparse
    then (value_family (metric_of prefix one) line_labels (filter (same_family one) members)
    ∷ sum_family (metric_of prefix one ++ codes "_sum") line_labels (filter (same_family one) members) ∷ [])
    else (ranged_family (metric_of prefix one) line_labels (filter (same_family one) members) ∷ [])))
of-lines P prefix line_labels members one true e values ranged = values e
of-lines P prefix line_labels members one false e values ranged = ranged

-- the metrics of a family's lines
whole-of : (prefix : List ℕ) (one : FamilyMember) (labels : List KeyAndValue) (number : List ℕ)
    → IsOfFamily prefix one.family (record { metric = metric_of prefix one; labels = labels; number = number })
whole-of prefix one labels number = record { ending = whole; is = refl }

units-of : (prefix : List ℕ) (one : FamilyMember) (labels : List KeyAndValue) (hist : Histogram)
    → All (IsOfFamily prefix one.family) (units_lines (metric_of prefix one) labels hist)
units-of prefix one labels hist =
    let name = metric_of prefix one in
    let P = IsOfFamily prefix one.family in
    let infinite = infinite_sample name labels hist in
    let sum = total_sample (name ++ codes "_sum") labels (signed_decimal hist.sum) in
    let count = total_sample (name ++ codes "_count") labels (decimal (units_of hist)) in
    All-append P (map (bucket_sample name labels) (rows_of hist)) (total_samples name labels hist)
    (All-map P (bucket_sample name labels) (rows_of hist) (λ k d h. record { ending = of_bucket; is = with-ending prefix one (codes "_bucket") }))
    (All-cons P infinite (sum ∷ count ∷ []) (record { ending = of_bucket; is = with-ending prefix one (codes "_bucket") })
    (All-cons P sum (count ∷ []) (record { ending = of_sum; is = with-ending prefix one (codes "_sum") })
    (All-cons P count [] (record { ending = of_count; is = with-ending prefix one (codes "_count") }) (λ k d h. absurd (omega (arith, h))))))

ranged-of : (prefix : List ℕ) (line_labels : List KeyAndValue) (members : List FamilyMember) (one : FamilyMember)
    → All (IsOfFamily prefix one.family) (ranged_lines prefix line_labels members one)
ranged-of prefix line_labels members one =
    let group : List FamilyMember = filter (same_family one) members in
    All-flat_map (IsOfFamily prefix one.family) (units_in_family (metric_of prefix one) line_labels) group
    (λ k d h.
    let member : FamilyMember = get_or group k d in
    none-if (IsOfFamily prefix one.family) (is_sparse member.hist.spec) (units_lines (metric_of prefix one) (labels_in_family line_labels member.hist) member.hist)
    (units-of prefix one (labels_in_family line_labels member.hist) member.hist))

-- the lines of values have its own name, and those of sums a longer one
record IsNamed (name : List ℕ) (sample : MetricSample) : Type 0 where
  is : sample.metric ≡ name

values-named : (name : List ℕ) (line_labels : List KeyAndValue) (group : List FamilyMember)
    → All (IsNamed name) (flat_map (values_in_family name line_labels) group)
values-named name line_labels group =
    All-flat_map (IsNamed name) (values_in_family name line_labels) group
    (λ k d h.
    let member : FamilyMember = get_or group k d in
    All-map (IsNamed name) (value_sample name (labels_in_family line_labels member.hist)) (rows_of member.hist) (λ i e there. record { is = refl }))

sums-named : (name : List ℕ) (line_labels : List KeyAndValue) (group : List FamilyMember)
    → All (IsNamed name) (flat_map (sum_in_family name line_labels) group)
sums-named name line_labels group =
    All-flat_map (IsNamed name) (sum_in_family name line_labels) group
    (λ k d h.
    let member : FamilyMember = get_or group k d in
    All-cons (IsNamed name) (total_sample name (labels_in_family line_labels member.hist) (signed_decimal member.hist.sum)) [] (record { is = refl })
    (λ i e there. absurd (omega (arith, there))))

longer-apart : (name : List ℕ) (u v : MetricSample) → IsNamed name u → IsNamed (name ++ codes "_sum") v → AreApart u v
longer-apart name u v of_u of_v one =
    let same : name ++ [] ≡ name ++ codes "_sum" = append-nil name ∙ sym of_u.is ∙ one.metric ∙ of_v.is in
    let ends : [] ≡ codes "_sum" = append_cancel_left name [] (codes "_sum") same in
    let counts = ap length ends in
    omega (arith, counts)

sparse-of : (prefix : List ℕ) (line_labels : List KeyAndValue) (members : List FamilyMember) (one : FamilyMember)
    → All (IsOfFamily prefix one.family) (value_lines prefix line_labels members one ++ (sum_lines prefix line_labels members one ++ []))
sparse-of prefix line_labels members one =
    let P = IsOfFamily prefix one.family in
    let name = metric_of prefix one in
    let group : List FamilyMember = filter (same_family one) members in
    All-append P (value_lines prefix line_labels members one) (sum_lines prefix line_labels members one ++ [])
    (All-weaker (IsNamed name) P (λ sample named. record { ending = whole; is = named.is }) (value_lines prefix line_labels members one) (values-named name line_labels group))
    (All-append P (sum_lines prefix line_labels members one) []
    (All-weaker (IsNamed (name ++ codes "_sum")) P (λ sample named. record { ending = of_sum; is = named.is ∙ with-ending prefix one (codes "_sum") })
    (sum_lines prefix line_labels members one) (sums-named (name ++ codes "_sum") line_labels group))
    (λ k d h. absurd (omega (arith, h))))

family-of : (prefix : List ℕ) (line_labels : List KeyAndValue) (members : List FamilyMember) (one : FamilyMember)
    → All (IsOfFamily prefix one.family) (family_lines prefix line_labels members one)
family-of prefix line_labels members one =
    of-lines (All (IsOfFamily prefix one.family)) prefix line_labels members one (is_sparse one.hist.spec) refl
    (λ sparse. sparse-of prefix line_labels members one)
    (All-append (IsOfFamily prefix one.family) (ranged_lines prefix line_labels members one) [] (ranged-of prefix line_labels members one)
    (λ k d h. absurd (omega (arith, h))))

-- the lines of one family are apart
family-once : (prefix : List ℕ) (line_labels : List KeyAndValue) (members : List FamilyMember) (one : FamilyMember) → AreGood line_labels members
    → Contains members one → HasEachSeriesOnce (family_lines prefix line_labels members one)
family-once prefix line_labels members one good there =
    let name = metric_of prefix one in
    let group : List FamilyMember = filter (same_family one) members in
    let values : List MetricSample = value_lines prefix line_labels members one in
    let sums : List MetricSample = sum_lines prefix line_labels members one in
    of-lines HasEachSeriesOnce prefix line_labels members one (is_sparse one.hist.spec) refl
    (λ sparse.
    AllPairs-append AreApart values (sums ++ []) (sparse-once name line_labels members one good there sparse)
    (subst HasEachSeriesOnce (sym (append-nil sums)) (sums-once (name ++ codes "_sum") line_labels members one good))
    (subst (AllBetween AreApart values) (sym (append-nil sums))
    (AllBetween-of (IsNamed name) (IsNamed (name ++ codes "_sum")) AreApart values sums (longer-apart name)
    (values-named name line_labels group) (sums-named (name ++ codes "_sum") line_labels group))))
    (subst HasEachSeriesOnce (sym (append-nil (ranged_lines prefix line_labels members one))) (ranged-once name line_labels members one good))

-- the lines of two families are apart, if members of them do not clash
two-families : (prefix : List ℕ) (line_labels : List KeyAndValue) (members : List FamilyMember) (one two : FamilyMember) → AreSideBySide one two
    → same_family one two ≡ false → AllBetween AreApart (family_lines prefix line_labels members one) (family_lines prefix line_labels members two)
two-families prefix line_labels members one two beside differ =
    AllBetween-of (IsOfFamily prefix one.family) (IsOfFamily prefix two.family) AreApart (family_lines prefix line_labels members one)
    (family_lines prefix line_labels members two)
    (λ u v of_u of_v.
    families-apart prefix one.family two.family u v
    (λ e. let same : bytes_eq one.family two.family ≡ true = bytes_eq-same one.family two.family e in cc) beside.first beside.second of_u of_v)
    (family-of prefix line_labels members one) (family-of prefix line_labels members two)

firsts-once : (prefix : List ℕ) (line_labels : List KeyAndValue) (members : List FamilyMember) → AreGood line_labels members
    → HasEachSeriesOnce (flat_map (family_lines prefix line_labels members) (first_of_each same_family members))
firsts-once prefix line_labels members good =
    let firsts : List FamilyMember = first_of_each same_family members in
    let among : All (Contains members) firsts = All-first_of_each same_family (Contains members) members (All-contains_itself members) in
    let beside : AllPairs AreSideBySide firsts = AllPairs-first_of_each AreSideBySide same_family members good.apart in
    let differ : AllPairs (λ a b. same_family a b ≡ false) firsts = first_of_each-differ same_family members in
    AllPairs-flat_map AreApart (family_lines prefix line_labels members) firsts
    (λ k d h. family-once prefix line_labels members (get_or firsts k d) good (among k d h))
    (λ i j d below within.
    two-families prefix line_labels members (get_or firsts i d) (get_or firsts j d) (beside i j d below within) (differ i j d below within))

pub families-once : (prefix : List ℕ) (line_labels : List KeyAndValue) (members : List FamilyMember) (reading : Reading) → AreGood line_labels members
    → All (λ member. is_of_segment member.family ≡ false) members
    → HasEachSeriesOnce (all_samples (families_by_name prefix line_labels members reading))
families-once prefix line_labels members reading good free =
    let firsts : List FamilyMember = first_of_each same_family members in
    let segment : List MetricSample = segment_lines prefix line_labels reading in
    let lines : FamilyMember → List MetricSample = family_lines prefix line_labels members in
    let parts : all_samples (families_by_name prefix line_labels members reading) ≡ flat_map lines firsts ++ segment =
    flat_map-append (λ (family : MetricFamily). family.samples) (flat_map (families_with prefix line_labels members) firsts)
    (bad_family prefix line_labels reading ∷ flag_family prefix line_labels reading ∷ [])
    ∙ ap (λ s. s ++ segment) (flat_map-twice (λ (family : MetricFamily). family.samples) (families_with prefix line_labels members) firsts) in
    let clear : All (λ member. is_of_segment member.family ≡ false) firsts =
    All-first_of_each same_family (λ member. is_of_segment member.family ≡ false) members free in
    subst HasEachSeriesOnce (sym parts)
    (AllPairs-append AreApart (flat_map lines firsts) segment (firsts-once prefix line_labels members good) (segment-once prefix line_labels reading good.line)
    (All-flat_map (λ u. All (AreApart u) segment) lines firsts
    (λ k d h.
    let one : FamilyMember = get_or firsts k d in
    All-weaker (IsOfFamily prefix one.family) (λ u. All (AreApart u) segment)
    (λ u of_u. family-or-segment prefix one.family line_labels reading u (clear k d h) of_u) (lines one) (family-of prefix line_labels members one))))

-- the same holds of histograms that words read as, if none clash
pub clear-once : (prefix : List ℕ) (line_labels : List KeyAndValue) (hists : List Histogram) (reading : Reading) → are_line_labels line_labels ≡ true
    → AreRead hists → All IsReadable hists → first_clash (map (member_of line_labels) hists) ≡ None
    → HasEachSeriesOnce (all_samples (families_by_name prefix line_labels (map (member_of line_labels) hists) reading))
clear-once prefix line_labels hists reading lawful read readable clear =
    let members : List FamilyMember = map (member_of line_labels) hists in
    families-once prefix line_labels members reading
    record {
      line = all-of_line line_labels lawful;
      members_are = are_members line_labels hists;
      apart = none_clash members clear;
      readable = readable_members line_labels hists readable;
      values = All-map (λ (member : FamilyMember). HasValuesIfSparse member.hist) (member_of line_labels) hists read.values;
    }
    (none_of_segment members clear)
