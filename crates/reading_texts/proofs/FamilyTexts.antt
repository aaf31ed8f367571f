-- The lines of families as the text of their samples.
use Rattle.std.proofs.Common.{◌≡◌, ◌∙◌, ℕ, ◌+◌, ◌<◌, List, [], ◌∷◌, ◌++◌, length, map, take, refl, ap, sym, append_assoc, arith, Bool, true, false, cond, All}
use Rattle.std.specs.Prelude.{codes, pos, ◌-ℤ◌}
use Rattle.std.specs.Fmt.{decimal, signed_decimal}
use Rattle.std.specs.List.{flat_map, filter}
use Rattle.std.proofs.lemmas.List.{append-nil, length-map, get_or-map}
use Rattle.std.proofs.lemmas.List.Concat.{flat_map-append}
use Rattle.std.proofs.lemmas.List.Elements.{All-filter, All-tail}
use Rattle.std.proofs.lemmas.List.Folds.{flat_map-map}
use Rattle.bucket_ranges.specs.Reading.{Histogram, Reading, first_of_each}
use Rattle.image_reader.specs.Readable.{IsReadable}
use Rattle.reading_texts.specs.declared.rows.HistRow.{HistRow}
use Rattle.reading_texts.specs.Rows.{units_of, rows_of}
use Rattle.reading_texts.specs.Exporting.{joined, MetricSample, label_text, next_label_text, inner_text, labels_text, sample_text, heading_text, family_text, bucket_sample, infinite_sample, total_sample, total_samples, value_sample, is_sparse, bad_family, flag_family}
use Rattle.reading_texts.specs.Families.{FamilyMember, member_of, labels_in_family, led_label_text, same_family, metric_of, units_in_family, values_in_family, sum_in_family, ranged_family, value_family, sum_family, families_with, families_by_name}
use Rattle.reading_texts.specs.FamilyLines.{braced, bucket_line, infinite_line, value_line, number_line, ranged_lines, units_lines, values_lines, sum_line, sparse_lines, ranged_family_lines, lines_with}
use Rattle.reading_texts.proofs.Rendered.{flat_map-same, flat_map-twice}

-- ---- labels

-- one label after others
next-behind : (labels : List (List ℕ × List ℕ)) (last : List ℕ × List ℕ)
    → flat_map next_label_text (labels ++ last ∷ []) ≡ codes "," ++ (flat_map led_label_text labels ++ label_text last)
next-behind [] last = append-nil (next_label_text last)
next-behind (label ∷ labels) last =
    ap (λ s. next_label_text label ++ s) (next-behind labels last)
    ∙ ap (λ s. codes "," ++ s) (simp (append_assoc))

inner-behind : (labels : List (List ℕ × List ℕ)) (last : List ℕ × List ℕ)
    → inner_text (labels ++ last ∷ []) ≡ flat_map led_label_text labels ++ label_text last
inner-behind [] last = append-nil (label_text last)
inner-behind (label ∷ labels) last =
    ap (λ s. label_text label ++ s) (next-behind labels last)
    ∙ simp (append_assoc)

-- the same labels in braces
labels-behind : (labels : List (List ℕ × List ℕ)) (last : List ℕ × List ℕ)
    → labels_text (labels ++ last ∷ []) ≡ joined (codes "{" ∷ (flat_map led_label_text labels ++ label_text last) ∷ codes "}" ∷ [])
labels-behind [] last = ap (λ s. joined (codes "{" ∷ s ∷ codes "}" ∷ [])) (inner-behind [] last)
labels-behind (label ∷ labels) last = ap (λ s. joined (codes "{" ∷ s ∷ codes "}" ∷ [])) (inner-behind (label ∷ labels) last)

-- all but the last byte
take-front : (text : List ℕ) (byte : ℕ) → take (length text) (text ++ byte ∷ []) ≡ text
take-front [] byte = refl
take-front (first ∷ text) byte = ap (λ s. first ∷ s) (take-front text byte)

length-behind_one : (text : List ℕ) (byte : ℕ) → length (text ++ byte ∷ []) ≡ length text + 1
length-behind_one [] byte = refl
length-behind_one (first ∷ text) byte = omega (arith, length-behind_one text byte)

braced-text : (text : List ℕ) (byte : ℕ) → braced (text ++ byte ∷ []) ≡ joined (codes "{" ∷ text ∷ codes "}" ∷ [])
braced-text [] byte = refl
braced-text (first ∷ text) byte =
    let long : length (text ++ byte ∷ []) ≡ length (first ∷ text) = omega (arith, length-behind_one text byte) in
    ap (λ s. joined (codes "{" ∷ s ∷ codes "}" ∷ []))
    (ap (λ n. take n (first ∷ (text ++ byte ∷ []))) long ∙ take-front (first ∷ text) byte)

-- labels with a comma after each are labels with commas between them, and one more comma
led-next : (labels : List (List ℕ × List ℕ)) → codes "," ++ flat_map led_label_text labels ≡ flat_map next_label_text labels ++ codes ","
led-next [] = refl
led-next (label ∷ labels) =
    ap (λ s. 44 ∷ s)
    (append_assoc (label_text label) (codes ",") (flat_map led_label_text labels)
    ∙ (ap (λ s. label_text label ++ s) (led-next labels)
    ∙ sym (append_assoc (label_text label) (flat_map next_label_text labels) (codes ","))))

led-inner : (label : List ℕ × List ℕ) (labels : List (List ℕ × List ℕ))
    → flat_map led_label_text (label ∷ labels) ≡ inner_text (label ∷ labels) ++ codes ","
led-inner label labels = append_assoc (label_text label) (codes ",") (flat_map led_label_text labels)
    ∙ (ap (λ s. label_text label ++ s) (led-next labels) ∙ sym (append_assoc (label_text label) (flat_map next_label_text labels) (codes ",")))

braced-labels : (labels : List (List ℕ × List ℕ)) → braced (flat_map led_label_text labels) ≡ labels_text labels
braced-labels [] = refl
braced-labels (label ∷ labels) = ap braced (led-inner label labels) ∙ braced-text (inner_text (label ∷ labels)) 44

-- ---- lines of samples

bucket-is : (name : List ℕ) (labels : List (List ℕ × List ℕ)) (row : HistRow)
    → bucket_line name (flat_map led_label_text labels) row ≡ sample_text (bucket_sample name labels row)
bucket-is name labels row =
    sym (ap (λ s. joined ((name ++ codes "_bucket") ∷ s ∷ codes " " ∷ decimal row.up_to ∷ codes "\n" ∷ []))
    (labels-behind labels (codes "le", signed_decimal (row.high -ℤ pos 1)))
    ∙ simp (append_assoc, append-nil))

infinite-is : (name : List ℕ) (labels : List (List ℕ × List ℕ)) (hist : Histogram)
    → infinite_line name (flat_map led_label_text labels) (decimal (units_of hist)) ≡ sample_text (infinite_sample name labels hist)
infinite-is name labels hist =
    sym (ap (λ s. joined ((name ++ codes "_bucket") ∷ s ∷ codes " " ∷ decimal (units_of hist) ∷ codes "\n" ∷ []))
    (labels-behind labels (codes "le", codes "+Inf"))
    ∙ simp (append_assoc, append-nil))

value-is : (name : List ℕ) (labels : List (List ℕ × List ℕ)) (row : HistRow)
    → value_line name (flat_map led_label_text labels) row ≡ sample_text (value_sample name labels row)
value-is name labels row =
    sym (ap (λ s. joined (name ∷ s ∷ codes " " ∷ decimal row.units ∷ codes "\n" ∷ []))
    (labels-behind labels (codes "value", signed_decimal row.low))
    ∙ simp (append_assoc, append-nil))

number-is : (name suffix : List ℕ) (labels : List (List ℕ × List ℕ)) (number : List ℕ)
    → number_line name suffix (flat_map led_label_text labels) number ≡ sample_text (total_sample (name ++ suffix) labels number)
number-is name suffix labels number =
    ap (λ s. joined (name ∷ suffix ∷ s ∷ codes " " ∷ number ∷ codes "\n" ∷ [])) (braced-labels labels)
    ∙ sym (append_assoc name suffix (joined (labels_text labels ∷ codes " " ∷ number ∷ codes "\n" ∷ [])))

-- ---- lines of members

-- the text of a member's labels is that of the labels of its lines
abbrev pub IsMember : List (List ℕ × List ℕ) → FamilyMember → Type 0
IsMember line_labels member = member.labels ≡ flat_map led_label_text (labels_in_family line_labels member.hist)

pub are_members : (line_labels : List (List ℕ × List ℕ)) (hists : List Histogram) → All (IsMember line_labels) (map (member_of line_labels) hists)
are_members line_labels hists = λ k d h.
    let within : k < length hists = rw length-map at h in
    rw (get_or-map (member_of line_labels) hists k d.hist d within) refl

four : (a b c d : List ℕ) → ((a ++ b) ++ c) ++ d ≡ a ++ (b ++ (c ++ (d ++ [])))
four a b c d = simp (append_assoc, append-nil)

-- if each histogram can be read, each member can
pub readable_members : (line_labels : List (List ℕ × List ℕ)) (hists : List Histogram) → All IsReadable hists
    → All (λ member. IsReadable member.hist) (map (member_of line_labels) hists)
readable_members line_labels hists all = λ k d h.
    let within : k < length hists = rw length-map at h in
    rw (get_or-map (member_of line_labels) hists k d.hist d within) (all k d.hist within)

ranged-is : (name : List ℕ) (labels : List (List ℕ × List ℕ)) (member : FamilyMember) → member.labels ≡ flat_map led_label_text labels
    → ranged_lines name member
    ≡ flat_map sample_text (map (bucket_sample name labels) (rows_of member.hist) ++ total_samples name labels member.hist)
ranged-is name labels member text =
    let rows : List HistRow = rows_of member.hist in
    let units : List ℕ = decimal (units_of member.hist) in
    let sum : List ℕ = signed_decimal member.hist.sum in
    let led : List ℕ = flat_map led_label_text labels in
    let infinite : List ℕ = infinite_line name led units in
    let whole : List ℕ = number_line name (codes "_sum") led sum in
    let count : List ℕ = number_line name (codes "_count") led units in
    let buckets : List ℕ = flat_map sample_text (map (bucket_sample name labels) rows) in
    let samples : List MetricSample = total_samples name labels member.hist in
    let infinite' : List ℕ = sample_text (infinite_sample name labels member.hist) in
    let whole' : List ℕ = sample_text (total_sample (name ++ codes "_sum") labels sum) in
    let count' : List ℕ = sample_text (total_sample (name ++ codes "_count") labels units) in
    let same : flat_map (bucket_line name led) rows ≡ buckets =
    flat_map-same (bucket_line name led) (λ row. sample_text (bucket_sample name labels row)) rows (bucket-is name labels)
    ∙ sym (flat_map-map sample_text (bucket_sample name labels) rows) in
    ap (λ t. ((flat_map (bucket_line name t) rows ++ infinite_line name t units) ++ number_line name (codes "_sum") t sum) ++ number_line name (codes "_count") t units) text
    ∙ (ap (λ s. ((s ++ infinite) ++ whole) ++ count) same
    ∙ (ap (λ s. ((buckets ++ s) ++ whole) ++ count) (infinite-is name labels member.hist)
    ∙ (ap (λ s. ((buckets ++ infinite') ++ s) ++ count) (number-is name (codes "_sum") labels sum)
    ∙ (ap (λ s. ((buckets ++ infinite') ++ whole') ++ s) (number-is name (codes "_count") labels units)
    ∙ (four buckets infinite' whole' count'
    ∙ sym (flat_map-append sample_text (map (bucket_sample name labels) rows) samples))))))

-- the lines of a member that has ranges
pub units-are : (name : List ℕ) (line_labels : List (List ℕ × List ℕ)) (member : FamilyMember) → IsMember line_labels member
    → units_lines name member ≡ flat_map sample_text (units_in_family name line_labels member)
units-are name line_labels member is = by (is_sparse member.hist.spec)
  where
    samples : List MetricSample
    samples =
        map (bucket_sample name (labels_in_family line_labels member.hist)) (rows_of member.hist)
        ++ total_samples name (labels_in_family line_labels member.hist) member.hist

    by : (b : Bool) → cond b [] (ranged_lines name member) ≡ flat_map sample_text (cond b [] samples)
    by true = refl
    by false = ranged-is name (labels_in_family line_labels member.hist) member is

-- those of the values of a sparse one
pub values-are : (name : List ℕ) (line_labels : List (List ℕ × List ℕ)) (member : FamilyMember) → IsMember line_labels member
    → values_lines name member ≡ flat_map sample_text (values_in_family name line_labels member)
values-are name line_labels member is =
    let labels = labels_in_family line_labels member.hist in
    ap (λ text. flat_map (value_line name text) (rows_of member.hist)) is
    ∙ (flat_map-same (value_line name (flat_map led_label_text labels)) (λ row. sample_text (value_sample name labels row)) (rows_of member.hist) (value-is name labels)
    ∙ sym (flat_map-map sample_text (value_sample name labels) (rows_of member.hist)))

-- and of its sum
pub sum-is : (name : List ℕ) (line_labels : List (List ℕ × List ℕ)) (member : FamilyMember) → IsMember line_labels member
    → sum_line name member ≡ flat_map sample_text (sum_in_family (name ++ codes "_sum") line_labels member)
sum-is name line_labels member is =
    let labels = labels_in_family line_labels member.hist in
    ap (λ text. number_line name (codes "_sum") text (signed_decimal member.hist.sum)) is
    ∙ (number-is name (codes "_sum") labels (signed_decimal member.hist.sum)
    ∙ sym (append-nil (sample_text (total_sample (name ++ codes "_sum") labels (signed_decimal member.hist.sum)))))

-- ---- the text of families

-- what is the same at each of these
same-on : {X Y : Type 0} (f g : X → List Y) (P : X → Type 0) (xs : List X) → All P xs → ((x : X) → P x → f x ≡ g x) → flat_map f xs ≡ flat_map g xs
same-on f g P [] all same = refl
same-on f g P (x ∷ xs) all same =
    ap (λ s. s ++ flat_map f xs) (same x (all 0 x (omega arith)))
    ∙ ap (λ s. g x ++ s) (same-on f g P xs (All-tail P x xs all) same)

-- the samples of members, one after the other
samples-of : (lines : FamilyMember → List ℕ) (samples : FamilyMember → List MetricSample) (P : FamilyMember → Type 0) (members : List FamilyMember) → All P members
    → ((member : FamilyMember) → P member → lines member ≡ flat_map sample_text (samples member))
    → flat_map lines members ≡ flat_map sample_text (flat_map samples members)
samples-of lines samples P members all same =
    same-on lines (λ member. flat_map sample_text (samples member)) P members all same ∙ sym (flat_map-twice sample_text samples members)

-- two families, each a head and lines
both-lines : (first second : List ℕ) {values sums values' sums' : List ℕ} → values ≡ values' → sums ≡ sums'
    → ((first ++ values) ++ second) ++ sums ≡ (first ++ values') ++ (second ++ sums')
both-lines first second {values} {sums} {values'} {sums'} same also =
    ap (λ s. ((first ++ s) ++ second) ++ sums) same
    ∙ (ap (λ s. ((first ++ values') ++ second) ++ s) also ∙ append_assoc (first ++ values') second sums')

pub family-is : (prefix : List ℕ) (line_labels : List (List ℕ × List ℕ)) (members : List FamilyMember) (one : FamilyMember) → All (IsMember line_labels) members
    → lines_with prefix members one ≡ flat_map family_text (families_with prefix line_labels members one)
family-is prefix line_labels members one all = by (is_sparse one.hist.spec)
  where
    name : List ℕ
    name = metric_of prefix one

    group : List FamilyMember
    group = filter (same_family one) members

    ranged : ranged_family_lines name group ≡ family_text (ranged_family name line_labels group)
    ranged =
        ap (λ s. heading_text name (codes "Units of a histogram up to the greatest value of each bucket.") (codes "histogram") ++ s)
        (samples-of (units_lines name) (units_in_family name line_labels) (IsMember line_labels) group
        (All-filter (same_family one) (IsMember line_labels) members all) (units-are name line_labels))

    sparse : sparse_lines name group
        ≡ family_text (value_family name line_labels group) ++ family_text (sum_family (name ++ codes "_sum") line_labels group)
    sparse =
        let among = All-filter (same_family one) (IsMember line_labels) members all in
        both-lines (heading_text name (codes "Units of each value of a sparse histogram.") (codes "untyped"))
        (heading_text (name ++ codes "_sum") (codes "Sum of the values of a sparse histogram, which may fall.") (codes "untyped"))
        (samples-of (values_lines name) (values_in_family name line_labels) (IsMember line_labels) group among (values-are name line_labels))
        (samples-of (sum_line name) (sum_in_family (name ++ codes "_sum") line_labels) (IsMember line_labels) group among (sum-is name line_labels))

    by : (b : Bool)
        → cond b (sparse_lines name group) (ranged_family_lines name group)
        ≡ flat_map family_text (cond b (value_family name line_labels group ∷ sum_family (name ++ codes "_sum") line_labels group ∷ []) (ranged_family name line_labels group ∷ []))
    by true = sparse ∙ ap (λ s. family_text (value_family name line_labels group) ++ s) (sym (append-nil (family_text (sum_family (name ++ codes "_sum") line_labels group))))
    by false = ranged ∙ sym (append-nil (family_text (ranged_family name line_labels group)))

-- the text of all families of a reading
pub families-are : (prefix : List ℕ) (line_labels : List (List ℕ × List ℕ)) (members : List FamilyMember) (reading : Reading) → All (IsMember line_labels) members
    → (flat_map (lines_with prefix members) (first_of_each same_family members) ++ family_text (bad_family prefix line_labels reading))
    ++ family_text (flag_family prefix line_labels reading)
    ≡ flat_map family_text (families_by_name prefix line_labels members reading)
families-are prefix line_labels members reading all =
    let firsts = first_of_each same_family members in
    let bad = family_text (bad_family prefix line_labels reading) in
    let flags = family_text (flag_family prefix line_labels reading) in
    let own : flat_map (lines_with prefix members) firsts ≡ flat_map family_text (flat_map (families_with prefix line_labels members) firsts) =
    flat_map-same (lines_with prefix members) (λ one. flat_map family_text (families_with prefix line_labels members one)) firsts
    (λ one. family-is prefix line_labels members one all)
    ∙ sym (flat_map-twice family_text (families_with prefix line_labels members) firsts) in
    ap (λ s. (s ++ bad) ++ flags) own
    ∙ (append_assoc (flat_map family_text (flat_map (families_with prefix line_labels members) firsts)) bad flags
    ∙ (ap (λ s. flat_map family_text (flat_map (families_with prefix line_labels members) firsts) ++ (bad ++ s)) (sym (append-nil flags))
    ∙ sym (flat_map-append family_text (flat_map (families_with prefix line_labels members) firsts)
    (bad_family prefix line_labels reading ∷ flag_family prefix line_labels reading ∷ []))))
