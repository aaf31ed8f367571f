-- The labels of lines: those of a histogram, then that of its row.
use Rattle.std.proofs.Common.{◌≡◌, ◌∙◌, ap, sym, subst₂, refl, ⊎_elim, ℕ, Bool, true, false, not, ◌||◌, ◌==◌, ◌≤◌, lt-ltb, List, [], ◌∷◌, ◌++◌, length, get_or, arith, All}
use Rattle.std.specs.Prelude.{codes, nat_lt, if◌then◌else◌}
use Rattle.std.specs.List.{Contains, list_all}
use Rattle.std.specs.Str.{bytes_eq}
use Rattle.std.proofs.lemmas.Bool.{and_parts, not-true, leb-true}
use Rattle.std.proofs.lemmas.List.Elements.{All-contains, All-cons, All-tail, Contains-append_left, Contains-append_right, Contains-append_cases}
use Rattle.std.proofs.lemmas.List.Sums.{AllPass-from_list_all}
use Rattle.bucket_ranges.specs.Reading.{is_name, is_name_byte}
use Rattle.reading_texts.specs.Labels.{is_label_key, is_kept_key, has_key, is_line_label, are_line_labels, named_by, own_labels, text_of_name}
use Rattle.reading_texts.specs.Exporting.{MetricSample}
use Rattle.reading_texts.specs.Series.{AreOfOneSeries}
use Rattle.reading_texts.proofs.NameParts.{same_name-from}
use Rattle.reading_texts.proofs.LabelSets.{KeyAndValue, AreSameLabels, HasKeptKey, IsOwn, in-cases, in-first, own-keys, own-same, not_kept}

-- ---- keys of rows

-- the keys of the last label of a row: of a bucket, or of a value
abbrev pub is_row_key : List ℕ → Bool
is_row_key key = bytes_eq key (codes "le") || bytes_eq key (codes "value")

-- these the export keeps for itself
kept-step : (le name value kind histogram : Bool) → (le || value) ≡ true → (le || name || value || kind || histogram) ≡ true
kept-step true true value kind histogram e = refl
kept-step true false value kind histogram e = refl
kept-step false true true kind histogram e = refl
kept-step false false true kind histogram e = refl
kept-step false name false kind histogram e = absurd (cc)

row_key-kept : (key : List ℕ) → is_row_key key ≡ true → is_kept_key key ≡ true
row_key-kept key e =
    kept-step (bytes_eq key (codes "le")) (bytes_eq key (codes "name")) (bytes_eq key (codes "value")) (bytes_eq key (codes "kind"))
    (bytes_eq key (codes "histogram")) e

abbrev pub HasRowKey : KeyAndValue → Type 0
HasRowKey label = is_row_key label.0 ≡ true

all-kept : (labels : List KeyAndValue) → All HasRowKey labels → All HasKeptKey labels
all-kept labels rows = λ k d h. row_key-kept (get_or labels k d).0 (rows k d h)

-- ---- the labels of all lines

-- each has a key that a label may have, and none of a flag
pub record IsOfLine (label : KeyAndValue) : Type 0 where
  pub key : is_label_key label.0 ≡ true
  pub flag : bytes_eq label.0 (codes "flag") ≡ false

of_line : (label : KeyAndValue) → is_line_label label ≡ true → IsOfLine label
of_line label e =
    let parts = and_parts (is_label_key label.0) (not (bytes_eq label.0 (codes "flag"))) (and_parts _ (not (length label.1 == 0)) e).0 in
    record { key = parts.0; flag = not-true (bytes_eq label.0 (codes "flag")) parts.1 }

pub all-of_line : (labels : List KeyAndValue) → are_line_labels labels ≡ true → All IsOfLine labels
all-of_line [] e = λ k d h. absurd (omega (arith, h))
all-of_line (label ∷ more) e =
    let outer = and_parts _ (are_line_labels more) e in
    let inner = and_parts (is_line_label label) (not (has_key more label.0)) outer.0 in
    All-cons IsOfLine label more (of_line label inner.0) (all-of_line more outer.1)

-- ---- the label of a row

-- the labels before that of the row: what the export puts before those of the name, and those of all lines
abbrev pub before_row : List KeyAndValue → List KeyAndValue → List ℕ → List KeyAndValue
before_row front line_labels name = front ++ (own_labels line_labels name ++ line_labels)

-- none of them has the key of a row
not_before_row : (front line_labels : List KeyAndValue) (name : List ℕ) (label : KeyAndValue) → All (λ l. is_row_key l.0 ≡ false) front
    → All IsOfLine line_labels → is_row_key label.0 ≡ true → Contains (before_row front line_labels name) label → ⊥
not_before_row front line_labels name label others line row is =
    let own : List KeyAndValue = own_labels line_labels name in
    ⊎_elim
    (λ early. let no : is_row_key label.0 ≡ false = All-contains (λ l. is_row_key l.0 ≡ false) front label others early in cc)
    (λ among.
    ⊎_elim
    (λ mine. not_kept label.0 (All-contains (IsOwn line_labels) own label (own-keys line_labels name) mine).key (row_key-kept label.0 row))
    (λ late. not_kept label.0 (All-contains IsOfLine line_labels label line late).key (row_key-kept label.0 row))
    (Contains-append_cases own line_labels label among))
    (Contains-append_cases front (own ++ line_labels) label is)

-- labels before the last one, such that lines with the same labels have the same last one
abbrev pub EndsTell : List KeyAndValue → Type 0
EndsTell labels =
    (key x y : List ℕ) → is_row_key key ≡ true → AreSameLabels (labels ++ (key, x) ∷ []) (labels ++ (key, y) ∷ []) → x ≡ y

pub ends_tell : (front line_labels : List KeyAndValue) (name : List ℕ) → All (λ l. is_row_key l.0 ≡ false) front → All IsOfLine line_labels
    → EndsTell (before_row front line_labels name)
ends_tell front line_labels name others line key x y row same =
    let labels : List KeyAndValue = before_row front line_labels name in
    let mine : KeyAndValue = (key, x) in
    let there : Contains (labels ++ (key, y) ∷ []) mine = (same mine).0 (Contains-append_right labels (mine ∷ []) mine (in-first mine [])) in
    ⊎_elim (λ before. absurd (not_before_row front line_labels name mine others line row before))
    (λ one. ⊎_elim (λ is. sym (ap (λ (l : KeyAndValue). l.1) is)) (λ none. absurd (omega (arith, none.1))) (in-cases (key, y) mine [] one))
    (Contains-append_cases labels ((key, y) ∷ []) mine there)

-- ---- the lines of a histogram

-- a sample whose labels are these, followed at most by that of a row
pub record HasLabelsOf (labels : List KeyAndValue) (sample : MetricSample) : Type 0 where
  pub behind : List KeyAndValue
  pub rows : All HasRowKey behind
  pub are : sample.labels ≡ labels ++ behind

-- samples of one series have the same labels of their names
pub own-of_series : (line_labels front_a front_b : List KeyAndValue) (a b : List ℕ) (u v : MetricSample) → All HasKeptKey front_a → All HasKeptKey front_b
    → HasLabelsOf (before_row front_a line_labels a) u → HasLabelsOf (before_row front_b line_labels b) v → AreOfOneSeries u v
    → own_labels line_labels a ≡ own_labels line_labels b
own-of_series line_labels front_a front_b a b u v first second of_u of_v same =
    own-same line_labels a b front_a of_u.behind front_b of_v.behind first (all-kept of_u.behind of_u.rows) second (all-kept of_v.behind of_v.rows)
    (subst₂ AreSameLabels of_u.are of_v.are same.labels)

-- ---- names

-- the label that names a histogram
abbrev pub naming : List KeyAndValue → List ℕ → KeyAndValue
naming line_labels name = (codes "histogram", named_by line_labels name)

named-there : (line_labels : List KeyAndValue) (a b : List ℕ) (behind : List KeyAndValue) → All IsOfLine line_labels → All HasRowKey behind
    → Contains (before_row (naming line_labels b ∷ []) line_labels b ++ behind) (naming line_labels a) → named_by line_labels b ≡ named_by line_labels a
named-there line_labels a b behind line rows is =
    let mine : KeyAndValue = naming line_labels a in
    let own : List KeyAndValue = own_labels line_labels b in
    ⊎_elim
    (λ before.
    ⊎_elim (λ one. ap (λ (l : KeyAndValue). l.1) one)
    (λ among.
    ⊎_elim
    (λ of_name. absurd (not_kept mine.0 (All-contains (IsOwn line_labels) own mine (own-keys line_labels b) of_name).key refl))
    (λ of_line. absurd (not_kept mine.0 (All-contains IsOfLine line_labels mine line of_line).key refl))
    (Contains-append_cases own line_labels mine among))
    (in-cases (naming line_labels b) mine (own ++ line_labels) before))
    (λ late. let row : is_row_key mine.0 ≡ true = All-contains HasRowKey behind mine rows late in absurd (cc))
    (Contains-append_cases (before_row (naming line_labels b ∷ []) line_labels b) behind mine is)

-- samples of one series are of one name
pub name-of_series : (line_labels : List KeyAndValue) (a b : List ℕ) (u v : MetricSample) → All IsOfLine line_labels
    → HasLabelsOf (before_row (naming line_labels a ∷ []) line_labels a) u → HasLabelsOf (before_row (naming line_labels b ∷ []) line_labels b) v
    → AreOfOneSeries u v → a ≡ b
name-of_series line_labels a b u v line of_u of_v same =
    let kept : (name : List ℕ) → All HasKeptKey (naming line_labels name ∷ []) =
    λ name. All-cons HasKeptKey (naming line_labels name) [] refl (λ k d h. absurd (omega (arith, h))) in
    let own = own-of_series line_labels (naming line_labels a ∷ []) (naming line_labels b ∷ []) a b u v (kept a) (kept b) of_u of_v same in
    let sets : AreSameLabels (before_row (naming line_labels a ∷ []) line_labels a ++ of_u.behind) (before_row (naming line_labels b ∷ []) line_labels b ++ of_v.behind) =
    subst₂ AreSameLabels of_u.are of_v.are same.labels in
    let mine : KeyAndValue = naming line_labels a in
    let there = (sets mine).0 (Contains-append_left (before_row (mine ∷ []) line_labels a) of_u.behind mine (in-first mine (own_labels line_labels a ++ line_labels))) in
    same_name-from line_labels a b (sym (named-there line_labels a b of_v.behind line of_v.rows there)) own

-- a name that is read has no bytes beyond ASCII, so it is its own text
ascii-step : (name : List ℕ) → All (λ byte. is_name_byte byte ≡ true) name → text_of_name name ≡ name
ascii-step [] all = refl
ascii-step (byte ∷ name) all =
    let is : is_name_byte byte ≡ true = all 0 byte (omega arith) in
    let low : byte ≤ 126 = leb-true byte 126 (and_parts _ _ (and_parts _ _ (and_parts _ _ is).0).0).1 in
    let below : nat_lt byte 128 ≡ true = lt-ltb byte 128 (omega (arith, low)) in
    ap (λ b. (if b then byte ∷ [] else 239 ∷ 191 ∷ 189 ∷ []) ++ text_of_name name) below
    ∙ ap (λ rest. byte ∷ rest) (ascii-step name (All-tail (λ byte. is_name_byte byte ≡ true) byte name all))

pub text_of_name-is : (name : List ℕ) → is_name name ≡ true → text_of_name name ≡ name
text_of_name-is name e = ascii-step name (AllPass-from_list_all is_name_byte name (and_parts _ (list_all is_name_byte name) e).1)
