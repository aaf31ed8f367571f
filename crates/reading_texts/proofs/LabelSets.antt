-- Sets of labels: lists that have the same ones.
use Rattle.std.proofs.Common.{◌≡◌, ◌∙◌, ◌⊎◌, ◌↔◌, ap, ap₂, sym, refl, ℕ, ◌<◌, Bool, true, false, not, ◌==◌, List, [], ◌∷◌, ◌++◌, length, get_or, arith, All, ⊎_elim, inl, inr, suc, zero, ◌+◌, Ordering, Less, Equal, Greater, is_lt, nat_cmp}
use Rattle.std.specs.Prelude.{if◌then◌else◌}
use Rattle.std.specs.List.{Contains}
use Rattle.std.specs.List.Sorted.{IsStrictlySortedBy}
use Rattle.std.specs.Str.{bytes_eq}
use Rattle.std.specs.Cmp.{IsTotalOrder}
use Rattle.std.specs.Cmp.Lexicographic.{slice_cmp, on_texts}
use Rattle.std.specs.Ordering.{ordering_reverse}
use Rattle.std.proofs.lemmas.Bool.{and_parts, or_parts, not-true}
use Rattle.std.proofs.lemmas.List.Elements.{All-contains, All-cons, Contains-append_left, Contains-append_right, Contains-append_cases}
use Rattle.std.proofs.lemmas.List.Sums.{AllPass-from_list_all}
use Rattle.std.proofs.lemmas.Map.Keys.{sorted_from_all_adjacent, sorted_tail}
use Rattle.std.proofs.lemmas.Map.Made.{Contains-tail}
use Rattle.std.proofs.lemmas.Map.Views.{All-after_first}
use Rattle.std.proofs.lemmas.Slice.Eq.{bytes_eq-Decides}
use Rattle.reading_texts.specs.Labels.{is_label_key, is_kept_key, has_key, is_own_label, is_below, keys_ascend, is_labeled, braced_labels, own_labels}
use Rattle.reading_texts.proofs.NameParts.{HasLabels-from}

-- a key and a value
abbrev pub KeyAndValue : Type 0
KeyAndValue = List ℕ × List ℕ

-- bytes equal themselves
pub bytes_eq-same : (a b : List ℕ) → a ≡ b → bytes_eq a b ≡ true
bytes_eq-same a b e = (bytes_eq-Decides a b).1 e

-- ---- which is in a list

in-none : (label : KeyAndValue) → Contains [] label → ⊥
in-none label is = omega (arith, is.1)

pub in-first : (label : KeyAndValue) (labels : List KeyAndValue) → Contains (label ∷ labels) label
in-first label labels = (0, omega arith, refl)

in-later : (label first : KeyAndValue) (labels : List KeyAndValue) → Contains labels label → Contains (first ∷ labels) label
in-later label first labels is = Contains-append_right (first ∷ []) labels label is

at-one : (first label : KeyAndValue) (k : ℕ) → k < 1 → get_or (first ∷ []) k label ≡ label → first ≡ label
at-one first label zero within e = e
at-one first label (suc k) within e = absurd (omega (arith, within))

-- it is the first, or one of the others
pub in-cases : (first label : KeyAndValue) (labels : List KeyAndValue) → Contains (first ∷ labels) label → (first ≡ label) ⊎ Contains labels label
in-cases first label labels is =
    ⊎_elim (λ one. inl (at-one first label one.0 one.1 one.2)) (λ other. inr other) (Contains-append_cases (first ∷ []) labels label is)

-- ---- ascending lists

-- the order of labels by their keys
abbrev pub by_key : KeyAndValue → KeyAndValue → Ordering
by_key a b = slice_cmp nat_cmp a.0 b.0

by_key-total : IsTotalOrder by_key
by_key-total = on_texts (λ (label : KeyAndValue). label.0)

-- none is below itself
not_below_itself : (label : KeyAndValue) → by_key label label ≡ Less → ⊥
not_below_itself label less =
    let turned : by_key label label ≡ ordering_reverse (by_key label label) = by_key-total.antisymm label label in
    let other : Less ≡ ordering_reverse Less = sym less ∙ turned ∙ ap ordering_reverse less in
    cc

is_less : (o : Ordering) → is_lt o ≡ true → o ≡ Less
is_less Less e = refl
is_less Equal e = absurd (cc)
is_less Greater e = absurd (cc)

adjacent : (labels : List KeyAndValue) (d : KeyAndValue) → keys_ascend labels ≡ true
    → (k : ℕ) → k + 1 < length labels → by_key (get_or labels k d) (get_or labels (k + 1) d) ≡ Less
adjacent [] d e k h = absurd (omega (arith, h))
adjacent (label ∷ []) d e k h = absurd (omega (arith, h))
adjacent (label ∷ next ∷ more) d e zero h =
    is_less (by_key label next) (and_parts (is_below label.0 (next ∷ more)) (keys_ascend (next ∷ more)) e).0
adjacent (label ∷ next ∷ more) d e (suc k) h =
    let one : suc k + 1 ≡ suc (k + 1) = omega arith in
    rw one (adjacent (next ∷ more) d (and_parts (is_below label.0 (next ∷ more)) (keys_ascend (next ∷ more)) e).1 k (omega (arith, h)))

sorted-from : (labels : List KeyAndValue) → keys_ascend labels ≡ true → IsStrictlySortedBy by_key labels
sorted-from labels e = sorted_from_all_adjacent by_key-total labels ([], []) (adjacent labels ([], []) e)

-- with the same first label, a later label of one list is a later one of the other
tail_of : (x y : KeyAndValue) (xs ys : List KeyAndValue) → x ≡ y → IsStrictlySortedBy by_key (x ∷ xs)
    → ((label : KeyAndValue) → Contains (x ∷ xs) label → Contains (y ∷ ys) label) → (label : KeyAndValue) → Contains xs label → Contains ys label
tail_of x y xs ys same sorted within label is =
    let above : by_key x label ≡ Less = All-contains (λ l. by_key x l ≡ Less) xs label (All-after_first by_key x xs sorted) is in
    Contains-tail y ys label (λ e. not_below_itself x (ap (by_key x) (same ∙ e) ∙ above)) (within label (in-later label x xs is))

-- the least of both is the same
first_of : (x y : KeyAndValue) (xs ys : List KeyAndValue) → IsStrictlySortedBy by_key (x ∷ xs) → IsStrictlySortedBy by_key (y ∷ ys)
    → Contains (y ∷ ys) x → Contains (x ∷ xs) y → x ≡ y
first_of x y xs ys first second here there =
    ⊎_elim (λ one. one)
    (λ behind.
    ⊎_elim (λ one. sym one)
    (λ before.
    let up : by_key x y ≡ Less = All-contains (λ l. by_key x l ≡ Less) xs y (All-after_first by_key x xs first) behind in
    let down : by_key y x ≡ Less = All-contains (λ l. by_key y l ≡ Less) ys x (All-after_first by_key y ys second) before in
    absurd (not_below_itself x (by_key-total.trans x y x up down)))
    (in-cases y x ys here))
    (in-cases x y xs there)

sorted-same : (xs ys : List KeyAndValue) → IsStrictlySortedBy by_key xs → IsStrictlySortedBy by_key ys
    → ((label : KeyAndValue) → Contains xs label → Contains ys label) → ((label : KeyAndValue) → Contains ys label → Contains xs label) → xs ≡ ys
sorted-same [] [] first second there back = refl
sorted-same [] (y ∷ ys) first second there back = absurd (in-none y (back y (in-first y ys)))
sorted-same (x ∷ xs) [] first second there back = absurd (in-none x (there x (in-first x xs)))
sorted-same (x ∷ xs) (y ∷ ys) first second there back =
    let same : x ≡ y = first_of x y xs ys first second (there x (in-first x xs)) (back y (in-first y ys)) in
    ap₂ (λ l ls. l ∷ ls) same
    (sorted-same xs ys (sorted_tail by_key x xs first) (sorted_tail by_key y ys second) (tail_of x y xs ys same first there)
    (tail_of y x ys xs (sym same) second back))

-- ---- the labels of a histogram

-- whether its name gives a label such a key: one that a label may have, and none of those of all lines
pub record IsOwn (line_labels : List KeyAndValue) (label : KeyAndValue) : Type 0 where
  pub key : is_label_key label.0 ≡ true
  pub free : has_key line_labels label.0 ≡ false

own_of : (taken : List KeyAndValue) (label : KeyAndValue) → is_own_label taken label ≡ true → IsOwn taken label
own_of taken label e =
    let parts = and_parts (is_label_key label.0) (not (has_key taken label.0)) (and_parts _ (not (length label.1 == 0)) e).0 in
    record { key = parts.0; free = not-true (has_key taken label.0) parts.1 }

own-step : (taken : List KeyAndValue) (name : List ℕ) (b : Bool) → is_labeled taken name ≡ b
    → All (IsOwn taken) (if b then braced_labels name else []) × (keys_ascend (if b then braced_labels name else []) ≡ true)
own-step taken name true e =
    let has = HasLabels-from taken name e in (
      λ k d h. own_of taken (get_or (braced_labels name) k d) (AllPass-from_list_all (is_own_label taken) (braced_labels name) has.own k d h),
      has.ascend,
    )
own-step taken name false e = (λ k d h. absurd (omega (arith, h)), refl)

pub own-keys : (taken : List KeyAndValue) (name : List ℕ) → All (IsOwn taken) (own_labels taken name)
own-keys taken name = (own-step taken name (is_labeled taken name) refl).0

pub own-ascend : (taken : List KeyAndValue) (name : List ℕ) → keys_ascend (own_labels taken name) ≡ true
own-ascend taken name = (own-step taken name (is_labeled taken name) refl).1

-- a key that the export itself has is not that of another label
pub not_kept : (key : List ℕ) → is_label_key key ≡ true → is_kept_key key ≡ true → ⊥
not_kept key may kept =
    let free : is_kept_key key ≡ false = not-true (is_kept_key key) (and_parts _ (not (is_kept_key key)) may).1 in
    cc

-- a label of all lines has one of their keys
has-none : (labels : List KeyAndValue) (key : List ℕ) → has_key labels key ≡ false → All (λ label. bytes_eq label.0 key ≡ false) labels
has-none [] key e = λ k d h. absurd (omega (arith, h))
has-none (label ∷ labels) key e =
    let parts = or_parts (bytes_eq label.0 key) (has_key labels key) e in
    All-cons (λ label. bytes_eq label.0 key ≡ false) label labels parts.0 (has-none labels key parts.1)

not_of_line : (taken : List KeyAndValue) (label : KeyAndValue) → IsOwn taken label → Contains taken label → ⊥
not_of_line taken label own is =
    let other : bytes_eq label.0 label.0 ≡ false = All-contains (λ l. bytes_eq l.0 label.0 ≡ false) taken label (has-none taken label.0 own.free) is in
    let same : bytes_eq label.0 label.0 ≡ true = bytes_eq-same label.0 label.0 refl in
    cc

-- a key that is the export's own
abbrev pub HasKeptKey : KeyAndValue → Type 0
HasKeptKey label = is_kept_key label.0 ≡ true

not_kept_one : (line_labels labels : List KeyAndValue) (label : KeyAndValue) → IsOwn line_labels label → All HasKeptKey labels → Contains labels label → ⊥
not_kept_one line_labels labels label own kept is = not_kept label.0 own.key (All-contains HasKeptKey labels label kept is)

-- a label of a histogram's name is one of another's, if all labels of its line are among those of the other's line
own-passes : (line_labels front own behind : List KeyAndValue) (label : KeyAndValue) → All HasKeptKey front → All HasKeptKey behind
    → IsOwn line_labels label → Contains ((front ++ (own ++ line_labels)) ++ behind) label → Contains own label
own-passes line_labels front own behind label first last is there =
    ⊎_elim
    (λ inner.
    ⊎_elim (λ early. absurd (not_kept_one line_labels front label is first early))
    (λ among. ⊎_elim (λ one. one) (λ late. absurd (not_of_line line_labels label is late)) (Contains-append_cases own line_labels label among))
    (Contains-append_cases front (own ++ line_labels) label inner))
    (λ late. absurd (not_kept_one line_labels behind label is last late))
    (Contains-append_cases (front ++ (own ++ line_labels)) behind label there)

-- and it is a label of its own line
own-there : (line_labels front own behind : List KeyAndValue) (label : KeyAndValue) → Contains own label
    → Contains ((front ++ (own ++ line_labels)) ++ behind) label
own-there line_labels front own behind label is =
    Contains-append_left (front ++ (own ++ line_labels)) behind label
    (Contains-append_right front (own ++ line_labels) label (Contains-append_left own line_labels label is))

-- what is of one set of labels
abbrev pub AreSameLabels : List KeyAndValue → List KeyAndValue → Type 0
AreSameLabels a b = (label : KeyAndValue) → Contains a label ↔ Contains b label

-- lines with the same labels have the same ones of their names
pub own-same : (line_labels : List KeyAndValue) (a b : List ℕ) (front_a behind_a front_b behind_b : List KeyAndValue)
    → All HasKeptKey front_a → All HasKeptKey behind_a → All HasKeptKey front_b → All HasKeptKey behind_b
    → AreSameLabels ((front_a ++ (own_labels line_labels a ++ line_labels)) ++ behind_a) ((front_b ++ (own_labels line_labels b ++ line_labels)) ++ behind_b)
    → own_labels line_labels a ≡ own_labels line_labels b
own-same line_labels a b front_a behind_a front_b behind_b fa ba fb bb same =
    let own_a : List KeyAndValue = own_labels line_labels a in
    let own_b : List KeyAndValue = own_labels line_labels b in
    sorted-same own_a own_b (sorted-from own_a (own-ascend line_labels a)) (sorted-from own_b (own-ascend line_labels b))
    (λ label is.
    own-passes line_labels front_b own_b behind_b label fb bb (All-contains (IsOwn line_labels) own_a label (own-keys line_labels a) is)
    ((same label).0 (own-there line_labels front_a own_a behind_a label is)))
    (λ label is.
    own-passes line_labels front_a own_a behind_a label fa ba (All-contains (IsOwn line_labels) own_b label (own-keys line_labels b) is)
    ((same label).1 (own-there line_labels front_b own_b behind_b label is)))
