-- A name is its base and its labels, put together again.
use Rattle.std.proofs.Common.{◌≡◌, ◌≢◌, ◌∙◌, ap, ap₂, sym, refl, ℕ, ◌+◌, ◌-◌, ◌<◌, Bool, true, false, not, ◌&&◌, ◌==◌, List, [], ◌∷◌, ◌++◌, length, length-drop, map, take, get_or, arith, eqb-true}
use Rattle.std.specs.Prelude.{slice_index, if◌then◌else◌}
use Rattle.std.specs.List.{before_first, after_first, position_or_len, join_with_byte, list_all, slice_split}
use Rattle.std.proofs.Math.Seq.{take-length}
use Rattle.std.proofs.lemmas.Bool.{and_parts, not-true, eqb-false}
use Rattle.std.proofs.lemmas.List.{take_more, length-map}
use Rattle.std.proofs.lemmas.List.Sums.{split_at_first, passes_at_first}
use Rattle.std.proofs.lemmas.List.Splits.{join_with_byte-slice_split, length-slice_split}
use Rattle.reading_texts.specs.Labels.{label_of, behind_brace, in_braces, braced_labels, base_of, is_own_label, is_label_key, has_key, keys_ascend, is_labeled, named_by, own_labels}

-- ---- cut at a byte, and put together

-- if something follows the first occurrence of a byte, that byte is there
cut-is : (byte : ℕ) (text : List ℕ) → 0 < length (after_first (λ b. b == byte) text)
    → text ≡ before_first (λ b. b == byte) text ++ byte ∷ after_first (λ b. b == byte) text
cut-is byte text some =
    let test : ℕ → Bool = λ b. b == byte in
    let within : position_or_len test text < length text = omega (arith, some, length-drop (position_or_len test text + 1) text) in
    let is : get_or text (position_or_len test text) 0 ≡ byte = eqb-true _ _ (passes_at_first test text 0 within) in
    split_at_first test text 0 within ∙ ap (λ b. before_first test text ++ b ∷ after_first test text) is

-- a label as it is written in a name
abbrev pub part_of : List ℕ × List ℕ → List ℕ
part_of label = label.0 ++ 61 ∷ label.1

-- a number that is not 0
some_of : (n : ℕ) → not (n == 0) ≡ true → 0 < n
some_of n e = let ne : n ≢ 0 = eqb-false n 0 (not-true _ e) in omega (arith, ne)

part_of-label : (part : List ℕ) → not (length (label_of part).1 == 0) ≡ true → part_of (label_of part) ≡ part
part_of-label part some = sym (cut-is 61 part (some_of (length (label_of part).1) some))

-- the parts that a name's labels are, if each may be one of the export
parts_of-labels : (taken : List (List ℕ × List ℕ)) (parts : List (List ℕ)) → list_all (is_own_label taken) (map label_of parts) ≡ true
    → map part_of (map label_of parts) ≡ parts
parts_of-labels taken [] e = refl
parts_of-labels taken (part ∷ parts) e =
    let both = and_parts (is_own_label taken (label_of part)) (list_all (is_own_label taken) (map label_of parts)) e in
    let some : not (length (label_of part).1 == 0) ≡ true = (and_parts (is_label_key (label_of part).0 && not (has_key taken (label_of part).0)) _ both.0).1 in
    ap₂ (λ x xs. x ∷ xs) (part_of-label part some) (parts_of-labels taken parts both.1)

-- ---- the name

-- a name, from what comes before its braces and the labels in them
abbrev pub put_together : List ℕ → List (List ℕ × List ℕ) → List ℕ
put_together base labels = base ++ 123 ∷ (join_with_byte 59 (map part_of labels) ++ 125 ∷ [])

-- a text that ends with a byte
ends-is : (text : List ℕ) (byte : ℕ) → 0 < byte → slice_index text (length text - 1) ≡ byte → text ≡ take (length text - 1) text ++ byte ∷ []
ends-is [] byte some e = absurd (omega (arith, e, some))
ends-is (first ∷ more) byte some e =
    let text : List ℕ = first ∷ more in
    let within : length text - 1 < length text = omega arith in
    let all : length text - 1 + 1 ≡ length text = omega arith in
    sym (take-length text) ∙ ap (λ n. take n text) (sym all) ∙ take_more text (length text - 1) 0 within
    ∙ ap (λ b. take (length text - 1) text ++ b ∷ []) e

-- what a name that has labels says of its parts
pub record HasLabels (taken : List (List ℕ × List ℕ)) (name : List ℕ) : Type 0 where
  pub ends : slice_index (behind_brace name) (length (behind_brace name) - 1) ≡ 125
  pub own : list_all (is_own_label taken) (braced_labels name) ≡ true
  pub ascend : keys_ascend (braced_labels name) ≡ true

pub HasLabels-from : (taken : List (List ℕ × List ℕ)) (name : List ℕ) → is_labeled taken name ≡ true → HasLabels taken name
HasLabels-from taken name e =
    let outer = and_parts _ (keys_ascend (braced_labels name)) e in
    let inner = and_parts _ (list_all (is_own_label taken) (braced_labels name)) outer.0 in
    let first = and_parts _ (slice_index (behind_brace name) (length (behind_brace name) - 1) == 125) inner.0 in
    record { ends = eqb-true _ _ first.1; own = inner.1; ascend = outer.1 }

-- a text that ends with a byte other than 0 is not empty
last-some : (text : List ℕ) (byte : ℕ) → 0 < byte → slice_index text (length text - 1) ≡ byte → 0 < length text
last-some [] byte some e = absurd (omega (arith, e, some))
last-some (first ∷ more) byte some e = omega arith

pub put_together-is : (taken : List (List ℕ × List ℕ)) (name : List ℕ) → HasLabels taken name
    → put_together (base_of name) (braced_labels name) ≡ name
put_together-is taken name has =
    let parts : List (List ℕ) = slice_split (λ byte. byte == 59) (in_braces name) in
    let joined : join_with_byte 59 (map part_of (braced_labels name)) ≡ in_braces name =
    ap (join_with_byte 59) (parts_of-labels taken parts has.own) ∙ join_with_byte-slice_split 59 (in_braces name) in
    let closed : join_with_byte 59 (map part_of (braced_labels name)) ++ 125 ∷ [] ≡ behind_brace name =
    ap (λ s. s ++ 125 ∷ []) joined ∙ sym (ends-is (behind_brace name) 125 (omega arith) has.ends) in
    ap (λ s. base_of name ++ 123 ∷ s) closed ∙ sym (cut-is 123 name (last-some (behind_brace name) 125 (omega arith) has.ends))

-- ---- names that are one

-- the list of labels in the braces is never empty
labels-some : (name : List ℕ) → braced_labels name ≡ [] → ⊥
labels-some name e =
    let parts : List (List ℕ) = slice_split (λ byte. byte == 59) (in_braces name) in
    omega (arith, ap length e, length-map parts label_of, length-slice_split (λ byte. byte == 59) (in_braces name))

same-step : (taken : List (List ℕ × List ℕ)) (a b : List ℕ) (x y : Bool) → is_labeled taken a ≡ x → is_labeled taken b ≡ y
    → (if x then base_of a else a) ≡ (if y then base_of b else b) → (if x then braced_labels a else []) ≡ (if y then braced_labels b else []) → a ≡ b
same-step taken a b true true p q base labels =
    sym (put_together-is taken a (HasLabels-from taken a p)) ∙ ap₂ put_together base labels ∙ put_together-is taken b (HasLabels-from taken b q)
same-step taken a b true false p q base labels = absurd (labels-some a labels)
same-step taken a b false true p q base labels = absurd (labels-some b (sym labels))
same-step taken a b false false p q base labels = base

-- names of one base with the same labels are one name
pub same_name-from : (taken : List (List ℕ × List ℕ)) (a b : List ℕ) → named_by taken a ≡ named_by taken b → own_labels taken a ≡ own_labels taken b
    → a ≡ b
same_name-from taken a b base labels = same-step taken a b (is_labeled taken a) (is_labeled taken b) refl refl base labels
