-- Labels of metrics: which keys they may have, and those that are in the name of a histogram.
use Rattle.std.specs.Prelude.{Bool, true, false, not, ◌==◌, ◌||◌, ◌&&◌, nat_lt, if◌then◌else◌, ℕ, ◌-◌, List, [], ◌∷◌, length, map, take, slice_index, codes}
use Rattle.std.specs.Char.{is_ascii_alphabetic, is_ascii_digit}
use Rattle.std.specs.Cmp.Lexicographic.{slice_cmp}
use Rattle.std.specs.Ordering.{nat_cmp, is_lt}
use Rattle.std.specs.List.{flat_map, list_all, list_any, slice_split, before_first, after_first}
use Rattle.std.specs.Str.{bytes_eq}
use Rattle.reading_texts.specs.declared.labels.Label.{Label}

-- a label as a reader sees it: its key and its value
abbrev pub label_view : Label → List ℕ × List ℕ
label_view label = (label.key.now, label.value.now)

-- ---- keys

-- a byte with which a word may begin: a letter or an underscore
abbrev pub is_first_byte : ℕ → Bool
is_first_byte byte = is_ascii_alphabetic byte || byte == 95

-- a byte that may follow the first one
abbrev pub is_later_byte : ℕ → Bool
is_later_byte byte = is_first_byte byte || is_ascii_digit byte

-- a word: what the names of metrics may begin with, and the form of a key
abbrev pub is_metric_word : List ℕ → Bool
is_metric_word [] = false
is_metric_word (first ∷ more) = is_first_byte first && list_all is_later_byte more

-- whether the first byte is an underscore
abbrev pub begins_with_underscore : List ℕ → Bool
begins_with_underscore [] = false
begins_with_underscore (first ∷ more) = first == 95

-- whether there are two underscores in a row, which Prometheus keeps for itself
abbrev pub has_two_underscores : List ℕ → Bool
has_two_underscores [] = false
has_two_underscores (first ∷ more) = (first == 95 && begins_with_underscore more) || has_two_underscores more

-- the keys that only the labels of the export itself may have
abbrev pub is_kept_key : List ℕ → Bool
is_kept_key key =
    bytes_eq key (codes "le") || bytes_eq key (codes "name") || bytes_eq key (codes "value") || bytes_eq key (codes "kind")
    || bytes_eq key (codes "histogram")

-- a key that a label may have
abbrev pub is_label_key : List ℕ → Bool
is_label_key key = is_metric_word key && not (has_two_underscores key) && not (is_kept_key key)

-- whether one of the labels has the key
abbrev pub has_key : List (List ℕ × List ℕ) → List ℕ → Bool
has_key labels key = list_any (λ label. bytes_eq label.0 key) labels

-- ---- the labels that all lines get

-- whether all lines may get a label: the key also differs from that of a flag, and the value is not empty
abbrev pub is_line_label : List ℕ × List ℕ → Bool
is_line_label label = is_label_key label.0 && not (bytes_eq label.0 (codes "flag")) && not (length label.1 == 0)

-- whether all lines may get these labels: no key comes twice
abbrev pub are_line_labels : List (List ℕ × List ℕ) → Bool
are_line_labels [] = true
are_line_labels (label ∷ more) = is_line_label label && not (has_key more label.0) && are_line_labels more

-- ---- the labels of a name: BASE{KEY=VALUE;KEY=VALUE}

-- a label, from its text in a name: a key, an equals sign and a value
abbrev pub label_of : List ℕ → List ℕ × List ℕ
label_of part = (before_first (λ byte. byte == 61) part, after_first (λ byte. byte == 61) part)

-- what follows the first opening brace
abbrev pub behind_brace : List ℕ → List ℕ
behind_brace name = after_first (λ byte. byte == 123) name

-- what is in the braces: all that follows the first opening brace, but the last byte
abbrev pub in_braces : List ℕ → List ℕ
in_braces name = take (length (behind_brace name) - 1) (behind_brace name)

-- the labels in the braces, separated by semicolons
abbrev pub braced_labels : List ℕ → List (List ℕ × List ℕ)
braced_labels name = map label_of (slice_split (λ byte. byte == 59) (in_braces name))

-- what comes before the braces
abbrev pub base_of : List ℕ → List ℕ
base_of name = before_first (λ byte. byte == 123) name

-- whether a label of a name may be one of the export: its key is not taken, and its value is not empty
abbrev pub is_own_label : List (List ℕ × List ℕ) → List ℕ × List ℕ → Bool
is_own_label taken label = is_label_key label.0 && not (has_key taken label.0) && not (length label.1 == 0)

-- whether a key is below that of the first label, byte by byte, if there is one
abbrev pub is_below : List ℕ → List (List ℕ × List ℕ) → Bool
is_below key [] = true
is_below key (next ∷ more) = is_lt (slice_cmp nat_cmp key next.0)

-- whether each key is below the next
abbrev pub keys_ascend : List (List ℕ × List ℕ) → Bool
keys_ascend [] = true
keys_ascend (label ∷ more) = is_below label.0 more && keys_ascend more

-- whether a name has labels: in braces at its end, after a base that is not empty; each may be one of the export, and their keys ascend
abbrev pub is_labeled : List (List ℕ × List ℕ) → List ℕ → Bool
is_labeled taken name =
    not (length (base_of name) == 0) && slice_index (behind_brace name) (length (behind_brace name) - 1) == 125
    && list_all (is_own_label taken) (braced_labels name) && keys_ascend (braced_labels name)

-- how the lines of a histogram name it: its name without its labels
abbrev pub named_by : List (List ℕ × List ℕ) → List ℕ → List ℕ
named_by taken name = if is_labeled taken name then base_of name else name

-- the labels that its name gives it
abbrev pub own_labels : List (List ℕ × List ℕ) → List ℕ → List (List ℕ × List ℕ)
own_labels taken name = if is_labeled taken name then braced_labels name else []

-- ---- their text

-- what a byte of a name becomes in a text: U+FFFD in UTF-8 if it is beyond ASCII
abbrev pub text_byte : ℕ → List ℕ
text_byte byte = if nat_lt byte 128 then byte ∷ [] else 239 ∷ 191 ∷ 189 ∷ []

-- a name as text
abbrev pub text_of_name : List ℕ → List ℕ
text_of_name name = flat_map text_byte name

-- what a byte of a label's value becomes in a text: a backslash, a double quote and a line feed are escaped
abbrev pub value_byte : ℕ → List ℕ
value_byte byte =
    if byte == 92 then codes "\\\\"
    else (if byte == 34 then codes "\\\""
    else (if byte == 10 then codes "\\n"
    else byte ∷ []))

-- a label's value as it is written between double quotes
abbrev pub quoted : List ℕ → List ℕ
quoted value = flat_map value_byte value
