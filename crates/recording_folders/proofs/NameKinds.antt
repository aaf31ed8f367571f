-- The name of a number is of no other kind.
use Rattle.std.proofs.Common.{◌≡◌, ℕ, ◌<◌, List, ◌++◌, ap, sym, ◌∙◌, codes, get_or, arith, inl, inr}
use Rattle.std.specs.Int.{IsInRange}
use Rattle.std.proofs.lemmas.List.{append_cancel_right}
use Rattle.recording_folders.specs.declared.kind.FileKind.{FileKind}
use Rattle.recording_folders.specs.declared.kind.FileKind.TheVariants.{Segment, Damaged, Spare, Totals, NewTotals, FoldLock, Mark, NewMark, History, Other}
use Rattle.recording_folders.specs.Names.{IsNumber, IsNameOf, HasNoNumber, padded, numbered, segment_name, damaged_name}
use Rattle.recording_folders.proofs.Padded.{has_64_bits, padded_injective, ends_differ, begins_with_digit}

-- a name with a number is no name without one
pub has_number : (name ending : List ℕ) (n : ℕ) → IsNumber n → name ≡ numbered n ending → (kind : FileKind) → HasNoNumber kind → IsNameOf name kind → ⊥
has_number name ending n number is (Segment m) none h = none
has_number name ending n number is (Damaged m) none h = none
has_number name ending n number is Spare none h =
    begins_with_digit n 115 ending (has_64_bits n number) (λ range. omega arith) (ap (λ s. get_or s 0 0) (sym is ∙ h.is))
has_number name ending n number is Totals none h =
    begins_with_digit n 116 ending (has_64_bits n number) (λ range. omega arith) (ap (λ s. get_or s 0 0) (sym is ∙ h))
has_number name ending n number is NewTotals none h =
    begins_with_digit n 116 ending (has_64_bits n number) (λ range. omega arith) (ap (λ s. get_or s 0 0) (sym is ∙ h))
has_number name ending n number is FoldLock none h =
    begins_with_digit n 102 ending (has_64_bits n number) (λ range. omega arith) (ap (λ s. get_or s 0 0) (sym is ∙ h))
has_number name ending n number is Mark none h =
    begins_with_digit n 114 ending (has_64_bits n number) (λ range. omega arith) (ap (λ s. get_or s 0 0) (sym is ∙ h))
has_number name ending n number is NewMark none h =
    begins_with_digit n 114 ending (has_64_bits n number) (λ range. omega arith) (ap (λ s. get_or s 0 0) (sym is ∙ h.is))
has_number name ending n number is History none (inl h) =
    begins_with_digit n 104 ending (has_64_bits n number) (λ range. omega arith) (ap (λ s. get_or s 0 0) (sym is ∙ h))
has_number name ending n number is History none (inr (inl h)) =
    begins_with_digit n 104 ending (has_64_bits n number) (λ range. omega arith) (ap (λ s. get_or s 0 0) (sym is ∙ h))
has_number name ending n number is History none (inr (inr (inl h))) =
    begins_with_digit n 104 ending (has_64_bits n number) (λ range. omega arith) (ap (λ s. get_or s 0 0) (sym is ∙ h))
has_number name ending n number is History none (inr (inr (inr h))) =
    begins_with_digit n 104 ending (has_64_bits n number) (λ range. omega arith) (ap (λ s. get_or s 0 0) (sym is ∙ h))
has_number name ending n number is Other none h = h

-- the name of a segment is that of its number alone
pub segment_only : (name : List ℕ) (n : ℕ) → IsNumber n → name ≡ segment_name n → (kind : FileKind) → IsNameOf name kind → Segment n ≡ kind
segment_only name n number is (Segment m) h =
    ap Segment (padded_injective n m (has_64_bits n number) (has_64_bits m h.0) (append_cancel_right (padded n) (padded m) (codes ".seg") (sym is ∙ h.1)))
segment_only name n number is (Damaged m) h = absurd (ends_differ (padded n) (padded m) (sym is ∙ h.1))
segment_only name n number is Spare h = absurd (has_number name (codes ".seg") n number is Spare tt h)
segment_only name n number is Totals h = absurd (has_number name (codes ".seg") n number is Totals tt h)
segment_only name n number is NewTotals h = absurd (has_number name (codes ".seg") n number is NewTotals tt h)
segment_only name n number is FoldLock h = absurd (has_number name (codes ".seg") n number is FoldLock tt h)
segment_only name n number is Mark h = absurd (has_number name (codes ".seg") n number is Mark tt h)
segment_only name n number is NewMark h = absurd (has_number name (codes ".seg") n number is NewMark tt h)
segment_only name n number is History h = absurd (has_number name (codes ".seg") n number is History tt h)
segment_only name n number is Other h = absurd h

-- and that of a damaged one
pub damaged_only : (name : List ℕ) (n : ℕ) → IsNumber n → name ≡ damaged_name n → (kind : FileKind) → IsNameOf name kind → Damaged n ≡ kind
damaged_only name n number is (Segment m) h = absurd (ends_differ (padded m) (padded n) (sym h.1 ∙ is))
damaged_only name n number is (Damaged m) h =
    ap Damaged (padded_injective n m (has_64_bits n number) (has_64_bits m h.0) (append_cancel_right (padded n) (padded m) (codes ".damaged") (sym is ∙ h.1)))
damaged_only name n number is Spare h = absurd (has_number name (codes ".damaged") n number is Spare tt h)
damaged_only name n number is Totals h = absurd (has_number name (codes ".damaged") n number is Totals tt h)
damaged_only name n number is NewTotals h = absurd (has_number name (codes ".damaged") n number is NewTotals tt h)
damaged_only name n number is FoldLock h = absurd (has_number name (codes ".damaged") n number is FoldLock tt h)
damaged_only name n number is Mark h = absurd (has_number name (codes ".damaged") n number is Mark tt h)
damaged_only name n number is NewMark h = absurd (has_number name (codes ".damaged") n number is NewMark tt h)
damaged_only name n number is History h = absurd (has_number name (codes ".damaged") n number is History tt h)
damaged_only name n number is Other h = absurd h

-- a name that is that of no number is recognized by what it is without one
pub without_number : (name : List ℕ) → ((n : ℕ) → IsNumber n → name ≡ segment_name n → ⊥) → ((n : ℕ) → IsNumber n → name ≡ damaged_name n → ⊥)
    → (found : FileKind) → ((kind : FileKind) → HasNoNumber kind → IsNameOf name kind → found ≡ kind) → (kind : FileKind) → IsNameOf name kind → found ≡ kind
without_number name segment damaged found only (Segment m) h = absurd (segment m h.0 h.1)
without_number name segment damaged found only (Damaged m) h = absurd (damaged m h.0 h.1)
without_number name segment damaged found only Spare h = only Spare tt h
without_number name segment damaged found only Totals h = only Totals tt h
without_number name segment damaged found only NewTotals h = only NewTotals tt h
without_number name segment damaged found only FoldLock h = only FoldLock tt h
without_number name segment damaged found only Mark h = only Mark tt h
without_number name segment damaged found only NewMark h = only NewMark tt h
without_number name segment damaged found only History h = only History tt h
without_number name segment damaged found only Other h = absurd h
