-- What is noted of the keys of a histogram of which not all was added, one key after the other.
use Rattle.std.proofs.Common.{◌≡◌, ◌∙◌, ℕ, ◌+◌, ◌<◌, ◌≤◌, ℤ, pos, List, [], ◌∷◌, ◌++◌, length, take, drop, set, get_or, sym, ap, arith, append_assoc, append-nil}
use Rattle.std.proofs.lemmas.List.{at_drop_more, drop-drop, drop-set-lt, drop_all, get_or-drop, take_all, take_more_set}
use Rattle.segment_merge.specs.Cut.{kept, kept_of, left_behind}
use Rattle.segment_merge.specs.Marks.{count_at}
use Rattle.segment_merge.specs.Remainder.{marked}
use Rattle.segment_merge.proofs.Items.{length-marked, marked_at}

-- two lists that are the same from a place on have the same element there
same_at : (xs ys : List (ℤ × ℕ)) (i : ℕ) → drop i xs ≡ drop i ys → count_at xs i ≡ count_at ys i
same_at xs ys i same =
    let here : i + 0 ≡ i = omega arith in
    sym (get_or-drop i xs 0 (pos 0, 0) ∙ ap (λ (n : ℕ). count_at xs n) here)
    ∙ (ap (λ (list : List (ℤ × ℕ)). count_at list 0) same
    ∙ (get_or-drop i ys 0 (pos 0, 0) ∙ ap (λ (n : ℕ). count_at ys n) here))

module _ (init now : List (ℤ × ℕ)) (marks : List ℕ) (i left : ℕ) (whole : List (ℤ × ℕ)) (long : length now ≡ length init)
    (front : take i now ++ kept left (drop i (marked init marks)) ≡ whole) where
  -- one key more
  pub kept_more : (count : ℤ × ℕ) (behind : ℕ) → i < length now → drop i now ≡ drop i init
      → ◌≡◌ {A = (ℤ × ℕ) × ℕ} (count, behind) (kept_of left (count_at now i, get_or marks i 0), left_behind left (count_at now i, get_or marks i 0))
      → (take (i + 1) (set now i count) ++ kept behind (drop (i + 1) (marked init marks)) ≡ whole) × (drop (i + 1) (set now i count) ≡ drop (i + 1) init)
  kept_more count behind near rest is =
      let all : List ((ℤ × ℕ) × ℕ) = marked init marks in
      let each : (ℤ × ℕ) × ℕ = (count_at now i, get_or marks i 0) in
      let below : i < length init = omega (arith, near, long) in
      let within : i < length all = omega (arith, below, length-marked init marks) in
      let here : get_or all i ((pos 0, 0), 0) ≡ each =
      marked_at init marks i (pos 0, 0) below ∙ ap (λ (one : ℤ × ℕ). (one, get_or marks i 0)) (sym (same_at now init i rest)) in
      let opened : kept left (drop i all) ≡ kept_of left each ∷ kept (left_behind left each) (drop (i + 1) all) =
      at_drop_more (kept left) all i ((pos 0, 0), 0) within ∙ ap (λ (one : (ℤ × ℕ) × ℕ). kept left (one ∷ drop (i + 1) all)) here in (
        ap (λ (list : List (ℤ × ℕ)). list ++ kept behind (drop (i + 1) all)) (take_more_set now i count near)
            ∙ (append_assoc (take i now) (count ∷ []) (kept behind (drop (i + 1) all))
            ∙ (ap (λ (both : (ℤ × ℕ) × ℕ). take i now ++ both.0 ∷ kept both.1 (drop (i + 1) all)) is
            ∙ (sym (ap (λ (list : List (ℤ × ℕ)). take i now ++ list) opened) ∙ front))),
        drop-set-lt (i + 1) now i count (omega arith)
            ∙ (sym (drop-drop 1 i now) ∙ (ap (drop 1) rest ∙ drop-drop 1 i init)),
      )

  -- all keys
  pub kept_all : length now ≤ i → now ≡ whole
  kept_all past =
      let all : List ((ℤ × ℕ) × ℕ) = marked init marks in
      let none : drop i all ≡ [] = drop_all i all (omega (arith, past, long, length-marked init marks)) in
      sym ((λ k. take_all i now past k ++ kept left (none k)) ∙ append-nil now) ∙ front
