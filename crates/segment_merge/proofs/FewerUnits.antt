-- A walk along two lists of ascending keys finds each key of which there are fewer units than are noted.
use Rattle.std.proofs.Common.{◌≡◌, ◌≢◌, ℕ, zero, suc, ◌+◌, ◌<◌, ◌≤◌, ℤ, pos, ◌<ℤ◌, Bool, true, false, if◌then◌else◌, List, [], ◌∷◌, length, inl, inr, refl, sym, ap, subst, arith}
use Rattle.std.specs.Prelude.{◌⊎◌}
use Rattle.std.specs.Ordering.{int_eq}
use Rattle.std.proofs.lemmas.Bool.{cases_lt}
use Rattle.std.proofs.lemmas.Bool.Decides.{Decides-int_eq}
use Rattle.std.proofs.lemmas.Int.{ints}
use Rattle.std.proofs.lemmas.List.Sums.{get_or-le-sum_by, sum_by-cons}
use Rattle.segment_machine.specs.Actor.{units_listed}
use Rattle.segment_merge.specs.Marks.{AreAscending, HasFewer, IsGone, IsMark, IsNextNoted, count_at}

-- units of another key are none of this one
not_this : (x y : ℤ) (n : ℕ) → x ≢ y → (if int_eq x y then n else 0) ≡ 0
not_this x y n apart = by (int_eq x y) refl
  where
    by : (b : Bool) → int_eq x y ≡ b → (if b then n else 0) ≡ 0
    by true e = absurd (apart ((Decides-int_eq x y).0 e))
    by false e = refl

-- and those of the same are
this_one : (x y : ℤ) (n : ℕ) → x ≡ y → (if int_eq x y then n else 0) ≡ n
this_one x y n same = (λ i. if (Decides-int_eq x y).1 same i then n else 0)

-- a key that is nowhere has no units
absent_units : (counts : List (ℤ × ℕ)) (key : ℤ) → ((k : ℕ) → k < length counts → (count_at counts k).0 ≢ key) → units_listed counts key ≡ 0
absent_units [] key apart = refl
absent_units (count ∷ counts) key apart =
    let whole = sum_by-cons (λ (one : ℤ × ℕ). if int_eq one.0 key then one.1 else 0) count counts in
    let first = not_this count.0 key count.1 (apart 0 (omega arith)) in
    let rest = absent_units counts key (λ k near. apart (suc k) (omega (arith, near))) in
    omega (arith, whole, first, rest)

-- a key that is at one place alone has the units there
once_units : (counts : List (ℤ × ℕ)) (i : ℕ) (key : ℤ) → i < length counts → (count_at counts i).0 ≡ key
    → ((k : ℕ) → k < length counts → k ≢ i → (count_at counts k).0 ≢ key) → units_listed counts key ≡ (count_at counts i).1
once_units [] i key near its apart = absurd (omega (arith, near))
once_units (count ∷ counts) zero key near its apart =
    let whole = sum_by-cons (λ (one : ℤ × ℕ). if int_eq one.0 key then one.1 else 0) count counts in
    let first = this_one count.0 key count.1 its in
    let rest = absent_units counts key (λ k within. apart (suc k) (omega (arith, within)) (λ e. absurd (omega (arith, e)))) in
    omega (arith, whole, first, rest)
once_units (count ∷ counts) (suc i) key near its apart =
    let whole = sum_by-cons (λ (one : ℤ × ℕ). if int_eq one.0 key then one.1 else 0) count counts in
    let first = not_this count.0 key count.1 (apart 0 (omega arith) (λ e. absurd (omega (arith, e)))) in
    let rest = once_units counts i key (omega (arith, near)) its (λ k within ne. apart (suc k) (omega (arith, within)) (λ e. ne (omega (arith, e)))) in
    omega (arith, whole, first, rest)

-- a key has the units of each of its places
at_least : (counts : List (ℤ × ℕ)) (i : ℕ) (key : ℤ) → i < length counts → (count_at counts i).0 ≡ key → (count_at counts i).1 ≤ units_listed counts key
at_least counts i key near its =
    let part = get_or-le-sum_by (λ (one : ℤ × ℕ). if int_eq one.0 key then one.1 else 0) counts i (pos 0, 0) near in
    let one = this_one (count_at counts i).0 key (count_at counts i).1 its in
    omega (arith, part, one)

-- the first keys are before the one that is noted next
abbrev pub IsBelow : List (ℤ × ℕ) → List (ℤ × ℕ) → ℕ → ℕ → Type 0
IsBelow noted counts i next = (k : ℕ) → k < i → (count_at counts k).0 <ℤ (count_at noted next).0

module _ (noted counts : List (ℤ × ℕ)) (i next : ℕ) (in_order : AreAscending noted) where
  -- it may be the next of the keys
  below_then : (key : ℤ) → IsBelow noted counts i next → (count_at counts i).0 <ℤ key → ((k : ℕ) → k < i → (count_at counts k).0 <ℤ key) → (k : ℕ) → k < i + 1
      → (count_at counts k).0 <ℤ key
  below_then key so_far here before k near = elim (cases_lt k i) [
    | inl early ↦ before k early
    | inr late ↦
        let same : k ≡ i = omega (arith, near, late) in
        subst (λ (j : ℕ). (count_at counts j).0 <ℤ key) (sym same) here
  ]

  pub below_more : (mark then_next : ℕ) → IsMark noted next (count_at counts i).0 (count_at counts i).1 mark
      → ((0 < mark) × IsNextNoted noted (next + 1) then_next) ⊎ ((mark ≡ 0) × (then_next ≡ next))
      → (next < length noted → 0 < (count_at noted next).1) → (next < length noted → IsBelow noted counts i next)
      → then_next < length noted → IsBelow noted counts (i + 1) then_next
  below_more mark then_next (inl (none, before)) (inl (some_mark, steps)) some so_far there = absurd (omega (arith, none, some_mark))
  below_more mark then_next (inl (none, before)) (inr (zero_mark, same)) some so_far there =
      let within : next < length noted = omega (arith, there, same) in
      subst (IsBelow noted counts (i + 1)) (sym same)
      (below_then (count_at noted next).0 (so_far within) (before within) (so_far within))
  below_more mark then_next (inr (within, is, room)) (inl (some_mark, steps)) some so_far there =
      let onward = steps.onward in
      let up : (count_at noted next).0 <ℤ (count_at noted then_next).0 = in_order next then_next (omega (arith, onward)) there in
      let here : (count_at counts i).0 <ℤ (count_at noted then_next).0 =
      subst (λ (z : ℤ). z <ℤ (count_at noted then_next).0) (ap (λ (one : ℤ × ℕ). one.0) is) up in
      below_then (count_at noted then_next).0 (so_far within) here (λ k near. let less = so_far within k near in omega (arith, ints, less, up))
  below_more mark then_next (inr (within, is, room)) (inr (zero_mark, same)) some so_far there =
      let more = some within in
      let its = ap (λ (one : ℤ × ℕ). one.1) is in
      absurd (omega (arith, more, its, zero_mark))

  -- a key that is noted and is behind all that were passed, and before all others, is gone
  gone_units : next < length noted → 0 < (count_at noted next).1
      → ((k : ℕ) → k < length counts → (count_at counts k).0 ≢ (count_at noted next).0) → HasFewer noted counts
  gone_units there more apart =
      let none = absent_units counts (count_at noted next).0 apart in
      let some = at_least noted next (count_at noted next).0 there refl in
      ((count_at noted next).0, omega (arith, none, some, more))

  -- at the end
  pub left_fewer : next < length noted → 0 < (count_at noted next).1 → length counts ≤ i → IsBelow noted counts i next → HasFewer noted counts
  left_fewer there more past below =
      gone_units there more (λ k near e. let less = below k (omega (arith, near, past)) in absurd (omega (arith, ints, less, e)))

  -- at a key
  pub gone_fewer : AreAscending counts → i < length counts → IsGone noted next (count_at counts i).0 (count_at counts i).1
      → 0 < (count_at noted next).1 → IsBelow noted counts i next → HasFewer noted counts
  gone_fewer ascend near (there, inl less) more below =
      gone_units there more (λ k within e. elim (cases_lt k i) [
        | inl early ↦ let up = below k early in absurd (omega (arith, ints, up, e))
        | inr late ↦ elim (cases_lt i k) [
          | inl behind ↦ let up = ascend i k behind within in absurd (omega (arith, ints, up, less, e))
          | inr here ↦
              let same : k ≡ i = omega (arith, late, here) in
              let its = ap (λ (j : ℕ). (count_at counts j).0) same in
              absurd (omega (arith, ints, less, e, its))
        ]
      ])
  gone_fewer ascend near (there, inr (same, fewer)) more below =
      let key : ℤ = (count_at counts i).0 in
      let own = once_units counts i key near refl (λ k within ne e. elim (cases_lt k i) [
        | inl early ↦ let up = ascend k i early near in absurd (omega (arith, ints, up, e))
        | inr late ↦ let up = ascend i k (omega (arith, late, ne)) within in absurd (omega (arith, ints, up, e))
      ]) in
      let its = at_least noted next key there same in
      (key, omega (arith, own, its, fewer))
