-- The sums of an image are near: any two of a record differ by no more than what its histogram has used.
use Rattle.segment_invariant.proofs.Prelude.Std.{◌≡◌, ◌⊎◌, inl, inr, ℕ, zero, suc, ◌*◌, ◌^◌, ◌<◌, ◌≤◌, ℤ, pos, ◌+ℤ◌, List, All, refl, sym, ap, ◌∙◌, subst, arith, ◌-ℤ◌, unsigned_abs, +ℤ_idr}
use Rattle.segment_invariant.proofs.Prelude.Machine.{head_of, name_of, Histogram, IsListed, Reading, reading_along, SumLoaded}
use Rattle.segment_invariant.proofs.Prelude.Invariant.{Record, Anatomy, IsSumOf, SumsAreNear}
use Rattle.std.proofs.Common.{negsuc}
use Rattle.std.proofs.Math.IntN.{neg_ℤ, neg_ℤ-neg_ℤ, neg_ℤ-+ℤ, +ℤ_comm, +ℤ_invr}
use Rattle.segment_invariant.specs.Invariant.{summed_costs}
use Rattle.list_lemmas.proofs.Elements.{each_of_one}
use Rattle.segment_promises.specs.Adoption.{IsAdoptable, units_for, used_by}
use Rattle.segment_promises.proofs.Adopting.FirstEntries.{costs_are, of_its_name}
use Rattle.segment_promises.proofs.Adopting.Bodies.{record_at}
use Rattle.segment_promises.proofs.Adopting.Openers.{opener, actors}
use Rattle.segment_promises.proofs.Adopting.Opened.Anatomy.{opened}
use Rattle.segment_promises.proofs.Adopting.Opened.Blocks.{there_by_test}
use Rattle.segment_promises.proofs.Adopting.Opened.Ledgers.{hists_once}
use Rattle.segment_promises.proofs.Adopting.Opened.Names.{read, read_as, read_hist}
use Rattle.segment_promises.proofs.Adopting.Opened.Pieces.{is_record}

-- ---- differences

same_size : (z : ℤ) → unsigned_abs (neg_ℤ z) ≡ unsigned_abs z
same_size (pos zero) = refl
same_size (pos (suc n)) = refl
same_size (negsuc n) = refl

-- a difference is as large the other way round
turned : (x y : ℤ) → unsigned_abs (x -ℤ y) ≡ unsigned_abs (y -ℤ x)
turned x y =
    sym (same_size (x -ℤ y))
    ∙ ap unsigned_abs (neg_ℤ-+ℤ x (neg_ℤ y) ∙ (ap (λ (z : ℤ). neg_ℤ x +ℤ z) (neg_ℤ-neg_ℤ y) ∙ +ℤ_comm (neg_ℤ x) y))

-- ---- of one histogram

module _ (h : Histogram) where
  -- of numbers that are others
  by : {x y a b : ℤ} → x ≡ a → y ≡ b → unsigned_abs (a -ℤ b) ≤ 2147483648 * used_by h → unsigned_abs (x -ℤ y) ≤ 2147483648 * used_by h
  by {x} {y} {a} {b} first second size = subst (λ (p : ℤ × ℤ). unsigned_abs (p.0 -ℤ p.1) ≤ 2147483648 * used_by h) (λ i. (sym first i, sym second i)) size

  -- one of its sums: none, the present one, or its mark
  abbrev IsIts : ℤ → Type 0
  IsIts x = (x ≡ pos 0) ⊎ (x ≡ h.sum) ⊎ (x ≡ h.sum_mark)

  enough : (x : ℤ) → units_for x ≤ used_by h → unsigned_abs x ≤ 2147483648 * used_by h
  enough x most = omega (arith, most)

  none_apart : (x : ℤ) → unsigned_abs (x -ℤ x) ≤ 2147483648 * used_by h
  none_apart x = let e = ap unsigned_abs (+ℤ_invr x) in omega (arith, e)

  from_none : (x : ℤ) → units_for x ≤ used_by h → unsigned_abs (x -ℤ pos 0) ≤ 2147483648 * used_by h
  from_none x most = let e = ap unsigned_abs (+ℤ_idr x) in let size = enough x most in omega (arith, e, size)

  to_none : (x : ℤ) → units_for x ≤ used_by h → unsigned_abs (pos 0 -ℤ x) ≤ 2147483648 * used_by h
  to_none x most = let e = turned (pos 0) x in let size = from_none x most in omega (arith, e, size)

  sum_used : units_for h.sum ≤ used_by h
  sum_used = omega arith

  mark_used : units_for h.sum_mark ≤ used_by h
  mark_used = omega arith

  difference_used : units_for (h.sum -ℤ h.sum_mark) ≤ used_by h
  difference_used = omega arith

  -- any two of them are near
  near : (x y : ℤ) → IsIts x → IsIts y → unsigned_abs (x -ℤ y) ≤ 2147483648 * used_by h
  near x y (inl a) (inl b) = by a b (none_apart (pos 0))
  near x y (inl a) (inr (inl b)) = by a b (to_none h.sum sum_used)
  near x y (inl a) (inr (inr b)) = by a b (to_none h.sum_mark mark_used)
  near x y (inr (inl a)) (inl b) = by a b (from_none h.sum sum_used)
  near x y (inr (inl a)) (inr (inl b)) = by a b (none_apart h.sum)
  near x y (inr (inl a)) (inr (inr b)) = by a b (enough (h.sum -ℤ h.sum_mark) difference_used)
  near x y (inr (inr a)) (inl b) = by a b (from_none h.sum_mark mark_used)
  near x y (inr (inr a)) (inr (inl b)) =
      let e = turned h.sum_mark h.sum in
      let size = enough (h.sum -ℤ h.sum_mark) difference_used in
      by a b (omega (arith, e, size))
  near x y (inr (inr a)) (inr (inr b)) = by a b (none_apart h.sum_mark)

-- ---- an image

module _ (words references : List ℕ) (reading : Reading) (narrow : All (λ word. word < 2 ^ 64) words) (listed : IsListed words (head_of words) references)
    (reads : reading ≡ reading_along words (head_of words) references) (adoptable : IsAdoptable words references reading) where
  abbrev its : Anatomy
  its = opened words references reading narrow listed reads adoptable

  -- its opener has loaded no sum
  its_sum : (cursors at : ℕ) (x : ℤ) → IsSumOf (actors words references reading cursors) at (record_at words at) x
      → IsIts (read_as words references reading narrow listed reads adoptable at) x
  its_sum cursors at x (inl is) = inl is
  its_sum cursors at x (inr (inl is)) = inr (inl is)
  its_sum cursors at x (inr (inr (inl is))) = inr (inr is)
  its_sum cursors at x (inr (inr (inr (id, a, there, place)))) =
      absurd (each_of_one (opener words references reading cursors) (λ k a. a.hand.place ≡ SumLoaded at x → ⊥) (λ loaded. cc loaded) id a there place)

  pub sums_near : (cursors : ℕ) → SumsAreNear its.pieces (actors words references reading cursors)
  sums_near cursors at r x y has =
      let (among, one, first, is) = is_record words references reading narrow listed reads adoptable at r has in
      let there = there_by_test (read words references reading narrow listed reads adoptable) at first in
      let hist : Histogram = read_as words references reading narrow listed reads adoptable at in
      let used = costs_are reading.hists (name_of words at) used_by
      ∙ of_its_name reading.hists (hists_once words references reading narrow listed reads adoptable) used_by hist (read_hist words references reading narrow listed reads adoptable at there) in
      subst (λ (r : Record). IsSumOf (actors words references reading cursors) at r x → IsSumOf (actors words references reading cursors) at r y
      → unsigned_abs (x -ℤ y) ≤ 2147483648 * summed_costs r.name (actors words references reading cursors)) (sym is)
      (λ a b.
      let size = near hist x y (its_sum cursors at x a) (its_sum cursors at y b) in
      omega (arith, size, used))
