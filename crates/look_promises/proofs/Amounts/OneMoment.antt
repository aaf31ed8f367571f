-- Totals that are no less than others, and in all no more, are the same.
use Rattle.segment_invariant.proofs.Prelude.Std.{◌≡◌, ℕ, zero, suc, ◌+◌, ◌<◌, ◌≤◌, sum_by, sum_by-cons, sym, ap, ◌∙◌, arith, dite, ℕ_discrete}
use Rattle.segment_invariant.proofs.Prelude.Machine.{buckets_of, total_of}
use Rattle.segment_invariant.proofs.Prelude.Invariant.{Record, HasRecord, Invariant}
use Rattle.std.specs.List.{range_with_len}
use Rattle.segment_looks.specs.Looks.{counts_reference}
use Rattle.look_promises.specs.Images.{total_looked, units_in_words, units_looked, LooksAreOfOneMoment}
use Rattle.look_promises.proofs.Moments.Runs.{kept_at}
use Rattle.look_promises.proofs.Copies.ThreeCopies.{ThreeCopies, three_copies}
use Rattle.look_promises.proofs.Copies.Following.{first_last}
use Rattle.look_promises.proofs.Amounts.Marks.{from_moment, total_there}
use Rattle.look_promises.proofs.Amounts.Totals.{goes_to, totals_between}

-- ---- sums over a range

pub sum_below : (f g : ℕ → ℕ) (n start : ℕ) → ((i : ℕ) → start ≤ i → i < start + n → f i ≤ g i) → sum_by f (range_with_len start n) ≤ sum_by g (range_with_len start n)
sum_below f g zero start below = omega arith
sum_below f g (suc n) start below =
    let here = below start (omega arith) (omega arith) in
    let rest = sum_below f g n (start + 1) (λ i from lt. below i (omega (arith, from)) (omega (arith, lt))) in
    let p : sum_by f (range_with_len start (suc n)) ≡ f start + sum_by f (range_with_len (start + 1) n) = sum_by-cons f start (range_with_len (start + 1) n) in
    let q : sum_by g (range_with_len start (suc n)) ≡ g start + sum_by g (range_with_len (start + 1) n) = sum_by-cons g start (range_with_len (start + 1) n) in
    omega (arith, here, rest, p, q)

same_each : (f g : ℕ → ℕ) (n start : ℕ) → ((i : ℕ) → start ≤ i → i < start + n → f i ≤ g i) → sum_by g (range_with_len start n) ≤ sum_by f (range_with_len start n)
    → (i : ℕ) → start ≤ i → i < start + n → g i ≡ f i
same_each f g zero start below most i from lt = absurd (omega (arith, from, lt))
same_each f g (suc n) start below most i from lt =
    let here = below start (omega arith) (omega arith) in
    let rest = sum_below f g n (start + 1) (λ i from lt. below i (omega (arith, from)) (omega (arith, lt))) in
    let p : sum_by f (range_with_len start (suc n)) ≡ f start + sum_by f (range_with_len (start + 1) n) = sum_by-cons f start (range_with_len (start + 1) n) in
    let q : sum_by g (range_with_len start (suc n)) ≡ g start + sum_by g (range_with_len (start + 1) n) = sum_by-cons g start (range_with_len (start + 1) n) in
    dite (ℕ_discrete i start)
    (λ first. let one : g start ≡ f start = omega (arith, here, rest, p, q, most) in ap g first ∙ (one ∙ ap f (sym first)))
    (λ later. same_each f g n (start + 1) (λ i from lt. below i (omega (arith, from)) (omega (arith, lt))) (omega (arith, here, p, q, most)) i (omega (arith, from, later)) (omega (arith, lt)))

-- ---- a look

module _ (copies : ThreeCopies) (moment : ℕ) (before : (j : ℕ) → j < copies.shape.size → moment ≤ copies.moments.two j) where
  open copies use {run, shape, opened, at, last, two, three}

  abbrev then_is : Invariant shape opened (at moment)
  then_is = kept_at run moment

  abbrev from_then : ThreeCopies
  from_then = from_moment copies moment before

  module _ (x : ℕ) (r : Record) (has : HasRecord then_is.anatomy.pieces x r) where
    abbrev n : ℕ
    n = buckets_of r.spec

    abbrev looked : ℕ → ℕ
    looked i = total_looked two x (counts_reference two three x) n i

    -- no total is less than then
    rises : (i : ℕ) → i < n → total_of 2 (at moment).words x i ≤ looked i
    rises i below =
        let there = total_there shape opened (at moment) then_is (then_is.same.0 ∙ run.version) x r has i below in
        let (q, stands, goes) = goes_to run moment last x r (first_last from_then) has in
        let kinds : buckets_of q.spec ≡ n = ap (λ (z : Record). buckets_of z.spec) goes.is in
        let up = (totals_between from_then x i q stands (omega (arith, below, kinds))).0 _ there in
        let same = ap (λ (n : ℕ). total_looked two x (counts_reference two three x) n i) kinds in
        omega (arith, up, same)

    pub of_then : (i : ℕ) → i < n → units_looked two x (counts_reference two three x) n ≤ units_in_words (at moment).words x n → looked i ≡ total_of 2 (at moment).words x i
    of_then i below most =
        same_each (total_of 2 (at moment).words x) looked n 0 (λ j from lt. rises j (omega (arith, lt))) most i (omega arith) (omega (arith, below))

pub looks_are_of_one_moment : LooksAreOfOneMoment
looks_are_of_one_moment shape opened at first last moment moments one two three run loaded before =
    let copies = three_copies shape opened at first last moments one two three run loaded in (
      kept_at copies.run moment,
      λ reference i r has below most. of_then copies moment before reference r has i below most,
    )
