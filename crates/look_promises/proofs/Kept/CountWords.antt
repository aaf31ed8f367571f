-- The counts and marks that a look takes of a counts block, if its record's single word is not off, and of the packed bucket.
use Rattle.segment_invariant.proofs.Prelude.Std.{◌≡◌, ◌≢◌, ℕ, zero, suc, ◌+◌, ◌-◌, ◌<◌, ◌≤◌, Bool, true, false, true≢false, List, [], ◌∷◌, length, inl, inr, refl, sym, ap, subst, ◌∙◌, arith, slice_index, Some, replicate, All, All-contains, All-cons, All-nil, dite, ℕ_discrete}
use Rattle.segment_invariant.proofs.Prelude.Machine.{word_at, buckets_of, single_of, packed_bucket, is_off}
use Rattle.segment_invariant.proofs.Prelude.Invariant.{Record, Counts, histogram, counts, form_at, HasRecord, HasCounts}
use Rattle.std.proofs.lemmas.List.Elements.{Contains-get_or}
use Rattle.segment_invariant.specs.Seen.{IsCounterIn}
use Rattle.segment_invariant.proofs.Blocks.Places.{counter_within}
use Rattle.segment_invariant.proofs.Frames.LaidOut.{laid_out}
use Rattle.segment_invariant.proofs.Frames.Leads.{off_leads}
use Rattle.segment_invariant.proofs.Consistency.Keys.{packed_within}
use Rattle.segment_invariant.proofs.Consistency.Records.{record_word}
use Rattle.segment_invariant.proofs.Consistency.Totals as totals
use Rattle.segment_invariant.specs.Invariant.{IsCountsOf}
use Rattle.look_promises.proofs.Moments.Runs.{kept_at}
use Rattle.look_promises.proofs.Copies.ThreeCopies.{ThreeCopies, seen_in}
use Rattle.look_promises.proofs.Moments.Listed.{ends_at, place_of}
use Rattle.look_promises.proofs.Copies.Named.{one_within, two_within}
use Rattle.look_promises.proofs.Copies.Units.{units_between, zero_there}
use Rattle.look_promises.proofs.Amounts.Totals.{goes_to}
use Rattle.look_promises.proofs.Amounts.Marks.{same_packed}
use Rattle.look_promises.proofs.Words.Counted.{mark_word}
use Rattle.look_promises.proofs.Kept.Views.{view}

-- ---- lists of zeros

pub zeros : (n : ℕ) → All (λ x. x ≡ 0) (replicate {A = ℕ} n 0)
zeros zero = All-nil (λ x. x ≡ 0)
zeros (suc n) = All-cons (λ (x : ℕ). x ≡ 0) 0 (replicate n 0) refl (zeros n)

pub zeros_each : (list : List ℕ) → ((i : ℕ) → i < length list → slice_index list i ≡ 0) → All (λ x. x ≡ 0) list
zeros_each [] each = All-nil (λ x. x ≡ 0)
zeros_each (x ∷ rest) each = All-cons (λ (x : ℕ). x ≡ 0) x rest (each 0 (omega arith)) (zeros_each rest (λ i below. each (suc i) (omega (arith, below))))

pub zero_at : (list : List ℕ) (i : ℕ) → All (λ x. x ≡ 0) list → i < length list → slice_index list i ≡ 0
zero_at list i all below = All-contains (λ (x : ℕ). x ≡ 0) list (slice_index list i) all (Contains-get_or list i 0 below)

module _ (copies : ThreeCopies) where
  open copies use {run, shape, opened, at, last, moments, one, two, loaded}
  open seen_in copies use {late}

  module _ (x : ℕ) (r : Record) (has : HasRecord late.anatomy.pieces x r) where
    abbrev n : ℕ
    n = buckets_of r.spec

    pub spot : (j : ℕ) → j < 15 → x + j < shape.size
    spot j lt = let ends = ends_at run last x (histogram r) has in omega (arith, ends, lt)

    -- the single word that a look takes leads to that of the last moment
    single_leads : (i : ℕ) → packed_bucket (single_of 2 n (word_at two (x + 9))) ≡ Some i → packed_bucket (form_at 2 r) ≡ Some i
    single_leads i packed =
        elim (view run (moments.two (x + 9)) last x 9 (word_at two (x + 9)) r
        (two_within copies (x + 9) (spot 9 (omega arith))).1 has (omega arith) (omega arith)
        (loaded.copy_two.each (x + 9) (spot 9 (omega arith)))) [
          | inl nothing ↦ absurd (cc (sym (ap (λ (w : ℕ). packed_bucket (single_of 2 n w)) nothing) ∙ packed))
          | inr v ↦
              let kinds : n ≡ buckets_of v.of.spec = ap (λ (z : Record). buckets_of z.spec) v.goes.is in
              let was : packed_bucket (single_of 2 (buckets_of v.of.spec) v.of.single) ≡ Some i = (λ j. packed_bucket (single_of 2 (sym kinds j) (sym v.is j))) ∙ packed in
              elim (same_packed (buckets_of v.of.spec) v.of.single r.single v.goes.single) [
                | inl nothing ↦ absurd (cc (sym nothing ∙ was))
                | inr same ↦ (λ j. packed_bucket (single_of 2 (kinds j) r.single)) ∙ (same ∙ was)
              ]
        ]

    module _ (some_counts : r.counts ≢ 0) (c : Counts) (stands : HasCounts late.anatomy.pieces r.counts c) (of_it : IsCountsOf late.anatomy.version x r c) where
      counter : (i : ℕ) → i < n → IsCounterIn (counts c) (4 + n + i)
      counter i below =
          let units = of_it.units in
          let marks = of_it.marks in
          (omega arith, omega (arith, units, marks, below))

      -- the mark of the packed bucket is in the record
      pub packed_mark : (i : ℕ) → packed_bucket (single_of 2 n (word_at two (x + 9))) ≡ Some i → word_at one (r.counts + (4 + n + i)) ≡ 0
      packed_mark i packed =
          let below = packed_within 2 n (word_at two (x + 9)) i packed in
          let nothing = of_it.packed i (subst (λ (v : ℕ). packed_bucket (form_at v r) ≡ Some i) (sym (late.same.0 ∙ run.version)) (single_leads i packed)) in
          let word = mark_word c n (4 + n + i) of_it.units of_it.marks (omega arith) (omega (arith, below)) in
          let index : 4 + n + i - 4 - n ≡ i = omega arith in
          let its = ap (slice_index c.marks) index in
          let most = (units_between copies x (4 + n + i) r c has stands (counter i below)).0.1 in
          omega (arith, nothing, word, its, most)

      -- until the single word is off no mark is there
      module _ (i : ℕ) (below : i < n) (on : is_off (word_at two (x + 9)) ≡ false) where
        abbrev y : ℕ
        y = r.counts + (4 + n + i)

        inside : y < shape.size
        inside =
            let ends = ends_at run last r.counts (counts c) stands in
            let within = counter_within (counts c) (4 + n + i) (counter i below) in
            omega (arith, ends, within)

        abbrev m : ℕ
        m = moments.one y

        down : m ≤ last
        down = (one_within copies y inside).1

        word : word_at one y ≡ word_at (at m).words y
        word = loaded.copy_one.each y inside

        not_named : word_at (at m).words (x + 8) ≢ r.counts → word_at (at m).words y ≡ 0
        not_named ne =
            let (k, short, place) = place_of run last x r has in
            zero_there run last m k (4 + n + i) down short r c
            (subst (λ (z : ℕ). HasRecord late.anatomy.pieces z r) (sym place) has) stands (counter i below)
            (subst (λ (z : ℕ). word_at (at m).words (z + 8) ≢ r.counts) (sym place) ne)

        by_off : (b : Bool) (q : Record) → is_off q.single ≡ b → HasRecord (kept_at run m).anatomy.pieces x q → is_off q.single ≡ false
        by_off false q is stands = is
        by_off true q off stands =
            let up = loaded.ordered.second y (x + 9) inside (spot 9 (omega arith)) in
            let (p, later, goes) = goes_to run m (moments.two (x + 9)) x q up stands in
            let after = kept_at run (moments.two (x + 9)) in
            let second : word_at two (x + 9) ≡ p.single = loaded.copy_two.each (x + 9) (spot 9 (omega arith))
            ∙ record_word shape (at (moments.two (x + 9))).words after.anatomy after.shown x p 9 later (omega arith) in
            let stays : q.single ≡ p.single = off_leads 2 (buckets_of q.spec) q.single p.single off goes.single in
            absurd (true≢false (sym off ∙ (ap is_off (stays ∙ sym second) ∙ on)))

        still_on : (q : Record) → HasRecord (kept_at run m).anatomy.pieces x q → is_off q.single ≡ false
        still_on q stands = by_off (is_off q.single) q refl stands

        named : word_at (at m).words (x + 8) ≡ r.counts → word_at (at m).words y ≡ 0
        named is = elim (view run m last x 8 (word_at (at m).words (x + 8)) r down has (omega arith) (omega arith) refl) [
          | inl nothing ↦ absurd (some_counts (sym is ∙ nothing))
          | inr v ↦
              let kept = kept_at run m in
              let q = v.of in
              let same : q.counts ≡ r.counts = sym v.is ∙ is in
              let (d, there, its) = kept.records.mounted x q v.stands (λ nothing. some_counts (sym same ∙ nothing)) in
              let kinds : n ≡ buckets_of q.spec = ap (λ (z : Record). buckets_of z.spec) v.goes.is in
              let units = its.units in
              let marks = its.marks in
              let off_not : is_off q.single ≡ false = still_on q v.stands in
              let nothing = zero_at d.marks i (its.unused off_not).1 (omega (arith, marks, kinds, below)) in
              let here = totals.mark_word shape opened (at m).words (laid_out shape opened (at m) kept) q.counts d (buckets_of q.spec) i there units (omega (arith, marks, kinds, below)) in
              (λ j. word_at (at m).words (sym same j + (4 + kinds j + i))) ∙ (here ∙ nothing)
        ]

        pub unused_mark : word_at one y ≡ 0
        unused_mark = word ∙ dite (ℕ_discrete (word_at (at m).words (x + 8)) r.counts) named not_named
