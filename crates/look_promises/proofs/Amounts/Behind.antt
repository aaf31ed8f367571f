-- A moment after the second copy of a look: what the look takes of a record is as if its third copy were the state then, and nothing if the
-- record was not on the list.
use Rattle.segment_invariant.proofs.Prelude.Std.{◌≡◌, ◌≢◌, ◌⊎◌, ℕ, ◌+◌, ◌^◌, ◌<◌, ◌≤◌, ◌==◌, ◌&&◌, nat_le, Bool, true, false, if◌then◌else◌, List, length, inl, inr, refl, sym, ap, subst, ◌∙◌, arith, slice_index, and_parts}
use Rattle.segment_invariant.proofs.Prelude.Machine.{word_at, single_of, units_packed}
use Rattle.segment_invariant.proofs.Prelude.Invariant.{layout_of, Record, histogram, HasRecord}
use Rattle.std.proofs.Math.Decide.{dec_lt}
use Rattle.alloc_core.proofs.Layouts.{length_shown}
use Rattle.segment_looks.specs.Looks.{counts_reference, counts_looked, is_frozen}
use Rattle.look_promises.specs.Runs.{AreLoaded}
use Rattle.look_promises.specs.Images.{total_looked}
use Rattle.look_promises.proofs.Moments.Runs.{kept_at, chain_at}
use Rattle.look_promises.proofs.Copies.ThreeCopies.{ThreeCopies, seen_in}
use Rattle.look_promises.proofs.Moments.Listed.{same_place, ends_at, place_of}
use Rattle.look_promises.proofs.NewRecords.Starts.{not_yet}
use Rattle.look_promises.proofs.Copies.References.{looked}
use Rattle.look_promises.proofs.Moments.Room.{record_was}
use Rattle.look_promises.proofs.Amounts.Forms.{both}

-- a look takes nothing of a record whose words in its second copy are 0
nothing_looked : (two three : List ℕ) (x n i : ℕ) → word_at two (x + 8) ≡ 0 → word_at two (x + 9) ≡ 0
    → total_looked two x (counts_reference two three x) n i ≡ 0
nothing_looked two three x n i no_counts empty =
    let packed : units_packed (single_of 2 n (word_at two (x + 9))) i ≡ 0 = (λ j. units_packed (single_of 2 n (empty j)) i) in
    let counted = ap (λ (place : ℕ). if place == 0 then 0 else slice_index (counts_looked two x (place + 4) n) i) none_named in
    omega (arith, packed, counted)
  where
    unfrozen : is_frozen two x ≡ false
    unfrozen = λ j. nat_le (2 ^ 63) (empty j)

    by_test : (b c : Bool) → c ≡ false → (if b && c then word_at three (x + 8) else word_at two (x + 8)) ≡ word_at two (x + 8)
    by_test true c is = ap (λ (c : Bool). if c then word_at three (x + 8) else word_at two (x + 8)) is
    by_test false c is = refl

    none_named : counts_reference two three x ≡ 0
    none_named = by_test (word_at two (x + 8) == 0) (is_frozen two x) unfrozen ∙ no_counts

-- ---- a moment after a second copy

module _ (copies : ThreeCopies) (m : ℕ) (down : m ≤ copies.last) (behind : (i : ℕ) → i < copies.shape.size → copies.moments.two i ≤ m) where
  open copies use {run, shape, at, first, last, moments, one, two, three, loaded}
  open seen_in copies use {late, list}

  pub loaded_to : AreLoaded shape at first m (record moments { three = λ j. m }) one two (at m).words
  loaded_to = record {
    copy_one = loaded.copy_one;
    copy_two = loaded.copy_two;
    copy_three = record { long = length_shown shape (at m).words (layout_of (kept_at run m).anatomy) (kept_at run m).shown; each = λ j lt. refl };
    ordered = record { begins = loaded.ordered.begins; second = loaded.ordered.second; third = λ i j li lj. behind i li; ends = λ j lt. omega arith };
  }

  -- the look, as if its third copy were the state then
  abbrev pub to_moment : ThreeCopies
  to_moment = record copies { last = m; moments = record moments { three = λ j. m }; three = (at m).words; loaded = loaded_to }

  module _ (k : ℕ) (below : k < length list) (r : Record) (has : HasRecord late.anatomy.pieces (slice_index list k) r) where
    abbrev x : ℕ
    x = slice_index list k

    spot : (j : ℕ) → j < 15 → x + j < shape.size
    spot j lt = let ends = ends_at run last x (histogram r) has in omega (arith, ends, lt)

    -- a test of the second copy decides, and if it does not, both copies have the record's own
    pub reference_was : k < length (chain_at run m) → counts_reference two three x ≡ counts_reference two (at m).words x
    reference_was there =
        let was = record_was run m last k down r has there in
        by_test ((word_at two (x + 8) == 0) && is_frozen two x) refl was.of was.stands was.goes.counts
      where
        -- its place on the list then
        looked_then : (q : Record) → HasRecord (kept_at run m).anatomy.pieces x q
            → (counts_reference two (at m).words x ≡ 0) ⊎ (counts_reference two (at m).words x ≡ q.counts)
        looked_then q stands =
            let (j, inside, place) = place_of run m x q stands in
            subst (λ (n : ℕ). (counts_reference two (at m).words n ≡ 0) ⊎ (counts_reference two (at m).words n ≡ q.counts)) place
            (looked to_moment j inside q
            (subst (λ (n : ℕ). HasRecord (kept_at run m).anatomy.pieces n q) (sym place) stands))

        named_late : is_frozen two x ≡ true → counts_reference two three x ≡ r.counts
        named_late off = elim (looked copies k below r has) [
          | inl nothing ↦ absurd ((both copies x r has).1 off nothing)
          | inr same ↦ same
        ]

        by_test : (b : Bool) → ((word_at two (x + 8) == 0) && is_frozen two x) ≡ b → (q : Record) → HasRecord (kept_at run m).anatomy.pieces x q
            → (q.counts ≢ 0 → r.counts ≡ q.counts) → counts_reference two three x ≡ counts_reference two (at m).words x
        by_test false passes q stands goes =
            ap (λ (b : Bool). if b then word_at three (x + 8) else word_at two (x + 8)) passes
            ∙ sym (ap (λ (b : Bool). if b then word_at (at m).words (x + 8) else word_at two (x + 8)) passes)
        by_test true passes q stands goes =
            let off = (and_parts (word_at two (x + 8) == 0) (is_frozen two x) passes).1 in
            let some_there = (both to_moment x q stands).1 off in
            let own = named_then q stands some_there in
            named_late off ∙ (goes (λ nothing. some_there (own ∙ nothing)) ∙ sym own)
          where
            named_then : (q : Record) → HasRecord (kept_at run m).anatomy.pieces x q → counts_reference two (at m).words x ≢ 0
                → counts_reference two (at m).words x ≡ q.counts
            named_then q stands some_there = elim (looked_then q stands) [
              | inl nothing ↦ absurd (some_there nothing)
              | inr same ↦ same
            ]

    -- of a record that is not on the list then nothing is taken
    pub not_listed : (n i : ℕ) → length (chain_at run m) ≤ k → total_looked two x (counts_reference two three x) n i ≡ 0
    not_listed n i far = nothing_looked two three x n i (nothing_at 8 (omega arith) (omega arith) (omega arith)) (nothing_at 9 (omega arith) (omega arith) (omega arith))
      where
        nothing_at : (j : ℕ) → j < 15 → 8 ≤ j → j ≤ 13 → word_at two (x + j) ≡ 0
        nothing_at j lt low high =
            let t : ℕ = moments.two (x + j) in
            let up = behind (x + j) (spot j lt) in
            let early = down in
            loaded.copy_two.each (x + j) (spot j lt)
            ∙ not_yet run (moments.two (x + j)) last k j (omega (arith, up, early)) (histogram r) below (shorter (moments.two (x + j)) up) has (low, high)
          where
            shorter : (t : ℕ) → t ≤ m → length (chain_at run t) ≤ k
            shorter t le = elim (dec_lt k (length (chain_at run t))) [
              | yes there ↦ let on = (same_place run t m k le there).0 in absurd (omega (arith, on, far))
              | no beyond ↦ omega (arith, beyond)
            ]
