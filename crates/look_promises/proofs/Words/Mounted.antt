-- What a look takes of a followed histogram lies below the free pointer of the third copy: its record, which was on the list before that
-- was loaded, and its counts, which were mounted before.
use Rattle.segment_invariant.proofs.Prelude.Std.{◌≡◌, ◌≢◌, ℕ, ◌+◌, ◌*◌, ◌^◌, ◌<◌, ◌≤◌, ◌==◌, ◌&&◌, ◌||◌, Bool, true, false, ◌++◌, length, length-append, inl, inr, refl, sym, ap, ◌∙◌, arith, slice_index, if◌then◌else◌, nat_le, and_from, and_parts, le-leb, leb-true, eqb-false, none}
use Rattle.segment_invariant.proofs.Prelude.Machine.{word_at, buckets_of, spec_ranges, is_off}
use Rattle.segment_invariant.proofs.Prelude.Invariant.{Body, Record, histogram, words_of, Stands, HasRecord}
use Rattle.std.proofs.Math.Decide.{dec_lt}
use Rattle.segment_looks.specs.Looks.{is_frozen, has_room}
use Rattle.segment_invariant.proofs.Packing.OffForms.{few_buckets}
use Rattle.look_promises.proofs.Moments.Runs.{kept_at, chain_at}
use Rattle.look_promises.proofs.Copies.ThreeCopies.{ThreeCopies, seen_in}
use Rattle.look_promises.proofs.Copies.Walks.{Gives}
use Rattle.look_promises.proofs.Copies.Following.{many, moment, was_listed, before_free, before_last}
use Rattle.look_promises.proofs.Moments.Unchanged.{list_long}
use Rattle.look_promises.proofs.Moments.Listed.{block_was, ends_at}
use Rattle.look_promises.proofs.NewRecords.Starts.{not_yet}
use Rattle.look_promises.proofs.Copies.References.{looked}
use Rattle.look_promises.proofs.Moments.Room.{block_below, record_was, word_was, counts_below}

module _ (copies : ThreeCopies) where
  open copies use {run, shape, last, moments, two, three, loaded}
  open seen_in copies use {late, list, hd, reference_of}

  abbrev moment_of : ℕ → ℕ
  moment_of k = moment copies k

  -- a record ends at the free pointer, or before
  pub record_below : (k : ℕ) (body : Body) → Gives hd two list k → Stands late.anatomy.pieces (slice_index list k) none body
      → slice_index list k + length (words_of body) ≤ hd.free
  record_below k body g has =
      let x : ℕ = slice_index list k in
      let le : k ≤ length list = let below = g.within in omega (arith, below) in
      let t : ℕ = moment_of k in
      let was = block_was run t last k body (before_last copies k le) (was_listed copies k g) has in
      let long = list_long (kept_at run t).anatomy.version was.of body was.of_list was.goes in
      let ends = block_below run t (moments.three 7) x was.of (before_free copies k le) was.stands in
      omega (arith, ends, long)

  pub seven : 7 < shape.size
  seven = let size = many copies in omega (arith, size)

  -- ---- when its counts were mounted

  module _ (k : ℕ) (below : k < length list) (r : Record) (has : HasRecord late.anatomy.pieces (slice_index list k) r) where
    abbrev x : ℕ
    x = slice_index list k

    -- at a moment before the free pointer was loaded the record named these counts
    pub record IsMounted : Type 0 where
      pub when : ℕ
      pub early : (j : ℕ) → j < shape.size → when ≤ moments.three j
      pub before : when ≤ last
      pub there : k < length (chain_at run when)
      pub named : (record_was run when last k before r has there).of.counts ≡ reference_of k

    spot : (i : ℕ) → i < 15 → x + i < shape.size
    spot i lt = let ends = ends_at run last x (histogram r) has in omega (arith, ends, lt)

    early_two : (i : ℕ) → i < 15 → moments.two (x + i) ≤ moments.three 7
    early_two i lt =
        let size = many copies in
        loaded.ordered.third (x + i) 7 (spot i lt) (omega (arith, size))

    late_two : (i : ℕ) → i < 15 → moments.two (x + i) ≤ last
    late_two i lt =
        let size = many copies in
        let early = early_two i lt in
        let ends = loaded.ordered.ends 7 (omega (arith, size)) in
        omega (arith, early, ends)

    -- a word that changes is not 0, so the record was on the list
    was_there : (i : ℕ) (lt : i < 15) → 8 ≤ i → i < 14 → word_at two (x + i) ≢ 0 → k < length (chain_at run (moments.two (x + i)))
    was_there i lt from less ne = elim (dec_lt k (length (chain_at run (moments.two (x + i))))) [
      | yes there ↦ there
      | no far ↦ absurd (ne (loaded.copy_two.each (x + i) (spot i lt)
          ∙ not_yet run (moments.two (x + i)) last k i (late_two i lt) (histogram r) below (omega (arith, far)) has (omega (arith, from), omega (arith, less))))
    ]

    -- by its counts reference
    by_reference : word_at two (x + 8) ≢ 0 → reference_of k ≡ word_at two (x + 8) → IsMounted
    by_reference ne is =
        let t : ℕ = moments.two (x + 8) in
        let there = was_there 8 (omega arith) (omega arith) (omega arith) ne in
        record {
          when = t;
          early = λ j lt. loaded.ordered.third (x + 8) j (spot 8 (omega arith)) lt;
          before = late_two 8 (omega arith);
          there = there;
          named = sym (word_was run t last k (late_two 8 (omega arith)) r has there 8 (omega arith))
              ∙ (sym (loaded.copy_two.each (x + 8) (spot 8 (omega arith))) ∙ sym is);
        }

    -- or by its single word, which was off
    by_single : is_frozen two x ≡ true → reference_of k ≢ 0 → IsMounted
    by_single off ne =
        let t : ℕ = moments.two (x + 9) in
        let big = leb-true (2 ^ 63) (word_at two (x + 9)) off in
        let there = was_there 9 (omega arith) (omega arith) (omega arith) (λ nothing. omega (arith, big, nothing)) in
        let before = late_two 9 (omega arith) in
        let was = record_was run t last k before r has there in
        let word = loaded.copy_two.each (x + 9) (spot 9 (omega arith)) ∙ word_was run t last k before r has there 9 (omega arith) in
        let is : is_off was.of.single ≡ true = ap is_off (sym word) ∙ off in
        let mounted = ((kept_at run t).records.lawful x was.of was.stands).off is in
        let same : r.counts ≡ was.of.counts = was.goes.counts mounted in
        let its : reference_of k ≡ r.counts = elim (looked copies k below r has) [
          | inl nothing ↦ absurd (ne nothing)
          | inr own ↦ own
        ] in
        record { when = t; early = λ j lt. loaded.ordered.third (x + 9) j (spot 9 (omega arith)) lt; before = before; there = there; named = sym (its ∙ same) }

    pub is_mounted : reference_of k ≢ 0 → IsMounted
    is_mounted ne = by_test ((word_at two (x + 8) == 0) && is_frozen two x) refl
      where
        by_test : (b : Bool) → ((word_at two (x + 8) == 0) && is_frozen two x) ≡ b → IsMounted
        by_test true is = by_single (and_parts (word_at two (x + 8) == 0) (is_frozen two x) is).1 ne
        by_test false is =
            let same : reference_of k ≡ word_at two (x + 8) = ap (λ (b : Bool). if b then word_at three (x + 8) else word_at two (x + 8)) is in
            by_reference (λ nothing. ne (same ∙ nothing)) same

    -- ---- so a look has room for what it takes

    counts_room : (n : ℕ) → n ≡ buckets_of r.spec → (nat_le n 1000 && ((reference_of k == 0) || (nat_le 16 (reference_of k) && nat_le (reference_of k + (4 + 2 * n)) hd.free))) ≡ true
    counts_room n is =
        let few = few_buckets r.spec (late.records.lawful x r has).lawful in
        and_from _ _ (le-leb n 1000 (omega (arith, is, few))) (by_none (reference_of k == 0) (eqb-false (reference_of k) 0))
      where
        by_none : (b : Bool) → (b ≡ false → reference_of k ≢ 0) → (b || (nat_le 16 (reference_of k) && nat_le (reference_of k + (4 + 2 * n)) hd.free)) ≡ true
        by_none true ne = refl
        by_none false ne =
            let mounts = is_mounted (ne refl) in
            let own = mounts.named in
            let (same, from, below) = counts_below run mounts.when last k mounts.before r has mounts.there (moments.three 7) (mounts.early 7 seven)
            (λ nothing. ne refl (sym own ∙ nothing)) in
            and_from _ _ (le-leb 16 (reference_of k) (omega (arith, from, own))) (le-leb (reference_of k + (4 + 2 * n)) hd.free (omega (arith, below, own, is)))

    pub has_its_room : (n : ℕ) → n ≡ buckets_of r.spec → Gives hd two list k → (nat_le (x + 16) hd.free && has_room hd (reference_of k) n) ≡ true
    has_its_room n is g =
        let lawful = late.records.lawful x r has in
        let below = record_below k (histogram r) g has in
        let sized = lawful.sized in
        let least = lawful.least in
        let all = length-append (r.letters ++ spec_ranges r.spec) r.rest in
        let more = length-append r.letters (spec_ranges r.spec) in
        and_from _ _ (le-leb (x + 16) hd.free (omega (arith, below, sized, least, all, more))) (counts_room n is)
