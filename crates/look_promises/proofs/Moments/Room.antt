-- A record at an earlier moment, and the counts block that it named: both lie below each free pointer that is loaded later.
use Rattle.segment_invariant.proofs.Prelude.Std.{◌≡◌, ◌≢◌, ℕ, ◌+◌, ◌<◌, ◌≤◌, length, true, inl, inr, refl, sym, ap, subst, ◌∙◌, arith, slice_index, none}
use Rattle.segment_invariant.proofs.Prelude.Machine.{word_at, buckets_of}
use Rattle.segment_invariant.proofs.Prelude.Invariant.{Piece, Body, Record, Sample, queue, plain, held, histogram, counts, sample, other, words_of, is_claimed, extent_of, layout_of, Stands, HasRecord, HasSample}
use Rattle.alloc_core.proofs.Layouts.{free_word}
use Rattle.segment_invariant.specs.Rises.{GoesAs, RecordGoes, SampleGoes}
use Rattle.segment_invariant.proofs.Blocks.Pieces.{piece_ends, piece_from, first_piece, some_first, one_piece}
use Rattle.look_promises.proofs.Moments.Runs.{Run, kept_at, chain_at, free_on}
use Rattle.look_promises.proofs.Moments.Unchanged.{IsOfList}
use Rattle.look_promises.proofs.Moments.Listed.{block_was, block_word}
use Rattle.look_promises.proofs.Moments.Grounds.{counts_long}

-- what continues as a record is one
pub goes_record : (version : ℕ) (before : Body) (r : Record) → IsOfList before → GoesAs version before (histogram r)
    → (q : Record) × (before ≡ histogram q) × RecordGoes version q r
goes_record version (histogram q) r list (s, is, goes) = let same : s ≡ r = cc is in (q, refl, subst (RecordGoes version q) same goes)
goes_record version (sample x) r list (t, is, goes) = absurd (cc is)
goes_record version (other size tag next payload) r list (n, is) = absurd (cc is)
goes_record version (queue next) r list goes = absurd list
goes_record version (plain words) r list goes = absurd list
goes_record version (held block) r list goes = absurd list
goes_record version (counts c) r list goes = absurd list

-- and what continues as a sample
pub goes_sample : (version : ℕ) (before : Body) (s : Sample) → IsOfList before → GoesAs version before (sample s)
    → (t : Sample) × (before ≡ sample t) × SampleGoes t s
goes_sample version (sample t) s list (u, is, goes) = let same : u ≡ s = sym (cc is) in (t, refl, subst (SampleGoes t) same goes)
goes_sample version (histogram r) s list (q, is, goes) = absurd (cc is)
goes_sample version (other size tag next payload) s list (n, is) = absurd (cc is)
goes_sample version (queue next) s list goes = absurd list
goes_sample version (plain words) s list goes = absurd list
goes_sample version (held block) s list goes = absurd list
goes_sample version (counts c) s list goes = absurd list

module _ (run : Run) where
  open run use {shape, at}

  -- a block ends at the free pointer, or before, and so it does later
  pub block_below : (t m place : ℕ) (body : Body) → t ≤ m → Stands (kept_at run t).anatomy.pieces place none body
      → place + length (words_of body) ≤ word_at (at m).words 7
  block_below t m place body le (k, there) =
      let kept = kept_at run t in
      let ends = piece_ends shape (at t).words kept.anatomy kept.shown k (record { at = place; owner = none; body = body }) there in
      let free = free_word shape (at t).words (layout_of kept.anatomy) kept.shown in
      let more = free_on run t m le in
      omega (arith, ends, free, more)

  -- a claimed block is after the header
  pub claimed_from : (t place : ℕ) (body : Body) → is_claimed body ≡ true → Stands (kept_at run t).anatomy.pieces place none body → 16 ≤ place
  claimed_from t place body claimed (k, there) =
      let kept = kept_at run t in
      let piece : Piece = record { at = place; owner = none; body = body } in
      let five = (kept.blocks k piece there claimed).1 in
      elim (piece_from shape (at t).words kept.anatomy kept.shown k piece there) [
        | inr behind ↦ behind
        | inl first ↦
            let (q, here) = some_first shape (at t).words kept.anatomy kept.shown in
            let (twelve, nobody, four) = first_piece shape (at t).words kept.anatomy kept.shown q here in
            let same = ap extent_of (one_piece shape (at t).words kept.anatomy kept.shown k 0 piece q there here (first ∙ sym twelve)).1 in
            absurd (omega (arith, five, four, same))
      ]

  -- a record at an earlier moment, if it is on the list
  module _ (t last k : ℕ) (le : t ≤ last) (r : Record)
      (has : HasRecord (kept_at run last).anatomy.pieces (slice_index (chain_at run last) k) r)
      (there : k < length (chain_at run t)) where
    abbrev x : ℕ
    x = slice_index (chain_at run last) k

    pub record Was : Type 0 where
      pub of : Record
      pub stands : HasRecord (kept_at run t).anatomy.pieces x of
      pub goes : RecordGoes (kept_at run t).anatomy.version of r

    pub record_was : Was
    record_was =
        let was = block_was run t last k (histogram r) le there has in
        let (q, is, goes) = goes_record (kept_at run t).anatomy.version was.of r was.of_list was.goes in
        record { of = q; stands = subst (Stands (kept_at run t).anatomy.pieces x none) is was.stands; goes = goes }

    -- a word of it then
    pub word_was : (i : ℕ) → i < 15 → word_at (at t).words (x + i) ≡ slice_index (words_of (histogram record_was.of)) i
    word_was i below = block_word run t x i (histogram record_was.of) record_was.stands (omega (arith, below))

    -- once it names counts, these are its own, and lie below the free pointer
    pub counts_below : (m : ℕ) → t ≤ m → record_was.of.counts ≢ 0
        → (r.counts ≡ record_was.of.counts) × (16 ≤ record_was.of.counts)
        × (record_was.of.counts + (4 + (buckets_of r.spec + buckets_of r.spec)) ≤ word_at (at m).words 7)
    counts_below m later ne =
        let kept = kept_at run t in
        let q : Record = record_was.of in
        let (c, stands, it) = kept.records.mounted x q record_was.stands ne in
        let below = block_below t m q.counts (counts c) later stands in
        let kinds : buckets_of r.spec ≡ buckets_of q.spec = ap (λ (z : Record). buckets_of z.spec) record_was.goes.is in
        let long = counts_long run t kept.anatomy.version x q c it in
        (record_was.goes.counts ne, claimed_from t q.counts (counts c) refl stands, omega (arith, below, kinds, long))

  -- the same of a sample
  module _ (t last k : ℕ) (le : t ≤ last) (s : Sample)
      (has : HasSample (kept_at run last).anatomy.pieces (slice_index (chain_at run last) k) s)
      (there : k < length (chain_at run t)) where
    abbrev y : ℕ
    y = slice_index (chain_at run last) k

    pub record SampleWas : Type 0 where
      pub of : Sample
      pub stands : HasSample (kept_at run t).anatomy.pieces y of
      pub goes : SampleGoes of s
      pub word : (i : ℕ) → i < 8 → word_at (at t).words (y + i) ≡ slice_index (words_of (sample of)) i

    pub sample_was : SampleWas
    sample_was =
        let was = block_was run t last k (sample s) le there has in
        let (q, is, goes) = goes_sample (kept_at run t).anatomy.version was.of s was.of_list was.goes in
        let stands : HasSample (kept_at run t).anatomy.pieces y q = subst (Stands (kept_at run t).anatomy.pieces y none) is was.stands in
        record { of = q; stands = stands; goes = goes; word = λ i below. block_word run t y i (sample q) stands (omega (arith, below)) }
