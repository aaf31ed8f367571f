-- What the anatomy of a look has: the records that it follows, and the counts that it takes of them, each as it is at the last moment
-- except for what of it changes, which comes from the copies.
use Rattle.segment_invariant.proofs.Prelude.Std.{◌≡◌, ◌≢◌, ℕ, ◌+◌, List, take, length, Contains}
use Rattle.segment_invariant.proofs.Prelude.Machine.{word_at, buckets_of}
use Rattle.segment_invariant.proofs.Prelude.Invariant.{Anatomy, order_of, Record, Counts, Sample, HasRecord, HasCounts, HasSample}
use Rattle.segment_looks.specs.Looks.{counts_reference}
use Rattle.look_promises.specs.Images.{looked_counts}
use Rattle.look_promises.proofs.Copies.ThreeCopies.{ThreeCopies, seen_in}

-- a record as a look has it, with a next
abbrev pub record_looked : List ℕ → List ℕ → List ℕ → ℕ → ℕ → Record → Record
record_looked one two three at next r = record r {
  next = next;
  counts = counts_reference two three at;
  single = word_at two (at + 9);
  mark = word_at one (at + 10);
  sum = word_at two (at + 11);
  sum_mark = word_at one (at + 12);
  noted = word_at one (at + 13);
}

-- and a sample
abbrev pub sample_looked : List ℕ → List ℕ → ℕ → ℕ → Sample → Sample
sample_looked one two at next s = record s { next = next; units = word_at two (at + 6); mark = word_at one (at + 7) }

module _ (copies : ThreeCopies) (image : List ℕ) where
  open copies use {one, two, three}
  open seen_in copies use {late, records}

  -- a record of the look is one that it follows
  pub record ARecord (x : ℕ) (q : Record) : Type 0 where
    pub of : Record
    pub stands : HasRecord late.anatomy.pieces x of
    pub followed : Contains records x
    pub is : q ≡ record_looked one two three x (word_at image (x + 3)) of

  -- so is a sample
  pub record ASample (x : ℕ) (t : Sample) : Type 0 where
    pub of : Sample
    pub stands : HasSample late.anatomy.pieces x of
    pub followed : Contains records x
    pub is : t ≡ sample_looked one two x (word_at image (x + 3)) of

  -- a counts block of it is that of a record that it follows, of which it takes a counts reference
  pub record ACounts (place : ℕ) (d : Counts) : Type 0 where
    pub x : ℕ
    pub r : Record
    pub of : Counts
    pub has : HasRecord late.anatomy.pieces x r
    pub stands : HasCounts late.anatomy.pieces place of
    pub followed : Contains records x
    pub names : r.counts ≡ place
    pub looked : counts_reference two three x ≡ place
    pub some : counts_reference two three x ≢ 0
    pub is : d ≡ looked_counts one two x place (buckets_of r.spec) of

  -- all of this of an anatomy, and that it has all such records, samples and counts
  pub record IsTaken (anatomy : Anatomy) : Type 0 where
    pub version : anatomy.version ≡ 2
    pub listed : anatomy.records ≡ take (length records) late.anatomy.records
    pub order : order_of anatomy ≡ records
    pub record_from : (x : ℕ) (q : Record) → HasRecord anatomy.pieces x q → ARecord x q
    pub record_there : (x : ℕ) (r : Record) → HasRecord late.anatomy.pieces x r → Contains records x
        → HasRecord anatomy.pieces x (record_looked one two three x (word_at image (x + 3)) r)
    pub sample_from : (x : ℕ) (t : Sample) → HasSample anatomy.pieces x t → ASample x t
    pub sample_there : (x : ℕ) (s : Sample) → HasSample late.anatomy.pieces x s → Contains records x
        → HasSample anatomy.pieces x (sample_looked one two x (word_at image (x + 3)) s)
    pub counts_from : (place : ℕ) (d : Counts) → HasCounts anatomy.pieces place d → ACounts place d
    pub counts_there : (x : ℕ) (r : Record) (c : Counts) → HasRecord late.anatomy.pieces x r → Contains records x → counts_reference two three x ≢ 0
        → HasCounts late.anatomy.pieces r.counts c → HasCounts anatomy.pieces r.counts (looked_counts one two x r.counts (buckets_of r.spec) c)
