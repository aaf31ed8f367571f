-- Three copies of a run, as one value, and what is often needed of them.
use Rattle.segment_invariant.proofs.Prelude.Std.{ℕ, ◌+◌, List, slice_index}
use Rattle.segment_invariant.proofs.Prelude.Machine.{Dimensions, State, word_at}
use Rattle.segment_invariant.proofs.Prelude.Invariant.{Anatomy, Invariant}
use Rattle.segment_image.specs.declared.head.SegmentHead.{SegmentHead}
use Rattle.segment_looks.specs.Looks.{counts_reference, followed_records}
use Rattle.look_promises.specs.Runs.{RunsThrough, Moments, AreLoaded}
use Rattle.look_promises.specs.Looks.{head_loaded}
use Rattle.look_promises.proofs.Moments.Runs.{Run, run_of, kept_at, chain_at}

-- three copies of a run, from a first moment to a last one
pub record ThreeCopies : Type 0 where
  pub run : Run
  pub open run use *
  pub first : ℕ
  pub last : ℕ
  pub moments : Moments
  pub one : List ℕ
  pub two : List ℕ
  pub three : List ℕ
  pub loaded : AreLoaded run.shape run.at first last moments one two three

-- the copies that a law is given
abbrev pub three_copies : (shape : Dimensions) (opened : Anatomy) (at : ℕ → State) (first last : ℕ) (moments : Moments) (one two three : List ℕ)
    → RunsThrough shape opened at → AreLoaded shape at first last moments one two three → ThreeCopies
three_copies shape opened at first last moments one two three runs loaded = record {
  run = run_of shape opened at runs;
  first = first;
  last = last;
  moments = moments;
  one = one;
  two = two;
  three = three;
  loaded = loaded;
}

-- What is seen in them: the states of their first and last moment, the list at the last, the header that was loaded, the records that
-- a look follows, the counts reference that it takes of one, and how many buckets its third copy says.
pub record SeenIn (copies : ThreeCopies) : Type 0 where
  pub early : Invariant copies.shape copies.opened (copies.at copies.first)
  pub late : Invariant copies.shape copies.opened (copies.at copies.last)
  pub list : List ℕ
  pub hd : SegmentHead
  pub records : List ℕ
  pub reference_of : ℕ → ℕ
  pub buckets_at : ℕ → ℕ

abbrev pub hd_of : ThreeCopies → SegmentHead
hd_of copies = head_loaded copies.shape copies.opened copies.at copies.moments.three

abbrev pub seen_in : (copies : ThreeCopies) → SeenIn copies
seen_in copies = record {
  early = kept_at copies.run copies.first;
  late = kept_at copies.run copies.last;
  list = chain_at copies.run copies.last;
  hd = hd_of copies;
  records = followed_records (hd_of copies) copies.two;
  reference_of = λ k. counts_reference copies.two copies.three (slice_index (chain_at copies.run copies.last) k);
  buckets_at = λ k. word_at copies.three (slice_index (chain_at copies.run copies.last) k + 7);
}
