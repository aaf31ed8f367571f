-- What is read of the header of a kept state's words: the version, the id and the flags.
use Rattle.segment_invariant.proofs.Prelude.Std.{◌≡◌, ℕ, List, ap, ◌∙◌, not, ◌==◌, bit_and}
use Rattle.segment_invariant.proofs.Prelude.Machine.{Dimensions, word_at, head_of, Reading, IsShown, State}
use Rattle.segment_invariant.proofs.Prelude.Invariant.{Anatomy, layout_of, Invariant}
use Rattle.alloc_core.proofs.Flags.{corrupt_read, full_read}
use Rattle.alloc_core.proofs.Layouts.{flags_word}
use Rattle.bucket_ranges.specs.Reading.{IsReading}
use Rattle.segment_promises.specs.Reads.{ReadsHead}
use Rattle.segment_invariant.proofs.Frames.LaidOut.{laid_out}
use Rattle.segment_promises.proofs.Readings.Lists.{read_along}

-- the version that the words say is that of their anatomy
pub version_shown : (shape : Dimensions) (words : List ℕ) (anatomy : Anatomy) → IsShown shape words (layout_of anatomy) → (head_of words).version ≡ anatomy.version
version_shown shape words anatomy shown = ap (λ (ws : List ℕ). word_at ws 1) shown.shows

module _ (shape : Dimensions) (opened : Anatomy) (state : State) (kept : Invariant shape opened state) where
  pub shape_is : (head_of state.words).shape ≡ shape
  shape_is =
      let size = ap (λ (ws : List ℕ). word_at ws 2) kept.shown.shows in
      let page = ap (λ (ws : List ℕ). word_at ws 3) kept.shown.shows in
      λ i. record { size = size i; page = page i }

  pub version_is : (head_of state.words).version ≡ kept.anatomy.version
  version_is = version_shown shape state.words kept.anatomy kept.shown

  id_is : (head_of state.words).id ≡ kept.anatomy.id
  id_is = ap (λ (ws : List ℕ). word_at ws 4) kept.shown.shows

  corrupt_is : (head_of state.words).corrupt ≡ kept.anatomy.corrupt
  corrupt_is = ap (λ (n : ℕ). not (bit_and n 1 == 0)) (flags_word shape state.words (layout_of kept.anatomy) kept.shown)
      ∙ corrupt_read kept.anatomy.corrupt kept.anatomy.full kept.anatomy.other_flags

  full_is : (head_of state.words).full ≡ kept.anatomy.full
  full_is = ap (λ (n : ℕ). not (bit_and n 2 == 0)) (flags_word shape state.words (layout_of kept.anatomy) kept.shown)
      ∙ full_read kept.anatomy.corrupt kept.anatomy.full kept.anatomy.other_flags

  -- the id is the opening's, and the flags are those that were set
  pub reads_head : (reading : Reading) → IsReading state.words (head_of state.words) reading → ReadsHead opened state reading
  reads_head reading is =
      let along = read_along shape opened state.words (laid_out shape opened state kept) reading is in
      record {
        id = ap (λ (r : Reading). r.id) along ∙ (id_is ∙ kept.same.1);
        corrupt = ap (λ (r : Reading). r.corrupt) along ∙ (corrupt_is ∙ kept.corrupt);
        full = ap (λ (r : Reading). r.full) along ∙ (full_is ∙ kept.full);
        noticed = λ seen. ap (λ (r : Reading). r.corrupt) along ∙ (corrupt_is ∙ kept.noticed seen);
      }
