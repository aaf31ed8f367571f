-- The blocks of the opening in which nobody counts are unchanged, except for their nexts.
use Rattle.segment_invariant.proofs.Prelude.Std.{◌≡◌, ◌≢◌, ℕ, ◌+◌, ◌<◌, List, [], ◌∷◌, length, All-cons, All-nil, inl, inr, sym, ◌∙◌, arith, slice_index, none}
use Rattle.segment_invariant.proofs.Prelude.Machine.{field_at, word_at}
use Rattle.segment_invariant.proofs.Prelude.Invariant.{other, words_of}
use Rattle.std.proofs.Math.Decide.{dec_lt}
use Rattle.segment_invariant.specs.Seen.{HasStill}
use Rattle.segment_invariant.proofs.Blocks.Pieces.{piece_word}
use Rattle.look_promises.specs.Looks.{CopiesKeepOthers}
use Rattle.look_promises.proofs.Moments.Runs.{Run, run_of, kept_at}
use Rattle.look_promises.proofs.Moments.Unchanged.{other_but}
use Rattle.look_promises.proofs.Moments.Listed.{ends_at}

module _ (run : Run) (x i size tag : ℕ) (payload : List ℕ) (still : HasStill run.opened.pieces x size tag payload)
    (ne : i ≢ 3) (inside : i < length (words_of (other size tag 0 payload))) where
  open run use {shape, at}

  -- at each moment
  pub other_at : (m : ℕ) → (x + i < shape.size) × (word_at (at m).words (x + i) ≡ slice_index (words_of (other size tag 0 payload)) i)
  other_at m =
      let kept = kept_at run m in
      let (next, (k, there)) = kept.passed_over.stay x size tag payload still in
      let ends = ends_at run m x (other size tag next payload) (k, there) in
      let word = piece_word shape (at m).words kept.anatomy kept.shown k (record { at = x; owner = none; body = other size tag next payload }) i there (omega (arith, inside)) in (
        omega (arith, ends, inside),
        word ∙ sym (other_but size tag next 0 payload i (elim (dec_lt i 3) [ yes low ↦ inl low | no high ↦ inr (omega (arith, high, ne)) ])),
      )

pub copies_keep_others : CopiesKeepOthers
copies_keep_others shape opened at first last moments one two three run loaded x i size tag payload still ne inside =
    let spot = (other_at (run_of shape opened at run) x i size tag payload still ne inside first).0 in
    let now = λ (m : ℕ). (other_at (run_of shape opened at run) x i size tag payload still ne inside m).1 in
    All-cons (λ copy. field_at copy x i ≡ slice_index (words_of (other size tag 0 payload)) i) one (two ∷ three ∷ []) (loaded.copy_one.each (x + i) spot ∙ now (moments.one (x + i)))
    (All-cons (λ copy. field_at copy x i ≡ slice_index (words_of (other size tag 0 payload)) i) two (three ∷ []) (loaded.copy_two.each (x + i) spot ∙ now (moments.two (x + i)))
    (All-cons (λ copy. field_at copy x i ≡ slice_index (words_of (other size tag 0 payload)) i) three [] (loaded.copy_three.each (x + i) spot ∙ now (moments.three (x + i)))
    (All-nil (λ copy. field_at copy x i ≡ slice_index (words_of (other size tag 0 payload)) i))))
