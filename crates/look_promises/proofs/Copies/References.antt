-- The counts reference that is loaded of a record: 0, or the one that it has for good.
use Rattle.segment_invariant.proofs.Prelude.Std.{◌≡◌, ◌⊎◌, ℕ, ◌+◌, ◌<◌, ◌≤◌, ◌==◌, ◌&&◌, Bool, true, false, length, inl, inr, sym, subst, ◌∙◌, arith, slice_index, if◌then◌else◌, dite, ℕ_discrete, Contains}
use Rattle.segment_invariant.proofs.Prelude.Machine.{word_at}
use Rattle.segment_invariant.proofs.Prelude.Invariant.{Record, histogram, HasRecord}
use Rattle.std.proofs.Math.Decide.{dec_lt}
use Rattle.segment_looks.specs.Looks.{followed_records, counts_reference, is_frozen}
use Rattle.look_promises.specs.Looks.{LooksNameCounts}
use Rattle.look_promises.proofs.Moments.Runs.{Run, kept_at, chain_at}
use Rattle.look_promises.proofs.Moments.Room.{record_was, word_was}
use Rattle.look_promises.proofs.Copies.ThreeCopies.{ThreeCopies, three_copies, seen_in}
use Rattle.look_promises.proofs.Copies.Following.{place_of, many}
use Rattle.look_promises.proofs.Moments.Listed.{ends_at}
use Rattle.look_promises.proofs.NewRecords.Starts.{not_yet}

-- a word is 0, or a number
abbrev IsNoneOr : ℕ → ℕ → Type 0
IsNoneOr n word = (word ≡ 0) ⊎ (word ≡ n)

module _ (run : Run) (m last k : ℕ) (le : m ≤ last) (below : k < length (chain_at run last))
    (r : Record) (has : HasRecord (kept_at run last).anatomy.pieces (slice_index (chain_at run last) k) r) where
  open run use {at}

  abbrev x : ℕ
  x = slice_index (chain_at run last) k

  abbrev word : ℕ
  word = word_at (at m).words (x + 8)

  -- if the record is on the list
  on_list : k < length (chain_at run m) → IsNoneOr r.counts word
  on_list there =
      let was = record_was run m last k le r has there in
      let is = word_was run m last k le r has there 8 (omega arith) in
      dite (ℕ_discrete was.of.counts 0)
      (λ none_there. inl (is ∙ none_there))
      (λ some_there. inr (is ∙ sym (was.goes.counts some_there)))

  pub counts_word : IsNoneOr r.counts word
  counts_word = elim (dec_lt k (length (chain_at run m))) [
    | yes there ↦ on_list there
    | no far ↦ inl (not_yet run m last k 8 le (histogram r) below (omega (arith, far)) has (omega arith))
  ]

module _ (copies : ThreeCopies) where
  open copies use {run, shape, at, last, moments, two, three, loaded}
  open seen_in copies use {late, list, hd}

  chosen : (b : Bool) (n second third : ℕ) → IsNoneOr n second → IsNoneOr n third → IsNoneOr n (if b then third else second)
  chosen true n second third early late_one = late_one
  chosen false n second third early late_one = early

  pub looked : (k : ℕ) → k < length list → (r : Record) → HasRecord late.anatomy.pieces (slice_index list k) r → IsNoneOr r.counts (counts_reference two three (slice_index list k))
  looked k below r has =
      let x : ℕ = slice_index list k in
      let ends = ends_at run last x (histogram r) has in
      let spot : x + 8 < shape.size = omega (arith, ends) in
      let size = many copies in
      let up = loaded.ordered.ends (x + 8) spot in
      let over = loaded.ordered.third (x + 8) (x + 8) spot spot in
      let second = subst (IsNoneOr r.counts) (sym (loaded.copy_two.each (x + 8) spot))
      (counts_word run (moments.two (x + 8)) last k (omega (arith, up, over)) below r has) in
      let third = subst (IsNoneOr r.counts) (sym (loaded.copy_three.each (x + 8) spot))
      (counts_word run (moments.three (x + 8)) last k up below r has) in
      chosen ((word_at two (x + 8) == 0) && is_frozen two x) r.counts (word_at two (x + 8)) (word_at three (x + 8)) second third

  pub named : (reference : ℕ) (r : Record) → Contains (followed_records hd two) reference
      → HasRecord late.anatomy.pieces reference r → IsNoneOr r.counts (counts_reference two three reference)
  named reference r there has =
      let (k, below, place) = place_of copies reference there in
      subst (λ (at : ℕ). IsNoneOr r.counts (counts_reference two three at)) place
      (looked k below r (subst (λ (at : ℕ). HasRecord late.anatomy.pieces at r) (sym place) has))

pub looks_name_counts : LooksNameCounts
looks_name_counts shape opened at first last moments one two three run loaded =
    let copies = three_copies shape opened at first last moments one two three run loaded in (kept_at copies.run last, named copies)
