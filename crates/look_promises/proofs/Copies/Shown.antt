-- The records that a look follows, in the third copy: all words that never change are those that they have at the last moment.
use Rattle.segment_invariant.proofs.Prelude.Std.{◌≡◌, ℕ, ◌+◌, ◌<◌, ◌≤◌, take, length, All, sym, ap, ◌∙◌, subst, arith, slice_index, get_or, none}
use Rattle.segment_invariant.proofs.Prelude.Machine.{word_at}
use Rattle.segment_invariant.proofs.Prelude.Invariant.{Body, words_of, Stands, Invariant}
use Rattle.std.proofs.lemmas.List.{get_or-take, get_or_default, length-take-le}
use Rattle.segment_looks.specs.Looks.{followed_records}
use Rattle.look_promises.specs.Looks.{ShowsBlock, CopiesShowBlocks}
use Rattle.look_promises.proofs.Moments.Listed.{ends_at, listed_at, same_place, word_kept}
use Rattle.look_promises.proofs.Moments.Runs.{chain_at}
use Rattle.look_promises.proofs.Copies.ThreeCopies.{ThreeCopies, three_copies, seen_in}
use Rattle.look_promises.proofs.Copies.Walks.{Gives}
use Rattle.look_promises.proofs.Copies.Following.{moment, stop, within, followed, was_listed}
use Rattle.look_promises.proofs.Moments.Unchanged.{IsUnchanging, seen_as}

module _ (copies : ThreeCopies) where
  open copies use {run, shape, opened, at, last, moments, two, three, loaded}
  open seen_in copies use {late, list, hd}

  abbrev moment_of : ℕ → ℕ
  moment_of k = moment copies k

  -- a word of the third copy that never changes
  pub third_word : (k i : ℕ) (body : Body) → Gives hd two list k
      → Stands late.anatomy.pieces (slice_index list k) none body → IsUnchanging body i → i < length (words_of body)
      → word_at three (slice_index list k + i) ≡ slice_index (words_of body) i
  third_word k i body g stands stays inside =
      let r : ℕ = slice_index list k in
      let le : k ≤ length list = let below = g.within in omega (arith, below) in
      let there : k < length (chain_at run (moment_of k)) = was_listed copies k g in
      let ends = ends_at run last r body stands in
      let spot : r + i < shape.size = omega (arith, ends, inside) in
      let load : ℕ = moments.three (r + i) in
      let behind : moment_of k ≤ load = loaded.ordered.third (stop copies k + 3) (r + i)
      (within copies k le) spot in
      let before : load ≤ last = loaded.ordered.ends (r + i) spot in
      let still = same_place run (moment_of k) load k behind there in
      let place = (same_place run load last k before still.0).1 in
      loaded.copy_three.each (r + i) spot
      ∙ (ap (λ (n : ℕ). word_at (at load).words (n + i)) place
      ∙ word_kept run load last k i body before still.0 (subst (λ (n : ℕ). Stands late.anatomy.pieces n none body) place stands) stays inside)

  -- so the third copy has the record
  shows : (k : ℕ) → Gives hd two list k → ShowsBlock late.anatomy three (slice_index list k)
  shows k g =
      let (body, stands, of_list) = listed_at run last k g.within in
      let (seen, like, has) = seen_as three (slice_index list k) body of_list (λ i stays inside. third_word k i body g stands stays inside) in
      (body, seen, stands, like, has)

  pub each_shown : (late : Invariant shape opened (at last)) × All (ShowsBlock late.anatomy three) (followed_records hd two)
  each_shown =
      let (n, short, enough, is, each) = followed copies in
      let long = length-take-le n list short in (
        late,
        subst (All (ShowsBlock late.anatomy three)) (sym is) (λ k d below.
            let lt : k < n = omega (arith, below, long) in
            let here : slice_index list k ≡ get_or (take n list) k d = get_or_default list k 0 d (omega (arith, lt, short)) ∙ sym (get_or-take n list k d lt) in
            subst (ShowsBlock late.anatomy three) here (shows k (each k lt))),
      )

pub copies_show_blocks : CopiesShowBlocks
copies_show_blocks shape opened at first last moments one two three run loaded = each_shown (three_copies shape opened at first last moments one two three run loaded)
