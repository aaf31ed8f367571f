-- The counters that are loaded of a record rise from what they were to what they are.
use Rattle.segment_invariant.proofs.Prelude.Std.{◌≡◌, ℕ, ◌+◌, ◌<◌, ◌≤◌, length, inl, inr, refl, sym, subst, arith, slice_index, none, Contains, true}
use Rattle.segment_invariant.proofs.Prelude.Machine.{word_at}
use Rattle.segment_invariant.proofs.Prelude.Invariant.{Body, queue, plain, held, histogram, counts, sample, other, words_of, is_claimed, Stands}
use Rattle.std.proofs.Math.Decide.{dec_lt}
use Rattle.segment_looks.specs.Looks.{followed_records}
use Rattle.segment_invariant.specs.Rises.{GoesAs}
use Rattle.segment_invariant.specs.Seen.{IsCounterIn}
use Rattle.segment_invariant.proofs.Blocks.Pieces.{one_stands}
use Rattle.segment_invariant.proofs.Blocks.Places.{counter_within}
use Rattle.segment_invariant.proofs.Frames.Onward.{counter_goes}
use Rattle.look_promises.specs.Looks.{IsBetween, IsChanging, LooksCountBetween}
use Rattle.look_promises.proofs.Moments.Runs.{Run, kept_at, rises_at, chain_at}
use Rattle.look_promises.proofs.Copies.ThreeCopies.{ThreeCopies, three_copies, seen_in}
use Rattle.look_promises.proofs.Copies.Following.{place_of}
use Rattle.look_promises.proofs.Moments.Unchanged.{IsOfList}
use Rattle.look_promises.proofs.Moments.Listed.{block_was, block_word, listed_at, ends_at}
use Rattle.look_promises.proofs.NewRecords.Starts.{not_yet}

-- a block with a counter is claimed
claimed : (body : Body) (i : ℕ) → IsCounterIn body i → is_claimed body ≡ true
claimed (histogram r) i counter = refl
claimed (counts c) i counter = refl
claimed (sample s) i counter = refl
claimed (other size tag next payload) i counter = absurd counter
claimed (queue next) i counter = absurd counter
claimed (plain words) i counter = absurd counter
claimed (held block) i counter = absurd counter

-- what is a counter of a record was one
counter_from : (version : ℕ) (before body : Body) (i : ℕ) → IsOfList before → GoesAs version before body → IsCounterIn body i → IsCounterIn before i
counter_from version (histogram r) body i list (s, is, goes) = subst (λ (b : Body). IsCounterIn b i) is
counter_from version (sample s) body i list (t, is, goes) = subst (λ (b : Body). IsCounterIn b i) is
counter_from version (other size tag next payload) body i list (n, is) = subst (λ (b : Body). IsCounterIn b i) is
counter_from version (queue next) body i list goes = absurd list
counter_from version (plain words) body i list goes = absurd list
counter_from version (held block) body i list goes = absurd list
counter_from version (counts c) body i list goes = absurd list

-- it changes
changing : (body : Body) (i : ℕ) → IsOfList body → IsCounterIn body i → IsChanging body i
changing (histogram r) i list (inl is) = (omega (arith, is), omega (arith, is))
changing (histogram r) i list (inr is) = (omega (arith, is), omega (arith, is))
changing (sample s) i list counter = counter
changing (other size tag next payload) i list counter = absurd counter
changing (queue next) i list counter = absurd list
changing (plain words) i list counter = absurd list
changing (held block) i list counter = absurd list
changing (counts c) i list counter = absurd list

module _ (run : Run) where
  open run use {at}

  -- what it was is no more than what is loaded later
  pub at_least : (first m x i : ℕ) (before : Body) → first ≤ m → Stands (kept_at run first).anatomy.pieces x none before → IsCounterIn before i
      → slice_index (words_of before) i ≤ word_at (at m).words (x + i)
  at_least first m x i before le stands counter =
      let kept = kept_at run m in
      let (body, (k, there), goes) = (rises_at run first m le).goes x before (claimed before i counter) stands in
      let (still, up) = counter_goes (kept_at run first).anatomy.version before body i goes counter in
      let word = block_word run m x i body (k, there) (counter_within body i still) in
      omega (arith, word, up)

  -- and what is loaded no more than what it is later
  module _ (m last k i : ℕ) (le : m ≤ last) (below : k < length (chain_at run last)) (body : Body) (list : IsOfList body)
      (has : Stands (kept_at run last).anatomy.pieces (slice_index (chain_at run last) k) none body) (counter : IsCounterIn body i) where
    abbrev x : ℕ
    x = slice_index (chain_at run last) k

    on_list : k < length (chain_at run m) → word_at (at m).words (x + i) ≤ slice_index (words_of body) i
    on_list there =
        let was = block_was run m last k body le there has in
        let version : ℕ = (kept_at run m).anatomy.version in
        let counter_was = counter_from version was.of body i was.of_list was.goes counter in
        let up = (counter_goes version was.of body i was.goes counter_was).1 in
        let word = block_word run m x i was.of was.stands (counter_within was.of i counter_was) in
        omega (arith, word, up)

    at_most : word_at (at m).words (x + i) ≤ slice_index (words_of body) i
    at_most = elim (dec_lt k (length (chain_at run m))) [
      | yes there ↦ on_list there
      | no far ↦
          let zero_there = not_yet run m last k i le body below (omega (arith, far)) has (changing body i list counter) in
          omega (arith, zero_there)
    ]

module _ (copies : ThreeCopies) where
  open copies use {run, shape, at, first, last, moments, one, two, loaded}
  open seen_in copies use {early, late, list, hd}

  -- a word that was loaded at a moment
  at_moment : (m k i word : ℕ) (body : Body) → first ≤ m → m ≤ last → k < length list → Stands late.anatomy.pieces (slice_index list k) none body → IsCounterIn body i
      → word ≡ word_at (at m).words (slice_index list k + i) → IsBetween early.anatomy.pieces (slice_index list k) i body word
  at_moment m k i word body up down below has counter is =
      let (mine, stands, of_list) = listed_at run last k below in
      let same : mine ≡ body = (one_stands shape (at last).words late.anatomy late.shown (slice_index list k) none none mine body stands has).1 in
      let most = at_most run m last k i down below body (subst IsOfList same of_list) has counter in (
        λ before was counted. let least = at_least run first m (slice_index list k) i before up was counted in omega (arith, least, is),
        omega (arith, most, is),
      )

  pub between : (k i : ℕ) (body : Body) → k < length list → Stands late.anatomy.pieces (slice_index list k) none body → IsCounterIn body i
      → IsBetween early.anatomy.pieces (slice_index list k) i body (word_at one (slice_index list k + i))
      × IsBetween early.anatomy.pieces (slice_index list k) i body (word_at two (slice_index list k + i))
  between k i body below has counter =
      let n : ℕ = slice_index list k + i in
      let ends = ends_at run last (slice_index list k) body has in
      let inside = counter_within body i counter in
      let spot : n < shape.size = omega (arith, ends, inside) in
      let up = loaded.ordered.begins n spot in
      let over = loaded.ordered.second n n spot spot in
      let more = loaded.ordered.third n n spot spot in
      let done = loaded.ordered.ends n spot in (
        at_moment (moments.one n) k i (word_at one n) body up (omega (arith, over, more, done)) below has counter (loaded.copy_one.each n spot),
        at_moment (moments.two n) k i (word_at two n) body (omega (arith, up, over)) (omega (arith, more, done)) below has counter (loaded.copy_two.each n spot),
      )

  pub all_between : (reference i : ℕ) (body : Body) → Contains (followed_records hd two) reference
      → Stands late.anatomy.pieces reference none body → IsCounterIn body i
      → IsBetween early.anatomy.pieces reference i body (word_at one (reference + i)) × IsBetween early.anatomy.pieces reference i body (word_at two (reference + i))
  all_between reference i body there has counter =
      let (k, inside, place) = place_of copies reference there in
      subst (λ (x : ℕ). IsBetween early.anatomy.pieces x i body (word_at one (x + i)) × IsBetween early.anatomy.pieces x i body (word_at two (x + i))) place
      (between k i body inside (subst (λ (at : ℕ). Stands late.anatomy.pieces at none body) (sym place) has) counter)

pub looks_count_between : LooksCountBetween
looks_count_between shape opened at first last moments one two three run loaded =
    let copies = three_copies shape opened at first last moments one two three run loaded in (
      kept_at copies.run first,
      kept_at copies.run last,
      all_between copies,
    )
