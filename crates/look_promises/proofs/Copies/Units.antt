-- The counts and the marks that are loaded of a counts block rise from what they were to what they are, and are 0 before it is mounted.
use Rattle.segment_invariant.proofs.Prelude.Std.{◌≡◌, ◌≢◌, ℕ, ◌+◌, ◌-◌, ◌<◌, ◌≤◌, List, length, refl, sym, ap, subst, ◌∙◌, arith, slice_index, none, dite, ℕ_discrete}
use Rattle.segment_invariant.proofs.Prelude.Machine.{word_at}
use Rattle.segment_invariant.proofs.Prelude.Invariant.{Record, Counts, histogram, counts, words_of, Stands, HasRecord, HasCounts, Invariant}
use Rattle.std.proofs.Math.Decide.{dec_lt}
use Rattle.segment_invariant.specs.Rises.{CountsGo}
use Rattle.segment_invariant.specs.Seen.{IsCounterIn}
use Rattle.segment_invariant.proofs.Blocks.Pieces.{piece_word, one_stands}
use Rattle.segment_invariant.proofs.Blocks.Places.{counter_within}
use Rattle.look_promises.specs.Looks.{IsBetween, CountsStartAtZero, LooksCountUnits}
use Rattle.look_promises.proofs.Moments.Runs.{Run, run_of, kept_at, rises_at, chain_at}
use Rattle.look_promises.proofs.Copies.ThreeCopies.{ThreeCopies, three_copies}
use Rattle.look_promises.proofs.Moments.Listed.{ends_at, place_of}
use Rattle.look_promises.proofs.NewRecords.Starts.{not_yet}
use Rattle.look_promises.proofs.Moments.Room.{record_was, word_was, claimed_from}
use Rattle.look_promises.proofs.Copies.Between.{at_least}
use Rattle.look_promises.proofs.NewRecords.Unmounted.{none_before}

module _ (run : Run) (last : ℕ) where
  open run use {shape, opened, at}

  abbrev late : Invariant shape opened (at last)
  late = kept_at run last

  abbrev list : List ℕ
  list = chain_at run last

  module _ (m k i : ℕ) (le : m ≤ last) (below : k < length list) (r : Record) (c : Counts) (has : HasRecord late.anatomy.pieces (slice_index list k) r)
      (stands : HasCounts late.anatomy.pieces r.counts c) (counter : IsCounterIn (counts c) i) where
    abbrev h : ℕ
    h = slice_index list k

    some_counts : r.counts ≢ 0
    some_counts nothing = let from = claimed_from run last r.counts (counts c) refl stands in omega (arith, from, nothing)

    -- before it is mounted
    pub zero_there : word_at (at m).words (h + 8) ≢ r.counts → word_at (at m).words (r.counts + i) ≡ 0
    zero_there not =
        let (d, stood, it) = late.records.mounted h r has some_counts in
        let same : counts d ≡ counts c = (one_stands shape (at last).words late.anatomy late.shown r.counts none none (counts d) (counts c) stood stands).1 in
        let is : d ≡ c = cc same in
        let units = it.units in
        let marks = it.marks in
        let all_units = ap (λ (z : Counts). length z.units) is in
        let all_marks = ap (λ (z : Counts). length z.marks) is in
        let index : i ≡ 4 + (i - 4) = omega (arith, counter) in
        ap (λ (n : ℕ). word_at (at m).words (r.counts + n)) index
        ∙ none_before run m last k le below r has not some_counts (i - 4) (omega (arith, counter, units, marks, all_units, all_marks))

    -- once it is
    mounted_there : word_at (at m).words (h + 8) ≡ r.counts → word_at (at m).words (r.counts + i) ≤ slice_index (words_of (counts c)) i
    mounted_there is =
        let there : k < length (chain_at run m) = on_list in
        let was = record_was run m last k le r has there in
        let kept = kept_at run m in
        let named : was.of.counts ≡ r.counts = sym (word_was run m last k le r has there 8 (omega arith)) ∙ is in
        let (d, stood, it) = kept.records.mounted h was.of was.stands (λ nothing. some_counts (sym named ∙ nothing)) in
        let here : Stands kept.anatomy.pieces r.counts none (counts d) = subst (λ (n : ℕ). Stands kept.anatomy.pieces n none (counts d)) named stood in
        let (then_is, still, goes) = (rises_at run m last le).goes r.counts (counts d) refl here in
        let same : then_is ≡ counts c = (one_stands shape (at last).words late.anatomy late.shown r.counts none none then_is (counts c) still stands).1 in
        let (e, equal, up) = goes in
        let ec : e ≡ c = cc (equal, same) in
        let on = subst (CountsGo d) ec up in
        let long_units = on.long.0 in
        let long_marks = on.long.1 in
        let was_counter : IsCounterIn (counts d) i = (omega (arith, counter), omega (arith, counter, long_units, long_marks)) in
        let word = piece_word shape (at m).words kept.anatomy kept.shown here.0 (record { at = r.counts; owner = none; body = counts d }) i here.1 (counter_within (counts d) i was_counter) in
        let most = on.rise i in
        omega (arith, word, most)
      where
        on_list : k < length (chain_at run m)
        on_list = elim (dec_lt k (length (chain_at run m))) [
          | yes lt ↦ lt
          | no far ↦ absurd (some_counts (sym is ∙ not_yet run m last k 8 le (histogram r) below (omega (arith, far)) has (omega arith, omega arith)))
        ]

    pub units_most : word_at (at m).words (r.counts + i) ≤ slice_index (words_of (counts c)) i
    units_most = dite (ℕ_discrete (word_at (at m).words (h + 8)) r.counts)
        mounted_there
        (λ not. let nothing = zero_there not in omega (arith, nothing))

pub counts_start_at_zero : CountsStartAtZero
counts_start_at_zero shape opened at early last runs le =
    let run = run_of shape opened at runs in (
      kept_at run last,
      λ reference i r c has stands counter not.
          let (k, below, place) = place_of run last reference r has in
          zero_there run last early k i le below r c
          (subst (λ (n : ℕ). HasRecord (kept_at run last).anatomy.pieces n r) (sym place) has) stands counter
          (subst (λ (n : ℕ). word_at (at early).words (n + 8) ≢ r.counts) (sym place) not),
    )

module _ (copies : ThreeCopies) where
  open copies use {run, shape, opened, at, first, last, moments, one, two, loaded}

  abbrev before : Invariant shape opened (at first)
  before = kept_at run first

  abbrev after : Invariant shape opened (at last)
  after = kept_at run last

  -- a word that was loaded at a moment
  at_moment : (m reference i word : ℕ) (r : Record) (c : Counts) → first ≤ m → m ≤ last → HasRecord after.anatomy.pieces reference r → HasCounts after.anatomy.pieces r.counts c
      → IsCounterIn (counts c) i → word ≡ word_at (at m).words (r.counts + i) → IsBetween before.anatomy.pieces r.counts i (counts c) word
  at_moment m reference i word r c up down has stands counter is =
      let (k, below, place) = place_of run last reference r has in
      let most = units_most run last m k i down below r c
      (subst (λ (n : ℕ). HasRecord after.anatomy.pieces n r) (sym place) has) stands counter in (
        λ was there counted. let least = at_least run first m r.counts i was up there counted in omega (arith, least, is),
        omega (arith, most, is),
      )

  pub units_between : (reference i : ℕ) (r : Record) (c : Counts) → HasRecord after.anatomy.pieces reference r → HasCounts after.anatomy.pieces r.counts c
      → IsCounterIn (counts c) i
      → IsBetween before.anatomy.pieces r.counts i (counts c) (word_at one (r.counts + i)) × IsBetween before.anatomy.pieces r.counts i (counts c) (word_at two (r.counts + i))
  units_between reference i r c has stands counter =
      let n : ℕ = r.counts + i in
      let ends = ends_at run last r.counts (counts c) stands in
      let inside = counter_within (counts c) i counter in
      let spot : n < shape.size = omega (arith, ends, inside) in
      let up = loaded.ordered.begins n spot in
      let over = loaded.ordered.second n n spot spot in
      let more = loaded.ordered.third n n spot spot in
      let done = loaded.ordered.ends n spot in (
        at_moment (moments.one n) reference i (word_at one n) r c up (omega (arith, over, more, done)) has stands counter (loaded.copy_one.each n spot),
        at_moment (moments.two n) reference i (word_at two n) r c (omega (arith, up, over)) (omega (arith, more, done)) has stands counter (loaded.copy_two.each n spot),
      )

pub looks_count_units : LooksCountUnits
looks_count_units shape opened at first last moments one two three run loaded =
    let copies = three_copies shape opened at first last moments one two three run loaded in (
      kept_at copies.run first,
      kept_at copies.run last,
      units_between copies,
    )
