-- A word of the segment is loaded: the actor moves on to a place and sees it. And what a counter is that is seen as it is now.
use Rattle.segment_invariant.proofs.Prelude.Std.{◌≡◌, ◌≢◌, ℕ, ◌+◌, ◌<◌, ℤ, true, false, List, ◌++◌, length, set, All, refl, sym, ap, ◌∙◌, arith, length-append, some, none, get_elem?}
use Rattle.segment_invariant.proofs.Prelude.Machine.{Dimensions, word_at, Actor, Place, Spent, Seen, Sighting, is_bound, is_opener, State}
use Rattle.segment_invariant.proofs.Prelude.Invariant.{Body, Anatomy, counts, is_claimed, layout_of, order_of, words_of, moving_at, Stands, WasCounter, WasInUse, WasSingle, WasMet, SumsAreNear, StandsRight, LooksBack, Invariant, KeptOn}
use Rattle.alloc_core.proofs.Layouts.{length_shown}
use Rattle.segment_invariant.specs.Seen.{IsCounterIn}
use Rattle.segment_invariant.proofs.Blocks.Places.{counter_within}
use Rattle.segment_invariant.proofs.Frames.Ahead.{ahead_at, unbound_unbeaten}
use Rattle.segment_invariant.proofs.Frames.Books.{noticed_there}
use Rattle.segment_invariant.proofs.Frames.SeesMore.{seer, calls_more, later_itself, given_on, sees_more}
use Rattle.segment_invariant.proofs.Walking.Walks.{block_within}
use Rattle.segment_invariant.proofs.Counting.Looks.{same_block, body_word}

module _ (shape : Dimensions) (opened : Anatomy) (state : State) (kept : Invariant shape opened state) where
  -- a word of a claimed block lies within the segment
  pub word_within : (at i : ℕ) (body : Body) → Stands kept.anatomy.pieces at none body → is_claimed body ≡ true → i < length (words_of body) → at + i < length state.words
  word_within at i body stands claimed low =
      let (from, five, within) = block_within shape opened state kept at body stands claimed in
      let size = length_shown shape state.words (layout_of kept.anatomy) kept.shown in
      omega (arith, low, within, size)

  -- a word that is a counter of a block
  pub counter_is : (at place i : ℕ) (body : Body) → Stands kept.anatomy.pieces place none body → IsCounterIn body i → at ≡ place + i
      → WasCounter kept.anatomy.pieces (record { at = at; word = word_at state.words at })
  counter_is at place i body stands counter spot =
      let word = body_word shape opened state kept place i body stands (counter_within body i counter) in
      let here = ap (word_at state.words) spot in
      (place, i, body, stands, spot, counter, omega (arith, word, here))

  -- one of a block that is no counts block is no count of one
  pub no_count : (at place i : ℕ) (body : Body) → Stands kept.anatomy.pieces place none body → IsCounterIn body i → at ≡ place + i
      → ((c : _) → body ≢ counts c) → WasInUse kept.anatomy.pieces (record { at = at; word = word_at state.words at })
  no_count at place i body stands counter spot apart other j c there is from below =
      let long = length-append c.units c.marks in
      let all = length-append (c.units ++ c.marks) c.rest in
      let (same, bodies, index) = same_block shape opened state kept place other i j body (counts c) stands there (counter_within body i counter)
      (omega (arith, below, long, all)) (sym spot ∙ is) in
      absurd (apart c bodies)

  module _ (id : ℕ) (a : Actor) (mine : get_elem? state.actors id ≡ some a) (records : is_opener a.role ≡ false) (place : Place) (singles counts : List Sighting)
      (unbound : is_bound a.hand.place ≡ false) (free : is_bound place ≡ false) (moves : (name : List ℕ) (key : ℤ) → moving_at a name key place ≡ moving_at a name key a.hand.place) where
    abbrev saw : Seen
    saw = record a.seen { singles = singles; counts = counts }

    abbrev b : Actor
    b = seer a place saw a.done.given a.done.lost

    lived : a.hand.place ≢ Spent
    lived spent = cc (unbound, ap is_bound spent)

    lives : place ≢ Spent
    lives spent = cc (free, ap is_bound spent)

    pub sees_on : SumsAreNear kept.anatomy.pieces (set state.actors id b) → All (WasSingle kept.anatomy.version kept.anatomy.pieces) singles
        → All (WasCounter kept.anatomy.pieces) counts → All (WasInUse kept.anatomy.pieces) counts → All (WasMet kept.anatomy.pieces a.seen) counts
        → StandsRight shape kept.anatomy id b place → LooksBack kept.anatomy state.actors kept.roles.opener b
        → KeptOn shape opened kept (record { words = state.words; cursors = state.cursors; actors = set state.actors id b })
    sees_on near are_singles are_counters are_used are_met stands looks =
        let fits = kept.each id a mine lived in
        sees_more shape opened state kept id a mine records place saw a.done.given a.done.lost lived lives moves state.cursors (later_itself (order_of kept.anatomy) state.cursors)
        near (given_on shape opened state kept id a mine records place saw a.done.given a.done.lost lived lives moves refl)
        (record {
          free = fits.sees.free;
          walked = fits.sees.walked;
          tails = fits.sees.tails;
          singles = are_singles;
          counters = are_counters;
          in_use = are_used;
          met = are_met;
          fixed = fits.sees.fixed;
          shared = fits.sees.shared;
        })
        (ahead_at (order_of kept.anatomy) kept.anatomy.tail state.cursors a.hand.place a.done.beaten a.done.lost fits.ahead place (λ no. unbound_unbeaten a.hand.place unbound))
        stands (noticed_there kept.anatomy.corrupt state.actors id a mine kept.noticed) (calls_more kept.anatomy a place saw a.done.given a.done.lost (λ at has. has) (λ at word has. has) fits.calls) looks
