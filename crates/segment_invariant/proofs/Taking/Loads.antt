-- Sums and redundant counts are loaded. A recorder sees a counter of a record.
use Rattle.segment_invariant.proofs.Prelude.Std.{◌≡◌, ◌≢◌, ℕ, ◌+◌, ◌<◌, ℤ, false, List, [], ◌∷◌, ◌++◌, set, inl, inr, refl, sym, ap, ◌∙◌, subst, arith, ⊎_elim, w64, cast_signed, All-push, Contains-append_left, some, get_elem?, at_set, sum_same}
use Rattle.segment_invariant.proofs.Prelude.Machine.{Dimensions, word_at, Actor, Look, Place, Spent, Idle, Looking, Moving, CountLoaded, SumLoaded, Sighting, is_bound, is_opener, State, load_sum, load_redundant, taking_event, Ready, next}
use Rattle.segment_invariant.proofs.Prelude.Invariant.{Record, histogram, Anatomy, Sample, sample, HasRecord, WasCounter, WasInUse, WasMet, HasSample, StandsRight, SumsAreNear, IsSumOf, summed_cost, Invariant, KeptOn}
use Rattle.segment_machine.specs.declared.place.Place.TheVariants.{FlagsLoaded, FreeLoaded, Raised, Sized, Marked, TailLoaded, Beaten, Linked, Losing, SampleLoaded, CursorLoaded, BehindCursor}
use Rattle.segment_invariant.specs.Seen.{IsCounterIn}
use Rattle.segment_invariant.proofs.Blocks.Places.{counter_within}
use Rattle.segment_invariant.proofs.Frames.GoesOn.{happens}
use Rattle.segment_invariant.proofs.Frames.OneActor.{rests_at}
use Rattle.segment_invariant.proofs.Frames.SeesMore.{seer, near_on}
use Rattle.segment_invariant.proofs.Frames.Shown.{Goes, loaded}
use Rattle.segment_invariant.proofs.Counting.Bounds.{noted_fits, sum_fits}
use Rattle.segment_invariant.proofs.Counting.Looks.{knows_of, body_word, same_block, looks_count}
use Rattle.segment_invariant.proofs.Counting.Sights.{word_within, counter_is, no_count, sees_on}
use Rattle.segment_invariant.proofs.Counting.Whole.{whole_noted}
use Rattle.segment_invariant.proofs.Frames.Anew.{looks_anew_at}

-- if an actor is at a place where it is free to move on, the place stays right when it sees more counts
pub stands_counted : (shape : Dimensions) (anatomy : Anatomy) (id : ℕ) (a : Actor) (more : List Sighting) (place p : Place) → is_bound p ≡ false
    → StandsRight shape anatomy id a p
    → StandsRight shape anatomy id (seer a place (record a.seen { counts = a.seen.counts ++ more }) a.done.given a.done.lost) p
stands_counted shape anatomy id a more place Spent bound stands = absurd (cc bound)
stands_counted shape anatomy id a more place Idle bound stands = tt
stands_counted shape anatomy id a more place FlagsLoaded bound stands = tt
stands_counted shape anatomy id a more place (FreeLoaded free) bound stands = stands
stands_counted shape anatomy id a more place (Raised at size wanted) bound stands = absurd (cc bound)
stands_counted shape anatomy id a more place (Sized at size wanted) bound stands = absurd (cc bound)
stands_counted shape anatomy id a more place (Marked at size) bound stands = absurd (cc bound)
stands_counted shape anatomy id a more place (TailLoaded tail) bound stands = stands
stands_counted shape anatomy id a more place (Beaten tail behind) bound stands = absurd (cc bound)
stands_counted shape anatomy id a more place (Linked at tail) bound stands = absurd (cc bound)
stands_counted shape anatomy id a more place (Looking look) bound stands =
    stands
stands_counted shape anatomy id a more place (Losing look at) bound stands = absurd (cc bound)
stands_counted shape anatomy id a more place (Moving look bucket units) bound stands = absurd (cc bound)
stands_counted shape anatomy id a more place (CountLoaded look bucket count) bound ((right, there, off), below, saw) = (
  (right, there, off),
  below,
  Contains-append_left a.seen.counts more _ saw,
)
stands_counted shape anatomy id a more place (SampleLoaded reference count) bound (met, saw) = (met, Contains-append_left a.seen.counts more _ saw)
stands_counted shape anatomy id a more place (SumLoaded reference sum) bound stands = stands
stands_counted shape anatomy id a more place (CursorLoaded cursor at) bound stands = stands
stands_counted shape anatomy id a more place (BehindCursor cursor at behind) bound stands = stands

module _ (shape : Dimensions) (opened : Anatomy) (state : State) (kept : Invariant shape opened state) (id : ℕ) (a : Actor)
    (mine : get_elem? state.actors id ≡ some a) (records : is_opener a.role ≡ false) where
  lives_unbound : is_bound a.hand.place ≡ false → a.hand.place ≢ Spent
  lives_unbound unbound spent = cc (unbound, ap is_bound spent)

  still : is_bound a.hand.place ≡ false → (look : Look) (bucket units : ℕ) → a.hand.place ≢ Moving look bucket units
  still unbound look bucket units moving = cc (unbound, ap is_bound moving)

  -- ---- a counter of a record

  -- it moves on to a place where it might be, and sees a counter of a record
  module _ (h i : ℕ) (r : Record) (stands : HasRecord kept.anatomy.pieces h r) (counter : IsCounterIn (histogram r) i) (unbound : is_bound a.hand.place ≡ false)
      (place : Place) (free : is_bound place ≡ false) (placed : StandsRight shape kept.anatomy id a place)
      (sums : (reference : ℕ) (sum : ℤ) → place ≡ SumLoaded reference sum → a.hand.place ≡ SumLoaded reference sum) where
    abbrev at : ℕ
    at = h + i

    abbrev z : Sighting
    z = record { at = at; word = word_at state.words at }

    no_sample : {X : Type 0} (other j : ℕ) (x : Sample) → HasSample kept.anatomy.pieces other x → at ≡ other + j → j < 8 → X
    no_sample other j x is_sample same low =
        let (spot, bodies, index) = same_block shape opened state kept h other i j (histogram r) (sample x) stands is_sample (counter_within (histogram r) i counter)
        (omega (arith, low)) same in
        absurd (cc bodies)

    pub counter_seen : KeptOn shape opened kept (record {
      words = state.words;
      cursors = state.cursors;
      actors = set state.actors id (seer a place (record a.seen { counts = a.seen.counts ++ z ∷ [] }) a.done.given a.done.lost);
    })
    counter_seen =
        let lives = lives_unbound unbound in
        let fits = kept.each id a mine lives in
        let moves : (name : List ℕ) (key : ℤ) → _ = λ name key. rests_at a name key place (λ look bucket units moving. cc (free, ap is_bound moving))
        ∙ sym (rests_at a name key a.hand.place (still unbound)) in
        sees_on shape opened state kept id a mine records place a.seen.singles (a.seen.counts ++ z ∷ []) unbound free moves
        (near_on shape opened state kept id a mine records place (record a.seen { counts = a.seen.counts ++ z ∷ [] }) a.done.given a.done.lost lives
        (λ spent. cc (free, ap is_bound spent)) moves sums)
        fits.sees.singles
        (All-push (WasCounter kept.anatomy.pieces) a.seen.counts z fits.sees.counters (counter_is shape opened state kept at h i (histogram r) stands counter refl))
        (All-push (WasInUse kept.anatomy.pieces) a.seen.counts z fits.sees.in_use
        (no_count shape opened state kept at h i (histogram r) stands counter refl (λ c is. cc is)))
        (All-push (WasMet kept.anatomy.pieces a.seen) a.seen.counts z fits.sees.met (λ other x is_sample which. ⊎_elim
        (λ six. no_sample other 6 x is_sample six (omega arith))
        (λ seven. no_sample other 7 x is_sample seven (omega arith))
        which))
        (stands_counted shape kept.anatomy id a (z ∷ []) place place free placed)
        (looks_count shape opened state kept id a mine records lives at place a.done.given (still unbound) sums)

  -- ---- a redundant count

  pub redundant_loaded : (h : ℕ) → Ready a (taking_event (load_redundant h)) → Goes shape opened state kept id a mine records (taking_event (load_redundant h))
  redundant_loaded h ((sum, stood), (known, has, refers)) =
      let at : ℕ = h + 13 in
      let unbound : is_bound a.hand.place ≡ false = ap is_bound stood in
      let found : ℕ = word_at state.words at in
      let (r, first, there, named, many, keys) = knows_of shape opened state kept id a mine records (lives_unbound unbound) known has in
      let stands : HasRecord kept.anatomy.pieces h r = subst (λ (n : ℕ). HasRecord kept.anatomy.pieces n r) refers there in
      let word = body_word shape opened state kept h 13 (histogram r) stands (omega arith) in
      let whole = whole_noted shape opened state kept known.name r.spec known.reference r first there named in
      let bound = noted_fits shape opened state kept known.name in
      happens opened.version state id a (taking_event (load_redundant h)) (word_within shape opened state kept h 13 (histogram r) stands refl (omega arith)) shape opened kept (
        loaded shape opened state kept id a mine records at (next a (taking_event (load_redundant h)) found)
            (counter_seen h 13 r stands (inr refl) unbound a.hand.place unbound (kept.standing id a mine) (λ reference sum is. is)),
        omega (arith, word, whole, bound),
      )

  -- ---- a sum

  pub sum_loaded : (h : ℕ) → Ready a (taking_event (load_sum h)) → Goes shape opened state kept id a mine records (taking_event (load_sum h))
  sum_loaded h (unbound, (known, has, refers)) =
      let lives = lives_unbound unbound in
      let fits = kept.each id a mine lives in
      let found : ℕ = word_at state.words (h + 11) in
      let sum : ℤ = cast_signed w64 found in
      let place : Place = SumLoaded h sum in
      let looks = fits.looks records in
      let (r, first, there, named, many, keys) = knows_of shape opened state kept id a mine records lives known has in
      let stands : HasRecord kept.anatomy.pieces h r = subst (λ (n : ℕ). HasRecord kept.anatomy.pieces n r) refers there in
      let word = body_word shape opened state kept h 11 (histogram r) stands (omega arith) in
      happens opened.version state id a (taking_event (load_sum h)) (word_within shape opened state kept h 11 (histogram r) stands refl (omega arith)) shape opened kept (
        loaded shape opened state kept id a mine records (h + 11) (next a (taking_event (load_sum h)) found)
            (sees_on shape opened state kept id a mine records place a.seen.singles a.seen.counts unbound refl
            (λ name key. sym (rests_at a name key a.hand.place (still unbound)))
            near
            fits.sees.singles fits.sees.counters fits.sees.in_use fits.sees.met
            (known, has, refers)
            (looks_anew_at kept.anatomy state.actors kept.roles.opener a place looks (λ reference sum q is alone q_there. now_sum reference sum is q q_there))),
        sum_fits shape opened state kept h r sum stands (inr (inl (ap (cast_signed w64) word))),
      )
    where
      found : ℕ
      found = word_at state.words (h + 11)

      b : Actor
      b = record a { hand = record a.hand { place = SumLoaded h (cast_signed w64 found) } }

      -- the sum that it loads is that of the record
      now_sum : (reference : ℕ) (sum : ℤ) → SumLoaded h (cast_signed w64 found) ≡ SumLoaded reference sum → (q : Record) → HasRecord kept.anatomy.pieces reference q
          → sum ≡ cast_signed w64 q.sum
      now_sum reference sum is q there =
          let here : h ≡ reference = cc is in
          let same : cast_signed w64 found ≡ sum = cc is in
          let word = body_word shape opened state kept h 11 (histogram q) (subst (λ (n : ℕ). HasRecord kept.anatomy.pieces n q) (sym here) there) (omega arith) in
          sym same ∙ ap (cast_signed w64) word

      sum_before : (at : ℕ) (r : Record) (sum : ℤ) → HasRecord kept.anatomy.pieces at r → IsSumOf (set state.actors id b) at r sum → IsSumOf state.actors at r sum
      sum_before at r sum there (inl none_there) = inl none_there
      sum_before at r sum there (inr (inl now)) = inr (inl now)
      sum_before at r sum there (inr (inr (inl mark))) = inr (inr (inl mark))
      sum_before at r sum there (inr (inr (inr (who, c, here, placed)))) = elim (at_set state.actors id who b c here) [
        | inl t ↦ inr (inl (now_sum at sum (ap (λ (c : Actor). c.hand.place) t.1 ∙ placed) r there))
        | inr t ↦ inr (inr (inr (who, c, t.1, placed)))
      ]

      near : SumsAreNear kept.anatomy.pieces (set state.actors id b)
      near at r x y there first last =
          let bound = kept.sums at r x y there (sum_before at r x there first) (sum_before at r y there last) in
          let costs = sum_same (summed_cost r.name) state.actors id a b mine refl in
          omega (arith, bound, costs)
