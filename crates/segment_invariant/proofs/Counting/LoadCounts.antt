-- The counts reference of a histogram is loaded, and its actor moves on with what it had loaded of it before.
use Rattle.segment_invariant.proofs.Prelude.Std.{◌≡◌, ◌≢◌, Bool, true, false, ◌==◌, if◌then◌else◌, ℕ, ◌+◌, List, [], ◌∷◌, ◌++◌, Contains, Some, refl, sym, ◌∙◌, subst, arith, ne_eqb, Contains-push, some, get_elem?}
use Rattle.segment_invariant.proofs.Prelude.Machine.{Dimensions, word_at, Actor, Place, Looking, Sighting, look_of, sight_counts, load_counts, counting_event, Ready, next, State, is_opener}
use Rattle.segment_invariant.proofs.Prelude.Invariant.{histogram, Anatomy, HasRecord, StandsRight, Invariant, EventKeeps}
use Rattle.segment_machine.specs.Calls.{nothing_of, ended}
use Rattle.segment_invariant.proofs.Frames.GoesOn.{happens}
use Rattle.segment_invariant.proofs.Frames.OneActor.{turns_unbound}
use Rattle.segment_invariant.proofs.Frames.Shown.{Goes, loaded}
use Rattle.segment_invariant.proofs.Packing.Loads.{look_right}
use Rattle.segment_invariant.proofs.Counting.Learned.{counts_stay}
use Rattle.segment_invariant.proofs.Counting.Loaded.{counts_within, counts_fixed}
use Rattle.segment_invariant.proofs.Counting.Looks.{knows_of}
use Rattle.segment_invariant.proofs.Counting.References.{words_seen}
use Rattle.segment_invariant.proofs.Counting.Sights.{word_within}

-- the single word in what an actor has loaded so far is one that it saw
single_right : (shape : Dimensions) (anatomy : Anatomy) (id : ℕ) (a : Actor) (place : Place) (h word : ℕ) → StandsRight shape anatomy id a place
    → (look_of place h).single ≡ Some word → Contains a.seen.singles (record { at = (look_of place h).histogram + 9; word = word })
single_right shape anatomy id a (Looking look) h word right is = by_test (look.histogram == h) is
  where
    by_test : (b : Bool) → (if b then look else nothing_of h).single ≡ Some word
        → Contains a.seen.singles (record { at = (if b then look else nothing_of h).histogram + 9; word = word })
    by_test true is = right.single word is
    by_test false is = absurd (cc is)
single_right shape anatomy id a place h word right is = absurd (cc is)

-- a counts reference that is not 0 is among what it has seen
sighted : (seen : List Sighting) (h found : ℕ) → found ≢ 0 → Contains (seen ++ sight_counts h found) (record { at = h + 8; word = found })
sighted seen h found some_there =
    let s : Sighting = record { at = h + 8; word = found } in
    subst (λ (b : Bool). Contains (seen ++ (if b then [] else s ∷ [])) s) (sym (ne_eqb found 0 some_there)) (Contains-push seen s)

module _ (shape : Dimensions) (opened : Anatomy) (state : State) (kept : Invariant shape opened state) (id : ℕ) (a : Actor)
    (mine : get_elem? state.actors id ≡ some a) (recorder : is_opener a.role ≡ false) where
  counts_loaded : (h : ℕ) → Ready a (counting_event (load_counts h)) → Goes shape opened state kept id a mine recorder (counting_event (load_counts h))
  counts_loaded h (unbound, (known, (has, refers, bucketed))) =
      let found : ℕ = word_at state.words (h + 8) in
      let place : Place = Looking (record (look_of a.hand.place h) { counts = found }) in
      let turns = turns_unbound a place unbound refl in
      let (r, first, there, named, many, keys) = knows_of shape opened state kept id a mine recorder turns.lived known has in
      let stands : HasRecord kept.anatomy.pieces h r = subst (λ (n : ℕ). HasRecord kept.anatomy.pieces n r) refers there in
      let (histogram_is, counts_are) = look_right shape kept.anatomy id a a.hand.place h (kept.standing id a mine) in
      happens opened.version state id a (counting_event (load_counts h)) (word_within shape opened state kept h 8 (histogram r) stands refl (omega arith)) shape opened kept (
        loaded shape opened state kept id a mine recorder (h + 8) (next a (counting_event (load_counts h)) found)
            (words_seen shape opened state kept id a mine recorder unbound place turns.lives (λ reference sum is. cc is) turns.moves (sight_counts h found)
            (ended a.seen.ends (h + 8) (found == 0))
            (counts_fixed shape opened state kept id a mine turns.lived h known (has, refers, bucketed))
            (record {
              known = known;
              knows = (has, refers ∙ sym histogram_is, bucketed);
              single = λ word is. single_right shape kept.anatomy id a a.hand.place h word (kept.standing id a mine) is;
              counts = λ some_there. subst (λ (n : ℕ). Contains (a.seen.words ++ sight_counts h found) (record { at = n + 8; word = found })) (sym histogram_is)
                  (sighted a.seen.words h found some_there);
            })),
        (
          counts_within shape opened state kept id a mine turns.lived h,
          counts_stay shape opened state kept id a mine turns.lived h known (has, refers, bucketed),
        ),
      )

pub load_counts_kept : (h : ℕ) → EventKeeps (counting_event (load_counts h))
load_counts_kept h shape opened state id a kept mine recorder ready = counts_loaded shape opened state kept id a mine recorder h ready
