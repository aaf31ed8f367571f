-- A single word is loaded.
use Rattle.segment_invariant.proofs.Prelude.Std.{◌≡◌, ◌≢◌, ℕ, ◌+◌, Bool, true, false, ◌==◌, [], ◌∷◌, ◌++◌, set, Contains, Some, None, inl, refl, sym, ◌∙◌, subst, arith, eqb-true, if◌then◌else◌, All-push, All-contains, Contains-push, some, get_elem?}
use Rattle.segment_invariant.proofs.Prelude.Machine.{Dimensions, word_at, single_of, Actor, Look, Place, Spent, Looking, Sighting, look_of, Leads, State, load_single, packing_event, Ready, next, is_opener}
use Rattle.segment_invariant.proofs.Prelude.Invariant.{histogram, Anatomy, HasRecord, WasSingle, StandsRight, Invariant, KeptOn, EventKeeps}
use Rattle.segment_machine.specs.Calls.{nothing_of}
use Rattle.segment_machine.specs.Packing.{IsSingleOf}
use Rattle.segment_invariant.proofs.Frames.GoesOn.{happens}
use Rattle.segment_invariant.proofs.Frames.OneActor.{turns_unbound}
use Rattle.segment_invariant.proofs.Frames.SeesMore.{near_on}
use Rattle.segment_invariant.proofs.Frames.Shown.{Goes, loaded}
use Rattle.segment_invariant.proofs.Counting.Looks.{knows_of, body_word, single_now, looks_single}
use Rattle.segment_invariant.proofs.Counting.Sights.{word_within, sees_on}

-- what an actor has loaded so far of a histogram is of that histogram, and the counts in it are those that it saw
pub look_right : (shape : Dimensions) (anatomy : Anatomy) (id : ℕ) (a : Actor) (place : Place) (h : ℕ) → StandsRight shape anatomy id a place
    → ((look_of place h).histogram ≡ h)
    × ((look_of place h).counts ≢ 0 → Contains a.seen.words (record { at = (look_of place h).histogram + 8; word = (look_of place h).counts }))
look_right shape anatomy id a (Looking look) h right = by_test (look.histogram == h) (eqb-true look.histogram h)
  where
    by_test : (b : Bool) → (b ≡ true → look.histogram ≡ h) → ((if b then look else nothing_of h).histogram ≡ h)
        × ((if b then look else nothing_of h).counts ≢ 0
        → Contains a.seen.words (record { at = (if b then look else nothing_of h).histogram + 8; word = (if b then look else nothing_of h).counts }))
    by_test true same = (same refl, right.counts)
    by_test false same = (refl, λ some_there. absurd (some_there refl))
look_right shape anatomy id a place h right = (refl, λ some_there. absurd (some_there refl))

module _ (shape : Dimensions) (opened : Anatomy) (state : State) (kept : Invariant shape opened state) (id : ℕ) (a : Actor)
    (mine : get_elem? state.actors id ≡ some a) (records : is_opener a.role ≡ false) where
  -- a single word that an actor finds has a form, and all that it saw before lead to it
  pub learns_single : (lives : a.hand.place ≢ Spent) (h : ℕ) → IsSingleOf a h (word_at state.words (h + 9))
  learns_single lives h known (has, refers, bucketed) =
      let fits = kept.each id a mine lives in
      let (r, first, there, named, many, keys) = knows_of shape opened state kept id a mine records lives known has in
      let stands : HasRecord kept.anatomy.pieces h r = subst (λ (n : ℕ). HasRecord kept.anatomy.pieces n r) refers there in
      let word = body_word shape opened state kept h 9 (histogram r) stands (omega arith) in (
        subst (λ (p : ℕ × ℕ × ℕ). single_of p.0 p.1 p.2 ≢ None) (λ i. (sym fits.versioned i, many i, sym word i)) (kept.records.lawful h r stands).formed,
        λ old seen.
            let leads = single_now shape opened state kept (record { at = h + 9; word = old }) h r
            (All-contains (WasSingle kept.anatomy.version kept.anatomy.pieces) a.seen.singles _ fits.sees.singles seen) refl stands in
            subst (λ (p : ℕ × ℕ × ℕ). Leads p.0 p.1 old p.2) (λ i. (sym fits.versioned i, many i, sym word i)) leads.1,
      )

  pub single_loaded : (h : ℕ) → Ready a (packing_event (load_single h)) → Goes shape opened state kept id a mine records (packing_event (load_single h))
  single_loaded h (unbound, (known, (has, refers, bucketed))) =
      let turned = turns_unbound a (Looking (look_of a.hand.place h)) unbound refl in
      let fits = kept.each id a mine turned.lived in
      let (r, first, there, named, many, keys) = knows_of shape opened state kept id a mine records turned.lived known has in
      let stands : HasRecord kept.anatomy.pieces h r = subst (λ (n : ℕ). HasRecord kept.anatomy.pieces n r) refers there in
      let word = body_word shape opened state kept h 9 (histogram r) stands (omega arith) in
      let look : Look = record (look_of a.hand.place h) { single = Some r.single } in
      let place : Place = Looking look in
      let turns = turns_unbound a place unbound refl in
      let y : Sighting = record { at = h + 9; word = r.single } in
      let (histogram_is, counts_are) = look_right shape kept.anatomy id a a.hand.place h (kept.standing id a mine) in
      let lawful = kept.records.lawful h r stands in
      happens opened.version state id a (packing_event (load_single h)) (word_within shape opened state kept h 9 (histogram r) stands refl (omega arith)) shape opened kept (
        loaded shape opened state kept id a mine records (h + 9) (next a (packing_event (load_single h)) (word_at state.words (h + 9)))
            (subst (λ (n : ℕ). KeptOn shape opened kept (record {
              words = state.words;
              cursors = state.cursors;
              actors = set state.actors id (next a (packing_event (load_single h)) n);
            })) (sym word)
            (sees_on shape opened state kept id a mine records place (a.seen.singles ++ y ∷ []) a.seen.counts unbound refl turns.moves
            (near_on shape opened state kept id a mine records place (record a.seen { singles = a.seen.singles ++ y ∷ [] }) a.done.given a.done.lost turns.lived turns.lives turns.moves
            turns.sums)
            (All-push (WasSingle kept.anatomy.version kept.anatomy.pieces) a.seen.singles y fits.sees.singles (h, r, stands, refl, lawful.formed, inl refl))
            fits.sees.counters fits.sees.in_use fits.sees.met
            (record {
              known = known;
              knows = (has, refers ∙ sym histogram_is, bucketed);
              single = λ w is. subst (λ (p : ℕ × ℕ). Contains (a.seen.singles ++ y ∷ []) (record { at = p.0 + 9; word = p.1 }))
                  (λ i. (sym histogram_is i, some_is r.single w is i)) (Contains-push a.seen.singles y);
              counts = counts_are;
            })
            (looks_single shape opened state kept id a mine records turned.lived h r stands place a.done.given (λ reference sum loaded. cc loaded)))),
        learns_single turned.lived h,
      )
    where
      some_is : (x y : ℕ) → Some x ≡ Some y → x ≡ y
      some_is x y is = cc is

pub single_kept : (h : ℕ) → EventKeeps (packing_event (load_single h))
single_kept h shape opened state id a kept mine records ready = single_loaded shape opened state kept id a mine records h ready
