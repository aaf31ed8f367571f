-- An actor sees the count or the mark of a sample that it visited, as it is: no word changes, and it moves on to a place.
use Rattle.segment_invariant.proofs.Prelude.Std.{◌≡◌, ◌≢◌, ◌⊎◌, ℕ, ◌+◌, ◌<◌, ℤ, false, List, [], ◌∷◌, ◌++◌, set, Contains, ⊎_elim, refl, sym, ap, ◌∙◌, subst, arith, All-push, some, get_elem?}
use Rattle.segment_invariant.proofs.Prelude.Machine.{Dimensions, word_at, Actor, Look, Place, Spent, SumLoaded, Moving, Seen, Sighting, is_bound, is_opener, SawSample, State}
use Rattle.segment_invariant.proofs.Prelude.Invariant.{Sample, sample, Anatomy, moving_at, HasSample, WasCounter, WasInUse, WasMet, StandsRight, Invariant, KeptOn}
use Rattle.segment_invariant.proofs.Blocks.Places.{counter_within}
use Rattle.segment_invariant.proofs.Frames.OneActor.{rests_at}
use Rattle.segment_invariant.proofs.Frames.SeesMore.{seer, near_on}
use Rattle.segment_invariant.proofs.Counting.Looks.{same_block, looks_count}
use Rattle.segment_invariant.proofs.Counting.Samples.{sample_met}
use Rattle.segment_invariant.proofs.Counting.Sights.{counter_is, no_count, sees_on}

module _ (shape : Dimensions) (opened : Anatomy) (state : State) (kept : Invariant shape opened state) (id : ℕ) (a : Actor)
    (mine : get_elem? state.actors id ≡ some a) (recorder : is_opener a.role ≡ false) (unbound : is_bound a.hand.place ≡ false)
    (at of : ℕ) (value : ℤ) (met : Contains a.seen.chain at) (saw : SawSample a.seen of value at) (i : ℕ) (which : (i ≡ 6) ⊎ (i ≡ 7)) where
  abbrev z : Sighting
  z = record { at = at + i; word = word_at state.words (at + i) }

  abbrev pub sees_sample : Seen
  sees_sample = record a.seen { counts = a.seen.counts ++ z ∷ [] }

  lives : a.hand.place ≢ Spent
  lives spent = cc (unbound, ap is_bound spent)

  still : (look : Look) (bucket units : ℕ) → a.hand.place ≢ Moving look bucket units
  still look bucket units moving = cc (unbound, ap is_bound moving)

  -- a sample that is there is the one that it visited
  met_again : (s : Sample) (other j : ℕ) (x : Sample) → HasSample kept.anatomy.pieces at s → s.of ≡ of → s.value ≡ value
      → HasSample kept.anatomy.pieces other x → at + i ≡ other + j → j < 8 → Contains a.seen.chain other × SawSample a.seen x.of x.value other
  met_again s other j x stands of_it valued is_sample spot low =
      let (place, bodies, index) = same_block shape opened state kept at other i j (sample s) (sample x) stands is_sample
      (counter_within (sample s) i which) (omega (arith, low)) spot in
      let same : s ≡ x = cc bodies in
      subst (λ (p : ℕ × ℕ × ℤ). Contains a.seen.chain p.0 × SawSample a.seen p.1 p.2 p.0)
      (λ k. (place k, (sym of_it ∙ ap (λ (s : Sample). s.of) same) k, (sym valued ∙ ap (λ (s : Sample). s.value) same) k)) (met, saw)

  -- the state that is left is kept
  pub sample_seen : (place : Place) → is_bound place ≡ false → ((reference : ℕ) (sum : ℤ) → place ≢ SumLoaded reference sum)
      → StandsRight shape kept.anatomy id (seer a place sees_sample a.done.given a.done.lost) place
      → KeptOn shape opened kept (record { words = state.words; cursors = state.cursors; actors = set state.actors id (seer a place sees_sample a.done.given a.done.lost) })
  sample_seen place free no_sum stood =
      let fits = kept.each id a mine lives in
      let moves : (name : List ℕ) (key : ℤ) → moving_at a name key place ≡ moving_at a name key a.hand.place =
      λ name key. rests_at a name key place (λ look bucket units moving. cc (free, ap is_bound moving)) ∙ sym (rests_at a name key a.hand.place still) in
      let (s, stands, of_it, valued) = sample_met shape opened state kept id a mine lives at of value met saw in
      sees_on shape opened state kept id a mine recorder place a.seen.singles (a.seen.counts ++ z ∷ []) unbound free moves
      (near_on shape opened state kept id a mine recorder place sees_sample a.done.given a.done.lost lives (λ spent. cc (free, ap is_bound spent)) moves
      (λ reference sum is. absurd (no_sum reference sum is)))
      fits.sees.singles
      (All-push (WasCounter kept.anatomy.pieces) a.seen.counts z fits.sees.counters (counter_is shape opened state kept (at + i) at i (sample s) stands which refl))
      (All-push (WasInUse kept.anatomy.pieces) a.seen.counts z fits.sees.in_use
      (no_count shape opened state kept (at + i) at i (sample s) stands which refl (λ c is. cc is)))
      (All-push (WasMet kept.anatomy.pieces a.seen) a.seen.counts z fits.sees.met (λ other x is_sample where_it_is. ⊎_elim
      (λ six. met_again s other 6 x stands of_it valued is_sample six (omega arith))
      (λ seven. met_again s other 7 x stands of_it valued is_sample seven (omega arith))
      where_it_is))
      stood
      (looks_count shape opened state kept id a mine recorder lives (at + i) place a.done.given still (λ reference sum is. absurd (no_sum reference sum is)))
