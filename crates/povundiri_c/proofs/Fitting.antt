-- The counts of a delta and of a snapshot fit in the room that the call asked for.
use Rattle.std.proofs.Common.{◌≡◌, ◌≤◌, ⊎_elim, ℕ, ℤ, List, length, Option, Some, None, Result, Ok, Err, MatchResult, sym, subst, arith}
use Rattle.std.specs.Arc.{arc_value}
use Rattle.std.proofs.lemmas.Bool.{cases_lt}
use Rattle.segment_calls.specs.declared.answer.Delta.{Delta}
use Rattle.segment_calls.specs.declared.answer.Snapshot.{Snapshot}
use Rattle.segment_calls.specs.declared.refusal.Refusal.{Refusal}
use Rattle.segment_invariant.proofs.Lists.Elements.{there_below}
use Rattle.segment_machine.specs.declared.actor.Known.{Known}
use Rattle.live_segment.specs.declared.recorder.Hist.{Hist}
use Rattle.live_segment.specs.List.Values.{AreFewKeys}
use Rattle.live_segment.specs.Answers.{ShowsFewKeys, TakesFewKeys}
use Rattle.live_segment.specs.RecorderState.{Means, view_of_state}
use Rattle.owned_recorder.specs.declared.owned.OwnedRecorder.{OwnedRecorder}
use Rattle.povundiri_c.specs.declared.contents.Contents.{Contents}
use Rattle.povundiri_c.specs.declared.contents.Contents.TheVariants as contents
use Rattle.povundiri_c.specs.declared.status.Refused.{Refused}
use Rattle.povundiri_c.specs.Calls.{SizesOfRecorder}
use Rattle.povundiri_c.specs.Recorders.{AtPlaceInRoom, TakesDelta, TakesSnapshot, known_by, with_refused}

-- what is returned is no refusal
answered : {A B : Type 0} (value : A) (why : B) → Ok value ≡ Err why → ⊥
answered value why is = subst (λ (r : Result _ _). MatchResult r (λ _. Unit {0}) (λ _. ⊥)) is tt

-- ---- of the histogram

abbrev HasFew : {A : Type 0} → (A → List (ℤ × ℕ)) → Hist → OwnedRecorder → A → Type 0
HasFew counts histogram old value = (known : Known) → Means old.state histogram known → AreFewKeys (arc_value old.segment) known (counts value)

abbrev pub counts_of_delta : Delta → List (ℤ × ℕ)
counts_of_delta delta = delta.counts.items

abbrev pub counts_of_snapshot : Snapshot → List (ℤ × ℕ)
counts_of_snapshot snapshot = snapshot.counts.items

pub few_of_delta : (histogram : Hist) (old : OwnedRecorder) (delta : Delta) (new : OwnedRecorder) → TakesDelta histogram old (Ok delta) new
    → HasFew counts_of_delta histogram old delta
few_of_delta histogram old delta new (answer, is, on, taken, enough, few) known means = by answer is few
  where
    by : (answer : Result Delta Refusal) → Ok delta ≡ with_refused answer → TakesFewKeys (arc_value old.segment) histogram old.state answer
        → AreFewKeys (arc_value old.segment) known delta.counts.items
    by (Ok it) is few = subst (λ (r : Result Delta Refused). MatchResult r (λ d. AreFewKeys (arc_value old.segment) known d.counts.items) (λ _. Unit {0}))
        (sym is) (few known means)
    by (Err why) is few = absurd (answered delta _ is)

pub few_of_snapshot : (histogram : Hist) (old : OwnedRecorder) (snapshot : Snapshot) (new : OwnedRecorder) → TakesSnapshot histogram old (Ok snapshot) new
    → HasFew counts_of_snapshot histogram old snapshot
few_of_snapshot histogram old snapshot new (answer, is, on, saw, enough, most, units, few) known means = by answer is few
  where
    by : (answer : Result Snapshot Refusal) → Ok snapshot ≡ with_refused answer → ShowsFewKeys (arc_value old.segment) histogram old.state answer
        → AreFewKeys (arc_value old.segment) known snapshot.counts.items
    by (Ok it) is few = subst (λ (r : Result Snapshot Refused). MatchResult r (λ s. AreFewKeys (arc_value old.segment) known s.counts.items) (λ _. Unit {0}))
        (sym is) (few known means)
    by (Err why) is few = absurd (answered snapshot _ is)

-- ---- of the call

module _ {A : Type 0} (counts : A → List (ℤ × ℕ)) (Calls : Hist → OwnedRecorder → Result A Refused → OwnedRecorder → Type 0)
    (few : (histogram : Hist) (old : OwnedRecorder) (value : A) (new : OwnedRecorder) → Calls histogram old (Ok value) new → HasFew counts histogram old value)
    (place room : ℕ) (value : A) where
  fits_recorder : (old new : OwnedRecorder) → AtPlaceInRoom place room Calls old (Ok value) new → length (counts value) ≤ room
  fits_recorder old new (unknown, calls) = ⊎_elim
      (λ below.
      let (histogram, is, (most, are_most, short, enough)) = calls below in
      let (known, means) = there_below (view_of_state old.state).answers.names histogram.index (omega (arith, below, is)) in ⊎_elim
      (λ less. absurd (answered value _ (short less).0))
      (λ fits.
      let all = few histogram old value new (enough fits) known means most (are_most known means) in omega (arith, all, fits))
      (cases_lt room most))
      (λ behind. absurd (answered value _ (unknown behind).0))
      (cases_lt place (known_by old))

  pub fits : (held held' : Option Contents) → SizesOfRecorder (AtPlaceInRoom place room Calls) held (Ok value) held' → length (counts value) ≤ room
  fits None held' (is, same) = absurd (answered value _ is)
  fits (Some (contents.Segment owned)) held' (after, new, (is, same)) = absurd (answered value _ is)
  fits (Some (contents.Sums sums)) held' (after, new, (is, same)) = absurd (answered value _ is)
  fits (Some (contents.Follower held)) held' (after, new, (is, same)) = absurd (answered value _ is)
  fits (Some contents.Nothing) held' (after, new, (is, same)) = absurd (answered value _ is)
  fits (Some (contents.Recorder joinable)) held' (after, new, (mine, is, mailbox, calls)) = fits_recorder joinable.owned mine.owned calls
