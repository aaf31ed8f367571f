-- What a merge by a recorder of the parts of another makes of that one, and what a call by a handle returns.
use Rattle.std.proofs.Common.{◌≡◌, ℕ, sym, ap, ◌∙◌, subst, Option, Result, Ok, Err, MatchResult, MutBor}
use Rattle.std.specs.Fn.{FnOnceReturnsAtMut, Once}
use Rattle.segment_calls.specs.declared.refusal.Refusal.{Refusal}
use Rattle.segment_calls.specs.declared.refusal.Refusal.TheVariants.{NoMemory}
use Rattle.image_reader.specs.Views.{reading_view}
use Rattle.image_reader.specs.declared.reading.Reading.{Reading}
use Rattle.live_segment.specs.Holders.{view_of_recorder}
use Rattle.live_segment.specs.RecorderState.{KnowsOn, view_of_state}
use Rattle.live_segment.specs.declared.recorder.Recorder.{Recorder}
use Rattle.live_segment.specs.declared.recorder.state.RecorderState.{RecorderState}
use Rattle.owned_recorder.specs.declared.owned.OwnedRecorder.{OwnedRecorder}
use Rattle.segment_merge.specs.Merge.{Reports}
use Rattle.segment_merge.specs.declared.merging.MergeReport.{MergeReport}
use Rattle.povundiri_c.specs.declared.contents.Contents.{Contents}
use Rattle.povundiri_c.specs.declared.joinable_recorder.JoinableRecorder.{JoinableRecorder}
use Rattle.povundiri_c.specs.Calls.{ByHandle, GivesOfRecorder, OnRecorder}
use Rattle.povundiri_c.specs.Merging.{MergesForCost, MergesReading, cost_of_reading}
use Rattle.povundiri_c.proofs.Calling.{of_recorder}

-- the state of the recorder before and after is that of the one that is kept
pub merges_reading : (reading : Reading) (owned after : OwnedRecorder) (answer : Result MergeReport Refusal) (old new : Recorder)
    → after.segment ≡ owned.segment → old.state ≡ owned.state → after.state ≡ new.state → KnowsOn old.state new.state
    → MatchResult answer (λ report. Reports (reading_view reading).hists report (view_of_recorder old) (view_of_recorder new)) (λ why. (why ≡ NoMemory) × (new ≡ old))
    → MergesReading reading owned answer after
merges_reading reading owned after (Ok report) old new kept was is knows reports = (
  kept,
  subst (λ (state : RecorderState). KnowsOn state after.state) was (subst (λ (state : RecorderState). KnowsOn old.state state) (sym is) knows),
  subst (λ (state : RecorderState). Reports (reading_view reading).hists report (view_of_state state) (view_of_state after.state)) was
      (subst (λ (state : RecorderState). Reports (reading_view reading).hists report (view_of_state old.state) (view_of_state state)) (sym is) reports),
)
merges_reading reading owned after (Err why) old new kept was is knows refused = (
  kept,
  subst (λ (state : RecorderState). KnowsOn state after.state) was (subst (λ (state : RecorderState). KnowsOn old.state state) (sym is) knows),
  (refused.0, is ∙ ap (λ (recorder : Recorder). recorder.state) refused.1 ∙ was),
)

-- a closure that merges what costs so much, which is what the reading costs
pub of_merge : {F : Type 0} (empty other : Result MergeReport ℕ) (g : Once F (MutBor JoinableRecorder × Unit {0}) (Result MergeReport ℕ × (MutBor JoinableRecorder × Unit {0}))) (f : F) (reading : Reading) (cost : ℕ)
    → empty ≡ Err 3 → other ≡ Err 5 → cost ≡ cost_of_reading reading
    → ((shown left : MutBor JoinableRecorder) (answer : Result MergeReport ℕ) → g.post f (shown, tt) (answer, (left, tt)) → (left.now.mailbox ≡ shown.now.mailbox) × MergesForCost reading cost shown.now.owned answer left.now.owned)
    → (old new : Option Contents) (result answer : Result MergeReport ℕ) → ByHandle empty (OnRecorder other (FnOnceReturnsAtMut g f)) old result new → result ≡ answer
    → GivesOfRecorder (MergesForCost reading (cost_of_reading reading)) old answer new
of_merge empty other g f reading cost none segment same each old new result answer held is =
    subst (λ (one : Result MergeReport ℕ). GivesOfRecorder (MergesForCost reading (cost_of_reading reading)) old one new) is
    (subst (λ (spent : ℕ). GivesOfRecorder (MergesForCost reading spent) old result new) same
    (of_recorder (Err 3) (Err 5) g f (MergesForCost reading cost) each old new result
    (subst (λ (one : Result MergeReport ℕ). ByHandle one (OnRecorder (Err 5) (FnOnceReturnsAtMut g f)) old result new) none
    (subst (λ (one : Result MergeReport ℕ). ByHandle empty (OnRecorder one (FnOnceReturnsAtMut g f)) old result new) segment held))))
