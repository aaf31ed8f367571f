-- What a call makes of what a handle holds.
use Rattle.std.proofs.Common.{◌≡◌, ℕ, ap, sym, subst, refl, Option, Some, None, Result, Ok, Err, MatchOption, option_map, MutBor, List, ℤ, w64, FitsSigned, to_z, of_z}
use Rattle.std.proofs.lemmas.Int.{to_z-of_z}
use Rattle.std.specs.Fn.{FnOnceReturnsAtMut, Once}
use Rattle.std.proofs.lemmas.Result.{MatchResult-at_err, MatchResult-at_ok}
use Rattle.live_segment.specs.declared.recorder.Hist.{Hist}
use Rattle.owned_recorder.specs.declared.owned.OwnedRecorder.{OwnedRecorder}
use Rattle.povundiri_c.specs.declared.contents.Contents.{Contents}
use Rattle.povundiri_c.specs.declared.contents.Contents.TheVariants as contents
use Rattle.povundiri_c.specs.declared.status.Refused.{Refused}
use Rattle.povundiri_c.specs.declared.joinable_recorder.JoinableRecorder.{JoinableRecorder}
use Rattle.povundiri_c.specs.declared.owned_segment.OwnedSegment.{OwnedSegment}
use Rattle.povundiri_c.specs.declared.owned_segment.JoinOrLend.{JoinOrLend}
use Rattle.povundiri_c.specs.Calls.{ByHandle, ByRecorder, OnRecorder, SizesOfRecorder}
use Rattle.povundiri_c.specs.Joins.{BySegment, JoinsOrLends, ServesPassed, recorder_in}
use Rattle.povundiri_c.specs.Recorders.{AtPlace, AtPlaceInRoom, Batches, Finds, refused_with}

-- the contents are a recorder
pub by_recorder : {A : Type 0} (other : A) (Calls : OwnedRecorder → A → OwnedRecorder → Type 0) (it : Contents) (joinable after : JoinableRecorder) (answer : A)
    → it ≡ contents.Recorder joinable → after.mailbox ≡ joinable.mailbox → Calls joinable.owned answer after.owned
    → ByRecorder other Calls it answer (contents.Recorder after)
by_recorder other Calls it joinable after answer is kept calls =
    subst (λ (one : Contents). ByRecorder other Calls one answer (contents.Recorder after)) (sym is) (after, refl, kept, calls)

-- the same of what C has of the recorder
pub on_recorder : {A : Type 0} (other : A) (Calls : JoinableRecorder → A → JoinableRecorder → Type 0) (it : Contents) (joinable after : JoinableRecorder) (answer : A)
    → it ≡ contents.Recorder joinable → Calls joinable answer after → OnRecorder other Calls it answer (contents.Recorder after)
on_recorder other Calls it joinable after answer is calls =
    subst (λ (one : Contents). OnRecorder other Calls one answer (contents.Recorder after)) (sym is) (after, refl, calls)

-- a closure's call of what C has of the recorder is one of the recorder, which keeps its mailbox
pub of_recorder : {A F : Type 0} (empty other : A) (g : Once F (MutBor JoinableRecorder × Unit {0}) (A × (MutBor JoinableRecorder × Unit {0}))) (f : F) (Calls : OwnedRecorder → A → OwnedRecorder → Type 0)
    → ((shown left : MutBor JoinableRecorder) (answer : A) → g.post f (shown, tt) (answer, (left, tt)) → (left.now.mailbox ≡ shown.now.mailbox) × Calls shown.now.owned answer left.now.owned)
    → (old new : Option Contents) (answer : A) → ByHandle empty (OnRecorder other (FnOnceReturnsAtMut g f)) old answer new → ByHandle empty (ByRecorder other Calls) old answer new
of_recorder empty other g f Calls each None new answer is = is
of_recorder empty other g f Calls each (Some (contents.Recorder joinable)) new answer (after, same, (mine, is, does)) =
    let made = subst (λ (one : JoinableRecorder). (one.mailbox ≡ joinable.mailbox) × Calls joinable.owned answer one.owned) does.leaves
    (subst (λ (one : JoinableRecorder). (does.left.now.mailbox ≡ one.mailbox) × Calls one.owned answer does.left.now.owned) does.shows (each does.shown does.left answer does.met)) in
    (after, same, (mine, is, made.0, made.1))
of_recorder empty other g f Calls each (Some (contents.Segment owned)) new answer is = is
of_recorder empty other g f Calls each (Some (contents.Sums sums)) new answer is = is
of_recorder empty other g f Calls each (Some (contents.Follower held)) new answer is = is
of_recorder empty other g f Calls each (Some contents.Nothing) new answer is = is

-- the same, if a status comes with a length
pub of_sized : {A F : Type 0} (empty other : Refused) (g : Once F (MutBor JoinableRecorder × Unit {0}) (Result A Refused × (MutBor JoinableRecorder × Unit {0}))) (f : F) (Calls : OwnedRecorder → Result A Refused → OwnedRecorder → Type 0)
    → empty ≡ refused_with 3 → other ≡ refused_with 5
    → ((shown left : MutBor JoinableRecorder) (answer : Result A Refused) → g.post f (shown, tt) (answer, (left, tt)) → (left.now.mailbox ≡ shown.now.mailbox) × Calls shown.now.owned answer left.now.owned)
    → (old new : Option Contents) (answer : Result A Refused) → ByHandle (Err empty) (OnRecorder (Err other) (FnOnceReturnsAtMut g f)) old answer new → SizesOfRecorder Calls old answer new
of_sized empty other g f Calls none segment each old new answer is =
    subst (λ (one : Refused). ByHandle (Err one) (ByRecorder (Err (refused_with 5)) Calls) old answer new) none
    (subst (λ (one : Refused). ByHandle (Err empty) (ByRecorder (Err one) Calls) old answer new) segment
    (of_recorder (Err empty) (Err other) g f Calls each old new answer is))

-- a batch of the same items, with the sum as a closure passes it on
pub of_same_batch : (items items' : List (ℤ × ℕ)) (sum : ℤ) → FitsSigned w64 sum → items ≡ items' → (place : ℕ) (old : OwnedRecorder) (answer : Result (Unit {0}) Refused) (new : OwnedRecorder)
    → AtPlace (Err (refused_with 8)) (Batches items (to_z w64 (of_z w64 sum))) place old answer new → AtPlace (Err (refused_with 8)) (Batches items' sum) place old answer new
of_same_batch items items' sum fits same place old answer new counts =
    subst (λ (one : List (ℤ × ℕ)). AtPlace (Err (refused_with 8)) (Batches one sum) place old answer new) same
    (subst (λ (one : ℤ). AtPlace (Err (refused_with 8)) (Batches items one) place old answer new) (to_z-of_z w64 sum fits) counts)

-- the contents are a segment
pub by_segment : {A : Type 0} (other : A) (Calls : OwnedSegment → A → OwnedSegment → Type 0) (it : Contents) (owned after : OwnedSegment) (answer : A)
    → it ≡ contents.Segment owned → Calls owned answer after → BySegment other Calls it answer (contents.Segment after)
by_segment other Calls it owned after answer is calls =
    subst (λ (one : Contents). BySegment other Calls one answer (contents.Segment after)) (sym is) (after, refl, calls)

-- what is passed is no recorder
pub serves_none : (request : JoinOrLend) (passed left : Contents) (owned : OwnedSegment) → recorder_in passed ≡ None → left ≡ passed → ServesPassed request passed owned (5, Some left) owned
serves_none request passed left owned none same =
    subst (λ (one : Option JoinableRecorder). MatchOption one (◌≡◌ {A = ℕ × Option Contents} (5, Some left) (5, Some passed) × (owned ≡ owned))
    (λ joinable. (back : Option JoinableRecorder) × (Some left ≡ option_map contents.Recorder back) × JoinsOrLends request joinable owned 5 back owned)) (sym none)
    (λ i. (5, Some (same i)), refl)

-- it is a recorder
pub serves_some : (request : JoinOrLend) (passed : Contents) (joinable : JoinableRecorder) (owned after : OwnedSegment) (answer : ℕ × Option Contents) (back : Option JoinableRecorder) → recorder_in passed ≡ Some joinable
    → answer.1 ≡ option_map contents.Recorder back → JoinsOrLends request joinable owned answer.0 back after → ServesPassed request passed owned answer after
serves_some request passed joinable owned after answer back is same served =
    subst (λ (one : Option JoinableRecorder). MatchOption one ((answer ≡ (5, Some passed)) × (after ≡ owned))
    (λ joinable. (back : Option JoinableRecorder) × (answer.1 ≡ option_map contents.Recorder back) × JoinsOrLends request joinable owned answer.0 back after)) (sym is)
    (back, same, served)

-- ---- with room for all keys of a histogram

-- the histogram was found, and the call is of it
pub found_with_room : {A : Type 0} (place room : ℕ) (Calls : Hist → OwnedRecorder → Result A Refused → OwnedRecorder → Type 0)
    (old new : OwnedRecorder) (histogram : Hist) (given : Result A Refused)
    → AtPlaceInRoom place room Finds old (Ok histogram) old → Calls histogram old given new → AtPlaceInRoom place room Calls old given new
found_with_room place room Calls old new histogram given found calls =
    let answer : Result Hist Refused = Ok histogram in
    let no : (why : Refused) → answer ≡ Err why → ⊥ = λ why is. MatchResult-at_err (λ _. Unit {0}) (λ _. ⊥) why is tt in
    let one : (other : Hist) → answer ≡ Ok other → Calls other old given new =
    λ other is. MatchResult-at_ok (λ it. Calls it old given new) (λ _. ⊥) other is calls in (
      λ behind. absurd (no (refused_with 8) (found.0 behind).0),
      λ before. let it = found.1 before in
          (it.0, it.1, (it.2.0, it.2.1, λ short. absurd (no _ (it.2.2 short).0), λ fits. one it.0 (it.2.3 fits).0)),
    )

-- none was found, or there was too little room
pub found_no_room : {A : Type 0} (place room : ℕ) (Calls : Hist → OwnedRecorder → Result A Refused → OwnedRecorder → Type 0)
    (old : OwnedRecorder) (refused : Refused)
    → AtPlaceInRoom place room Finds old (Err refused) old → AtPlaceInRoom place room Calls old (Err refused) old
found_no_room place room Calls old refused found =
    let answer : Result Hist Refused = Err refused in
    let same : (why : Refused) → answer ≡ Err why → refused ≡ why =
    λ why is. MatchResult-at_err (λ _. Unit {0}) (λ it. refused ≡ it) why is refl in
    let no : (other : Hist) → answer ≡ Ok other → ⊥ = λ other is. MatchResult-at_ok (λ _. ⊥) (λ _. Unit {0}) other is tt in (
      λ behind. (ap (λ (it : Refused). Err it) (same (refused_with 8) (found.0 behind).0), refl),
      λ before. let it = found.1 before in
          (it.0, it.1, (it.2.0, it.2.1, λ short. (ap (λ (it : Refused). Err it) (same _ (it.2.2 short).0), refl), λ fits. absurd (no it.0 (it.2.3 fits).0))),
    )
