-- What a follower and a recorder that C holds make of an image.
use Rattle.std.proofs.Common.{◌≡◌, ◌⊎◌, ℕ, refl, sym, ap, ◌∙◌, subst, inl, inr, Option, List, Some, Result, Ok, Err, IfOk, MatchResult}
use Rattle.segment_image.specs.declared.head.SegmentHead.{SegmentHead}
use Rattle.image_reader.specs.Views.{reading_view}
use Rattle.image_reader.specs.declared.reading.Reading.{Reading}
use Rattle.live_segment.specs.Holders.{view_of_recorder}
use Rattle.live_segment.specs.RecorderState.{KnowsOn, view_of_state}
use Rattle.live_segment.specs.declared.recorder.Recorder.{Recorder}
use Rattle.live_segment.specs.declared.recorder.state.RecorderState.{RecorderState}
use Rattle.owned_recorder.specs.declared.owned.OwnedRecorder.{OwnedRecorder}
use Rattle.segment_merge.specs.Follow.{IsFollowed}
use Rattle.segment_merge.specs.Follower.{IsNotFollowedFor, noted_of}
use Rattle.segment_merge.specs.declared.follow_fault.FollowFault.{FollowFault}
use Rattle.segment_merge.specs.declared.follower.Follower.{Follower}
use Rattle.segment_merge.specs.declared.following.FollowReport.{FollowReport}
use Rattle.povundiri_c.specs.declared.contents.Contents.{Contents}
use Rattle.povundiri_c.specs.declared.contents.Contents.TheVariants as contents
use Rattle.povundiri_c.specs.declared.held_follower.HeldFollower.{HeldFollower}
use Rattle.povundiri_c.specs.Followers.{ByFollower, FollowsWith, IsFollowerMade, IsFollowerOfMarks, IsFollowerOfMarksMade, IsNewFollower}
use Rattle.povundiri_c.specs.Following.{FollowsReading, KeepsOrder}

-- the state of the recorder before and after is that of the one that is kept
pub follows_reading : (reading : Reading) (most : ℕ) (follower later : Follower) (owned after : OwnedRecorder) (answer : Result FollowReport FollowFault) (old new : Recorder)
    → after.segment ≡ owned.segment → old.state ≡ owned.state → after.state ≡ new.state → KnowsOn old.state new.state
    → IfOk answer (λ report. KeepsOrder reading later)
    → MatchResult answer (λ report. IsFollowed (noted_of follower) (reading_view reading) most report (noted_of later) (view_of_recorder old) (view_of_recorder new))
    (λ fault. (later ≡ follower) × (new ≡ old) × IsNotFollowedFor follower (reading_view reading) most fault)
    → FollowsReading reading most follower owned answer later after
follows_reading reading most follower later owned after (Ok report) old new kept was is knows order followed = (
  kept,
  subst (λ (state : RecorderState). KnowsOn state after.state) was (subst (λ (state : RecorderState). KnowsOn old.state state) (sym is) knows),
  (
    order,
    subst (λ (state : RecorderState). IsFollowed (noted_of follower) (reading_view reading) most report (noted_of later) (view_of_state state) (view_of_state after.state)) was
        (subst (λ (state : RecorderState). IsFollowed (noted_of follower) (reading_view reading) most report (noted_of later) (view_of_state old.state) (view_of_state state)) (sym is) followed),
  ),
)
follows_reading reading most follower later owned after (Err fault) old new kept was is knows order (same, unchanged, why) = (
  kept,
  subst (λ (state : RecorderState). KnowsOn state after.state) was (subst (λ (state : RecorderState). KnowsOn old.state state) (sym is) knows),
  (same, is ∙ ap (λ (recorder : Recorder). recorder.state) unchanged ∙ was, why),
)

-- the follower was taken out, refused, and put back
pub refused_follow : (head : SegmentHead) (reading : Reading) (most : ℕ) (held : HeldFollower) (owned after : OwnedRecorder) (answer : Result FollowReport FollowFault) (fault : FollowFault) (follower later : Follower)
    → follower ≡ held.follower → answer ≡ Err fault → FollowsReading reading most follower owned answer later after
    → FollowsWith head reading most held owned (Err fault) (record held { follower = later }) after
refused_follow head reading most held owned after answer fault follower later was is followed =
    by (subst (λ (one : Result FollowReport FollowFault). FollowsReading reading most held.follower owned one later after) is
    (subst (λ (one : Follower). FollowsReading reading most one owned answer later after) was followed))
  where
    by : FollowsReading reading most held.follower owned (Err fault) later after → FollowsWith head reading most held owned (Err fault) (record held { follower = later }) after
    by (kept, knows, (same, state, why)) = ((kept, knows, (same, state, why)), ap (λ (one : Follower). record held { follower = one }) same)

-- a handle was filled with a new follower, or not
pub follower_made : (most_keys : ℕ) (held : HeldFollower) (status : ℕ) (old new : Option Contents) → IsNewFollower most_keys held
    → ((status ≡ 0) × (new ≡ Some (contents.Follower held))) ⊎ ((status ≡ 13) × (new ≡ old)) → IsFollowerMade most_keys status old new
follower_made most_keys held status old new is (inl filled) = inl (filled.0, held, filled.1, is)
follower_made most_keys held status old new is (inr same) = inr same

-- with one of what deltas took
pub of_marks_made : (words : List ℕ) (most_keys : ℕ) (held : HeldFollower) (status : ℕ) (old new : Option Contents) → IsFollowerOfMarks words most_keys held
    → ((status ≡ 0) × (new ≡ Some (contents.Follower held))) ⊎ ((status ≡ 13) × (new ≡ old)) → IsFollowerOfMarksMade words most_keys status old new
of_marks_made words most_keys held status old new is (inl filled) = inl (filled.0, held, filled.1, is)
of_marks_made words most_keys held status old new is (inr same) = inr (inl same.0, same.1)

-- the contents are a follower
pub by_follower : {A : Type 0} (other : A) (Calls : HeldFollower → A → HeldFollower → Type 0) (it : Contents) (held after : HeldFollower) (answer : A)
    → it ≡ contents.Follower held → Calls held answer after → ByFollower other Calls it answer (contents.Follower after)
by_follower other Calls it held after answer is calls =
    subst (λ (one : Contents). ByFollower other Calls one answer (contents.Follower after)) (sym is) (after, refl, calls)
