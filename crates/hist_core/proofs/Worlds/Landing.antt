-- Where an actor lands that looks at nothing.
use Rattle.segment_invariant.proofs.Prelude.Std.{◌≡◌, ◌∙◌, ℕ, List, Option, Some, None}
use Rattle.segment_invariant.proofs.Prelude.Machine.{Dimensions, Actor}
use Rattle.hist_core.specs.declared.call.Stepped.{Stepped}
use Rattle.hist_core.specs.declared.actor_run.ActorRun.{ActorRun}
use Rattle.hist_core.specs.declared.actor_run.Running.{Running}
use Rattle.hist_core.specs.declared.actor_run.Running.TheVariants.{SetCorrupt, Hist, Add, Delta, Snapshot, Batch}
use Rattle.hist_core.specs.declared.snapshot_call.SnapshotStage.{SnapshotStage}
use Rattle.hist_core.specs.declared.snapshot_call.SnapshotStage.TheVariants.{LoadingSingle, LoadingCounts, LoadingCount, Walking, LoadingSample, LoadingSum, LoadingRedundant}
use Rattle.hist_core.specs.declared.walk.SampleWalk.TheVariants.{LoadingFirst, LoadingType, LoadingHistogram, LoadingValue, LoadingNext}
use Rattle.hist_core.specs.SnapshotCall.{LooksAnew}
use Rattle.hist_core.specs.StepsBy.{SharedEffect, DoesOnly, StepsBy}
use Rattle.hist_core.specs.ActorRun.{Advances, DoesAsSaid, Lands, LooksSince, Serves, is_flagged, lacks_room}
use Rattle.hist_core.proofs.Parts.Allocations.{goes_with}
use Rattle.hist_core.proofs.Parts.Deeds.{does_less, does_still}
use Rattle.hist_core.proofs.Worlds.Apart.{looks_not}

-- it performs one event, lands there, and has done what it says
abbrev pub Landing : Dimensions → ℕ → ActorRun → List ℕ → ActorRun → List ℕ → Stepped → Actor → Type 0
Landing shape version old words new new_words said a =
    StepsBy shape.size version a words new_words (λ b. Lands shape version old new said a b × DoesAsSaid old.running said a b)

-- this still holds of what it has done, whatever is noted before and after
pub does_as_said : (running : Option Running) (said : Stepped) (may : SharedEffect → Type 0) (a b c d : Actor) → ((deed : SharedEffect) → may deed → Serves running a deed)
    → b.done ≡ a.done → d.done ≡ c.done → DoesOnly (is_flagged said) (lacks_room said) may b c → DoesAsSaid running said a d
does_as_said running said may a b c d serves first last does =
    does_still (is_flagged said) (lacks_room said) (Serves running a) a b c d first last
    (does_less (is_flagged said) (lacks_room said) may (Serves running a) b c serves does)

looks_none : (running : Option Running) (a b : Actor) → looks_not running → LooksSince running a b
looks_none None a b none = tt
looks_none (Some SetCorrupt) a b none = tt
looks_none (Some (Hist hist)) a b none = tt
looks_none (Some (Add add)) a b none = tt
looks_none (Some (Delta delta_call fresh)) a b none = tt
looks_none (Some (Batch batch)) a b none = tt
looks_none (Some (Snapshot snapshot_call)) a b none = absurd none

pub lands_apart : (shape : Dimensions) (version : ℕ) (old : ActorRun) (words : List ℕ) (new : ActorRun) (new_words : List ℕ) (said : Stepped) (a : Actor) → looks_not old.running
    → Landing shape version old words new new_words said a → Advances shape version old words new new_words said a
lands_apart shape version old words new new_words said a none go = goes_with go (λ b (lands, does). (lands, looks_none old.running a b none, does))

-- since when it looks is unchanged if its actor is
anew_still : (stage : SnapshotStage) (a b c : Actor) → c.since ≡ b.since → LooksAnew stage a b → LooksAnew stage a c
anew_still LoadingSingle a b c same looks = same ∙ looks
anew_still (Walking LoadingFirst) a b c same looks = same ∙ looks
anew_still (Walking (LoadingType at)) a b c same looks = same ∙ looks
anew_still (Walking (LoadingHistogram at)) a b c same looks = same ∙ looks
anew_still (Walking (LoadingValue at of)) a b c same looks = same ∙ looks
anew_still (Walking (LoadingNext at)) a b c same looks = same ∙ looks
anew_still (LoadingCounts packed kept) a b c same looks = same ∙ looks
anew_still (LoadingCount mounted bucket) a b c same looks = same ∙ looks
anew_still (LoadingSample at value) a b c same looks = same ∙ looks
anew_still LoadingSum a b c same looks = same ∙ looks
anew_still (LoadingRedundant sum) a b c same looks = same ∙ looks

pub looks_still : (running : Option Running) (a b c : Actor) → c.since ≡ b.since → LooksSince running a b → LooksSince running a c
looks_still None a b c same looks = tt
looks_still (Some SetCorrupt) a b c same looks = tt
looks_still (Some (Hist hist)) a b c same looks = tt
looks_still (Some (Add add)) a b c same looks = tt
looks_still (Some (Delta delta_call fresh)) a b c same looks = tt
looks_still (Some (Batch batch)) a b c same looks = tt
looks_still (Some (Snapshot snapshot_call)) a b c same looks = anew_still snapshot_call.stage a b c same looks
