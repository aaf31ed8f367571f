-- A step of a snapshot leaves less.
use Rattle.segment_invariant.proofs.Prelude.Std.{◌≡◌, ℕ, ℤ, ◌+◌, ◌-◌, Bool, true, false, List, [], ◌∷◌, length, refl, sym, subst, arith, if◌then◌else◌, nat_lt, ltb-true, Option, Some}
use Rattle.segment_invariant.proofs.Prelude.Machine.{word_at}
use Rattle.hist_core.specs.declared.mounted.Mounted.{Mounted}
use Rattle.hist_core.specs.declared.walk.Met.{Met}
use Rattle.hist_core.specs.declared.walk.Met.TheVariants.{Nothing, Sample, End}
use Rattle.hist_core.specs.declared.walk.SampleWalk.{SampleWalk}
use Rattle.hist_core.specs.declared.walk.SampleWalk.TheVariants.{LoadingNext}
use Rattle.hist_core.specs.declared.snapshot_call.SnapshotCall.{SnapshotCall}
use Rattle.hist_core.specs.declared.snapshot_call.SnapshotCallStep.{SnapshotCallStep}
use Rattle.hist_core.specs.declared.snapshot_call.SnapshotCallStep.TheVariants.{More, Done}
use Rattle.hist_core.specs.declared.snapshot_call.SnapshotStage.{SnapshotStage}
use Rattle.hist_core.specs.declared.snapshot_call.SnapshotStage.TheVariants.{LoadingSingle, LoadingCounts, LoadingCount, Walking, LoadingSample, LoadingSum, LoadingRedundant}
use Rattle.hist_core.specs.declared.call.Stepped.{Stepped}
use Rattle.hist_core.specs.declared.actor_run.ActorRun.{ActorRun}
use Rattle.hist_core.specs.declared.actor_run.Running.TheVariants as runs
use Rattle.hist_core.specs.ActorRun.{IsSnapshotAnnounced}
use Rattle.hist_core.specs.SnapshotCall.{behind_bucket, IsBehindSingle, IsBehindWalk, IsTotalPut, IsValueListed}
use Rattle.hist_core.specs.Walk.{Meets, spot_of}
use Rattle.hist_core.specs.Left.{ahead, is_less, RunningLowers, snapshot_left, SnapshotIsOn, SnapshotLowers}
use Rattle.hist_core.proofs.Left.Less.{less_first, less_next}
use Rattle.hist_core.proofs.Left.SampleWalks.{later, meets_less, met_left}

module _ (call : SnapshotCall) (words : List ℕ) where
  at_stage : (stage : SnapshotStage) (now : List ℕ) → call.stage ≡ stage → is_less now (snapshot_left words call stage) ≡ true
      → is_less now (snapshot_left words call call.stage) ≡ true
  at_stage stage now is less = subst (λ (t : SnapshotStage). is_less now (snapshot_left words call t) ≡ true) (sym is) less

  pub loads_less : call.stage ≡ LoadingSingle → (new : SnapshotCall) → IsBehindSingle call (word_at words (call.histogram + 9)) new new.stage → SnapshotLowers call words new words More
  loads_less is new behind = λ chain has on. at_stage LoadingSingle (snapshot_left words new new.stage) is (by new.stage behind)
    where
      by : (stage : SnapshotStage) → IsBehindSingle call (word_at words (call.histogram + 9)) new stage → is_less (snapshot_left words new stage) (5 ∷ 0 ∷ 0 ∷ []) ≡ true
      by (LoadingCounts packed kept) behind = refl
      by LoadingSum behind = refl
      by LoadingSingle behind = absurd behind
      by (LoadingCount mounted bucket) behind = absurd behind
      by (Walking walk) behind = absurd behind
      by (LoadingSample at value) behind = absurd behind
      by (LoadingRedundant sum) behind = absurd behind

  pub finds_less : (packed : Option ℕ) (kept : ℕ) (mounted : Mounted) → call.stage ≡ LoadingCounts packed kept
      → SnapshotLowers call words (record call { stage = LoadingCount mounted 0 }) words More
  finds_less packed kept mounted is = λ chain has on. at_stage (LoadingCounts packed kept) (3 ∷ (length call.totals.items - 0) ∷ 0 ∷ []) is refl

  pub counts_less : (mounted : Mounted) (bucket total : ℕ) → call.stage ≡ LoadingCount mounted bucket → (new : SnapshotCall)
      → IsTotalPut bucket total (record call { stage = behind_bucket (length call.totals.items) mounted bucket }) new → SnapshotLowers call words new words More
  counts_less mounted bucket total is new puts = λ chain has on. at_stage (LoadingCount mounted bucket) (snapshot_left words new new.stage) is
      (subst (λ (n : SnapshotCall). is_less (snapshot_left words n n.stage) (3 ∷ (length call.totals.items - bucket) ∷ 0 ∷ []) ≡ true) (sym puts.same)
      (by (nat_lt (bucket + 1) (length call.totals.items)) refl))
    where
      by : (b : Bool) → nat_lt (bucket + 1) (length call.totals.items) ≡ b
          → is_less (snapshot_left words (record call { stage = if b then LoadingCount mounted (bucket + 1) else LoadingSum; totals = new.totals })
          (if b then LoadingCount mounted (bucket + 1) else LoadingSum)) (3 ∷ (length call.totals.items - bucket) ∷ 0 ∷ []) ≡ true
      by true e =
          let inside = ltb-true (bucket + 1) (length call.totals.items) e in
          let long = puts.long in
          less_next 3 3 ((length new.totals.items - (bucket + 1)) ∷ 0 ∷ []) ((length call.totals.items - bucket) ∷ 0 ∷ []) refl
          (less_first (length new.totals.items - (bucket + 1)) (length call.totals.items - bucket) (0 ∷ []) (0 ∷ []) (omega (arith, inside, long)))
      by false e = refl

  pub walks_less : (walk : SampleWalk) (met : Met) (new : SnapshotCall) → call.stage ≡ Walking walk → Meets walk call.histogram (word_at words (spot_of call.histogram walk)) met
      → IsBehindWalk call met new → SnapshotLowers call words new words More
  walks_less walk met new is meets behind = λ chain has on.
      let less = meets_less words chain has call.histogram walk met meets (subst (SnapshotIsOn chain call.histogram) is on) in
      at_stage (Walking walk) (snapshot_left words new new.stage) is (by met behind less)
    where
      by : (met : Met) → IsBehindWalk call met new → is_less (met_left words call.histogram met) (snapshot_left words call (Walking walk)) ≡ true
          → is_less (snapshot_left words new new.stage) (snapshot_left words call (Walking walk)) ≡ true
      by (Nothing w) new_is less = subst (λ (n : SnapshotCall). is_less (snapshot_left words n n.stage) (snapshot_left words call (Walking walk)) ≡ true) (sym new_is) less
      by (Sample at value) new_is less = subst (λ (n : SnapshotCall). is_less (snapshot_left words n n.stage) (snapshot_left words call (Walking walk)) ≡ true) (sym new_is) less
      by End (sorted, new_is) less = subst (λ (n : SnapshotCall). is_less (snapshot_left words n n.stage) (snapshot_left words call (Walking walk)) ≡ true) (sym new_is) less

  pub samples_less : (at : ℕ) (value listed : ℤ) (count : ℕ) (new : SnapshotCall) → call.stage ≡ LoadingSample at value
      → IsValueListed listed count (record call { stage = Walking (LoadingNext at) }) new → SnapshotLowers call words new words More
  samples_less at value listed count new is lists = λ chain has on. at_stage (LoadingSample at value) (snapshot_left words new new.stage) is
      (subst (λ (n : SnapshotCall). is_less (snapshot_left words n n.stage) (2 ∷ ahead words at ∷ 2 ∷ []) ≡ true) (sym lists.same)
      (later 2 (ahead words at) (ahead words at) 0 2 refl (omega arith)))

  pub sums_less : (sum : ℤ) → call.stage ≡ LoadingSum → SnapshotLowers call words (record call { stage = LoadingRedundant sum }) words More
  sums_less sum is = λ chain has on. at_stage LoadingSum (0 ∷ 0 ∷ 0 ∷ []) is refl

-- ---- its actor

pub snapshot_less : (h h' : SnapshotCall) (old : ActorRun) (words : List ℕ) (says : SnapshotCallStep) (new : ActorRun) (result : Stepped) → SnapshotLowers h words h' words says
    → IsSnapshotAnnounced (record old { running = Some (runs.Snapshot h') }) says new result → RunningLowers (Some (runs.Snapshot h)) words new.running words result
snapshot_less h h' old words More new result lowers (new_is, result_is) =
    subst (λ (p : ActorRun × Stepped). RunningLowers (Some (runs.Snapshot h)) words p.0.running words p.1) (λ i. (sym new_is i, sym result_is i)) (λ chain has on. lowers chain has on)
snapshot_less h h' old words (Done sum redundant) new result lowers (call, is, new_is, result_is) =
    subst (λ (r : Stepped). RunningLowers (Some (runs.Snapshot h)) words new.running words r) (sym result_is) (λ chain has on. tt)
