-- A step of a delta leaves less.
use Rattle.segment_invariant.proofs.Prelude.Std.{◌≡◌, ◌≢◌, ℕ, ℤ, ◌+◌, ◌-◌, ◌==◌, Bool, true, false, List, [], ◌∷◌, length, set, refl, sym, subst, ◌∙◌, arith, if◌then◌else◌, nat_lt, ltb-true, slice_index, length-set, Option, Some}
use Rattle.segment_invariant.proofs.Prelude.Machine.{word_at, is_reference, IsStop, stops}
use Rattle.list_core.proofs.Chains.{linked_beside}
use Rattle.hist_core.specs.declared.mounted.Mounted.{Mounted}
use Rattle.hist_core.specs.declared.entry.Taken.{Taken}
use Rattle.hist_core.specs.declared.walk.Met.{Met}
use Rattle.hist_core.specs.declared.walk.Met.TheVariants.{Nothing, Sample, End}
use Rattle.hist_core.specs.declared.walk.SampleWalk.{SampleWalk}
use Rattle.hist_core.specs.declared.walk.SampleWalk.TheVariants.{LoadingNext}
use Rattle.hist_core.specs.declared.delta_call.DeltaCall.{DeltaCall}
use Rattle.hist_core.specs.declared.delta_call.DeltaCallStep.{DeltaCallStep}
use Rattle.hist_core.specs.declared.delta_call.DeltaCallStep.TheVariants.{More, Took, Done}
use Rattle.hist_core.specs.declared.delta_call.DeltaStage.{DeltaStage}
use Rattle.hist_core.specs.declared.delta_call.DeltaStage.TheVariants.{LoadingSingle, TakingPacked, LoadingCounts, LoadingCount, Raising, Walking, LoadingSample, RaisingSample, LoadingSum, Swapping}
use Rattle.hist_core.specs.declared.call.Stepped.{Stepped}
use Rattle.hist_core.specs.declared.actor_run.ActorRun.{ActorRun}
use Rattle.hist_core.specs.declared.actor_run.Running.TheVariants as runs
use Rattle.hist_core.specs.ActorRun.{IsDeltaAnnounced}
use Rattle.hist_core.specs.DeltaCall.{behind_bucket, behind_sample, behind_walk, IsBehindSingle, TakesUnits}
use Rattle.hist_core.specs.Walk.{Meets, spot_of}
use Rattle.hist_core.specs.Left.{ahead, delta_left, DeltaIsOn, DeltaLowers, LeadsAlong, is_less, RunningLowers}
use Rattle.hist_core.proofs.Left.Less.{less_first, less_next}
use Rattle.hist_core.proofs.Left.Lists.{ahead_is}
use Rattle.hist_core.proofs.Left.SampleWalks.{later, meets_less, met_left}

-- another word than a next is stored: the list is the same
pub list_beside : (words chain : List ℕ) (at v : ℕ) → LeadsAlong words chain → ((stop : ℕ) → IsStop chain stop → stop + 3 ≢ at) → LeadsAlong (set words at v) chain
list_beside words chain at v has apart = record {
  linked = linked_beside words chain at v has.linked (λ i inside. apart (slice_index (stops chain) i) (i, inside, refl));
  few = let few = has.few in let long = length-set words at v in omega (arith, few, long);
  references = λ stop is. subst (λ (n : ℕ). is_reference n stop ≡ true) (sym (length-set words at v)) (has.references stop is);
}

module _ (call : DeltaCall) (words new_words : List ℕ) where
  -- what is left now is less than at its stage
  abbrev Falls : DeltaStage → DeltaCall → Type 0
  Falls stage new = (chain : List ℕ) → LeadsAlong words chain → DeltaIsOn chain call.histogram stage → is_less (delta_left new_words new new.stage) (delta_left words call stage) ≡ true

  at_stage : (stage : DeltaStage) (new : DeltaCall) → call.stage ≡ stage → Falls stage new → Falls call.stage new
  at_stage stage new is falls = subst (λ (t : DeltaStage). Falls t new) (sym is) falls

  -- it lists what it took, if anything
  takes_less : (of : ℤ) (total mark : ℕ) (mid new : DeltaCall) (result : DeltaCallStep) → TakesUnits of total mark mid new result → Falls call.stage mid → Falls call.stage (record mid { counts = new.counts })
      → DeltaLowers call words new new_words result
  takes_less of total mark mid new More (few, new_is) falls then_falls = subst (Falls call.stage) (sym new_is) falls
  takes_less of total mark mid new (Took key units) takes falls then_falls = subst (Falls call.stage) (sym takes.3) then_falls
  takes_less of total mark mid new (Done sum) none falls then_falls = tt

  pub packed_less : (bucket units : ℕ) (of : ℤ) (total mark : ℕ) (new : DeltaCall) (result : DeltaCallStep) → call.stage ≡ TakingPacked bucket units
      → TakesUnits of total mark (record call { stage = LoadingSum }) new result → DeltaLowers call words new new_words result
  packed_less bucket units of total mark new result is takes =
      takes_less of total mark (record call { stage = LoadingSum }) new result takes
      (at_stage (TakingPacked bucket units) (record call { stage = LoadingSum }) is (λ chain has on. refl))
      (at_stage (TakingPacked bucket units) (record call { stage = LoadingSum; counts = new.counts }) is (λ chain has on. refl))

  -- after a bucket
  behind_less : (mounted : Mounted) (bucket t : ℕ) (of : DeltaCall) → length of.ranges ≡ length call.ranges
      → is_less (delta_left new_words of (behind_bucket call mounted bucket)) (3 ∷ (length call.ranges - 1 - bucket) ∷ t ∷ []) ≡ true
  behind_less mounted bucket t of same = by (nat_lt (bucket + 1) (length call.ranges - 1)) refl
    where
      by : (b : Bool) → nat_lt (bucket + 1) (length call.ranges - 1) ≡ b
          → is_less (delta_left new_words of (if b then LoadingCount mounted (bucket + 1) else LoadingSum)) (3 ∷ (length call.ranges - 1 - bucket) ∷ t ∷ []) ≡ true
      by true e =
          let inside = ltb-true (bucket + 1) (length call.ranges - 1) e in
          less_next 3 3 ((length of.ranges - 1 - (bucket + 1)) ∷ 1 ∷ []) ((length call.ranges - 1 - bucket) ∷ t ∷ []) refl
          (less_first (length of.ranges - 1 - (bucket + 1)) (length call.ranges - 1 - bucket) (1 ∷ []) (t ∷ []) (omega (arith, inside, same)))
      by false e = refl

  pub raises_less : (mounted : Mounted) (bucket total : ℕ) (of : ℤ) (mark : ℕ) (new : DeltaCall) (result : DeltaCallStep) → call.stage ≡ Raising mounted bucket total
      → TakesUnits of total mark (record call { stage = behind_bucket call mounted bucket }) new result → DeltaLowers call words new new_words result
  raises_less mounted bucket total of mark new result is takes =
      takes_less of total mark (record call { stage = behind_bucket call mounted bucket }) new result takes
      (at_stage (Raising mounted bucket total) (record call { stage = behind_bucket call mounted bucket }) is
      (λ chain has on. behind_less mounted bucket 0 (record call { stage = behind_bucket call mounted bucket }) refl))
      (at_stage (Raising mounted bucket total) (record call { stage = behind_bucket call mounted bucket; counts = new.counts }) is
      (λ chain has on. behind_less mounted bucket 0 (record call { stage = behind_bucket call mounted bucket; counts = new.counts }) refl))

  pub raises_sample_less : (at : ℕ) (value : ℤ) (count : ℕ) (of : ℤ) (v mark : ℕ) (new : DeltaCall) (result : DeltaCallStep) → call.stage ≡ RaisingSample at value count
      → new_words ≡ set words (at + 7) v → TakesUnits of count mark (record call { stage = Walking (LoadingNext at) }) new result → DeltaLowers call words new new_words result
  raises_sample_less at value count of v mark new result is are takes =
      takes_less of count mark (record call { stage = Walking (LoadingNext at) }) new result takes
      (at_stage (RaisingSample at value count) (record call { stage = Walking (LoadingNext at) }) is falls)
      (at_stage (RaisingSample at value count) (record call { stage = Walking (LoadingNext at); counts = new.counts }) is falls)
    where
      falls : (chain : List ℕ) → LeadsAlong words chain → DeltaIsOn chain call.histogram (RaisingSample at value count)
          → is_less (2 ∷ ahead new_words at ∷ 0 ∷ []) (2 ∷ ahead words at ∷ 1 ∷ []) ≡ true
      falls chain has ((k, inside, stands), apart) =
          let then_has = subst (λ (l : List ℕ). LeadsAlong l chain) (sym are) (list_beside words chain (at + 7) v has apart) in
          let same : ahead new_words at ≡ ahead words at = ahead_is new_words chain then_has k at inside stands ∙ sym (ahead_is words chain has k at inside stands) in
          later 2 (ahead new_words at) (ahead words at) 0 1 same (omega arith)

module _ (call : DeltaCall) (words : List ℕ) where
  -- ---- what only loads

  goes : (stage then_is : DeltaStage) → call.stage ≡ stage
      → ((chain : List ℕ) → LeadsAlong words chain → DeltaIsOn chain call.histogram stage
      → is_less (delta_left words (record call { stage = then_is }) then_is) (delta_left words call stage) ≡ true)
      → DeltaLowers call words (record call { stage = then_is }) words More
  goes stage then_is is falls = at_stage call words words stage (record call { stage = then_is }) is falls

  pub loads_less : (then_is : DeltaStage) → call.stage ≡ LoadingSingle → IsBehindSingle call (word_at words (call.histogram + 9)) then_is → DeltaLowers call words (record call { stage = then_is }) words More
  loads_less then_is is behind = goes LoadingSingle then_is is (λ chain has on. by then_is behind)
    where
      by : (stage : DeltaStage) → IsBehindSingle call (word_at words (call.histogram + 9)) stage → is_less (delta_left words (record call { stage = stage }) stage) (5 ∷ 0 ∷ 0 ∷ []) ≡ true
      by (LoadingCounts packed kept) behind = refl
      by (TakingPacked bucket units) behind = refl
      by LoadingSum behind = refl
      by LoadingSingle behind = absurd behind
      by (LoadingCount mounted bucket) behind = absurd behind
      by (Raising mounted bucket total) behind = absurd behind
      by (Walking walk) behind = absurd behind
      by (LoadingSample at value) behind = absurd behind
      by (RaisingSample at value count) behind = absurd behind
      by (Swapping sum) behind = absurd behind

  pub finds_less : (packed : Option ℕ) (kept : ℕ) (mounted : Mounted) → call.stage ≡ LoadingCounts packed kept
      → DeltaLowers call words (record call { stage = LoadingCount mounted 0 }) words More
  finds_less packed kept mounted is = goes (LoadingCounts packed kept) (LoadingCount mounted 0) is (λ chain has on. refl)

  pub counts_none_less : (mounted : Mounted) (bucket : ℕ) → call.stage ≡ LoadingCount mounted bucket → DeltaLowers call words (record call { stage = behind_bucket call mounted bucket }) words More
  counts_none_less mounted bucket is = goes (LoadingCount mounted bucket) (behind_bucket call mounted bucket) is
      (λ chain has on. behind_less call words words mounted bucket 1 (record call { stage = behind_bucket call mounted bucket }) refl)

  pub counts_some_less : (mounted : Mounted) (bucket total : ℕ) → call.stage ≡ LoadingCount mounted bucket
      → DeltaLowers call words (record call { stage = Raising mounted bucket total }) words More
  counts_some_less mounted bucket total is = goes (LoadingCount mounted bucket) (Raising mounted bucket total) is
      (λ chain has on. later 3 (length call.ranges - 1 - bucket) (length call.ranges - 1 - bucket) 0 1 refl (omega arith))

  pub walks_less : (walk : SampleWalk) (met : Met) → call.stage ≡ Walking walk → Meets walk call.histogram (word_at words (spot_of call.histogram walk)) met
      → DeltaLowers call words (record call { stage = behind_walk met }) words More
  walks_less walk met is meets = goes (Walking walk) (behind_walk met) is (λ chain has on. by met (meets_less words chain has call.histogram walk met meets on))
    where
      by : (met : Met) → is_less (met_left words call.histogram met) (delta_left words call (Walking walk)) ≡ true
          → is_less (delta_left words (record call { stage = behind_walk met }) (behind_walk met)) (delta_left words call (Walking walk)) ≡ true
      by (Nothing w) less = less
      by (Sample at value) less = less
      by End less = less

  pub samples_less : (at : ℕ) (value listed : ℤ) (count : ℕ) → call.stage ≡ LoadingSample at value
      → DeltaLowers call words (record call { stage = behind_sample at listed count }) words More
  samples_less at value listed count is = goes (LoadingSample at value) (behind_sample at listed count) is (λ chain has on. by (count == 0))
    where
      by : (b : Bool) → is_less (delta_left words (record call { stage = if b then Walking (LoadingNext at) else RaisingSample at listed count })
          (if b then Walking (LoadingNext at) else RaisingSample at listed count)) (2 ∷ ahead words at ∷ 2 ∷ []) ≡ true
      by true = later 2 (ahead words at) (ahead words at) 0 2 refl (omega arith)
      by false = later 2 (ahead words at) (ahead words at) 1 2 refl (omega arith)

  pub sums_less : (sum : ℤ) → call.stage ≡ LoadingSum → DeltaLowers call words (record call { stage = Swapping sum }) words More
  sums_less sum is = goes LoadingSum (Swapping sum) is (λ chain has on. refl)

-- ---- its actor

pub delta_less : (h h' : DeltaCall) (before fresh : Option Taken) (old : ActorRun) (words new_words : List ℕ) (says : DeltaCallStep) (new : ActorRun) (result : Stepped)
    → DeltaLowers h words h' new_words says → IsDeltaAnnounced h' fresh old says new result
    → RunningLowers (Some (runs.Delta h before)) words new.running new_words result
delta_less h h' before fresh old words new_words More new result lowers (last, new_is, result_is) =
    subst (λ (p : ActorRun × Stepped). RunningLowers (Some (runs.Delta h before)) words p.0.running new_words p.1) (λ i. (sym new_is i, sym result_is i)) (λ chain has on. lowers chain has on)
delta_less h h' before fresh old words new_words (Took key units) new result lowers (last, new_is, result_is) =
    subst (λ (p : ActorRun × Stepped). RunningLowers (Some (runs.Delta h before)) words p.0.running new_words p.1) (λ i. (sym new_is i, sym result_is i)) (λ chain has on. lowers chain has on)
delta_less h h' before fresh old words new_words (Done sum) new result lowers (last, new_is, result_is) =
    subst (λ (r : Stepped). RunningLowers (Some (runs.Delta h before)) words new.running new_words r) (sym result_is) (λ chain has on. tt)
