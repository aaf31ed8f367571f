-- A step of an `add` leaves less.
use Rattle.segment_invariant.proofs.Prelude.Std.{◌≡◌, ℕ, ◌+◌, ◌*◌, ◌/◌, ◌%◌, ◌^◌, ◌==◌, ◌&&◌, nat_lt, Bool, true, false, List, [], ◌∷◌, length, refl, sym, subst, if◌then◌else◌, eq-eqb, int_eq, pos, Some}
use Rattle.segment_invariant.proofs.Prelude.Machine.{word_at}
use Rattle.alloc_core.specs.declared.alloc.AllocStep.{AllocStep}
use Rattle.alloc_core.specs.declared.alloc.AllocStep.TheVariants as said
use Rattle.alloc_core.specs.Alloc.{Allocation, IsLawful}
use Rattle.alloc_core.specs.Alloc as alloc
use Rattle.hist_core.specs.declared.sample_search.SampleSearch.{SampleSearch}
use Rattle.hist_core.specs.declared.sample_search.SampleSearchStep.{SampleSearchStep}
use Rattle.hist_core.specs.declared.sample_search.SampleSearchStep.TheVariants as found
use Rattle.hist_core.specs.declared.add.Add.{Add}
use Rattle.hist_core.specs.declared.add.AddStep.{AddStep}
use Rattle.hist_core.specs.declared.add.AddStep.TheVariants.{More, Done, Refused}
use Rattle.hist_core.specs.declared.add.AddStage.{AddStage}
use Rattle.hist_core.specs.declared.add.AddStage.TheVariants.{LoadingSingle, Packing, LoadingCounts, SeekingCounts, Allocating, Mounting, Purging, LoadingAgain, Disabling, Moving, Sampling, Counting, Summing, Noting}
use Rattle.hist_core.specs.declared.call.Stepped.{Stepped}
use Rattle.hist_core.specs.declared.actor_run.ActorRun.{ActorRun}
use Rattle.hist_core.specs.declared.actor_run.Running.TheVariants as runs
use Rattle.hist_core.specs.ActorRun.{IsAddAnnounced}
use Rattle.hist_core.specs.Add.{behind_count, behind_disabling, BeginsToAllocate, count_in, IsAllocated, IsBehindSingle, IsSampled}
use Rattle.hist_core.specs.Left.{add_left, AddIsOn, AddLowers, is_less, RunningLowers, SearchLowers}
use Rattle.hist_core.proofs.Left.Allocs.{less_on as allocates_on}

-- it goes from one stage to another
goes : (add : Add) (words new_words : List ℕ) (stage then_is : AddStage) → add.stage ≡ stage
    → is_less (add_left new_words (record add { stage = then_is }) then_is) (add_left words add stage) ≡ true
    → AddLowers add words (record add { stage = then_is }) new_words More
goes add words new_words stage then_is is less = λ chain has on.
    subst (λ (t : AddStage). is_less (add_left new_words (record add { stage = then_is }) then_is) (add_left words add t) ≡ true) (sym is) less

module _ (add : Add) (words new_words : List ℕ) where
  -- ---- the single word

  pub packs_less : (old new : ℕ) → add.stage ≡ Packing old new → AddLowers add words (record add { stage = behind_count add.amount }) new_words More
  packs_less old new is = goes add words new_words (Packing old new) (behind_count add.amount) is (by (int_eq add.amount (pos 0)))
    where
      by : (b : Bool) → is_less (add_left new_words (record add { stage = if b then Noting else Summing }) (if b then Noting else Summing))
          (9 ∷ (if word_at words (add.histogram + 9) == old then 1 else 3) ∷ 0 ∷ 0 ∷ 0 ∷ []) ≡ true
      by true = refl
      by false = refl

  pub misses_less : (old new : ℕ) → add.stage ≡ Packing old new → (word_at words (add.histogram + 9) == old) ≡ false
      → AddLowers add words (record add { stage = LoadingSingle }) new_words More
  misses_less old new is miss = goes add words new_words (Packing old new) LoadingSingle is
      (subst (λ (b : Bool). is_less (9 ∷ 2 ∷ 0 ∷ 0 ∷ 0 ∷ []) (9 ∷ (if b then 1 else 3) ∷ 0 ∷ 0 ∷ 0 ∷ []) ≡ true) (sym miss) refl)

  pub disables_less : (counts old : ℕ) → add.stage ≡ Disabling counts old → AddLowers add words (record add { stage = behind_disabling add counts old }) new_words More
  disables_less counts old is = goes add words new_words (Disabling counts old) (behind_disabling add counts old) is (by ((add.version == 1) && nat_lt 0 old))
    where
      by : (b : Bool)
          → is_less (add_left new_words (record add { stage = if b then Moving counts (old / 2 ^ 32) (old % 2 ^ 32) else Counting (count_in add counts) })
          (if b then Moving counts (old / 2 ^ 32) (old % 2 ^ 32) else Counting (count_in add counts)))
          (4 ∷ (if word_at words (add.histogram + 9) == old then 1 else 3) ∷ 0 ∷ 0 ∷ 0 ∷ []) ≡ true
      by true = refl
      by false = refl

  pub late_less : (counts old : ℕ) → add.stage ≡ Disabling counts old → (word_at words (add.histogram + 9) == old) ≡ false
      → AddLowers add words (record add { stage = LoadingAgain counts }) new_words More
  late_less counts old is miss = goes add words new_words (Disabling counts old) (LoadingAgain counts) is
      (subst (λ (b : Bool). is_less (4 ∷ 2 ∷ 0 ∷ 0 ∷ 0 ∷ []) (4 ∷ (if b then 1 else 3) ∷ 0 ∷ 0 ∷ 0 ∷ []) ≡ true) (sym miss) refl)

  -- ---- the counts

  pub mounts_less : (at : ℕ) → add.stage ≡ Mounting at → AddLowers add words (record add { stage = LoadingAgain at }) new_words More
  mounts_less at is = goes add words new_words (Mounting at) (LoadingAgain at) is refl

  pub loses_less : (at counts : ℕ) → add.stage ≡ Mounting at → AddLowers add words (record add { stage = Purging at counts }) new_words More
  loses_less at counts is = goes add words new_words (Mounting at) (Purging at counts) is refl

  pub purges_less : (at counts : ℕ) → add.stage ≡ Purging at counts → AddLowers add words (record add { stage = LoadingAgain counts }) new_words More
  purges_less at counts is = goes add words new_words (Purging at counts) (LoadingAgain counts) is refl

  pub moves_less : (counts bucket units at : ℕ) → add.stage ≡ Moving counts bucket units → AddLowers add words (record add { stage = Counting at }) new_words More
  moves_less counts bucket units at is = goes add words new_words (Moving counts bucket units) (Counting at) is refl

  pub counts_less : (at : ℕ) → add.stage ≡ Counting at → AddLowers add words (record add { stage = behind_count add.amount }) new_words More
  counts_less at is = goes add words new_words (Counting at) (behind_count add.amount) is (by (int_eq add.amount (pos 0)))
    where
      by : (b : Bool) → is_less (add_left new_words (record add { stage = if b then Noting else Summing }) (if b then Noting else Summing)) (2 ∷ 0 ∷ 0 ∷ 0 ∷ 0 ∷ []) ≡ true
      by true = refl
      by false = refl

  pub sums_less : add.stage ≡ Summing → AddLowers add words (record add { stage = Noting }) new_words More
  sums_less is = goes add words new_words Summing Noting is refl

  -- ---- the claim of counts

  module _ (x y : Allocation) (allocates : add.stage ≡ Allocating x) (lawful : IsLawful x) (long : length words ≡ x.shape.size) where
    pub allocates_less : (says : AllocStep) (new : Add) (result : AddStep) → alloc.IsStep x words y new_words says → IsAllocated (record add { stage = Allocating y }) says new result
        → AddLowers add words new new_words result
    allocates_less said.More new result step (new_is, result_is) =
        subst (λ (p : Add × AddStep). AddLowers add words p.0 new_words p.1) (λ i. (sym new_is i, sym result_is i))
        (goes add words new_words (Allocating x) (Allocating y) allocates (allocates_on words x long lawful y new_words said.More step refl))
    allocates_less (said.Done at) new result step (new_is, result_is) =
        subst (λ (p : Add × AddStep). AddLowers add words p.0 new_words p.1) (λ i. (sym new_is i, sym result_is i))
        (goes add words new_words (Allocating x) (Mounting at) allocates refl)
    allocates_less said.Full new result step (new_is, result_is) = subst (λ (r : AddStep). AddLowers add words new new_words r) (sym result_is) tt
    allocates_less said.Corrupt new result step (new_is, result_is) = subst (λ (r : AddStep). AddLowers add words new new_words r) (sym result_is) tt

  -- ---- the search for a sample

  module _ (x y : SampleSearch) (samples : add.stage ≡ Sampling x) where
    pub samples_less : (says : SampleSearchStep) (new : Add) (result : AddStep) → SearchLowers x words y new_words says → IsSampled (record add { stage = Sampling y }) says new result
        → AddLowers add words new new_words result
    samples_less found.More new result lowers (new_is, result_is) =
        subst (λ (p : Add × AddStep). AddLowers add words p.0 new_words p.1) (λ i. (sym new_is i, sym result_is i))
        (λ chain has on. goes add words new_words (Sampling x) (Sampling y) samples (lowers chain has (subst (AddIsOn chain) samples on)) chain has on)
    samples_less (found.Found sample) new result lowers (new_is, result_is) =
        subst (λ (p : Add × AddStep). AddLowers add words p.0 new_words p.1) (λ i. (sym new_is i, sym result_is i))
        (goes add words new_words (Sampling x) (Counting ((sample + 6) % 2 ^ 64)) samples refl)
    samples_less (found.Refused why) new result lowers (new_is, result_is) = subst (λ (r : AddStep). AddLowers add words new new_words r) (sym result_is) tt

module _ (add : Add) (words : List ℕ) where
  -- ---- what only loads

  pub loads_less : (then_is : AddStage) → add.stage ≡ LoadingSingle → IsBehindSingle add (word_at words (add.histogram + 9)) then_is
      → AddLowers add words (record add { stage = then_is }) words More
  loads_less then_is is behind = goes add words words LoadingSingle then_is is (by then_is behind)
    where
      by : (stage : AddStage) → IsBehindSingle add (word_at words (add.histogram + 9)) stage
          → is_less (add_left words (record add { stage = stage }) stage) (9 ∷ 2 ∷ 0 ∷ 0 ∷ 0 ∷ []) ≡ true
      by LoadingCounts behind = refl
      by (Packing old new) (on, old_is, packs) =
          subst (λ (b : Bool). is_less (9 ∷ (if b then 1 else 3) ∷ 0 ∷ 0 ∷ 0 ∷ []) (9 ∷ 2 ∷ 0 ∷ 0 ∷ 0 ∷ []) ≡ true)
          (sym (eq-eqb (word_at words (add.histogram + 9)) old (sym old_is))) refl
      by SeekingCounts behind = refl
      by LoadingSingle behind = absurd behind
      by (Allocating x) behind = absurd behind
      by (Mounting at) behind = absurd behind
      by (Purging at counts) behind = absurd behind
      by (LoadingAgain counts) behind = absurd behind
      by (Disabling counts old) behind = absurd behind
      by (Moving counts bucket units) behind = absurd behind
      by (Sampling x) behind = absurd behind
      by (Counting at) behind = absurd behind
      by Summing behind = absurd behind
      by Noting behind = absurd behind

  pub finds_less : (at : ℕ) → add.stage ≡ LoadingCounts → AddLowers add words (record add { stage = Counting at }) words More
  finds_less at is = goes add words words LoadingCounts (Counting at) is refl

  pub seeks_less : (counts : ℕ) → add.stage ≡ SeekingCounts → AddLowers add words (record add { stage = LoadingAgain counts }) words More
  seeks_less counts is = goes add words words SeekingCounts (LoadingAgain counts) is refl

  pub begins_less : add.stage ≡ SeekingCounts → (new : Add) (result : AddStep) → BeginsToAllocate add new result → AddLowers add words new words result
  begins_less is new More new_is =
      subst (λ (n : Add). AddLowers add words n words More) (sym new_is)
      (goes add words words SeekingCounts (Allocating (alloc.first_of add.shape (2 * add.buckets) 2)) is refl)
  begins_less is new Done none = absurd none
  begins_less is new (Refused why) none = absurd none

  pub off_less : (counts at : ℕ) → add.stage ≡ LoadingAgain counts → AddLowers add words (record add { stage = Counting at }) words More
  off_less counts at is = goes add words words (LoadingAgain counts) (Counting at) is refl

  pub on_less : (counts : ℕ) → add.stage ≡ LoadingAgain counts → AddLowers add words (record add { stage = Disabling counts (word_at words (add.histogram + 9)) }) words More
  on_less counts is = goes add words words (LoadingAgain counts) (Disabling counts (word_at words (add.histogram + 9))) is
      (subst (λ (b : Bool). is_less (4 ∷ (if b then 1 else 3) ∷ 0 ∷ 0 ∷ 0 ∷ []) (4 ∷ 2 ∷ 0 ∷ 0 ∷ 0 ∷ []) ≡ true)
      (sym (eq-eqb (word_at words (add.histogram + 9)) (word_at words (add.histogram + 9)) refl)) refl)

-- ---- its actor

pub add_less : (h h' : Add) (old : ActorRun) (words new_words : List ℕ) (says : AddStep) (new : ActorRun) (result : Stepped) → AddLowers h words h' new_words says
    → IsAddAnnounced (record old { running = Some (runs.Add h') }) says new result → RunningLowers (Some (runs.Add h)) words new.running new_words result
add_less h h' old words new_words More new result lowers (new_is, result_is) =
    subst (λ (p : ActorRun × Stepped). RunningLowers (Some (runs.Add h)) words p.0.running new_words p.1) (λ i. (sym new_is i, sym result_is i)) (λ chain has on. lowers chain has on)
add_less h h' old words new_words Done new result lowers (new_is, result_is) =
    subst (λ (r : Stepped). RunningLowers (Some (runs.Add h)) words new.running new_words r) (sym result_is) (λ chain has on. tt)
add_less h h' old words new_words (Refused why) new result lowers (new_is, items, result_is) =
    subst (λ (r : Stepped). RunningLowers (Some (runs.Add h)) words new.running new_words r) (sym result_is) (λ chain has on. tt)
