-- A step of a `batch` leaves less.
use Rattle.segment_invariant.proofs.Prelude.Std.{◌≡◌, ℕ, ◌+◌, ◌-◌, ◌<◌, ◌==◌, ◌&&◌, Bool, true, false, List, length, set, sym, ap, subst, ◌∙◌, arith, if◌then◌else◌, int_eq, pos, Some, some, get_elem?, length-set, vec_len}
use mathlib.Core.Option as maybe
use Rattle.alloc_core.proofs.Owners.{set_at}
use Rattle.hist_core.specs.declared.add.Add.{Add}
use Rattle.hist_core.specs.declared.add.AddStep.{AddStep}
use Rattle.hist_core.specs.declared.add.AddStep.TheVariants as said
use Rattle.hist_core.specs.declared.batch.Batch.{Batch}
use Rattle.hist_core.specs.declared.batch.BatchStep.{BatchStep}
use Rattle.hist_core.specs.declared.batch.BatchStep.TheVariants.{More, Done, Refused}
use Rattle.hist_core.specs.declared.call.Stepped.{Stepped}
use Rattle.hist_core.specs.declared.actor_run.ActorRun.{ActorRun}
use Rattle.hist_core.specs.declared.actor_run.Running.TheVariants as runs
use Rattle.hist_core.specs.ActorRun.{IsBatchAnnounced}
use Rattle.hist_core.specs.Batch.{IsItemSaid}
use Rattle.hist_core.specs.Left.{AddLowers, batch_left, BatchLowers, LeadsAlong, is_less, item_left, ItemIsOn, RunningLowers}
use Rattle.hist_core.proofs.Left.Less.{less_first, less_next}

module _ (batch : Batch) (x y : Add) (at : get_elem? batch.items.items batch.added ≡ some x) (near : batch.added < length batch.items.items) (words new_words : List ℕ) where
  module _ (mid : Batch) (stored : mid.items.items ≡ set batch.items.items batch.added y) (same : mid.added ≡ batch.added) where
    long : length mid.items.items ≡ length batch.items.items
    long = ap length stored ∙ length-set batch.items.items batch.added y

    there : get_elem? mid.items.items mid.added ≡ some y
    there = (λ i. get_elem? (stored i) (same i)) ∙ set_at batch.items.items batch.added x y at

    -- the item continues
    continues : (chain : List ℕ) → LeadsAlong words chain → AddLowers x words y new_words said.More → ItemIsOn chain (get_elem? batch.items.items batch.added)
        → is_less (batch_left new_words mid) (batch_left words batch) ≡ true
    continues chain has lowers on =
        less_next (length mid.items.items - mid.added) (length batch.items.items - batch.added) (item_left new_words (get_elem? mid.items.items mid.added))
        (item_left words (get_elem? batch.items.items batch.added)) (λ i. long i - same i)
        (subst (λ (p : maybe.Option Add × maybe.Option Add). is_less (item_left new_words p.0) (item_left words p.1) ≡ true) (λ i. (sym there i, sym at i))
        (lowers chain has (subst (ItemIsOn chain) at on)))

    -- one more is counted
    ends : (units : ℕ) → is_less (batch_left new_words (record mid { added = mid.added + 1; left = mid.left - units })) (batch_left words batch) ≡ true
    ends units =
        less_first (length mid.items.items - (mid.added + 1)) (length batch.items.items - batch.added) (item_left new_words (get_elem? mid.items.items (mid.added + 1)))
        (item_left words (get_elem? batch.items.items batch.added)) (omega (arith, long, same, near))

    pub counts_less : (says : AddStep) → AddLowers x words y new_words says → (units : ℕ) (new : Batch) (result : BatchStep) → IsItemSaid mid says units new result
        → BatchLowers batch words new new_words result
    counts_less said.More lowers units new result (new_is, result_is) =
        subst (λ (p : Batch × BatchStep). BatchLowers batch words p.0 new_words p.1) (λ i. (sym new_is i, sym result_is i)) (λ chain has on. continues chain has lowers on)
    counts_less said.Done lowers units new result (new_is, result_is) =
        subst (λ (p : Batch × BatchStep). BatchLowers batch words p.0 new_words p.1) (λ i. (sym new_is i, sym result_is i))
        (by ((mid.added + 1 == vec_len mid.items) && int_eq mid.sum (pos 0)))
      where
        by : (b : Bool) → BatchLowers batch words (record mid { added = mid.added + 1; left = mid.left - units }) new_words (if b then Done else More)
        by true = tt
        by false = λ chain has on. ends units
    counts_less (said.Refused why) lowers units new result (new_is, result_is) =
        subst (λ (r : BatchStep). BatchLowers batch words new new_words r) (sym result_is) tt

-- ---- its actor

pub batch_less : (h h' : Batch) (old : ActorRun) (words new_words : List ℕ) (says : BatchStep) (new : ActorRun) (result : Stepped) → BatchLowers h words h' new_words says
    → IsBatchAnnounced (record old { running = Some (runs.Batch h') }) says new result → RunningLowers (Some (runs.Batch h)) words new.running new_words result
batch_less h h' old words new_words More new result lowers (new_is, result_is) =
    subst (λ (p : ActorRun × Stepped). RunningLowers (Some (runs.Batch h)) words p.0.running new_words p.1) (λ i. (sym new_is i, sym result_is i)) (λ chain has on. lowers chain has on)
batch_less h h' old words new_words Done new result lowers (new_is, result_is) =
    subst (λ (r : Stepped). RunningLowers (Some (runs.Batch h)) words new.running new_words r) (sym result_is) (λ chain has on. tt)
batch_less h h' old words new_words (Refused why) new result lowers (new_is, items, result_is) =
    subst (λ (r : Stepped). RunningLowers (Some (runs.Batch h)) words new.running new_words r) (sym result_is) (λ chain has on. tt)
