-- The states of a run: each is kept, and each is reached from those before it. So the list only grows, and so does the free pointer.
use Rattle.segment_invariant.proofs.Prelude.Std.{◌≡◌, ℕ, zero, suc, ◌≤◌, List, ◌++◌, sym, subst, arith, eq-eqb, dite, ℕ_discrete}
use Rattle.segment_invariant.proofs.Prelude.Machine.{Dimensions, State, word_at, head_of, IsChain, IsListed}
use Rattle.segment_invariant.proofs.Prelude.Invariant.{Anatomy, Invariant, layout_of, order_of}
use Rattle.alloc_core.proofs.Layouts.{free_word}
use Rattle.bucket_ranges.proofs.Walks.{IsListed-from_end, listed_agree}
use Rattle.segment_machine.specs.Reached.{IsReached, started, stepped, announced, offered, split, lent, returned, purse_filled, purse_poured, joined_in}
use Rattle.segment_promises.specs.Lists.{links_of}
use Rattle.segment_promises.proofs.Chains.{chains_are_links}
use Rattle.segment_invariant.specs.Rises.{Rises}
use Rattle.segment_invariant.proofs.Frames.Rises.{rises_itself, rises_again}
use Rattle.segment_promises.proofs.Reached.{states_rise}
use Rattle.segment_promises.proofs.Readings.Lists.{is_chain}
use Rattle.look_promises.specs.Runs.{RunsThrough}

-- what is reached from a state that is reached is reached
pub reached_again : (version : ℕ) (start mid : State) → IsReached version start mid → (state : State) → IsReached version mid state → IsReached version start state
reached_again version start mid first state started = first
reached_again version start mid first state (stepped old new id event before step) =
    stepped old new id event (reached_again version start mid first old before) step
reached_again version start mid first state (announced old new id before told) = announced old new id (reached_again version start mid first old before) told
reached_again version start mid first state (offered old new id units before made) =
    offered old new id units (reached_again version start mid first old before) made
reached_again version start mid first state (split old new id before made) = split old new id (reached_again version start mid first old before) made
reached_again version start mid first state (lent old new id other units before made) =
    lent old new id other units (reached_again version start mid first old before) made
reached_again version start mid first state (returned old new id other units before made) =
    returned old new id other units (reached_again version start mid first old before) made
reached_again version start mid first state (purse_filled old new id before made) =
    purse_filled old new id (reached_again version start mid first old before) made
reached_again version start mid first state (purse_poured old new id other before made) =
    purse_poured old new id other (reached_again version start mid first old before) made
reached_again version start mid first state (joined_in old new id other before made) =
    joined_in old new id other (reached_again version start mid first old before) made

-- the free pointer rises
pub free_rises : (shape : Dimensions) (opened : Anatomy) (start state : State) → Invariant shape opened start → IsReached opened.version start state
    → word_at start.words 7 ≤ word_at state.words 7
free_rises shape opened start state kept reached =
    let (next, rises, sums) = states_rise shape opened start state kept reached in
    let was = free_word shape start.words (layout_of kept.anatomy) kept.shown in
    let now = free_word shape state.words (layout_of next.anatomy) next.shown in
    let higher = rises.free in
    omega (arith, was, now, higher)

-- a run, with what it is a run of
pub record Run : Type 0 where
  pub shape : Dimensions
  pub opened : Anatomy
  pub at : ℕ → State
  pub runs : RunsThrough shape opened at
  pub open runs use *

-- the run that a law is given
abbrev pub run_of : (shape : Dimensions) (opened : Anatomy) (at : ℕ → State) → RunsThrough shape opened at → Run
run_of shape opened at runs = record { shape = shape; opened = opened; at = at; runs = runs }

module _ (run : Run) where
  open run use {shape, opened, at}

  -- a later state is reached from an earlier one
  pub reached : (m n : ℕ) → m ≤ n → IsReached opened.version (at m) (at n)
  reached m zero le = let same : m ≡ 0 = omega (arith, le) in subst (λ (n : ℕ). IsReached opened.version (at m) (at n)) same started
  reached m (suc n) le = dite (ℕ_discrete m (suc n))
      (λ same. subst (λ (k : ℕ). IsReached opened.version (at m) (at k)) same started)
      (λ ne. reached_again opened.version (at m) (at n) (reached m n (omega (arith, le, ne))) (at (suc n))
      (subst (λ (version : ℕ). IsReached version (at n) (at (suc n))) (sym run.version) (run.goes_on n)))

  -- a state is reached from the one before
  step : (n : ℕ) → IsReached opened.version (at n) (at (suc n))
  step n = subst (λ (version : ℕ). IsReached version (at n) (at (suc n))) (sym run.version) (run.goes_on n)

  -- each state is kept
  pub kept_at : (n : ℕ) → Invariant shape opened (at n)
  kept_at zero = run.kept
  kept_at (suc n) = (states_rise shape opened (at n) (at (suc n)) (kept_at n) (step n)).0

  -- and what is published in one continues in the next
  next_rises : (n : ℕ) → Rises (kept_at n).anatomy (kept_at (suc n)).anatomy
  unfolding kept_at
  next_rises n = (states_rise shape opened (at n) (at (suc n)) (kept_at n) (step n)).1

  -- and in all that come later
  pub rises_at : (m n : ℕ) → m ≤ n → Rises (kept_at m).anatomy (kept_at n).anatomy
  rises_at m zero le =
      let same : m ≡ 0 = omega (arith, le) in
      subst (λ (n : ℕ). Rises (kept_at m).anatomy (kept_at n).anatomy) same (rises_itself (kept_at m).anatomy)
  rises_at m (suc n) le = dite (ℕ_discrete m (suc n))
      (λ same. subst (λ (k : ℕ). Rises (kept_at m).anatomy (kept_at k).anatomy) same (rises_itself (kept_at m).anatomy))
      (λ ne. rises_again shape opened (at m) (kept_at m) (kept_at n).anatomy (kept_at (suc n)).anatomy
      (rises_at m n (omega (arith, le, ne))) (next_rises n))

  -- the records on its list, in their order
  abbrev pub chain_at : ℕ → List ℕ
  chain_at n = order_of (kept_at n).anatomy

  pub chain_is : (n : ℕ) → IsChain (at n).words (head_of (at n).words) (chain_at n)
  chain_is n = is_chain shape opened (at n) (kept_at n)

  -- a chain is the list that a reader finds
  listed : (n : ℕ) (chain : List ℕ) → IsChain (at n).words (head_of (at n).words) chain → IsListed (at n).words (head_of (at n).words) chain
  listed n chain is = IsListed-from_end (at n).words (head_of (at n).words) chain is.walk (eq-eqb _ 12 is.ended)

  -- the later list is the earlier one, and the records that were linked since
  pub chain_on : (m n : ℕ) (le : m ≤ n) → chain_at n ≡ chain_at m ++ links_of opened.version (at m) (at n) (reached m n le)
  chain_on m n le =
      let more = links_of opened.version (at m) (at n) (reached m n le) in
      listed_agree (at n).words (head_of (at n).words) (chain_at n) (chain_at m ++ more) (listed n (chain_at n) (chain_is n))
      (listed n (chain_at m ++ more) (chains_are_links shape opened (at m) (at n) (chain_at m) (kept_at m) (reached m n le) (chain_is m)))

  -- the free pointer rises
  pub free_on : (m n : ℕ) → m ≤ n → word_at (at m).words 7 ≤ word_at (at n).words 7
  free_on m n le = free_rises shape opened (at m) (at n) (kept_at m) (reached m n le)
