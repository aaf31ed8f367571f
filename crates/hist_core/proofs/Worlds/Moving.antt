-- What one event changes.
use Rattle.segment_invariant.proofs.Prelude.Std.{◌≡◌, ℕ, List, ◌++◌, length, sym, ap, ◌∙◌, inl, inr, append-nil, ∥∥₁_elim, props, slice_set}
use Rattle.segment_invariant.proofs.Prelude.Machine.{word_at, spot, State}
use Rattle.segment_machine.specs.Event.{change}
use Rattle.segment_machine.specs.State.{memory}
use Rattle.hist_core.specs.declared.world_state.WorldState.{WorldState}
use Rattle.hist_core.specs.declared.call.Stepped.{Stepped}
use Rattle.hist_core.specs.Start.{Start}
use Rattle.hist_core.specs.WorldState.{BeginsFrom, GivesBack, IsReachable, IsReachedAs, LendsOrNothing, Shows, StepsTo}
use Rattle.hist_core.specs.World.{ChangesOneWord}

-- the memory of a state is the words of a world that it stands for
memory_is : (world_state : WorldState) (state : State) → Shows world_state state → memory state ≡ world_state.words.items
memory_is world_state state shows =
    ap (λ (cursors : List ℕ). state.words ++ cursors) shows.cursors ∙ (append-nil state.words ∙ shows.words)

-- units that come back change none
same_memory : (actor : ℕ) (old new : State) → GivesBack actor old new → memory new ≡ memory old
same_memory actor old new (inl is) = ap memory is
same_memory actor old new (inr (units, (a, b, apart, there, other, may, is))) = ap memory is

-- a step changes one word at most
pub one_word : (start : Start) (old : WorldState) (actor : ℕ) (state : State) (new : WorldState) (said : Stepped) → IsReachedAs start old state
    → StepsTo old actor start state new said
    → ChangesOneWord old.words.items new.words.items
one_word start old actor state new said reach (event, then_is, step, (last, gives, (reached, promised, looks, claims, loads, does))) =
    let at = spot (length state.words) event in let word = change old.version event (word_at (memory state) at) in (
      at,
      word,
      sym (memory_is new last reached.shows) ∙ (same_memory actor then_is last gives
          ∙ (step.memory_is ∙ ap (λ (words : List ℕ). slice_set words at word) (memory_is old state reach.shows))),
    )

-- units that are lent change none
lent_memory : (actor : ℕ) (old new : State) → LendsOrNothing actor old new → memory new ≡ memory old
lent_memory actor old new (inl is) = ap memory is
lent_memory actor old new (inr (units, (a, b, apart, there, other, may, is))) = ap memory is

-- the begin of a call changes no word
pub no_word : (old : WorldState) (actor : ℕ) (new : WorldState) → ∥ IsReachable old ∥₁ → ((start : Start) (state : State) → IsReachedAs start old state → BeginsFrom start state actor new)
    → new.words.items ≡ old.words.items
no_word old actor new reached begins = ∥∥₁_elim reached (hlevel props) (λ (start, state, reach). let begun = begins start state reach in
    sym (memory_is new begun.0 begun.2.shows) ∙ (lent_memory actor state begun.0 begun.1 ∙ memory_is old state reach.shows))
