-- What is to be shown of an event of a recorder, and of one that loads a word.
use Rattle.segment_invariant.proofs.Prelude.Std.{◌≡◌, ℕ, List, set, sym, subst, false, some, get_elem?, set-get_or}
use Rattle.segment_invariant.proofs.Prelude.Machine.{Dimensions, word_at, Actor, State, Event, Learned, is_opener}
use Rattle.segment_invariant.proofs.Prelude.Invariant.{found_at, Anatomy, Invariant, KeptOn}
use Rattle.segment_invariant.specs.Keeps.{happened}

module _ (shape : Dimensions) (opened : Anatomy) (state : State) (kept : Invariant shape opened state) (id : ℕ) (a : Actor)
    (mine : get_elem? state.actors id ≡ some a) (records : is_opener a.role ≡ false) where
  -- what is to be shown of an event
  abbrev pub Goes : Event → Type 0
  Goes event = KeptOn shape opened kept (happened opened.version state id a event) × Learned a event (found_at state event)

  -- what is kept when a word of the segment becomes another
  abbrev pub after_is : ℕ → ℕ → Actor → Type 0
  after_is at v b = KeptOn shape opened kept (record { words = set state.words at v; cursors = state.cursors; actors = set state.actors id b })

  -- a load changes no word
  pub loaded : (at : ℕ) (b : Actor) → KeptOn shape opened kept (record { words = state.words; cursors = state.cursors; actors = set state.actors id b })
      → after_is at (word_at state.words at) b
  loaded at b is = subst (λ (ws : List ℕ). KeptOn shape opened kept (record { words = ws; cursors = state.cursors; actors = set state.actors id b }))
      (sym (set-get_or state.words at 0)) is
