-- The chain of a state that is reached: the earlier chain, and then the records that were linked, in the order of their links.
use Rattle.segment_invariant.proofs.Prelude.Std.{◌≡◌, ℕ, Bool, List, [], ◌∷◌, ◌++◌, inl, inr, sym, ap, ◌∙◌, subst, append_assoc, eq-eqb, if◌then◌else◌, append-nil}
use Rattle.segment_invariant.proofs.Prelude.Machine.{head_of, IsChain, Event, State}
use Rattle.segment_invariant.proofs.Prelude.Invariant.{found_at}
use Rattle.segment_machine.specs.Reached.{IsReached, started, stepped, announced, offered, split, lent, returned, purse_filled, purse_poured, joined_in}
use Rattle.segment_promises.specs.Lists.{chain_behind, links_of, ChainsAreLinks}
use Rattle.segment_promises.proofs.Links.{links_or_not, links_append}
use Rattle.segment_promises.proofs.Reached.{reached_states_follow}

-- what an event makes of a chain it makes of its back
behind_front : (event : Event) (found : ℕ) (front back : List ℕ)
    → chain_behind event found (front ++ back) ≡ front ++ chain_behind event found back
behind_front event found front back = elim (links_or_not event found) [
  | inl links ↦
      let (tail, at, is, ends) = links in
      let made = λ (list : List ℕ). ap (λ (e : Event). chain_behind e found list) is ∙ ap (λ (b : Bool). if b then list ++ at ∷ [] else list) (eq-eqb found 12 ends) in
      made (front ++ back) ∙ append_assoc front back (at ∷ []) ∙ ap (λ (list : List ℕ). front ++ list) (sym (made back))
  | inr not ↦ not (front ++ back) ∙ ap (λ (list : List ℕ). front ++ list) (sym (not back))
]

-- so the chain of a state that is reached is the earlier chain and the records that were linked
pub chains_are_links : ChainsAreLinks
chains_are_links shape opened start state chain kept reached is = go state reached
  where
    -- what changes no word
    same : (old new : State) (links : List ℕ) → new.words ≡ old.words → IsChain old.words (head_of old.words) (chain ++ links)
        → IsChain new.words (head_of new.words) (chain ++ links)
    same old new links words = subst (λ (words : List ℕ). IsChain words (head_of words) (chain ++ links)) (sym words)

    go : (state : State) → (reached : IsReached opened.version start state)
        → IsChain state.words (head_of state.words) (chain ++ links_of opened.version start state reached)
    go state started = subst (IsChain start.words (head_of start.words)) (sym (append-nil chain)) is
    go state (stepped old new id event before step) =
        subst (IsChain new.words (head_of new.words)) (behind_front event (found_at old event) chain (links_of opened.version start old before))
        (links_append shape opened old new id event (chain ++ links_of opened.version start old before)
        (reached_states_follow shape opened start old kept before) step (go old before))
    go state (announced old new id before told) = same old new _ (ap (λ (s : State). s.words) told.6) (go old before)
    go state (offered old new id units before made) = same old new _ (ap (λ (s : State). s.words) made.3) (go old before)
    go state (split old new id before made) = same old new _ (ap (λ (s : State). s.words) made.3) (go old before)
    go state (lent old new id other units before made) = same old new _ (ap (λ (s : State). s.words) made.6) (go old before)
    go state (returned old new id other units before made) = same old new _ (ap (λ (s : State). s.words) made.6) (go old before)
    go state (purse_filled old new id before made) = same old new _ (ap (λ (s : State). s.words) made.3) (go old before)
    go state (purse_poured old new id other before made) = same old new _ (ap (λ (s : State). s.words) made.6) (go old before)
    go state (joined_in old new id other before made) = same old new _ (ap (λ (s : State). s.words) made.6) (go old before)
