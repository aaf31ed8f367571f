-- What holds of each actor's hand while the words at one place are not taken again: an event keeps it, notes keep it, and an opener that
-- joins a recorder has it.
use Rattle.segment_invariant.proofs.Prelude.Std.{◌≡◌, ℕ, ◌<◌, List, [], ◌∷◌, ◌++◌, length, sym, ap, subst, ◌∙◌, arith, get_or_append_left, All, All-push, all_at}
use Rattle.segment_invariant.proofs.Prelude.Machine.{Actor, Own, Place, offered_of, Event, Ready, next, publishing_event, link, Note, Notes, noted, purse, State, Dimensions, word_at}
use Rattle.segment_invariant.proofs.Prelude.Invariant.{Anatomy, layout_of, Invariant, found_at}
use Rattle.std.proofs.lemmas.List.Elements.{All-set}
use Rattle.alloc_core.proofs.Layouts.{length_shown}
use Rattle.segment_machine.specs.declared.place.Place.TheVariants as place
use Rattle.segment_machine.specs.Reached.{IsReached, started, stepped, announced, offered, split, lent, returned, purse_filled, purse_poured, joined_in}
use Rattle.segment_machine.specs.Seats.{joined, lender, newcomer, offering, parent, giver, getter, spent}
use Rattle.segment_machine.specs.State.{IsStep, memory}
use Rattle.segment_promises.proofs.Reached.{reached_states_follow}
use Rattle.look_promises.proofs.Moments.Runs.{free_rises}
use Rattle.look_promises.proofs.NewRecords.Hands.{Takes}
use Rattle.look_promises.proofs.NewRecords.Linking.{LinksAt}

-- what holds of a place and of blocks, for those of an actor
abbrev pub OfHand : (Place → List Own → Type 0) → Actor → Type 0
OfHand P a = P a.hand.place a.hand.own

-- it stays, unless the words at a place are taken
pub record IsCarried (x : ℕ) (P : Place → List Own → Type 0) : Type 0 where
  pub event_on : (a : Actor) (event : Event) (found : ℕ) → Ready a event → (Takes event found x → ⊥) → OfHand P a → OfHand P (next a event found)
  pub note_on : (a : Actor) (note : Note) → OfHand P a → OfHand P (noted a note)
  pub idle : P place.Idle []
  pub spent : P place.Spent []
  pub both : (p q : Place) (own more : List Own) → P p own → P q more → P p (own ++ more)

module _ (x : ℕ) (P : Place → List Own → Type 0) (carried : IsCarried x P) where
  notes_on : (notes : List Note) (a b : Actor) → Notes a notes b → OfHand P a → OfHand P b
  notes_on [] a b same has = subst (OfHand P) same has
  notes_on (note ∷ rest) a b (may, more) has = notes_on rest (noted a note) b more (carried.note_on a note has)

  module _ (shape : Dimensions) (opened : Anatomy) (start : State) (kept : Invariant shape opened start) (below : x < word_at start.words 7)
      (holds : All (OfHand P) start.actors) where
    keeps : (state : State) → IsReached opened.version start state → Invariant shape opened state
    keeps state reached = reached_states_follow shape opened start state kept reached

    -- no event takes the word, which was claimed before
    claimed : (old : State) (event : Event) → IsReached opened.version start old → Takes event (found_at old event) x → ⊥
    claimed old event reached (found, spots) =
        let higher = free_rises shape opened start old kept reached in
        let long = length_shown shape old.words (layout_of (keeps old reached).anatomy) (keeps old reached).shown in
        let lawful = (keeps old reached).shown.sound.lawful in
        let wide = lawful.wide in
        let one = lawful.one in
        let is : found_at old event ≡ word_at old.words 7 = ap (word_at (memory old)) (spots (length old.words))
        ∙ get_or_append_left old.words old.cursors 0 7 (omega (arith, long, wide, one)) in
        omega (arith, below, higher, found, is)

    -- an actor that does a step has such a hand at its event, and after it
    pub at_event : (old new : State) (id : ℕ) (event : Event) (step : IsStep opened.version old id event new) → OfHand P step.actor → OfHand P step.at
    at_event old new id event step has = notes_on step.before step.actor step.at step.notes_before has

    step_on : (old new : State) (id : ℕ) (event : Event) → IsReached opened.version start old → (step : IsStep opened.version old id event new)
        → OfHand P step.actor → OfHand P step.then_is
    step_on old new id event reached step has =
        notes_on step.behind (next step.at event (found_at old event)) step.then_is step.notes_behind
        (carried.event_on step.at event (found_at old event) step.ready (claimed old event reached) (at_event old new id event step has))

    -- so it holds of each actor, whatever happens
    pub all_carried : (state : State) → IsReached opened.version start state → All (OfHand P) state.actors
    all_carried state started = holds
    all_carried state (stepped old new id event before step) =
        let all = all_carried old before in
        subst (All (OfHand P)) (sym step.actors_are)
        (All-set (OfHand P) old.actors id step.then_is (step_on old new id event before step (all_at (OfHand P) old.actors id step.actor all step.there)) all)
    all_carried state (announced old new id before (a, b, notes, there, recorder, noting, is)) =
        let all = all_carried old before in
        subst (All (OfHand P)) (sym (ap (λ (s : State). s.actors) is))
        (All-set (OfHand P) old.actors id b (notes_on notes a b noting (all_at (OfHand P) old.actors id a all there)) all)
    all_carried state (offered old new id units before (a, there, may, is)) =
        let all = all_carried old before in
        subst (All (OfHand P)) (sym (ap (λ (s : State). s.actors) is))
        (All-set (OfHand P) old.actors id (offering a units) (all_at (OfHand P) old.actors id a all there) all)
    all_carried state (split old new id before (a, there, may, is)) =
        let all = all_carried old before in
        subst (All (OfHand P)) (sym (ap (λ (s : State). s.actors) is))
        (All-push (OfHand P) _ (newcomer a) (All-set (OfHand P) old.actors id (parent a) (all_at (OfHand P) old.actors id a all there) all) carried.idle)
    all_carried state (lent old new id other units before (a, b, apart, there, beside, may, is)) =
        let all = all_carried old before in
        subst (All (OfHand P)) (sym (ap (λ (s : State). s.actors) is))
        (All-set (OfHand P) _ other (getter b units) (all_at (OfHand P) old.actors other b all beside)
        (All-set (OfHand P) old.actors id (giver a units) (all_at (OfHand P) old.actors id a all there) all))
    all_carried state (returned old new id other units before (a, b, apart, there, beside, may, is)) =
        let all = all_carried old before in
        subst (All (OfHand P)) (sym (ap (λ (s : State). s.actors) is))
        (All-set (OfHand P) _ other (giver b units) (all_at (OfHand P) old.actors other b all beside)
        (All-set (OfHand P) old.actors id (getter a units) (all_at (OfHand P) old.actors id a all there) all))
    all_carried state (purse_filled old new id before (a, there, may, is)) =
        let all = all_carried old before in
        subst (All (OfHand P)) (sym (ap (λ (s : State). s.actors) is))
        (All-push (OfHand P) _ (purse (offered_of a.role))
        (All-set (OfHand P) old.actors id (lender a) (all_at (OfHand P) old.actors id a all there) all) carried.spent)
    all_carried state (purse_poured old new id other before (b, c, apart, there, beside, may, is)) =
        let all = all_carried old before in
        subst (All (OfHand P)) (sym (ap (λ (s : State). s.actors) is))
        (All-set (OfHand P) _ other spent carried.spent
        (All-set (OfHand P) old.actors id (getter b c.units.share) (all_at (OfHand P) old.actors id b all there) all))
    all_carried state (joined_in old new id other before (a, b, apart, there, beside, may, is)) =
        let all = all_carried old before in
        subst (All (OfHand P)) (sym (ap (λ (s : State). s.actors) is))
        (All-set (OfHand P) _ other spent carried.spent
        (All-set (OfHand P) old.actors id (joined a b)
        (carried.both a.hand.place b.hand.place a.hand.own b.hand.own (all_at (OfHand P) old.actors id a all there) (all_at (OfHand P) old.actors other b all beside))
        all))

    -- and of an actor that links a record
    pub linker_has : (state : State) (links : LinksAt opened.version start x state) → OfHand P links.step.at
    linker_has state links = at_event links.old links.new links.id (publishing_event (link links.tail x)) links.step
        (all_at (OfHand P) links.old.actors links.id links.step.actor (all_carried links.old links.before) links.step.there)
