-- The step at which a word becomes another, on the way from one state to another.
use Rattle.segment_invariant.proofs.Prelude.Std.{◌≡◌, ◌≢◌, ℕ, List, sym, ap, ◌∙◌, dite, ℕ_discrete}
use Rattle.segment_invariant.proofs.Prelude.Machine.{Event, State, word_at}
use Rattle.segment_machine.specs.Reached.{IsReached, started, stepped, announced, offered, split, lent, returned, purse_filled, purse_poured, joined_in}
use Rattle.segment_machine.specs.State.{IsStep}

-- A word became a number at a step.
pub record Became (version : ℕ) (start : State) (n x : ℕ) (state : State) : Type 0 where
  pub old : State
  pub new : State
  pub id : ℕ
  pub event : Event
  pub before : IsReached version start old
  pub step : IsStep version old id event new
  pub was : word_at old.words n ≢ x
  pub now : word_at new.words n ≡ x
  pub behind : IsReached version new state

later : (version : ℕ) (start : State) (n x : ℕ) (old new : State) → Became version start n x old
    → ((mid : State) → IsReached version mid old → IsReached version mid new) → Became version start n x new
later version start n x old new became on = record {
  old = became.old;
  new = became.new;
  id = became.id;
  event = became.event;
  before = became.before;
  step = became.step;
  was = became.was;
  now = became.now;
  behind = on became.new became.behind;
}

-- what leaves the words leaves this one
same_word : (old new : State) (n x : ℕ) → new.words ≡ old.words → word_at new.words n ≡ x → word_at old.words n ≡ x
same_word old new n x same is = ap (λ (ws : List ℕ). word_at ws n) (sym same) ∙ is

-- each word that is another than it was became so at a step
pub becoming : (version : ℕ) (start : State) (n x : ℕ) (state : State) (reached : IsReached version start state) → word_at start.words n ≢ x → word_at state.words n ≡ x
    → Became version start n x state
becoming version start n x state started was is = absurd (was is)
becoming version start n x state (stepped old new id event before step) was is = dite (ℕ_discrete (word_at old.words n) x)
    (λ there. later version start n x old new (becoming version start n x old before was there) (λ mid reached. stepped old new id event reached step))
    (λ not. record { old = old; new = new; id = id; event = event; before = before; step = step; was = not; now = is; behind = started })
becoming version start n x state (announced old new id before told) was is =
    let same = ap (λ (s : State). s.words) told.6 in
    later version start n x old new (becoming version start n x old before was (same_word old new n x same is)) (λ mid reached. announced old new id reached told)
becoming version start n x state (offered old new id units before made) was is =
    let same = ap (λ (s : State). s.words) made.3 in
    later version start n x old new (becoming version start n x old before was (same_word old new n x same is)) (λ mid reached. offered old new id units reached made)
becoming version start n x state (split old new id before made) was is =
    let same = ap (λ (s : State). s.words) made.3 in
    later version start n x old new (becoming version start n x old before was (same_word old new n x same is)) (λ mid reached. split old new id reached made)
becoming version start n x state (lent old new id other units before made) was is =
    let same = ap (λ (s : State). s.words) made.6 in
    later version start n x old new (becoming version start n x old before was (same_word old new n x same is)) (λ mid reached. lent old new id other units reached made)
becoming version start n x state (returned old new id other units before made) was is =
    let same = ap (λ (s : State). s.words) made.6 in
    later version start n x old new (becoming version start n x old before was (same_word old new n x same is)) (λ mid reached. returned old new id other units reached made)
becoming version start n x state (purse_filled old new id before made) was is =
    let same = ap (λ (s : State). s.words) made.3 in
    later version start n x old new (becoming version start n x old before was (same_word old new n x same is)) (λ mid reached. purse_filled old new id reached made)
becoming version start n x state (purse_poured old new id other before made) was is =
    let same = ap (λ (s : State). s.words) made.6 in
    later version start n x old new (becoming version start n x old before was (same_word old new n x same is)) (λ mid reached. purse_poured old new id other reached made)
becoming version start n x state (joined_in old new id other before made) was is =
    let same = ap (λ (s : State). s.words) made.6 in
    later version start n x old new (becoming version start n x old before was (same_word old new n x same is)) (λ mid reached. joined_in old new id other reached made)
