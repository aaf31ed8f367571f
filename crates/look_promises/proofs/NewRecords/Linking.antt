-- The step that puts a record on the list, and what its actor has in hand then.
use Rattle.segment_invariant.proofs.Prelude.Std.{◌≡◌, ◌⊎◌, ℕ, zero, suc, ◌-◌, ◌<◌, ◌≤◌, Bool, List, [], ◌∷◌, ◌++◌, length, inl, inr, ⊎_elim, refl, ap, subst, ◌∙◌, arith, if◌then◌else◌, eq-eqb, none_in, one_in, slice_index, replicate, length-append, Contains, Contains-append_cases}
use Rattle.segment_invariant.proofs.Prelude.Machine.{Event, publishing_event, link, State, Spec, spec_fields, spec_ranges, Linear, Boolean, Custom, Sparse}
use Rattle.segment_invariant.proofs.Prelude.Invariant.{found_at}
use Rattle.std.proofs.Math.ListN.{get_or-eq_default}
use Rattle.std.proofs.lemmas.List.{get_or-append_right}
use Rattle.segment_machine.specs.declared.actor.Made.TheVariants.{Histogram, Sample}
use Rattle.segment_machine.specs.Made.{IsPayload}
use Rattle.segment_machine.specs.Reached.{IsReached, started, stepped, announced, offered, split, lent, returned, purse_filled, purse_poured, joined_in}
use Rattle.segment_machine.specs.State.{IsStep}
use Rattle.segment_promises.specs.Lists.{chain_behind, links_of}
use Rattle.segment_promises.proofs.Links.{links_or_not}

-- ---- the step

-- a record was put on the list by a step on the way from one state to another
pub record LinksAt (version : ℕ) (start : State) (x : ℕ) (state : State) : Type 0 where
  pub old : State
  pub new : State
  pub id : ℕ
  pub tail : ℕ
  pub before : IsReached version start old
  pub step : IsStep version old id (publishing_event (link tail x)) new
  pub ends : found_at old (publishing_event (link tail x)) ≡ 12
  pub behind : IsReached version new state

later : (version : ℕ) (start : State) (x : ℕ) (old new : State) → LinksAt version start x old
    → ((mid : State) → IsReached version mid old → IsReached version mid new) → LinksAt version start x new
later version start x old new links on = record {
  old = links.old;
  new = links.new;
  id = links.id;
  tail = links.tail;
  before = links.before;
  step = links.step;
  ends = links.ends;
  behind = on links.new links.behind;
}

-- each record that was linked was put there so
pub linking : (version : ℕ) (start : State) (x : ℕ) (state : State) (reached : IsReached version start state) → Contains (links_of version start state reached) x
    → LinksAt version start x state
linking version start x state started has = absurd (none_in x has)
linking version start x state (stepped old new id event before step) has = by (links_or_not event (found_at old event)) (linking version start x old before)
  where
    earlier : List ℕ
    earlier = links_of version start old before

    onward : LinksAt version start x old → LinksAt version start x new
    onward links = later version start x old new links (λ mid reached. stepped old new id event reached step)

    by : ((tail at : ℕ) × (event ≡ publishing_event (link tail at)) × (found_at old event ≡ 12))
        ⊎ ((chain : List ℕ) → chain_behind event (found_at old event) chain ≡ chain) → (Contains earlier x → LinksAt version start x old) → LinksAt version start x new
    by (inl (tail, at, is, ends)) before_it =
        let made = ap (λ (e : Event). chain_behind e (found_at old event) earlier) is
        ∙ ap (λ (b : Bool). if b then earlier ++ at ∷ [] else earlier) (eq-eqb (found_at old event) 12 ends) in
        ⊎_elim
        (λ first. onward (before_it first))
        (λ last.
        let here : at ≡ x = one_in at x last in
        record {
          old = old;
          new = new;
          id = id;
          tail = tail;
          before = before;
          step = subst (λ (n : ℕ). IsStep version old id (publishing_event (link tail n)) new) here (subst (λ (e : Event). IsStep version old id e new) is step);
          ends = subst (λ (n : ℕ). found_at old (publishing_event (link tail n)) ≡ 12) here (subst (λ (e : Event). found_at old e ≡ 12) is ends);
          behind = started;
        })
        (Contains-append_cases earlier (at ∷ []) x (subst (λ (list : List ℕ). Contains list x) made has))
    by (inr not) before_it = onward (before_it (subst (λ (list : List ℕ). Contains list x) (not earlier) has))
linking version start x state (announced old new id before told) has =
    later version start x old new (linking version start x old before has) (λ mid reached. announced old new id reached told)
linking version start x state (offered old new id units before made) has =
    later version start x old new (linking version start x old before has) (λ mid reached. offered old new id units reached made)
linking version start x state (split old new id before made) has =
    later version start x old new (linking version start x old before has) (λ mid reached. split old new id reached made)
linking version start x state (lent old new id other units before made) has =
    later version start x old new (linking version start x old before has) (λ mid reached. lent old new id other units reached made)
linking version start x state (returned old new id other units before made) has =
    later version start x old new (linking version start x old before has) (λ mid reached. returned old new id other units reached made)
linking version start x state (purse_filled old new id before made) has =
    later version start x old new (linking version start x old before has) (λ mid reached. purse_filled old new id reached made)
linking version start x state (purse_poured old new id other before made) has =
    later version start x old new (linking version start x old before has) (λ mid reached. purse_poured old new id other reached made)
linking version start x state (joined_in old new id other before made) has =
    later version start x old new (linking version start x old before has) (λ mid reached. joined_in old new id other reached made)

-- ---- what is linked

spec_long : (spec : Spec) → length (spec_fields spec) ≡ 4
spec_long (Linear min max n) = refl
spec_long Boolean = refl
spec_long (Custom values) = refl
spec_long Sparse = refl

zeros : (rest : List ℕ) (q : ℕ) → q < 6 → slice_index (0 ∷ 0 ∷ 0 ∷ 0 ∷ 0 ∷ 0 ∷ rest) q ≡ 0
zeros rest zero lt = refl
zeros rest (suc zero) lt = refl
zeros rest (suc (suc zero)) lt = refl
zeros rest (suc (suc (suc zero))) lt = refl
zeros rest (suc (suc (suc (suc zero)))) lt = refl
zeros rest (suc (suc (suc (suc (suc zero))))) lt = refl
zeros rest (suc (suc (suc (suc (suc (suc q)))))) lt = absurd (omega (arith, lt))

-- a record is linked with no counts, an empty single word, and marks, sums and a redundant count of 0
pub histogram_blank : (name : List ℕ) (spec : Spec) (payload : List ℕ) (p : ℕ) → IsPayload (Histogram name spec) payload → 4 ≤ p → p < 10 → slice_index payload p ≡ 0
histogram_blank name spec payload p (letters, are, is) from below =
    ap (λ (list : List ℕ). slice_index list p) is
    ∙ (get_or-append_right (spec_fields spec) _ 4 p 0 (spec_long spec) from ∙ zeros (length name ∷ (letters ++ spec_ranges spec)) (p - 4) (omega (arith, from, below)))

-- and a sample with a count and a mark of 0
pub sample_blank : (of : ℕ) (value : _) (payload : List ℕ) (p : ℕ) → IsPayload (Sample of value) payload → 2 ≤ p → slice_index payload p ≡ 0
sample_blank of value payload p (k, is) from =
    let long = length-append payload (replicate {A = ℕ} k 0) in
    let all = ap length is in
    get_or-eq_default payload 0 (omega (arith, from, long, all))
