-- Why a call is refused.
use Rattle.segment_invariant.proofs.Prelude.Std.{◌≡◌, ◌≢◌, ℕ, ℤ, ◌+◌, Bool, true, false, ◌||◌, map, inl, inr, refl, sym, ap, subst, ◌∙◌, List, Option, Some, None, ⊤, bit_and, Contains, at_map, some, get_elem?}
use Rattle.segment_invariant.proofs.Prelude.Machine.{Actor, Known, Seen, Spent, State, Dimensions, word_at, Refusal}
use Rattle.segment_invariant.proofs.Prelude.Invariant.{Anatomy, layout_of, Invariant}
use Rattle.segment_machine.specs.declared.actor.Done.{Done}
use Rattle.alloc_core.specs.Layout.{flags_of}
use Rattle.alloc_core.proofs.Flags.{corrupt_bit, full_bit}
use Rattle.alloc_core.proofs.Layouts.{flags_word}
use Rattle.segment_invariant.proofs.Lists.Elements.{any_there}
use Rattle.segment_invariant.proofs.Frames.Books.{noticed_there}
use Rattle.segment_calls.specs.declared.refusal.Refusal.TheVariants as why
use Rattle.hist_core.specs.declared.world_state.WorldState.{WorldState}
use Rattle.hist_core.specs.declared.actor_run.Running.{Running}
use Rattle.hist_core.specs.declared.actor_run.Running.TheVariants.{SetCorrupt, Hist, Add, Delta, Snapshot, Batch}
use Rattle.hist_core.specs.Start.{Start}
use Rattle.hist_core.specs.WorldState.{IsFlagSet, IsReachedAs}
use Rattle.hist_core.proofs.Worlds.Starts.{kept_there}
use Rattle.hist_core.specs.Hist.{HasOtherSpec, SawNoName}
use Rattle.hist_core.specs.NewRecord.{IsCause}
use Rattle.hist_core.specs.ActorRun.{IsRefusedBy, SawLackOfBlock}
use Rattle.hist_core.proofs.AddCall.Refusals.{cause_noted, needs_still}

-- an actor that knows, has done and has seen the same is refused for the same
module _ (cause : Refusal) (a b c : Actor) (names : c.answers.names ≡ b.answers.names) (done : c.done ≡ b.done) (seen : c.seen ≡ b.seen) where
  lacks_still : (histogram : ℕ) (sample : ℤ × ℕ) → SawLackOfBlock histogram sample cause a b → SawLackOfBlock histogram sample cause a c
  lacks_still histogram sample (known, knows, reference, is, needs) = (
    known,
    subst (λ (l : List Known). Contains l known) (sym names) knows,
    reference,
    cause_noted cause _ a a b c (refl, refl, refl, refl) done seen is,
    needs_still known sample b c seen needs,
  )

  pub refused_still : (running : Option Running) → IsRefusedBy running cause a b → IsRefusedBy running cause a c
  refused_still None is = is
  refused_still (Some SetCorrupt) is = is
  refused_still (Some (Hist hist)) (inl (none, letters, spells, is)) =
      inl (subst (SawNoName hist.asked.name.items) (sym seen) none, letters, spells, cause_noted cause _ a a b c (refl, refl, refl, refl) done seen is)
  refused_still (Some (Hist hist)) (inr (other, saw)) = inr (other, subst (λ (s : Seen). HasOtherSpec hist.asked.name.items hist.asked.spec s) (sym seen) saw)
  refused_still (Some (Add add)) is = lacks_still add.histogram (add.value, add.units) is
  refused_still (Some (Delta delta_call fresh)) is = is
  refused_still (Some (Snapshot snapshot_call)) is = is
  refused_still (Some (Batch batch)) (sample, there, is) = (sample, there, lacks_still batch.histogram sample is)

-- ---- a full or a corrupt segment has its flag set

-- what its actor has done, or seen
abbrev HasFlag : Refusal → Actor → Type 0
HasFlag why.Full b = b.done.filled ≡ true
HasFlag why.Corrupt b = b.seen.corrupt ≡ true
HasFlag cause b = ⊤

own_flag : (cause : Refusal) (words : ℕ) (a b : Actor) → IsCause cause words a b → HasFlag cause b
own_flag why.Full words a b (free, at, beyond, is) = ap (λ (d : Done). d.filled) is
own_flag why.Corrupt words a b (is, saw, more) = saw
own_flag _ words a b none = absurd none

has_flag : (running : Option Running) (cause : Refusal) (a b : Actor) → IsRefusedBy running cause a b → HasFlag cause b
has_flag None cause a b is = absurd is
has_flag (Some SetCorrupt) cause a b is = absurd is
has_flag (Some (Hist hist)) cause a b (inl (none, letters, spells, is)) = own_flag cause _ a b is
has_flag (Some (Hist hist)) cause a b (inr (other, saw)) = subst (λ (c : Refusal). HasFlag c b) (sym other) tt
has_flag (Some (Add add)) cause a b (known, knows, reference, is, needs) = own_flag cause _ a b is
has_flag (Some (Delta delta_call fresh)) cause a b is = absurd is
has_flag (Some (Snapshot snapshot_call)) cause a b is = absurd is
has_flag (Some (Batch batch)) cause a b (sample, there, (known, knows, reference, is, needs)) = own_flag cause _ a b is

-- a flag that an actor has set or seen is set in the words of a kept state
or_true : (b : Bool) → (b || true) ≡ true
or_true true = refl
or_true false = refl

module _ (shape : Dimensions) (opened : Anatomy) (state : State) (kept : Invariant shape opened state) (id : ℕ) (b : Actor) (there : get_elem? state.actors id ≡ some b) where
  abbrev anatomy : Anatomy
  anatomy = kept.anatomy

  flags : flags_of anatomy.corrupt anatomy.full anatomy.other_flags ≡ word_at state.words 6
  flags = sym (flags_word shape state.words (layout_of anatomy) kept.shown)

  full_there : b.done.filled ≡ true → bit_and (word_at state.words 6) 2 ≡ 2
  full_there is =
      let set = any_there (map (λ (a : Actor). a.done.filled) state.actors) id false (at_map (λ (a : Actor). a.done.filled) state.actors id b there ∙ ap some is) in
      let on : anatomy.full ≡ true = kept.full ∙ (ap (λ c. opened.full || c) set ∙ or_true opened.full) in
      subst (λ (n : ℕ). bit_and n 2 ≡ 2) flags ((full_bit anatomy.corrupt anatomy.full anatomy.other_flags).1 on)

  corrupt_there : b.seen.corrupt ≡ true → bit_and (word_at state.words 6) 1 ≡ 1
  corrupt_there is = subst (λ (n : ℕ). bit_and n 1 ≡ 1) flags
      ((corrupt_bit anatomy.corrupt anatomy.full anatomy.other_flags).1 (noticed_there anatomy.corrupt state.actors id b there kept.noticed is))

flag_set : (start : Start) (world_state : WorldState) (state : State) → IsReachedAs start world_state state → (id : ℕ) (b : Actor)
    → get_elem? state.actors id ≡ some b → b.hand.place ≢ Spent → (cause : Refusal) → HasFlag cause b → IsFlagSet cause world_state.words.items
flag_set start world_state state reach id b there living why.Full is =
    subst (IsFlagSet why.Full) reach.shows.words (full_there world_state.shape start.opened state (kept_there start world_state state reach) id b there is)
flag_set start world_state state reach id b there living why.Corrupt is =
    subst (IsFlagSet why.Corrupt) reach.shows.words (corrupt_there world_state.shape start.opened state (kept_there start world_state state reach) id b there is)
flag_set start world_state state reach id b there living _ is = tt

-- it is set if a call is refused for it
pub flagged : (start : Start) (world_state : WorldState) (state : State) → IsReachedAs start world_state state → (actor : ℕ) (a b : Actor)
    → get_elem? state.actors (actor + 1) ≡ some b → b.hand.place ≢ Spent → (running : Option Running) (cause : Refusal) → IsRefusedBy running cause a b
    → IsFlagSet cause world_state.words.items
flagged start world_state state reach actor a b there living running cause is =
    flag_set start world_state state reach (actor + 1) b there living cause (has_flag running cause a b is)
