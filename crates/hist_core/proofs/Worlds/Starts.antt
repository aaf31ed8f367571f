-- What a world starts with, and the states that are reached from there.
use Rattle.segment_invariant.proofs.Prelude.Std.{◌≡◌, ◌⊎◌, ℕ, true, List, inl, inr, refl, sym, ap, subst, ◌∙◌}
use Rattle.segment_invariant.proofs.Prelude.Machine.{head_of, Dimensions, IsShape, Actor, is_opener, Event, State}
use Rattle.segment_invariant.proofs.Prelude.Invariant.{Invariant}
use Rattle.segment_machine.specs.declared.actor.Role.TheVariants.{Opener}
use Rattle.segment_machine.specs.Reached as machine
use Rattle.segment_machine.specs.State.{IsStep}
use Rattle.segment_invariant.specs.Consistent.{IsConsistent}
use Rattle.segment_invariant.specs.Keeps.{IsOpening, opening_of}
use Rattle.segment_invariant.proofs.Consistency.Whole.{is_consistent}
use Rattle.segment_invariant.proofs.Openings.Segments.{new_is_opening, opening_is_kept}
use Rattle.segment_promises.proofs.Reached.{reached_states_follow}
use Rattle.segment_promises.proofs.Readings.Heads as heads
use Rattle.segment_promises.proofs.Spoilers.{spoilers_step_on}
use Rattle.hist_core.specs.declared.world_state.WorldState.{WorldState}
use Rattle.hist_core.specs.Start.{MayStart, Start, start_state}
use Rattle.hist_core.specs.WorldState.{IsReachedAs}

module _ (shape : Dimensions) (version : ℕ) (start : Start) where
  -- it is kept, its blocks are of the version, and its opener is one that has made no recorder
  start_kept : MayStart shape version start → Invariant shape start.opened (start_state start)
  start_kept (inl (id, lawful, versions, is)) =
      subst (λ (s : Start). Invariant shape s.opened (start_state s)) (sym is) (opening_is_kept shape version id 0 lawful versions)
  start_kept (inr (words, references, image, shaped, versioned)) =
      subst (λ (s : Dimensions). Invariant s start.opened (start_state start)) (sym shaped) image.kept

  start_version : MayStart shape version start → start.opened.version ≡ version
  start_version (inl (id, lawful, versions, is)) = ap (λ (s : Start). s.opened.version) is
  start_version (inr (words, references, image, shaped, versioned)) =
      sym image.kept.same.0 ∙ (sym (heads.version_is (head_of words).shape start.opened (start_state start) image.kept)
      ∙ (ap (λ (l : List ℕ). (head_of l).version) image.words_are ∙ (image.adoptable.version ∙ sym versioned)))

  start_opens : MayStart shape version start → IsOpening shape start.opened
  start_opens (inl (id, lawful, versions, is)) =
      subst (λ (s : Start). IsOpening shape s.opened) (sym is) (new_is_opening shape version id lawful versions).0
  start_opens (inr (words, references, image, shaped, versioned)) =
      subst (λ (s : Dimensions). IsOpening s start.opened) (sym shaped) image.opens

  pub start_role : MayStart shape version start → start.opener.role ≡ Opener 0 0 0
  start_role (inl (id, lawful, versions, is)) = ap (λ (s : Start). s.opener.role) is
  start_role (inr (words, references, image, shaped, versioned)) = ap (λ (a : Actor). a.role) image.opener_is

-- ---- the states that are reached

module _ (start : Start) (world_state : WorldState) (state : State) (reach : IsReachedAs start world_state state) where
  start_is_kept : Invariant world_state.shape start.opened (start_state start)
  start_is_kept = start_kept world_state.shape world_state.version start reach.starts

  pub version_there : start.opened.version ≡ world_state.version
  version_there = start_version world_state.shape world_state.version start reach.starts

  reached_there : machine.IsReached start.opened.version (start_state start) state
  reached_there = subst (λ (v : ℕ). machine.IsReached v (start_state start) state) (sym version_there) reach.reached

  pub kept_there : Invariant world_state.shape start.opened state
  kept_there = reached_states_follow world_state.shape start.opened (start_state start) state start_is_kept reached_there

  pub consistent_there : IsConsistent (opening_of world_state.shape start.opened) state
  consistent_there =
      is_consistent world_state.shape start.opened state (start_opens world_state.shape world_state.version start reach.starts) kept_there

  pub shape_there : IsShape world_state.shape
  shape_there = kept_there.shown.sound.lawful

  pub versions_there : (world_state.version ≡ 1) ⊎ (world_state.version ≡ 2)
  versions_there = subst (λ (v : ℕ). (v ≡ 1) ⊎ (v ≡ 2)) (kept_there.same.0 ∙ version_there) kept_there.versions

  -- an actor that has set the corrupt flag has still set it after a step, which claims nothing
  pub spoiled_there : (new : State) (who : ℕ) (event : Event) (step : IsStep world_state.version state who event new) → step.actor.done.spoiled ≡ true
      → (step.then_is.done.spoiled ≡ true) × (step.then_is.done.claimed ≡ step.actor.done.claimed)
  spoiled_there new who event = subst
      (λ (v : ℕ). (step : IsStep v state who event new) → step.actor.done.spoiled ≡ true
      → (step.then_is.done.spoiled ≡ true) × (step.then_is.done.claimed ≡ step.actor.done.claimed))
      version_there
      (λ step. spoilers_step_on world_state.shape start.opened (start_state start) start_is_kept start.opener refl
      (ap is_opener (start_role world_state.shape world_state.version start reach.starts)) state new who event reached_there step)
