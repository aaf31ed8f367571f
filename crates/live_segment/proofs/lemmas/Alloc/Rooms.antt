-- If no block could be claimed, there was no room: in the allocation, and so in the call since it began.
use Rattle.std.proofs.Common.{◌≡◌, ◌∙◌, ℕ, ◌+◌, ◌<◌, ◌≤◌, [], ◌∷◌, ◌++◌, true, refl, sym, ap, subst, arith}
use Rattle.std.specs.Prelude.{Err}
use Rattle.segment_image.specs.Shape.{Dimensions}
use Rattle.segment_calls.specs.declared.refusal.Refusal.{Refusal}
use Rattle.segment_calls.specs.declared.refusal.Refusal.TheVariants.{Corrupt, Full}
use Rattle.segment_machine.specs.declared.actor.Actor.{Actor}
use Rattle.segment_machine.specs.declared.actor.Done.{Done}
use Rattle.segment_machine.specs.declared.place.Place.TheVariants.{Idle}
use Rattle.live_segment.specs.Add.Sample.{HasNoRoom}
use Rattle.live_segment.specs.Alloc.Allocation.{Allocates, filled, noticed, saw_free}
use Rattle.live_segment.specs.Alloc.Rises.{WastesFor}
use Rattle.live_segment.proofs.lemmas.Add.Refusing.{only_given_up}

-- an allocation that was refused
pub lacks_room : (why : Refusal) (size tag : ℕ) (a b : Actor) → Allocates size tag a (Err why) b → HasNoRoom why size a b
lacks_room Full size tag a b (free, view, later, beyond, wastes) =
    let last : Actor = filled (saw_free a Idle free b.done.raised) in
    let only = view ∙ only_given_up last in (
      subst (λ (x : Actor). x.done ≡ record a.done { raised = x.done.raised; filled = true; lacked = a.done.lacked ++ x.seen.free ∷ [] }) (sym only) refl,
      subst (λ (s : Dimensions). WastesFor s size a.done.raised b.done.raised) (sym (ap (λ (x : Actor). x.segment.shape) only)) wastes,
      subst (λ (x : Actor). x.segment.shape.size < x.seen.free + size) (sym only) beyond,
    )
lacks_room Corrupt size tag a b (free, view, later, wastes) =
    let last : Actor = noticed (saw_free a Idle free b.done.raised) in
    let only = view ∙ only_given_up last in
    let warned : b.seen.warned ≡ a.seen.warned + 1 = ap (λ (x : Actor). x.seen.warned) only in (
      ap (λ (x : Actor). x.done) only,
      subst (λ (s : Dimensions). WastesFor s size a.done.raised b.done.raised) (sym (ap (λ (x : Actor). x.segment.shape) only)) wastes,
      ap (λ (x : Actor). x.seen.corrupt) only,
      omega (arith, warned),
    )
lacks_room _ size tag a b none = absurd none

-- its call began before, and had done nothing yet
pub lacked_since : (why : Refusal) (size : ℕ) (a b c : Actor) → b.done ≡ a.done → a.seen.warned ≤ b.seen.warned → HasNoRoom why size b c → HasNoRoom why size a c
lacked_since Full size a b c same warned (sets, wastes, beyond) = (
  subst (λ (d : Done). c.done ≡ record d { raised = c.done.raised; filled = true; lacked = d.lacked ++ c.seen.free ∷ [] }) same sets,
  subst (λ (d : Done). WastesFor c.segment.shape size d.raised c.done.raised) same wastes,
  beyond,
)
lacked_since Corrupt size a b c same warned (nothing, wastes, saw, more) = (
  subst (λ (d : Done). c.done ≡ record d { raised = c.done.raised }) same nothing,
  subst (λ (d : Done). WastesFor c.segment.shape size d.raised c.done.raised) same wastes,
  saw,
  omega (arith, warned, more),
)
lacked_since _ size a b c same warned none = absurd none
