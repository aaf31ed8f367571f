-- What an allocation becomes is valid again.
use Rattle.std.proofs.Common.{◌≡◌, ◌∙◌, ℕ, ap, sym, subst}
use Rattle.alloc_core.specs.declared.alloc.AllocStage.{AllocStage}
use Rattle.alloc_core.specs.Alloc.{Allocation, seen_after, stage_after, IsLawful}
use Rattle.alloc_core.proofs.Lawful.{moved_lawful}
use Rattle.alloc_core.proofs.alloc.Alloc.go_on.Goals as goal

pub invariant_of-self : goal.invariant_of-self
invariant_of-self c =
    let old : Allocation = record {
      shape = c.self.inside.shape;
      size = c.self.inside.size;
      tag = c.self.inside.tag;
      seen = c.self.inside.seen;
      stage = c.self.inside.stage;
    } in
    let seen : c.seen_after-seen.result ≡ seen_after old c.args.found old.stage =
    c.seen_after-seen.ensures ∙ ap (λ (a : Allocation). seen_after a c.args.found a.stage) (sym c.self.view_is) in
    let stage : c.stage_after-stage.result ≡ stage_after old c.args.found old.stage =
    c.stage_after-stage.ensures ∙ ap (λ (a : Allocation). stage_after a c.args.found a.stage) (sym c.self.view_is) in
    subst (λ (after : ℕ × AllocStage). IsLawful (record old { seen = after.0; stage = after.1 }))
    (λ i. (sym seen i, sym stage i)) (moved_lawful old c.args.found c.self.invariant)
