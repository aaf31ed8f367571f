use Rattle.std.proofs.Common.{◌^◌, ◌<◌, All, arith}
use Rattle.std.proofs.lemmas.Grind.{get_or_default_zero}
use Rattle.hist_core.proofs.Worlds.NewWorldStates.{image_is_reached}
use Rattle.hist_core.proofs.world.World.open_image.Goals as goal

pub invariant_of-result : goal.invariant_of-result
invariant_of-result c =
    let words = c.args.words.now in
    let narrow : All (λ word. word < 2 ^ 64) words = λ k d h. rw (get_or_default_zero words k d h) (omega (arith, c.type_inv.words k)) in
    let reached = image_is_reached words c.args.actors c.in_ok-adopt.field-0 c.in_ok-adopt.ensures narrow c.requires.few in record {
      reached = ∣ (reached.1, reached.3.0, reached.3.1) ∣₁;
    }

pub returns-clause-starts : goal.returns-clause-starts
returns-clause-starts c =
    let words = c.args.words.now in
    let narrow : All (λ word. word < 2 ^ 64) words = λ k d h. rw (get_or_default_zero words k d h) (omega (arith, c.type_inv.words k)) in
    ∣ image_is_reached words c.args.actors c.in_ok-adopt.field-0 c.in_ok-adopt.ensures narrow c.requires.few ∣₁
