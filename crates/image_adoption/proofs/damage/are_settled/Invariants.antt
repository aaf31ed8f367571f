use Rattle.std.proofs.Common.{◌≡◌, ℕ, ◌<◌, get_or}
use Rattle.segment_image.specs.Blocks.{field_at}
use Rattle.image_adoption.specs.Conditions.{IsSettled}
use Rattle.image_adoption.proofs.damage.are_settled.Given as goal

abbrev pub invariant-loop-reference : goal.invariant-loop-reference
invariant-loop-reference l =
    (k : ℕ) → k < l.reference-index → field_at l.words (get_or l.references k 0) 2 ≡ 1 → IsSettled l.words (get_or l.references k 0)
