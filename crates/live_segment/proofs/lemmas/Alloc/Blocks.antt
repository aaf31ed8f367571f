-- One record is made, and nothing else is done before and after.
use Rattle.std.proofs.Common.{◌≡◌, ℕ, sym, subst}
use Rattle.segment_image.specs.Shape.{Dimensions}
use Rattle.segment_machine.specs.declared.actor.Done.{Done}
use Rattle.segment_machine.specs.declared.actor.Made.{Made}
use Rattle.live_segment.specs.Alloc.Claims.{MakesOne}

pub makes_between : (shape : Dimensions) (made : Made) (words : ℕ) (a b c d : Done) → b ≡ a → MakesOne shape made words b c → d ≡ c → MakesOne shape made words a d
makes_between shape made words a b c d before makes behind =
    subst (λ (x : Done). MakesOne shape made words x d) before (subst (MakesOne shape made words b) (sym behind) makes)
