-- The words of a closed segment may be adopted if the format is the frozen one and nobody marked them as corrupt.
use Rattle.std.proofs.Common.{List, ℕ, sym, subst, ◌∙◌}
use Rattle.segment_machine.specs.declared.actor.Actor.{Actor}
use Rattle.segment_promises.proofs.Adopting.Kept.{kept_are_adoptable}
use Rattle.live_segment.specs.declared.rule.Opening.{Opening}
use Rattle.live_segment.specs.Adopted.{MayGoOn}
use Rattle.live_segment.specs.Rule.{Closes}
use Rattle.live_segment.proofs.Closing.Joined.{of_kept}

pub goes_on : (given : Opening) (opener : Actor) (words : List ℕ) → Closes given opener words → MayGoOn words
goes_on given opener words closes =
    let image = of_kept given closes.opened closes.state closes.as_said closes.kept in
    subst MayGoOn (sym closes.words_are)
    (λ frozen intact references listed.
    kept_are_adoptable given.setting.shape closes.opened closes.state references closes.kept (closes.as_said.version ∙ (sym image.version ∙ frozen)) intact listed)
