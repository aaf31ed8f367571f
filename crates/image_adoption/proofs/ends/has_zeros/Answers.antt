use Rattle.std.proofs.Common.{ap, ◌∙◌}
use Rattle.std.specs.Prelude.{◌==◌}
use Rattle.std.specs.List.{list_all}
use Rattle.std.proofs.lemmas.Bool.Decides.{Decides-at}
use Rattle.std.proofs.lemmas.List.{take_rest}
use Rattle.image_adoption.proofs.Zeros.{zeros_from}
use Rattle.image_adoption.proofs.ends.has_zeros.Goals as goal

pub returns : goal.returns
returns c =
    Decides-at c.are_zeros.result _ (c.are_zeros.ensures ∙ ap (list_all (λ word. word == 0)) (take_rest c.args.words.now c.args.free))
    (zeros_from c.args.words.now c.args.free c.requires)
