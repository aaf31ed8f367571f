use Rattle.std.proofs.Common.{◌∙◌, ap, ◌++◌, rules}
use Rattle.recording_folders.proofs.FoldMay.{fold_may}
use Rattle.recording_folders.proofs.folding.fold_of.Goals as goal

pub returns-clause-fold : goal.returns-clause-fold
returns-clause-fold c folder may =
    fold_may folder c.args.serial c.args.names.now c.args.standing.now c.args.finals.now may c.in-Some.serial c.extend_from_slice.new.self.items
    (search rules) (c.in_ok-extend_from_slice.ensures.items ∙ ap (λ s. s ++ c.args.finals.now) c.in_ok-names.ensures)
