-- The names of what is shown of a sum in order ascend.
use Rattle.std.proofs.Common.{map, ap, ◌∙◌}
use Rattle.reading_sums.specs.Shown.{shown_parts}
use Rattle.reading_sums.specs.Views.{part_of}
use Rattle.reading_sums.proofs.GroupNames.{names-shown}
use Rattle.reading_sums.proofs.sums.Sums.reading.Goals as goal

pub returns-clause-names : goal.returns-clause-names
returns-clause-names c = λ formed.
    names-shown c.args.self.now.hists.items _ (c.in_ok-readings_of.ensures.shown ∙ ap (λ z. shown_parts (map part_of z)) c.deref.ensures.value) formed.ascending
