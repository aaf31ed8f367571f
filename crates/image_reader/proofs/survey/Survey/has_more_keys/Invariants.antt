use Rattle.std.proofs.Common.{◌≡◌, ◌+◌, sum_by, take}
use Rattle.image_reader.specs.Survey.{keys_at}
use Rattle.image_reader.proofs.survey.Survey.has_more_keys.Given as goal

-- what is left, and the keys of the histograms so far
abbrev pub invariant-loop-reference : goal.invariant-loop-reference
invariant-loop-reference l =
    l.left + sum_by (keys_at l.words l.head l.self.references.items) (take l.reference-index l.self.hists.items) ≡ l.most
