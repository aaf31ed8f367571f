use Rattle.std.proofs.Common.{◌≡◌, min, map, sum_by, take}
use Rattle.image_reader.specs.Survey.{hist_at}
use Rattle.image_rules.specs.Adoption.{used_by}
use Rattle.image_adoption.proofs.units.used_of.Given as goal

-- what the histograms so far have used
abbrev pub invariant-loop-reference : goal.invariant-loop-reference
invariant-loop-reference l =
    l.used ≡ min (sum_by used_by (map (hist_at l.words l.head l.survey.references.items) (take l.reference-index l.survey.hists.items))) 18446744073709551615
