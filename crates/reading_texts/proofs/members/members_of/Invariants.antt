use Rattle.std.proofs.Common.{◌≡◌, map, take}
use Rattle.image_reader.specs.Views.{histogram_view}
use Rattle.reading_texts.specs.Labels.{label_view}
use Rattle.reading_texts.specs.Members.{member_view}
use Rattle.reading_texts.specs.Families.{member_of}
use Rattle.reading_texts.proofs.members.members_of.Given as goal

abbrev pub invariant-loop-hist : goal.invariant-loop-hist
invariant-loop-hist l =
    map member_view l.members.items ≡ map (member_of (map label_view l.line_labels)) (map (λ hist. histogram_view hist.now) (take l.hist-index l.hists))
