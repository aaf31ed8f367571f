use Rattle.std.proofs.Common.{◌≡◌, All, map, take}
use Rattle.image_reader.specs.Readable.{IsReadable}
use Rattle.image_reader.specs.Survey.{hist_at}
use Rattle.image_reader.specs.Views.{histogram_view}
use Rattle.image_reader.proofs.reader.hists_of.Given as goal

-- those so far
abbrev pub invariant-loop-reference : goal.invariant-loop-reference
invariant-loop-reference l = record {
  hists : map histogram_view l.hists.items ≡ map (hist_at l.words l.head l.survey.references.items) (take l.reference-index l.survey.hists.items);
  readable : All IsReadable (map histogram_view l.hists.items);
}
