-- What is known of the list, with the histograms that are read, is what its records read as.
use Rattle.std.proofs.Common.{List, ℕ, map, refl, ap, ◌∙◌}
use Rattle.bucket_ranges.specs.Reading.{reading_along}
use Rattle.image_reader.specs.Survey.{hist_at}
use Rattle.image_reader.proofs.Records.{same_reading}
use Rattle.image_reader.proofs.reader.read_list.Goals as goal

pub returns-clause-reading : goal.returns-clause-reading
returns-clause-reading c =
    let words = c.args.words.now in
    let head = c.args.head.now in
    let references : List ℕ = c.in_ok-survey.survey.references.items in
    let survey = c.in_ok-survey.ensures in (
      references,
      survey.listed,
      same_reading _ (reading_along words head references) refl refl refl
          (c.in_ok-hists.ensures.hists ∙ ap (map (hist_at words head references)) survey.hists_are) survey.bad_are survey.stopped_is,
    )
