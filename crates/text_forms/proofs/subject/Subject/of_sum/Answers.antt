use Rattle.std.proofs.Common.{List, ap, map, refl}
use Rattle.image_reader.specs.Views.{bad_view}
use Rattle.image_reader.specs.declared.reading.BadRecord.{BadRecord}
use Rattle.text_forms.proofs.subject.Subject.of_sum.Goals as goal

pub returns-clause-sum : goal.returns-clause-sum
returns-clause-sum c = record {
  said = c.in_ok-said.said;
  head_is = refl;
  said_is = c.in_ok-said.ensures;
  reading_is = record {
    hists = c.in_ok-reading.ensures.shown;
    full = c.in_ok-reading.ensures.full;
    corrupt = c.in_ok-reading.ensures.corrupt;
    bad = ap (λ (bad : List BadRecord). map bad_view bad) c.in_ok-reading.ensures.rest.1;
    stopped = c.in_ok-reading.ensures.rest.2;
  };
  id = c.in_ok-reading.ensures.rest.0;
}
