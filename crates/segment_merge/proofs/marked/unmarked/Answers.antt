use Rattle.std.proofs.Common.{rules, ap}
use Rattle.image_reader.specs.Views.{histogram_view}
use Rattle.segment_merge.specs.Noted.{unmarked as without_marks}
use Rattle.segment_merge.proofs.MarkedSteps.{no_note}
use Rattle.segment_merge.proofs.marked.unmarked.Goals as goal

pub returns-clause-same : goal.returns-clause-same
returns-clause-same c = ap without_marks c.with_marks.ensures

pub returns-clause-none : goal.returns-clause-none
returns-clause-none c = (no_note (histogram_view c.with_marks.result) (histogram_view c.args.hist) c.new-units.result.items c.with_marks.ensures (search rules)).0

pub returns-clause-risen : goal.returns-clause-risen
returns-clause-risen c = (no_note (histogram_view c.with_marks.result) (histogram_view c.args.hist) c.new-units.result.items c.with_marks.ensures (search rules)).1
