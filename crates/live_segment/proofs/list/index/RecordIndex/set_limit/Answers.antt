use Rattle.std.proofs.Common.{◌∙◌}
use Rattle.list_index.proofs.Meeting.{holds_still}
use Rattle.live_segment.proofs.list.index.RecordIndex.set_limit.Goals as goal

pub returns-clause-still : goal.returns-clause-still
returns-clause-still c = λ kind size seen was. record {
  of_kind = was.of_kind;
  come = was.come;
  looked = was.looked;
  grouping = λ is. c.set_limit.ensures.grouping ∙ was.grouping is;
  holds = holds_still _ _ _ was.holds c.set_limit.ensures.still c.set_limit.ensures.grouping;
}
