use Rattle.std.proofs.Common.{rules}
use Rattle.live_segment.proofs.lemmas.Hist.HistAnnounced.{declines_owed}
use Rattle.live_segment.proofs.segment.Segment.decline.Goals as goal

pub load-requires : goal.load-requires
load-requires c = (search rules, search rules, declines_owed c.args.self.now.table.shared.key _ _ _ c.requires.seat.1 c.requires.may)

pub returns-clause-same : goal.returns-clause-same
returns-clause-same c = (c.load.ensures.0, c.load.ensures.1, c.load.ensures.2.1)

pub returns-clause-view : goal.returns-clause-view
returns-clause-view c = c.load.ensures.2.0
