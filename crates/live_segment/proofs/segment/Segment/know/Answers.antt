use Rattle.std.proofs.Common.{rules, refl}
use Rattle.live_segment.proofs.lemmas.Hist.HistAnnounced.{knows_said}
use Rattle.live_segment.proofs.segment.Segment.know.Goals as goal

pub compare_exchange_with-requires : goal.compare_exchange_with-requires
compare_exchange_with-requires c =
    let may = c.requires.may in (
      search rules,
      search rules,
      knows_said c.args.self.now.table.shared.key _ _ _ may.recorder c.args.reference c.args.said.now may.known may.says may.free may.may,
    )

pub returns : goal.returns
returns c = λ known says.
    let told = c.compare_exchange_with.ensures.2 c.args.said.now known refl says in
    ((c.compare_exchange_with.ensures.0, c.compare_exchange_with.ensures.1, told.1), told.0, told.2)
