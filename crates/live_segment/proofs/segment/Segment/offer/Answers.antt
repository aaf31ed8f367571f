use Rattle.std.proofs.Common.{rules, refl}
use Rattle.live_segment.proofs.Seating.Seated.{offers}
use Rattle.live_segment.proofs.segment.Segment.offer.Goals as goal

pub compare_exchange_with-requires : goal.compare_exchange_with-requires
compare_exchange_with-requires c =
    (search rules, search rules, offers c.args.self.now.table.shared.key _ _ _ c.args.units c.requires.may)

pub returns : goal.returns
returns c =
    let told = c.compare_exchange_with.ensures.2 c.args.units refl in
    ((c.compare_exchange_with.ensures.0, c.compare_exchange_with.ensures.1, told.1), told.0)
