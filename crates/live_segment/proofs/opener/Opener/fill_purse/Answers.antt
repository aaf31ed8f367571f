use Rattle.std.proofs.Common.{◌∙◌}
use Rattle.live_segment.proofs.Seating.Seated.{gives}
use Rattle.live_segment.proofs.opener.Opener.fill_purse.Goals as goal

pub returns-clause-mine : goal.returns-clause-mine
returns-clause-mine c = (
  record { table = c.fill_purse-filled.ensures.mine.0.0 ∙ c.offer.ensures.0.0 },
  gives _ _ _ c.args.units c.args.self.now.opens.1 c.args.self.now.offers_none c.offer.ensures.1 c.fill_purse-filled.ensures.mine.1,
)
