use Rattle.reading_shows.proofs.listing.order.Goals as goal

pub returns-then-is_by_units : goal.returns-then-is_by_units
returns-then-is_by_units c = rw c.if-is_by_units.true c.sort_by_rank.ensures
