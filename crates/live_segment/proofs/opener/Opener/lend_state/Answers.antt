use Rattle.live_segment.proofs.Seating.Callers.{lent_still}
use Rattle.live_segment.proofs.opener.Opener.lend_state.Goals as goal

pub returns-clause-made : goal.returns-clause-made
returns-clause-made c segment made =
    lent_still segment _ _ c.args.units made c.in_ok-filled.ensures.mine.0 c.in_ok-filled.ensures.mine.1
