use Rattle.std.proofs.Common.{inl}
use Rattle.povundiri_c.proofs.exports.segments.adopt_in.Goals as goal

pub returns-in-Ok : goal.returns-in-Ok
returns-in-Ok c = inl (c.in-Ok.segment, c.in-Ok.opener, c.in-Ok.ensures.answer, c.fill_with_segment.ensures)
