use Rattle.povundiri_c.proofs.NewSegments.{filled_with}
use Rattle.povundiri_c.proofs.exports.segments.fill_with_segment.Goals as goal

pub returns-in-Ok : goal.returns-in-Ok
returns-in-Ok c = filled_with c.args.segment c.args.opener c.in-Ok.owned c.fill.result c.args.out.now.boxed.held c.fill.new.out.boxed.held c.in-Ok.ensures c.fill.ensures
