use Rattle.std.proofs.Common.{sym, ◌∙◌}
use Rattle.povundiri_c.specs.Segments.{IsTakenUp}
use Rattle.povundiri_c.proofs.NewSegments.{into_empty}
use Rattle.povundiri_c.proofs.exports.segments.povundiri_proved_adopt.Goals as goal

pub returns : goal.returns
returns c = into_empty (IsTakenUp c.args.words.now c.args.cursors) _ _ _ (sym c.is_full.ensures ∙ c.if-is_full.false) c.adopt_in.ensures
