use Rattle.std.proofs.Common.{sym, ◌∙◌}
use Rattle.povundiri_c.specs.Segments.{IsCreated}
use Rattle.povundiri_c.proofs.NewSegments.{into_empty}
use Rattle.povundiri_c.proofs.exports.segments.povundiri_proved_create.Goals as goal

pub returns : goal.returns
returns c = into_empty (IsCreated c.args.shape) _ _ _ (sym c.is_full.ensures ∙ c.if-is_full.false) c.create_in.ensures
