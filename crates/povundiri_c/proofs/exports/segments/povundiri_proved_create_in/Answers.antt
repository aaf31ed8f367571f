use Rattle.std.proofs.Common.{inl, sym, ◌∙◌}
use Rattle.povundiri_c.specs.Segments.{InLentRoom, IsCreated}
use Rattle.povundiri_c.proofs.NewSegments.{into_empty}
use Rattle.povundiri_c.proofs.exports.segments.povundiri_proved_create_in.Goals as goal

pub returns-in-Ok : goal.returns-in-Ok
returns-in-Ok c = into_empty (InLentRoom (IsCreated c.args.shape)) _ _ _ (sym c.is_full.ensures ∙ c.if-is_full.false) (inl c.create_in.ensures)
