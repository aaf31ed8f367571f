-- A new segment is kept with any number of recorders.
use Rattle.segment_invariant.proofs.Prelude.Std.{ℕ, zero, suc, subst}
use Rattle.segment_invariant.proofs.Prelude.Machine.{Dimensions, State}
use Rattle.segment_invariant.proofs.Prelude.Invariant.{Anatomy, Invariant}
use Rattle.segment_invariant.specs.Keeps.{HasMadeRecorders, OpeningsAreKept}
use Rattle.segment_invariant.proofs.Openings.Segments.{opening_is_kept}
use Rattle.segment_invariant.proofs.Recorders.Lends.{offers_keep}
use Rattle.segment_invariant.proofs.Recorders.Splits.{splits_keep}

made_keep : (shape : Dimensions) (opened : Anatomy) (recorders : ℕ) (old new : State) → Invariant shape opened old → HasMadeRecorders recorders old new → Invariant shape opened new
made_keep shape opened zero old new kept same = subst (Invariant shape opened) same kept
made_keep shape opened (suc n) old new kept (mid, said, units, made, offer, split) =
    (splits_keep shape opened said new 0 (offers_keep shape opened mid said 0 units (made_keep shape opened n old mid kept made) offer).0 split).0

pub openings_are_kept : OpeningsAreKept
openings_are_kept shape version id cursors recorders state lawful versions made =
    made_keep shape _ recorders _ state (opening_is_kept shape version id cursors lawful versions) made
