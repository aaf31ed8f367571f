use Rattle.std.proofs.Common.{arith, ap, ◌∙◌}
use Rattle.povundiri_c.specs.Recorders.{refused_with}
use Rattle.povundiri_c.proofs.Looks.{taken_of_owned, refused_of_owned}
use Rattle.povundiri_c.proofs.owned_segment.OwnedSegment.look.Goals as goal

pub returns-in-Ok : goal.returns-in-Ok
returns-in-Ok c =
    taken_of_owned c.args.room c.args.self.now c.deref.result.now c.in-Ok.image c.deref.ensures (omega (arith, c.if-room-size.false, c.size-size.ensures)) c.in-Ok.ensures

pub returns-in-Err : goal.returns-in-Err
returns-in-Err c =
    refused_of_owned c.args.room c.args.self.now c.deref.result.now c.in-Err.fault c.of.result c.deref.ensures
    (omega (arith, c.if-room-size.false, c.size-size.ensures)) c.in-Err.ensures (c.of.ensures ∙ ap refused_with c.of_look_fault.ensures)
