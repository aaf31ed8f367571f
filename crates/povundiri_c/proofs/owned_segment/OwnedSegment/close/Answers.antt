use Rattle.std.proofs.Common.{subst}
use Rattle.live_segment.specs.declared.segment.Segment.{Segment}
use Rattle.povundiri_c.specs.Segments.{IsImageFrom}
use Rattle.povundiri_c.proofs.Ending.{whole}
use Rattle.povundiri_c.proofs.owned_segment.OwnedSegment.close.Goals as goal

pub returns-in-Ok : goal.returns-in-Ok
returns-in-Ok c =
    subst (λ (segment : Segment). IsImageFrom segment c.args.self.opener c.close.result) c.in-Ok.ensures.ok (record {
      image_of = c.close.ensures.image;
      joined = c.close.ensures.joined;
      deltas = c.close.ensures.deltas;
      snapshots = c.close.ensures.snapshots;
      given = c.close.ensures.given;
      risen = c.close.ensures.risen;
      stopped = c.close.ensures.stopped;
      goes_on = c.close.ensures.goes_on;
      whole = whole c.in-Ok.segment.setting c.close.result c.close.ensures.image;
    })
