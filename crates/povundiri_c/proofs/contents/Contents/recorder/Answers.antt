use Rattle.povundiri_c.proofs.Calling.{by_segment}
use Rattle.povundiri_c.proofs.contents.Contents.recorder.Goals as goal

pub returns-in-Segment : goal.returns-in-Segment
returns-in-Segment c = by_segment _ _ _ _ _ _ c.in-Segment.is c.recorder.ensures
