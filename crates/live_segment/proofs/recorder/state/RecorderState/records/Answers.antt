use Rattle.std.proofs.Common.{sym, ◌∙◌}
use Rattle.live_segment.proofs.lemmas.List.Indexed.{indexed_still}
use Rattle.live_segment.proofs.Seating.Recorders.{recorder_still, seat_walked}
use Rattle.live_segment.proofs.recorder.state.RecorderState.records.Goals as goal

pub returns-clause-at : goal.returns-clause-at
returns-clause-at c =
    let old = c.args.self.now in
    let walked = c.walk.ensures.walked.walked in
    let (is, share) = seat_walked c.args.segment.now old.seat c.walk.new.seat _ c.requires.seated c.requires.rests c.walk.ensures.same walked in
    recorder_still c.args.segment.now old c.walk.new.seat old.units old.samples c.requires is (c.requires.counted ∙ sym share)
    (indexed_still _ _ _ is.words _ _ is.chain c.requires.sampled)
