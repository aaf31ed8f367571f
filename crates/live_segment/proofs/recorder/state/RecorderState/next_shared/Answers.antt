use Rattle.std.proofs.Common.{◌∙◌, sym}
use Rattle.live_segment.proofs.lemmas.List.Indexed.{indexed_still}
use Rattle.live_segment.proofs.Seating.Recorders.{recorder_still, seat_shared}
use Rattle.live_segment.proofs.recorder.state.RecorderState.next_shared.Goals as goal

pub returns-clause-at : goal.returns-clause-at
returns-clause-at c =
    let old = c.args.self.now in
    let at = c.requires.at in
    let does = c.next_shared.ensures in
    let (is, share) = seat_shared c.args.segment.now old.seat c.next_shared.new.seat c.args.cursor _ at.seated at.rests does.same does.answer in
    recorder_still c.args.segment.now old c.next_shared.new.seat old.units old.samples at is (at.counted ∙ sym share)
    (indexed_still _ _ _ is.words _ _ is.chain at.sampled)
