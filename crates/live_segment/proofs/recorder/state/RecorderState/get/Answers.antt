use Rattle.live_segment.proofs.Seating.Recorders.{recorder_lent}
use Rattle.live_segment.proofs.recorder.state.RecorderState.get.Goals as goal

pub returns-clause-at : goal.returns-clause-at
returns-clause-at c =
    recorder_lent c.args.segment.now c.args.self.now _ c.args.units _ c.requires.at c.pour_out.ensures.seat.0 c.pour_out.ensures.seat.1 c.pour_out.ensures.held
