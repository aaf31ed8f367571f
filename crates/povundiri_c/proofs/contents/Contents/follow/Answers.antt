use Rattle.std.proofs.Common.{inr, refl}
use Rattle.povundiri_c.proofs.contents.Contents.follow.Goals as goal

pub returns : goal.returns
returns c =
    inr (c.in-Follower.held, c.in-Recorder.joinable, c.in-Follower.is, c.in-Recorder.is, c.merge.new.self, c.merge.new.joinable, refl, refl, c.merge.ensures.kept, c.merge.ensures.answer)
