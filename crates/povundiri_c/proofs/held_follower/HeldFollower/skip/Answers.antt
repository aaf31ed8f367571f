use Rattle.std.proofs.Common.{ap, inr}
use Rattle.segment_merge.specs.declared.follower.Follower.{Follower}
use Rattle.povundiri_c.proofs.held_follower.HeldFollower.skip.Goals as goal

pub returns-in-Err : goal.returns-in-Err
returns-in-Err c = (
  ap (λ (follower : Follower). record c.args.self.now { follower = follower }) c.in-Err.ensures.answer.0,
  inr (c.in_ok-head.head, c.in_ok-head.reading, c.in_ok-head.ensures, c.in-Err.fault, c.in-Err.ensures.answer.1, c.of_follow_fault.ensures),
)
