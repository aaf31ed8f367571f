use Rattle.povundiri_c.proofs.Follows.{refused_follow}
use Rattle.povundiri_c.proofs.held_follower.HeldFollower.follow.Goals as goal

pub returns-in-Err-clause-answer : goal.returns-in-Err-clause-answer
returns-in-Err-clause-answer c =
    refused_follow c.args.head c.args.reading c.args.most c.args.self.now c.args.joinable.now.owned c.follow-follower.new.self.owned c.follow-follower.result.1 c.in-Err.fault
    c.replace.result c.follow-follower.result.0 c.replace.ensures.value c.in-Err.is c.follow-follower.ensures.answer
