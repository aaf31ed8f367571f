use Rattle.std.proofs.Common.{Err}
use Rattle.povundiri_c.specs.Followers.{SkipsWords}
use Rattle.povundiri_c.proofs.Follows.{by_follower}
use Rattle.povundiri_c.proofs.contents.Contents.skip.Goals as goal

pub returns-in-Follower : goal.returns-in-Follower
returns-in-Follower c =
    by_follower (Err 5) (SkipsWords c.args.words.now) c.args.self.now c.in-Follower.held c.skip.new.self c.skip.result c.in-Follower.is c.skip.ensures
