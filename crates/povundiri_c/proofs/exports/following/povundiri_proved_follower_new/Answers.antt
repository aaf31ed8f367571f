use Rattle.std.proofs.Common.{sym, ◌∙◌}
use Rattle.povundiri_c.specs.Followers.{IsFollowerMade}
use Rattle.povundiri_c.proofs.Follows.{follower_made}
use Rattle.povundiri_c.proofs.NewSegments.{into_empty}
use Rattle.povundiri_c.proofs.exports.following.povundiri_proved_follower_new.Goals as goal

pub returns : goal.returns
returns c =
    into_empty (IsFollowerMade c.args.most_keys) c.args.out.now.boxed.held c.fill.new.out.boxed.held c.fill.result (sym c.is_full.ensures ∙ c.if-is_full.false)
    (follower_made c.args.most_keys c.new.result c.fill.result c.args.out.now.boxed.held c.fill.new.out.boxed.held c.new.ensures c.fill.ensures)
