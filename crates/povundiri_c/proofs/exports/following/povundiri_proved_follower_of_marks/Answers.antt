use Rattle.std.proofs.Common.{sym, ◌∙◌}
use Rattle.povundiri_c.specs.Followers.{IsFollowerOfMarksMade}
use Rattle.povundiri_c.proofs.Follows.{of_marks_made}
use Rattle.povundiri_c.proofs.NewSegments.{into_empty}
use Rattle.povundiri_c.proofs.exports.following.povundiri_proved_follower_of_marks.Goals as goal

pub returns-in-Ok : goal.returns-in-Ok
returns-in-Ok c =
    into_empty (IsFollowerOfMarksMade c.args.words.now c.args.most_keys) c.args.out.now.boxed.held c.fill.new.out.boxed.held c.fill.result
    (sym c.is_full.ensures ∙ c.if-is_full.false)
    (of_marks_made c.args.words.now c.args.most_keys c.in-Ok.held c.fill.result c.args.out.now.boxed.held c.fill.new.out.boxed.held c.in-Ok.ensures c.fill.ensures)
