use Rattle.std.proofs.Common.{◌≡◌, ℕ, arith, inr, min, subst}
use Rattle.live_segment.specs.RecorderState.{view_of_state}
use Rattle.povundiri_c.specs.Followers.{FollowsWith}
use Rattle.povundiri_c.specs.Following.{IsFollowReturned}
use Rattle.povundiri_c.specs.declared.types.MergeTotals.{MergeTotals}
use Rattle.povundiri_c.proofs.held_follower.HeldFollower.merge.Goals as goal

pub returns-clause-answer : goal.returns-clause-answer
returns-clause-answer c =
    let affordable : c.min-affordable.result ≡ min c.args.most (view_of_state c.args.joinable.now.owned.state).units.share =
    omega (arith, c.min-affordable.ensures, c.from.ensures, c.units.ensures) in
    inr (
      c.in-Ok.read.0,
      c.in-Ok.read.1,
      c.in-Ok.ensures,
      c.follow-answer.result,
      subst (λ (most : ℕ). FollowsWith c.in-Ok.read.0 c.in-Ok.read.1 most c.args.self.now c.args.joinable.now.owned c.follow-answer.result c.follow-answer.new.self c.follow-answer.new.joinable.owned)
          affordable c.follow-answer.ensures.answer,
      subst (λ (totals : MergeTotals). IsFollowReturned totals c.args.most c.follow-answer.result c.put_answer.result c.put_answer.new.totals c.args.name.now c.put_answer.new.name)
          c.totals_of_reading.ensures c.put_answer.ensures,
    )
