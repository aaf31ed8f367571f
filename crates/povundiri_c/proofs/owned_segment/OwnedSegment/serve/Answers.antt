use Rattle.std.proofs.Common.{sym, subst}
use Rattle.povundiri_c.specs.declared.owned_segment.JoinOrLend.{JoinOrLend}
use Rattle.povundiri_c.specs.Joins.{JoinsOrLends}
use Rattle.povundiri_c.proofs.owned_segment.OwnedSegment.serve.Goals as goal

pub returns-in-Join : goal.returns-in-Join
returns-in-Join c =
    subst (λ (request : JoinOrLend). JoinsOrLends request c.args.joinable c.args.self.now c.join.result.0 c.join.result.1 c.join.new.self) (sym c.in-Join.is) c.join.ensures

pub returns-in-Lend : goal.returns-in-Lend
returns-in-Lend c =
    subst (λ (request : JoinOrLend). JoinsOrLends request c.args.joinable c.args.self.now c.lend.result.0 c.lend.result.1 c.lend.new.self) (sym c.in-Lend.is) c.lend.ensures
