use Rattle.std.proofs.Common.{◌≡◌, refl, subst, sym}
use Rattle.std.specs.Arc.{arc_value}
use Rattle.std.specs.declared.alloc.Global.{Global}
use Rattle.std.specs.declared.sync.Arc.{Arc}
use Rattle.povundiri_c.specs.declared.mailbox.Mailbox.{Mailbox}
use Rattle.povundiri_c.specs.Joins.{IsJoinDone}
use Rattle.povundiri_c.specs.Mailbox.{BelongsTo}
use Rattle.povundiri_c.proofs.Joining.{joined_since, not_passed, passed}
use Rattle.povundiri_c.proofs.owned_segment.OwnedSegment.join.Goals as goal

pub join_met-requires : goal.join_met-requires
join_met-requires c =
    subst (λ (mailbox : Arc Mailbox Global). BelongsTo c.in-Ok.found (arc_value mailbox).table.shared.key) (sym c.in-Ok.ensures.0.1) c.in-Ok.ensures.1

pub returns-in-Ok : goal.returns-in-Ok
returns-in-Ok c =
    passed IsJoinDone (λ status. status ≡ 15) c.args.joinable c.args.self.now 0 _ c.join_met.new.self c.in-Ok.found c.find.new.self c.in-Ok.ensures
    c.join_met.ensures.gone
    (refl, refl, joined_since c.in-Ok.found c.args.self.now c.find.new.self c.join_met.new.self c.in-Ok.ensures.0 c.join_met.ensures.met)

pub returns-in-Err : goal.returns-in-Err
returns-in-Err c = not_passed IsJoinDone (λ status. status ≡ 15) c.args.joinable c.args.self.now _ _ c.find.new.self refl c.in-Err.ensures
