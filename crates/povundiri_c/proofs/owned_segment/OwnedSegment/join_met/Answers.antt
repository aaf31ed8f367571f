use Rattle.std.proofs.Common.{refl, subst, Option}
use Rattle.std.specs.Arc.{arc_value}
use Rattle.owned_recorder.specs.declared.owned.OwnedRecorder.{OwnedRecorder}
use Rattle.povundiri_c.specs.Mailbox.{IsOfOpener}
use Rattle.povundiri_c.proofs.Holding.{of_opener}
use Rattle.povundiri_c.proofs.Joining.{matched}
use Rattle.povundiri_c.proofs.owned_segment.OwnedSegment.join_met.Goals as goal

pub join-requires : goal.join-requires
join-requires c =
    let key = (arc_value c.args.self.now.mailbox).table.shared.key in
    of_opener (arc_value c.args.self.now.segment) key c.args.self.now.opener c.in-Some.owned c.args.self.now.first c.args.self.now.made
    (subst (λ (met : Option OwnedRecorder). IsOfOpener key met) c.in-Some.is c.requires)

pub returns-clause-met : goal.returns-clause-met
returns-clause-met c =
    let key = (arc_value c.args.self.now.mailbox).table.shared.key in
    matched _ _ c.args.met c.in-Some.owned c.in-Some.is (
      (refl, refl, refl, c.join.ensures.takes.0),
      of_opener (arc_value c.args.self.now.segment) key c.args.self.now.opener c.in-Some.owned c.args.self.now.first c.args.self.now.made
          (subst (λ (met : Option OwnedRecorder). IsOfOpener key met) c.in-Some.is c.requires),
      c.join.ensures.takes.1,
    )
