use Rattle.std.proofs.Common.{◌≡◌, sym, subst, ap, ◌∙◌, refl}
use Rattle.std.specs.Arc.{arc_value}
use Rattle.live_segment.specs.declared.segment.Segment.{Segment}
use Rattle.owned_recorder.specs.declared.owned.OwnedRecorder.{OwnedRecorder}
use Rattle.live_segment.specs.Opener.{IsNewcomer}
use Rattle.owned_recorder.specs.Holders.{RecordsInto}
use Rattle.povundiri_c.specs.declared.mailbox.Mailbox.{Mailbox}
use Rattle.povundiri_c.specs.Joins.{fault_of_recorder}
use Rattle.povundiri_c.specs.Mailbox.{BelongsTo}
use Rattle.povundiri_c.proofs.Holding.{of_mailbox, unrefused}
use Rattle.povundiri_c.proofs.owned_segment.OwnedSegment.recorder.Goals as goal

pub invariant_of-result-clause-fits : goal.invariant_of-result-clause-fits
invariant_of-result-clause-fits c =
    let same = (unrefused (fault_of_recorder c.args.self.now c.args.units) c.owned_recorder.result c.in-Ok-owned_recorder.owned
    (λ (owned : OwnedRecorder). (owned.segment ≡ c.in-Ok.segment) × IsNewcomer c.args.units c.args.self.now.opener owned.state)
    c.owned_recorder.ensures.theirs c.in-Ok-owned_recorder.is).1.0 in
    subst (λ (mailbox : Mailbox). BelongsTo c.in-Ok-owned_recorder.owned mailbox.table.shared.key) (sym c.in-Ok-try_clone.ensures)
    (of_mailbox (arc_value c.args.self.now.segment) (arc_value c.args.self.now.mailbox).table.shared.key c.in-Ok-owned_recorder.owned c.args.self.now.first
    (ap arc_value same ∙ c.in-Ok.ensures)
    (subst (λ (segment : Segment). RecordsInto segment c.in-Ok-owned_recorder.owned) c.in-Ok.ensures c.in-Ok-owned_recorder.ensures.into))

pub returns-in-Ok-owned_recorder : goal.returns-in-Ok-owned_recorder
returns-in-Ok-owned_recorder c =
    let own = unrefused (fault_of_recorder c.args.self.now c.args.units) c.owned_recorder.result c.in-Ok-owned_recorder.owned
    (λ (owned : OwnedRecorder). (owned.segment ≡ c.in-Ok.segment) × IsNewcomer c.args.units c.args.self.now.opener owned.state)
    c.owned_recorder.ensures.theirs c.in-Ok-owned_recorder.is in (
      own.0,
      (refl, refl, refl, c.in-Ok-owned_recorder.ensures.mine.0),
      c.in-Ok-owned_recorder.ensures.into ∙ sym c.in-Ok-owned_recorder.ensures.made.table,
      c.in-Ok-try_clone.ensures,
      c.in-Ok-owned_recorder.ensures.mine.1,
      own.1.1.0,
      own.1.1.1,
    )
