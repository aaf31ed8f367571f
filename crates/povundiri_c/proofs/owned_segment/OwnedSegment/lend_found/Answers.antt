use Rattle.std.proofs.Common.{◌≡◌, refl, sym, subst}
use Rattle.std.specs.Arc.{arc_value}
use Rattle.povundiri_c.specs.declared.mailbox.Mailbox.{Mailbox}
use Rattle.povundiri_c.specs.Mailbox.{BelongsTo, cursors_of}
use Rattle.povundiri_c.proofs.Holding.{belongs_still, lent, of_opener}
use Rattle.povundiri_c.proofs.owned_segment.OwnedSegment.lend_found.Goals as goal

pub lend-requires : goal.lend-requires
lend-requires c =
    let key = (arc_value c.args.self.now.mailbox).table.shared.key in
    of_opener (arc_value c.args.self.now.segment) key c.args.self.now.opener c.args.owned c.args.self.now.first c.args.self.now.made c.requires.own

pub invariant_of-self-clause-made : goal.invariant_of-self-clause-made
invariant_of-self-clause-made c = c.lend.ensures.made (arc_value c.args.self.now.segment) c.args.self.now.made

pub invariant_of-joinable : goal.invariant_of-joinable
invariant_of-joinable c =
    let key = (arc_value c.args.self.now.mailbox).table.shared.key in
    let theirs = (lent c.args.units c.lend.result c.args.self.now.opener c.lend.new.opener c.args.owned c.lend.new.owned c.lend.ensures.why c.requires.enough
    c.lend.ensures.mine c.lend.ensures.theirs).1 in
    let of = belongs_still key c.args.owned c.lend.new.owned c.lend.ensures.kept theirs.0 c.requires.own in
    record {
      fits = subst (λ (mailbox : Mailbox). BelongsTo c.lend.new.owned mailbox.table.shared.key) (sym c.requires.mailbox) of;
      counted = subst (λ (mailbox : Mailbox). c.args.self.now.cursors ≡ cursors_of mailbox.table.shared.key) (sym c.requires.mailbox) c.args.self.now.counted;
    }

pub returns-clause-lends : goal.returns-clause-lends
returns-clause-lends c =
    let key = (arc_value c.args.self.now.mailbox).table.shared.key in
    let (mine, theirs) = lent c.args.units c.lend.result c.args.self.now.opener c.lend.new.opener c.args.owned c.lend.new.owned c.lend.ensures.why c.requires.enough
    c.lend.ensures.mine c.lend.ensures.theirs in (
      refl,
      (
        _,
        refl,
        (
          (refl, refl, refl, mine.0),
          of_opener (arc_value c.args.self.now.segment) key c.args.self.now.opener c.args.owned c.args.self.now.first c.args.self.now.made c.requires.own,
          c.requires.mailbox,
          c.lend.ensures.kept,
          mine.1,
          theirs.1,
          theirs.0,
        ),
      ),
    )
