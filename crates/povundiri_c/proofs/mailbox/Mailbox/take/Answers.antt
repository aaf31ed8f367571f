use Rattle.std.proofs.Common.{rules, ◌%◌, ℕ, Option, subst, ap, sym, ◌∙◌, arith}
use Rattle.atomic_table.specs.Table.{Me}
use Rattle.owned_recorder.specs.declared.owned.OwnedRecorder.{OwnedRecorder}
use Rattle.povundiri_c.specs.declared.seat_state.SeatState.{SeatState}
use Rattle.povundiri_c.specs.Mailbox.{MayReachInto, MayTake, View}
use Rattle.povundiri_c.proofs.Passing.{laid_at, may_reach, missed_keeper, took_it}
use Rattle.povundiri_c.proofs.Mailboxes.{same_seat, sees}
use Rattle.povundiri_c.proofs.mailbox.Mailbox.take.Goals.{then-number-ne2-via-then-number-ne2, then-number-ne2-via-else-number-ne2+then-number}
use Rattle.povundiri_c.proofs.mailbox.Mailbox.take.Goals as goal

pub load-number-requires : goal.load-number-requires
load-number-requires c = (search rules, search rules, sees c.args.self.now.table.shared.key _ _ _)

pub returns-then-number-ne2 : goal.returns-then-number-ne2
returns-then-number-ne2 c =
    let it = c.load-number.ensures in (
      same_seat c.load-number.new.seat c.args.keeper.now it.0 it.1 it.2.0,
      λ number recorder laid.
          let low = subst (λ (x : ℕ × SeatState). MayTake x.0 x.1) (λ i. (laid.0 i, laid.1 i)) c.requires.may in
          let at = laid_at c.load-number.result number c.args.keeper.now.me.0 recorder laid c.requires.keeper.2 it.2.1 in
          absurd (elim c.then-number-ne2.branch [
            | then-number-ne2-via-then-number-ne2 w ↦ w.if-number-ne2.true (ap (λ n. n % 4) at ∙ low.0)
            | then-number-ne2-via-else-number-ne2+then-number w ↦ omega (arith, w.if-number.true, low.1, at)
          ]),
    )

pub replace-requires-clause-may : goal.replace-requires-clause-may
replace-requires-clause-may c =
    let it = c.load-number.ensures in
    subst (λ (me : Me (Option OwnedRecorder) View). MayReachInto c.load-number.result me.0) (sym it.2.0)
    (may_reach c.load-number.result c.args.keeper.now.me.0.1 c.args.keeper.now.me.0.2 c.args.keeper.now.me.0.3 c.requires.may c.requires.keeper.2 it.2.1)

pub returns-in-Ok : goal.returns-in-Ok
returns-in-Ok c =
    let it = c.load-number.ensures in
    took_it c.load-number.result c.in-Ok.found c.args.keeper.now c.load-number.new.seat c.replace.new.seat c.requires.keeper.2 c.if-number-ne2.false it.0 it.1 it.2.0 it.2.1 c.in-Ok.ensures

pub returns : goal.returns
returns c =
    let it = c.load-number.ensures in
    missed_keeper c.load-number.result c.in-Err.field-0 c.args.keeper.now c.load-number.new.seat c.replace.new.seat c.requires.keeper.2 c.requires.may it.0 it.1 it.2.0 it.2.1 c.in-Err.ensures
