use Rattle.std.proofs.Common.{rules, ℕ, List, ◌∷◌, Option, ap, ◌∙◌, refl}
use Rattle.atomic_table.specs.Table.{Me, rest}
use Rattle.owned_recorder.specs.declared.owned.OwnedRecorder.{OwnedRecorder}
use Rattle.povundiri_c.specs.Mailbox.{View}
use Rattle.povundiri_c.proofs.Mailboxes.{reaches, replaced, places}
use Rattle.povundiri_c.proofs.mailbox.Mailbox.replace.Goals as goal

pub compare_exchange-seen-requires : goal.compare_exchange-seen-requires
compare_exchange-seen-requires c =
    (search rules, search rules, reaches c.args.self.now.table.shared.key _ _ c.args.number c.args.seat.now.me c.requires.number.0 c.requires.seat.1 c.requires.may)

pub returns-then-seen-number : goal.returns-then-seen-number
returns-then-seen-number c =
    let it = c.compare_exchange-seen.ensures in
    (refl, it.0, it.1, it.2.2 c.if-seen-number.true, (c.compare_exchange-seen.result, c.if-seen-number.true, it.2.0))

pub store-requires : goal.store-requires
store-requires c = let taken = c.compare_exchange-seen.ensures.2.1 c.if-seen-number.false in (
  search rules,
  search rules,
  places c.args.self.now.table.shared.key _ _ c.args.number _ c.args.recorder c.requires.number.0
      (ap (λ (me : Me (Option OwnedRecorder) View). me.0.2) c.exchange-found.ensures.3 ∙ ap (λ (view : View). view.2) taken.1)
      (ap (λ (me : Me (Option OwnedRecorder) View). me.0.3) c.exchange-found.ensures.3 ∙ ap (λ (view : View). view.3) taken.1)
      (ap (λ (me : Me (Option OwnedRecorder) View). me.1) c.exchange-found.ensures.3 ∙ ap (λ (held : List (ℕ × Option OwnedRecorder)). (0, c.args.recorder) ∷ rest held) taken.2)
      c.requires.passed c.requires.right,
)

pub returns : goal.returns
returns c =
    let it = c.compare_exchange-seen.ensures in
    let out = c.exchange-found.ensures in
    let put = c.store.ensures in
    replaced c.args.number c.compare_exchange-seen.result c.args.recorder c.exchange-found.result c.args.seat.now c.compare_exchange-seen.new.seat c.exchange-found.new.seat c.store.new.seat
    c.if-seen-number.false it.0 it.2 out.0 out.2 out.3 put.0 put.2
