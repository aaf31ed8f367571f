use Rattle.std.proofs.Common.{ℕ, inr, arith, ap, sym, subst, ◌⊎◌, ◌∙◌, ◌≡◌, ◌≤◌, refl}
use Rattle.std.specs.Arc.{arc_value}
use Rattle.std.specs.declared.alloc.Global.{Global}
use Rattle.std.specs.declared.sync.Arc.{Arc}
use Rattle.live_segment.specs.Holders.{view_of_opener}
use Rattle.live_segment.specs.declared.opener.Opener.{Opener}
use Rattle.povundiri_c.specs.declared.mailbox.Mailbox.{Mailbox}
use Rattle.povundiri_c.specs.Joins.{IsLendDone}
use Rattle.povundiri_c.specs.Mailbox.{BelongsTo}
use Rattle.povundiri_c.proofs.Joining.{lent_since, not_passed, passed}
use Rattle.povundiri_c.proofs.owned_segment.OwnedSegment.lend.Goals as goal

abbrev Refuses : ℕ → Type 0
Refuses status = (status ≡ 13) ⊎ (status ≡ 15)

pub lend_found-requires-clause-own : goal.lend_found-requires-clause-own
lend_found-requires-clause-own c =
    subst (λ (mailbox : Arc Mailbox Global). BelongsTo c.in-Ok-find.found (arc_value mailbox).table.shared.key) (sym c.in-Ok-find.ensures.0.1) c.in-Ok-find.ensures.1

pub lend_found-requires-clause-mailbox : goal.lend_found-requires-clause-mailbox
lend_found-requires-clause-mailbox c = c.in-Ok.ensures ∙ ap arc_value (sym c.in-Ok-find.ensures.0.1)

pub lend_found-requires-clause-enough : goal.lend_found-requires-clause-enough
lend_found-requires-clause-enough c =
    subst (λ (opener : Opener). c.args.units ≤ (view_of_opener opener).units.share) (sym c.in-Ok-find.ensures.0.3) (omega arith)

pub returns-in-Ok-find : goal.returns-in-Ok-find
returns-in-Ok-find c = inr (
  omega arith,
  passed (IsLendDone c.args.units) Refuses c.args.joinable c.args.self.now _ _ c.lend_found.new.self c.in-Ok-find.found c.find.new.self c.in-Ok-find.ensures
      c.lend_found.ensures.gone
      (lent_since c.args.units c.in-Ok-find.found c.args.self.now c.find.new.self c.lend_found.new.self _ _ c.in-Ok-find.ensures.0 c.lend_found.ensures.lends),
)

pub returns-in-Err : goal.returns-in-Err
returns-in-Err c = inr (omega arith, not_passed (IsLendDone c.args.units) Refuses c.args.joinable c.args.self.now _ _ c.find.new.self (inr refl) c.in-Err.ensures)
