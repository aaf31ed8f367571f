use Rattle.std.proofs.Common.{◌≡◌, ℕ, ◌+◌, ◌==◌, rules, sym, ap, ◌∙◌, subst, arith}
use prog.Atomic.{either}
use Rattle.atomic_table.specs.Table.{Allows}
use Rattle.segment_machine.specs.Event.{packing_event}
use Rattle.segment_machine.specs.Form.{off_word}
use Rattle.segment_machine.specs.Packing.{disable}
use Rattle.live_segment.specs.declared.rule.Setting.{Setting}
use Rattle.live_segment.specs.Rule.{Runs}
use Rattle.live_segment.specs.Steps.{DoesAt}
use Rattle.live_segment.proofs.lemmas.Steps.Allowed.{does_at}
use Rattle.live_segment.proofs.lemmas.Steps.Reported.{stepped}
use Rattle.live_segment.proofs.segment.Segment.disable.Goals as goal

pub compare_exchange-requires : goal.compare_exchange-requires
compare_exchange-requires c =
    let given = c.args.self.now.table.shared.key in
    let word : ℕ = 1 + c.args.histogram + 9 in
    let off : c.args.off ≡ off_word given.setting.version c.args.old =
    c.requires.off ∙ ap (λ (s : Setting). off_word s.version c.args.old) (sym c.args.self.now.keyed) in (
      search rules,
      search rules,
      subst (λ (off : ℕ). Allows (Runs given) c.args.self.now.table.shared.table_id.slots c.args.seat.now.id c.args.seat.now.me word (λ n. either (n == c.args.old) off n)
          (DoesAt (λ (x : ℕ). packing_event (disable x c.args.old)) word c.args.seat.now.me)) (sym off)
          (does_at given _ _ _ word c.requires.may.recorder (λ (x : ℕ). packing_event (disable x c.args.old)) c.args.histogram (omega arith) (λ y e. omega arith) c.requires.may.ready),
    )

pub returns : goal.returns
returns c = stepped c.compare_exchange.ensures.0 c.compare_exchange.ensures.1 (c.compare_exchange.ensures.2 c.args.histogram (omega arith))
