use Rattle.std.proofs.Common.{◌≡◌, ℕ, ◌+◌, ℤ, [], ◌∷◌, rules, ap, sym, ◌∙◌, subst, w64, arith}
use Rattle.std.specs.Int.{cast_signed, cast_unsigned}
use Rattle.std.proofs.lemmas.Int.{to_z-of_z}
use Rattle.atomic_table.specs.Table.{Allows}
use Rattle.segment_machine.specs.Event.{taking_event}
use Rattle.segment_machine.specs.Taking.{swap_sum_mark}
use Rattle.segment_machine.specs.Note.{has_taken}
use Rattle.live_segment.specs.Rule.{Runs}
use Rattle.live_segment.specs.Steps.Taking.{EndsDelta}
use Rattle.live_segment.specs.Steps.GhostNotes.{MayDo, Noted}
use Rattle.live_segment.proofs.lemmas.Steps.GhostNoted.{tells}
use Rattle.live_segment.proofs.lemmas.Steps.Reported.{noted}
use Rattle.live_segment.proofs.segment.Segment.swap_sum_mark.Goals as goal

pub swap-requires : goal.swap-requires
swap-requires c =
    let given = c.args.self.now.table.shared.key in
    let word : ℕ = 1 + c.args.histogram + 12 in
    let number : ℕ = c.cast_unsigned.result in
    let whole : cast_signed w64 (cast_unsigned w64 c.args.sum) ≡ c.args.sum = to_z-of_z w64 c.args.sum c.ranges.sum in
    let is : cast_signed w64 number ≡ c.args.sum =
    ap (cast_signed w64) c.cast_unsigned.ensures ∙ (ap (λ (s : ℤ). cast_signed w64 (cast_unsigned w64 s)) whole ∙ whole) in
    let again : cast_unsigned w64 (cast_signed w64 number) ≡ number = ap (cast_unsigned w64) (is ∙ sym whole) ∙ sym c.cast_unsigned.ensures in
    let may : MayDo c.args.seat.now [] (taking_event (swap_sum_mark c.args.histogram (cast_signed w64 number))) (has_taken ∷ []) =
    subst (λ (s : ℤ). MayDo c.args.seat.now [] (taking_event (swap_sum_mark c.args.histogram s)) (has_taken ∷ [])) (sym is) c.requires.may in (
      search rules,
      search rules,
      subst (λ (k : ℕ). Allows (Runs given) c.args.self.now.table.shared.table_id.slots c.args.seat.now.id c.args.seat.now.me word (λ n. k)
          (EndsDelta word number c.args.seat.now.me)) again
          (tells given _ _ c.args.seat.now.me word may.recorder ℕ (λ (y : ℕ). word ≡ y + 12 + 1) (λ (y : ℕ). [])
          (λ (y : ℕ). taking_event (swap_sum_mark y (cast_signed w64 number))) (has_taken ∷ []) c.args.histogram (λ y e. omega arith) (omega arith)
          may.may may.ready may.goes),
    )

pub returns : goal.returns
returns c =
    let whole : cast_signed w64 (cast_unsigned w64 c.args.sum) ≡ c.args.sum = to_z-of_z w64 c.args.sum c.ranges.sum in
    let is : cast_signed w64 c.cast_unsigned.result ≡ c.args.sum =
    ap (cast_signed w64) c.cast_unsigned.ensures ∙ (ap (λ (s : ℤ). cast_signed w64 (cast_unsigned w64 s)) whole ∙ whole) in
    subst (λ (s : ℤ). Noted c.args.seat.now [] (taking_event (swap_sum_mark c.args.histogram s)) (has_taken ∷ []) c.swap.result c.swap.new.seat) is
    (noted c.swap.ensures.0 c.swap.ensures.1 (c.swap.ensures.2 c.args.histogram (omega arith)))
