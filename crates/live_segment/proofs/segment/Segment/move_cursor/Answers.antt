use Rattle.std.proofs.Common.{rules, ap, arith}
use Rattle.segment_image.specs.Shape.{Dimensions}
use Rattle.live_segment.specs.declared.rule.Setting.{Setting}
use Rattle.live_segment.proofs.lemmas.Steps.CursorSteps.{moves_cursor}
use Rattle.live_segment.proofs.lemmas.Steps.Reported.{stepped}
use Rattle.live_segment.proofs.segment.Segment.move_cursor.Goals as goal

pub compare_exchange-requires : goal.compare_exchange-requires
compare_exchange-requires c = (
  search rules,
  search rules,
  moves_cursor c.args.self.now.table.shared.key _ _ _ _ c.requires.may.recorder c.args.old c.args.new c.args.cursor
      (let e = ap (λ (k : Setting). k.shape.size) c.args.self.now.keyed in omega (arith, c.size-size.ensures.value))
      (λ y same. let e = ap (λ (s : Dimensions). s.size) c.requires.shape in omega (arith, c.size-size.ensures.value)) c.requires.may.ready,
)

pub returns : goal.returns
returns c =
    let (step, order) = c.compare_exchange.ensures.2 in
    let told = step c.args.cursor (let e = ap (λ (s : Dimensions). s.size) c.requires.shape in omega (arith, c.size-size.ensures.value)) in
    record { step = stepped c.compare_exchange.ensures.0 c.compare_exchange.ensures.1 told; order = order c.args.cursor c.requires.may.ready }
