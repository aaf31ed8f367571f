use Rattle.std.proofs.Common.{rules, ap, arith}
use Rattle.segment_image.specs.Shape.{Dimensions}
use Rattle.live_segment.specs.declared.rule.Setting.{Setting}
use Rattle.live_segment.proofs.lemmas.Steps.CursorSteps.{loads_cursor}
use Rattle.live_segment.proofs.lemmas.Steps.Reported.{stepped}
use Rattle.live_segment.proofs.segment.Segment.load_cursor.Goals as goal

pub load-requires : goal.load-requires
load-requires c = (
  search rules,
  search rules,
  loads_cursor c.args.self.now.table.shared.key _ _ _ _ c.requires.may.recorder c.args.cursor
      (let e = ap (λ (k : Setting). k.shape.size) c.args.self.now.keyed in omega (arith, c.size-size.ensures.value))
      (λ y same. let e = ap (λ (s : Dimensions). s.size) c.requires.shape in omega (arith, c.size-size.ensures.value)) c.requires.may.ready,
)

pub returns : goal.returns
returns c =
    let (step, counts) = c.load.ensures.2 in
    let told = step c.args.cursor (let e = ap (λ (s : Dimensions). s.size) c.requires.shape in omega (arith, c.size-size.ensures.value)) in
    record { step = stepped c.load.ensures.0 c.load.ensures.1 told; counts = counts }
