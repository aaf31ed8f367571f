use Rattle.std.proofs.Common.{rules, ℕ, sym, ap, subst, ◌∙◌, arith}
use Rattle.live_segment.specs.declared.rule.Setting.{Setting}
use Rattle.live_segment.specs.Holders.{opened_with}
use Rattle.live_segment.specs.Standing.{SeesNext}
use Rattle.live_segment.proofs.lemmas.List.Walked.{loads_next}
use Rattle.live_segment.proofs.lemmas.Steps.Reported.{stepped}
use Rattle.live_segment.proofs.segment.Segment.load_next_as.Goals as goal

pub load-requires : goal.load-requires
load-requires g c =
    let room = c.requires.room in
    let sized = ap (λ (k : Setting). k.shape.size) c.args.self.now.keyed in (
      search rules,
      search rules,
      loads_next c.args.self.now.table.shared.key _ _ _ _ c.requires.may.recorder _ _ c.args.at c.requires.stance.0 c.requires.stance.1 (omega arith)
          (omega (arith, room, sized)) c.requires.may.ready,
    )

pub returns-clause-step : goal.returns-clause-step
returns-clause-step g c = stepped c.load.ensures.0 c.load.ensures.1 (c.load.ensures.2.0 c.args.at (omega arith))

pub returns-clause-once : goal.returns-clause-once
returns-clause-once g c = c.load.ensures.2.1

pub returns-clause-own : goal.returns-clause-own
returns-clause-own g c = c.load.ensures.2.2

pub returns-clause-samples : goal.returns-clause-samples
returns-clause-samples g c = c.load.ensures.2.3

pub returns-clause-sees : goal.returns-clause-sees
returns-clause-sees g c =
    subst (λ (n : ℕ). SeesNext (opened_with c.args.self.now) n c.args.at c.load.result c.load.new.seat.me.0) (c.requires.stance.1 ∙ sym c.load.ensures.1)
    (c.load.ensures.2.4 (opened_with c.args.self.now) c.args.at c.requires.stance.0 (omega arith))
