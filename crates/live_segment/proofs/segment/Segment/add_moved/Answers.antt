use Rattle.std.proofs.Common.{ℕ, rules, subst, arith}
use Rattle.segment_machine.specs.Event.{packing_event}
use Rattle.segment_machine.specs.Packing.{add_moved}
use Rattle.live_segment.specs.Steps.{Does}
use Rattle.live_segment.proofs.lemmas.Steps.GhostNoted.{moves}
use Rattle.live_segment.proofs.lemmas.Steps.Reported.{stepped}
use Rattle.live_segment.proofs.segment.Segment.add_moved.Goals as goal

pub fetch_add-requires : goal.fetch_add-requires
fetch_add-requires c = (
  search rules,
  search rules,
  moves c.args.self.now.table.shared.key _ _ _ _ c.requires.may.recorder c.args.counts c.args.bucket c.args.units (omega arith) c.requires.may.ready,
)

pub returns : goal.returns
returns c =
    let (look, stands, from) = c.requires.may.ready in
    stepped c.fetch_add.ensures.0 c.fetch_add.ensures.1
    (subst (λ (counts : ℕ). Does (packing_event (add_moved counts c.args.bucket c.args.units)) c.args.seat.now.me c.fetch_add.result c.fetch_add.new.seat.me) from
    (c.fetch_add.ensures.2 look c.args.bucket c.args.units stands))
