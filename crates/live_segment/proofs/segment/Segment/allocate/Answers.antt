use Rattle.std.proofs.Common.{◌∙◌, rules, arith, sym, ap}
use Rattle.segment_machine.specs.declared.place.Place.{Place}
use Rattle.segment_machine.specs.Actor.{is_bound}
use Rattle.live_segment.specs.Alloc.Allocation.{saw_free}
use Rattle.live_segment.proofs.lemmas.Add.Refusing.{clear}
use Rattle.live_segment.proofs.lemmas.Alloc.Tries.{loaded, may_claim, may_fill, may_waste, has_enough, is_short, wastes_more, claims, warned}
use Rattle.live_segment.proofs.segment.Segment.allocate.Goals as goal

pub claim-requires-clause-may : goal.claim-requires-clause-may
claim-requires-clause-may c =
    let was = c.loop-size.invariant in let asked = c.requires.seat in
    let has = loaded c.args.self.now c.args.seat.now _ _ _ _ _ asked.table asked.of was.same was.view was.behind c.if-load_flags-ne0.false (clear _ _ _ c.load_flags.ensures c.if-load_flags-ne0.false) c.load_free-free.ensures in
    may_claim _ _ _ c.args.size _ _ has asked.of asked.recorder c.requires.size.0 c.requires.size.1 c.in-Claim.size c.in-Claim.next (sym c.in-Claim.is ∙ c.plan.ensures)

pub claim-requires-clause-enough : goal.claim-requires-clause-enough
claim-requires-clause-enough c =
    let was = c.loop-size.invariant in let asked = c.requires.seat in
    let has = loaded c.args.self.now c.args.seat.now _ _ _ _ _ asked.table asked.of was.same was.view was.behind c.if-load_flags-ne0.false (clear _ _ _ c.load_flags.ensures c.if-load_flags-ne0.false) c.load_free-free.ensures in
    has_enough _ _ _ c.args.size _ _ has asked.of asked.recorder c.requires.size.0 c.requires.size.1 c.in-Claim.size c.in-Claim.next (sym c.in-Claim.is ∙ c.plan.ensures)

pub returns-then-claim-clause-outcome : goal.returns-then-claim-clause-outcome
returns-then-claim-clause-outcome c =
    let was = c.loop-size.invariant in let asked = c.requires.seat in
    let has = loaded c.args.self.now c.args.seat.now _ _ _ _ _ asked.table asked.of was.same was.view was.behind c.if-load_flags-ne0.false (clear _ _ _ c.load_flags.ensures c.if-load_flags-ne0.false) c.load_free-free.ensures in
    let (view, behind, enough, few, place, raises) = claims _ _ _ c.args.size _ _ has asked.of asked.recorder c.requires.size.0 c.requires.size.1 c.in-Claim.size c.in-Claim.next
    c.args.tag _ (sym c.in-Claim.is ∙ c.plan.ensures) (c.claim.ensures.done c.if-claim.true) was.wastes in
    (c.in-Claim.next, view, behind, enough, few, place, raises)

pub waste-requires-clause-may : goal.waste-requires-clause-may
waste-requires-clause-may c =
    let was = c.loop-size.invariant in let asked = c.requires.seat in
    let has = loaded c.args.self.now c.args.seat.now _ _ _ _ _ asked.table asked.of was.same was.view was.behind c.if-load_flags-ne0.false (clear _ _ _ c.load_flags.ensures c.if-load_flags-ne0.false) c.load_free-free.ensures in
    may_waste _ _ _ c.args.size _ _ has asked.of asked.recorder c.requires.size.0 c.requires.size.1 c.in-Waste.room (sym c.in-Waste.is ∙ c.plan.ensures)

pub waste-requires-clause-short : goal.waste-requires-clause-short
waste-requires-clause-short c =
    let was = c.loop-size.invariant in let asked = c.requires.seat in
    let has = loaded c.args.self.now c.args.seat.now _ _ _ _ _ asked.table asked.of was.same was.view was.behind c.if-load_flags-ne0.false (clear _ _ _ c.load_flags.ensures c.if-load_flags-ne0.false) c.load_free-free.ensures in
    is_short _ _ _ c.args.size _ _ has asked.of asked.recorder c.requires.size.0 c.requires.size.1 c.in-Waste.room (sym c.in-Waste.is ∙ c.plan.ensures)

pub set_full-requires-clause-may : goal.set_full-requires-clause-may
set_full-requires-clause-may c =
    let was = c.loop-size.invariant in let asked = c.requires.seat in
    let has = loaded c.args.self.now c.args.seat.now _ _ _ _ _ asked.table asked.of was.same was.view was.behind c.if-load_flags-ne0.false (clear _ _ _ c.load_flags.ensures c.if-load_flags-ne0.false) c.load_free-free.ensures in
    (c.args.size, may_fill _ _ _ c.args.size _ _ has asked.of asked.recorder c.requires.size.0 c.requires.size.1 (sym c.in-Full.is ∙ c.plan.ensures))

pub returns-then-load_flags-ne0-clause-outcome : goal.returns-then-load_flags-ne0-clause-outcome
returns-then-load_flags-ne0-clause-outcome c =
    let was = c.loop-size.invariant in
    warned c.args.size c.args.tag c.load_flags.result c.args.seat.now.me.0 c.loop-size.seat.me.0 c.load_flags.new.seat.me.0 was.view was.behind c.if-load_flags-ne0.true
    c.load_flags.ensures.view was.wastes

pub loop-size-preserved : goal.loop-size-preserved
loop-size-preserved c =
    let was = c.loop-size.invariant in let asked = c.requires.seat in
    let has = loaded c.args.self.now c.args.seat.now _ _ _ _ _ asked.table asked.of was.same was.view was.behind c.if-load_flags-ne0.false (clear _ _ _ c.load_flags.ensures c.if-load_flags-ne0.false) c.load_free-free.ensures in
    let (view, wastes, further, within, idle) = wastes_more _ _ _ c.args.size _ _ has asked.of asked.recorder c.requires.size.0 c.requires.size.1 c.in-Waste.room
    (sym c.in-Waste.is ∙ c.plan.ensures) c.waste.new.seat.me.0 c.waste.ensures.outcome was.wastes in
    let behind = has.behind in record {
      same = search rules;
      view = view ∙ ap (λ (p : Place). saw_free c.args.seat.now.me.0 p c.waste.new.seat.me.0.seen.free c.waste.new.seat.me.0.done.raised) (sym idle);
      wastes = wastes;
      behind = omega (arith, behind, further);
      free = ap is_bound idle;
    }
