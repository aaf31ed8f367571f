use Rattle.std.proofs.Common.{◌≡◌, refl, arith, sym, subst, ◌∙◌, ◌+◌}
use Rattle.live_segment.specs.Steps.{Pass, IsSame}
use Rattle.live_segment.proofs.lemmas.List.Showing.{same_on}
use Rattle.live_segment.proofs.lemmas.List.Filled.{IsFilledTo, begins, may_store, stores, skips, filled}
use Rattle.live_segment.proofs.segment.Segment.fill.Goals as goal
use Rattle.live_segment.proofs.segment.Segment.fill.Goals.{then-word-ne0, else-word-ne0}

pub loop-i-init : goal.loop-i-init
loop-i-init c = record { same = (refl, refl, refl); filled = begins c.args.at _ c.args.seat.now.me.0 c.requires.block c.args.payload.now }

pub store_payload-requires-clause-may : goal.store_payload-requires-clause-may
store_payload-requires-clause-may c =
    let was = c.loop-i.invariant in
    may_store c.args.at _ c.args.seat.now.me.0 c.requires.block c.args.self.now c.args.seat.now c.loop-i.seat refl c.args.payload.now c.loop-i.i was.filled
    (was.same.0 ∙ c.requires.seat.0) c.requires.seat.1 (omega (arith, c.loop-i-test.true, c.loop-i.auto.i-end)) (omega arith) _

pub loop-i-preserved : goal.loop-i-preserved
loop-i-preserved c =
    let was = c.loop-i.invariant in
    elim c.if-word-ne0.branch [
      | then-word-ne0 w ↦
          record {
            same = subst (λ (s : Pass). IsSame c.args.seat.now s) (sym w.seat-is) (same_on c.args.seat.now c.loop-i.seat w.store_payload.new.seat was.same w.store_payload.ensures.stepped.same);
            filled = subst (λ (s : Pass). IsFilledTo c.args.at c.args.payload.now c.args.seat.now.me.0 s.me.0 (c.loop-i.i + 1)) (sym w.seat-is)
                (stores c.args.at _ c.args.seat.now.me.0 c.requires.block c.args.self.now c.args.seat.now c.loop-i.seat refl c.args.payload.now c.loop-i.i was.filled
                (was.same.0 ∙ c.requires.seat.0) c.requires.seat.1 (omega (arith, c.loop-i-test.true)) (omega arith)
                w.store_payload.new.seat w.store_payload.ensures.stepped w.store_payload.ensures.apart);
          }
      | else-word-ne0 w ↦
          record {
            same = subst (λ (s : Pass). IsSame c.args.seat.now s) (sym w.seat-is) was.same;
            filled = subst (λ (s : Pass). IsFilledTo c.args.at c.args.payload.now c.args.seat.now.me.0 s.me.0 (c.loop-i.i + 1)) (sym w.seat-is)
                (skips c.args.at _ c.args.seat.now.me.0 c.requires.block c.args.payload.now c.loop-i.seat.me.0 c.loop-i.i was.filled
                (omega (arith, c.loop-i-test.true)) w.if-word-ne0.false);
          }
    ]

pub returns-clause-filled : goal.returns-clause-filled
returns-clause-filled c =
    let was = c.loop-i.invariant in
    let ended : c.loop-i.i ≡ _ = omega (arith, c.loop-i-test.false, c.loop-i.auto.i-end) in
    filled c.args.at _ c.args.seat.now.me.0 c.requires.block c.args.payload.now c.loop-i.seat.me.0
    (subst (IsFilledTo c.args.at c.args.payload.now c.args.seat.now.me.0 c.loop-i.seat.me.0) ended was.filled) c.requires.last
