use Rattle.std.proofs.Common.{ℕ, ◌<◌, refl, sym, ap, subst, ◌∙◌, Some}
use Rattle.live_segment.specs.Holders.{opened_with}
use Rattle.live_segment.specs.List.SharedCursors.{AnswersNext}
use Rattle.live_segment.specs.Standing.{SeesNext}
use Rattle.live_segment.specs.Steps.{IsSame, Pass}
use Rattle.live_segment.proofs.lemmas.List.Fronts.{shares_none, shares_one}
use Rattle.live_segment.proofs.lemmas.List.Sharing.{late_not, may_load, shape_is, may_follow, room, same_still, new_shape, ended, may_move, same_last, given, later, falls, gives_none, gives_one, sighted}
use Rattle.live_segment.proofs.segment.Segment.next_shared.Goals as goal

pub loop-cursor-init : goal.loop-cursor-init
loop-cursor-init c = record { seated = c.requires.seat; few = c.requires.cursor; same = (refl, refl, refl); late = late_not c.args.cursor c.args.seat.now.me.0 c.requires.free }

pub load_cursor-at-requires-clause-may : goal.load_cursor-at-requires-clause-may
load_cursor-at-requires-clause-may c =
    may_load c.loop-cursor.invariant

pub load_cursor-at-requires-clause-shape : goal.load_cursor-at-requires-clause-shape
load_cursor-at-requires-clause-shape c =
    shape_is c.loop-cursor.invariant

pub load_next-next-requires-clause-may : goal.load_next-next-requires-clause-may
load_next-next-requires-clause-may c =
    may_follow c.loop-cursor.invariant _ _ c.load_cursor-at.ensures.step

pub load_next-next-requires-clause-room : goal.load_next-next-requires-clause-room
load_next-next-requires-clause-room c =
    room c.loop-cursor.invariant _ _ c.load_cursor-at.ensures.step

pub returns-then-next-eq-QUEUE-clause-same : goal.returns-then-next-eq-QUEUE-clause-same
returns-then-next-eq-QUEUE-clause-same c =
    same_still c.loop-cursor.invariant _ _ c.load_cursor-at.ensures.step _ _ c.load_next-next.ensures.step

pub returns-then-next-eq-QUEUE-clause-answer : goal.returns-then-next-eq-QUEUE-clause-answer
returns-then-next-eq-QUEUE-clause-answer c =
    ended c.loop-cursor.invariant _ _ c.load_cursor-at.ensures.step _ _ c.load_next-next.ensures.step c.if-next-eq-QUEUE.true

pub returns-then-next-eq-QUEUE-clause-given : goal.returns-then-next-eq-QUEUE-clause-given
returns-then-next-eq-QUEUE-clause-given c =
    gives_none _ _ _ (ended c.loop-cursor.invariant _ _ c.load_cursor-at.ensures.step _ _ c.load_next-next.ensures.step c.if-next-eq-QUEUE.true)

pub returns-then-next-eq-QUEUE-clause-shared : goal.returns-then-next-eq-QUEUE-clause-shared
returns-then-next-eq-QUEUE-clause-shared c =
    let given = opened_with c.args.self.now in
    let new = c.load_next-next.new.seat in
    shares_none given new.id new.me.0 c.args.cursor c.load_cursor-at.result c.args.seat.now.me.0
    (ended c.loop-cursor.invariant _ _ c.load_cursor-at.ensures.step _ _ c.load_next-next.ensures.step c.if-next-eq-QUEUE.true)
    (subst (λ (n : ℕ). c.args.cursor < n) (sym c.requires.seat.of.cursors) c.requires.cursor)
    (subst (λ (n : ℕ). SeesNext given new.id c.load_cursor-at.result n new.me.0) c.if-next-eq-QUEUE.true c.load_next-next.ensures.sees)
    (sighted c.loop-cursor.invariant _ _ c.load_cursor-at.ensures.step _ _ c.load_next-next.ensures.step)

pub move_cursor-requires-clause-may : goal.move_cursor-requires-clause-may
move_cursor-requires-clause-may c =
    may_move c.loop-cursor.invariant _ _ c.load_cursor-at.ensures.step _ _ c.load_next-next.ensures.step c.if-next-eq-QUEUE.false

pub move_cursor-requires-clause-shape : goal.move_cursor-requires-clause-shape
move_cursor-requires-clause-shape c =
    new_shape c.loop-cursor.invariant _ _ c.load_cursor-at.ensures.step _ _ c.load_next-next.ensures.step

pub returns-then-move_cursor-at-clause-same : goal.returns-then-move_cursor-at-clause-same
returns-then-move_cursor-at-clause-same c =
    subst (IsSame c.args.seat.now) (sym c.stand.ensures.same)
    (same_last c.loop-cursor.invariant _ _ c.load_cursor-at.ensures.step _ _ c.load_next-next.ensures.step c.if-next-eq-QUEUE.false _ _ c.move_cursor.ensures.step)

pub returns-then-move_cursor-at-clause-answer : goal.returns-then-move_cursor-at-clause-answer
returns-then-move_cursor-at-clause-answer c =
    subst (λ (seat : Pass). AnswersNext c.args.cursor c.args.seat.now.me.0 (Some c.load_next-next.result) seat.me.0) (sym c.stand.ensures.same)
    (given c.loop-cursor.invariant _ _ c.load_cursor-at.ensures.step _ _ c.load_next-next.ensures.step c.if-next-eq-QUEUE.false _ _ c.move_cursor.ensures.step c.if-move_cursor-at.true c.move_cursor.ensures.order)

pub returns-then-move_cursor-at-clause-given : goal.returns-then-move_cursor-at-clause-given
returns-then-move_cursor-at-clause-given c =
    ap (λ (seat : Pass). seat.me.0.done.given) c.stand.ensures.same ∙ gives_one _ _ _ _ (given c.loop-cursor.invariant _ _ c.load_cursor-at.ensures.step _ _ c.load_next-next.ensures.step c.if-next-eq-QUEUE.false _ _ c.move_cursor.ensures.step c.if-move_cursor-at.true c.move_cursor.ensures.order)

pub returns-then-move_cursor-at-clause-shared : goal.returns-then-move_cursor-at-clause-shared
returns-then-move_cursor-at-clause-shared c =
    let given = opened_with c.args.self.now in
    let last = c.stand.new.seat in
    shares_one given last.id last.me.0 c.args.cursor c.load_next-next.result c.args.seat.now.me.0 (returns-then-move_cursor-at-clause-answer c)
    (subst (λ (n : ℕ). c.args.cursor < n) (sym c.requires.seat.of.cursors) c.requires.cursor) c.stand.ensures.stands

pub loop-cursor-smaller : goal.loop-cursor-smaller
loop-cursor-smaller c =
    falls c.loop-cursor.invariant _ _ c.load_cursor-at.ensures.step _ _ c.load_next-next.ensures.step c.if-next-eq-QUEUE.false _ _ c.move_cursor.ensures.step c.if-move_cursor-at.false c.load_cursor-at.ensures.counts

pub loop-cursor-preserved : goal.loop-cursor-preserved
loop-cursor-preserved c =
    record { seated = c.requires.seat; few = c.requires.cursor; same = same_last c.loop-cursor.invariant _ _ c.load_cursor-at.ensures.step _ _ c.load_next-next.ensures.step c.if-next-eq-QUEUE.false _ _ c.move_cursor.ensures.step; late = later c.loop-cursor.invariant _ _ c.load_cursor-at.ensures.step _ _ c.load_next-next.ensures.step c.if-next-eq-QUEUE.false _ _ c.move_cursor.ensures.step c.if-move_cursor-at.false c.load_cursor-at.ensures.counts }
