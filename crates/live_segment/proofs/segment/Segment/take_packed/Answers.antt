use Rattle.std.proofs.Common.{rules, FitsSigned, w32, to_z, of_z, ℕ, ℤ, pos, List, [], ◌∷◌, ◌++◌, ◌-◌, length, slice_index, sym, ap, ◌∙◌, subst, arith}
use Rattle.std.proofs.lemmas.Int.{to_z-of_z}
use Rattle.live_segment.specs.Delta.Outcome.{HasTakenBuckets}
use Rattle.live_segment.specs.Known.{known_view}
use Rattle.segment_promises.proofs.Calls.SpecBuckets.{split}
use Rattle.live_segment.proofs.lemmas.Delta.OneDelta.{may_raise, within, took_some, took_no_more}
use Rattle.live_segment.proofs.segment.Segment.take_packed.Goals as goal

pub raise_single_mark-mark-requires-clause-may : goal.raise_single_mark-mark-requires-clause-may
raise_single_mark-mark-requires-clause-may c =
    may_raise c.args.self.now (known_view c.args.histogram.now) c.requires.takes.0 c.args.seat.now c.requires.takes.1 c.requires.takes.2 c.args.bucket c.args.units c.requires.takes.3

pub low-requires : goal.low-requires
low-requires c =
    let below = within c.args.self.now (known_view c.args.histogram.now) c.requires.takes.0 c.args.seat.now c.requires.takes.1 c.requires.takes.2 c.args.bucket c.args.units c.requires.takes.3 in
    let count = (split c.args.histogram.now.spec c.requires.right.lawful c.requires.takes.1.bucketed).count in
    let long = ap length c.requires.right.ranges in
    omega (arith, below, count, long)

pub returns-then-mark-units-clause-taken : goal.returns-then-mark-units-clause-taken
returns-then-mark-units-clause-taken c =
    let fits : FitsSigned w32 c.low.result = search rules in
    let key = to_z-of_z w32 c.low.result fits ∙ (c.low.ensures.value ∙ ap (λ (l : List ℕ). pos (slice_index l c.args.bucket)) c.requires.right.ranges) in
    subst (λ (l : List (ℤ × ℕ)). HasTakenBuckets (known_view c.args.histogram.now) l c.args.seat.now.me.0 c.raise_single_mark-mark.new.seat.me.0)
    (sym (c.push_reserved.ensures.items ∙ (ap (λ (l : List (ℤ × ℕ)). l ++ (to_z w32 (of_z w32 c.low.result), c.args.units - c.raise_single_mark-mark.result) ∷ []) c.requires.room.0
    ∙ ap (λ (k : ℤ). (k, c.args.units - c.raise_single_mark-mark.result) ∷ []) key)))
    (took_some c.args.self.now (known_view c.args.histogram.now) c.requires.takes.0 c.args.seat.now c.requires.takes.1 c.requires.takes.2 c.args.bucket c.args.units c.requires.takes.3 c.raise_single_mark-mark.result c.raise_single_mark-mark.new.seat c.raise_single_mark-mark.ensures c.if-mark-units.true)

pub returns-else-mark-units-clause-taken : goal.returns-else-mark-units-clause-taken
returns-else-mark-units-clause-taken c =
    subst (λ (l : List (ℤ × ℕ)). HasTakenBuckets (known_view c.args.histogram.now) l c.args.seat.now.me.0 c.raise_single_mark-mark.new.seat.me.0) (sym c.requires.room.0)
    (took_no_more c.args.self.now (known_view c.args.histogram.now) c.requires.takes.0 c.args.seat.now c.requires.takes.1 c.requires.takes.2 c.args.bucket c.args.units c.requires.takes.3 c.raise_single_mark-mark.result c.raise_single_mark-mark.new.seat c.raise_single_mark-mark.ensures c.if-mark-units.false)
