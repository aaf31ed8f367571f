use Rattle.std.proofs.Common.{ℕ, Some, subst, sym, ◌∙◌, arith}
use Rattle.segment_machine.specs.Actor.{bucket_key}
use Rattle.live_segment.specs.Delta.Outcome.{TakesOn, units_of_key}
use Rattle.live_segment.specs.Known.{known_view}
use Rattle.live_segment.proofs.lemmas.Delta.OneBucket.{stays_loaded, loads_on, packed_nothing, may_raise_single, took_packed, nothing_there, may_raise, took_other, stays_packed, raises_packed, stays_other, raises_other, is_packed, is_other}
use Rattle.live_segment.proofs.segment.Segment.take_bucket.Goals as goal

pub returns-then-total-eq0-clause-stands : goal.returns-then-total-eq0-clause-stands
returns-then-total-eq0-clause-stands c =
    stays_loaded c.requires.takes c.args.bucket c.requires.bucket c.load_count-count.ensures

pub returns-then-total-eq0-clause-took : goal.returns-then-total-eq0-clause-took
returns-then-total-eq0-clause-took c =
    packed_nothing c.requires.takes c.args.bucket c.requires.bucket c.load_count-count.ensures (is_packed c.args.mounted.now.packed c.args.bucket (sym c.eq.ensures ∙ c.if-eq.true)) c.if-total-eq0.true

pub returns-then-total-eq0-clause-on : goal.returns-then-total-eq0-clause-on
returns-then-total-eq0-clause-on c =
    loads_on c.requires.takes c.args.bucket c.requires.bucket c.load_count-count.ensures

pub raise_single_mark-requires-clause-may : goal.raise_single_mark-requires-clause-may
raise_single_mark-requires-clause-may c =
    may_raise_single c.requires.takes c.args.bucket c.requires.bucket c.load_count-count.ensures (is_packed c.args.mounted.now.packed c.args.bucket (sym c.eq.ensures ∙ c.if-eq.true)) c.if-total-eq0.false

pub returns-then-count-eq0-clause-stands : goal.returns-then-count-eq0-clause-stands
returns-then-count-eq0-clause-stands c =
    stays_loaded c.requires.takes c.args.bucket c.requires.bucket c.load_count-count.ensures

pub returns-then-count-eq0-clause-took : goal.returns-then-count-eq0-clause-took
returns-then-count-eq0-clause-took c =
    nothing_there c.requires.takes c.args.bucket c.requires.bucket c.load_count-count.ensures (is_other c.args.mounted.now.packed c.args.bucket (sym c.eq.ensures ∙ c.if-eq.false)) c.if-count-eq0.true

pub returns-then-count-eq0-clause-on : goal.returns-then-count-eq0-clause-on
returns-then-count-eq0-clause-on c =
    loads_on c.requires.takes c.args.bucket c.requires.bucket c.load_count-count.ensures

pub raise_mark-requires-clause-may : goal.raise_mark-requires-clause-may
raise_mark-requires-clause-may c =
    may_raise c.requires.takes c.args.bucket c.requires.bucket c.load_count-count.ensures (is_other c.args.mounted.now.packed c.args.bucket (sym c.eq.ensures ∙ c.if-eq.false)) _ (let long = c.requires.buckets in omega (arith, long)) c.if-count-eq0.false

pub returns-else-total-eq0-clause-stands : goal.returns-else-total-eq0-clause-stands
returns-else-total-eq0-clause-stands c =
    stays_packed c.requires.takes c.args.bucket c.requires.bucket c.load_count-count.ensures (is_packed c.args.mounted.now.packed c.args.bucket (sym c.eq.ensures ∙ c.if-eq.true)) c.raise_single_mark.ensures

pub returns-else-total-eq0-clause-took : goal.returns-else-total-eq0-clause-took
returns-else-total-eq0-clause-took c =
    took_packed c.requires.takes c.args.bucket c.requires.bucket c.load_count-count.ensures (is_packed c.args.mounted.now.packed c.args.bucket (sym c.eq.ensures ∙ c.if-eq.true)) c.raise_single_mark.ensures

pub returns-else-total-eq0-clause-on : goal.returns-else-total-eq0-clause-on
returns-else-total-eq0-clause-on c =
    subst (λ (n : ℕ). TakesOn (units_of_key (bucket_key (Some (known_view c.args.histogram.now)) c.args.bucket) n) c.args.seat.now.me.0 c.raise_single_mark.new.seat.me.0) (sym c.saturating_sub.ensures)
    (raises_packed c.requires.takes c.args.bucket c.requires.bucket c.load_count-count.ensures (is_packed c.args.mounted.now.packed c.args.bucket (sym c.eq.ensures ∙ c.if-eq.true)) c.raise_single_mark.ensures)

pub returns-else-count-eq0-clause-stands : goal.returns-else-count-eq0-clause-stands
returns-else-count-eq0-clause-stands c =
    stays_other c.requires.takes c.args.bucket c.requires.bucket c.load_count-count.ensures (is_other c.args.mounted.now.packed c.args.bucket (sym c.eq.ensures ∙ c.if-eq.false)) _ (let long = c.requires.buckets in omega (arith, long)) c.raise_mark.ensures

pub returns-else-count-eq0-clause-took : goal.returns-else-count-eq0-clause-took
returns-else-count-eq0-clause-took c =
    took_other c.requires.takes c.args.bucket c.requires.bucket c.load_count-count.ensures (is_other c.args.mounted.now.packed c.args.bucket (sym c.eq.ensures ∙ c.if-eq.false)) _ (let long = c.requires.buckets in omega (arith, long)) c.raise_mark.ensures

pub returns-else-count-eq0-clause-on : goal.returns-else-count-eq0-clause-on
returns-else-count-eq0-clause-on c =
    subst (λ (n : ℕ). TakesOn (units_of_key (bucket_key (Some (known_view c.args.histogram.now)) c.args.bucket) n) c.args.seat.now.me.0 c.raise_mark.new.seat.me.0) (sym c.saturating_sub-else-eq.ensures)
    (raises_other c.requires.takes c.args.bucket c.requires.bucket c.load_count-count.ensures (is_other c.args.mounted.now.packed c.args.bucket (sym c.eq.ensures ∙ c.if-eq.false)) _ (let long = c.requires.buckets in omega (arith, long)) c.raise_mark.ensures)
