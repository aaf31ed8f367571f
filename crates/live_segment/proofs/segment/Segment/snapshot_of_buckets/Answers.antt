use Rattle.std.proofs.Common.{◌≡◌, ℕ, ℤ, List, length, sym, ap, ◌∙◌, subst, arith}
use Rattle.std.specs.List.{All}
use Rattle.std.proofs.lemmas.List.{with_items_is}
use Rattle.bucket_ranges.specs.Spec.{buckets_of}
use Rattle.segment_invariant.proofs.Packing.OffForms.{few_buckets}
use Rattle.live_segment.specs.Known.{known_view}
use Rattle.live_segment.specs.Snapshot.Outcome.{HasLookedAtAll}
use Rattle.segment_promises.proofs.Calls.BlankTotals.{keys_of_buckets, no_units}
use Rattle.live_segment.proofs.lemmas.Delta.FewKeys.{few_of_snapshot}
use Rattle.live_segment.proofs.lemmas.Snapshot.Answering.{has_seen_buckets}
use Rattle.live_segment.proofs.segment.Segment.snapshot_of_buckets.Goals as goal

pub look_at_buckets-requires-clause-buckets : goal.look_at_buckets-requires-clause-buckets
look_at_buckets-requires-clause-buckets c =
    let right = c.requires.ready.right in
    let known = known_view c.args.histogram.now in
    let long : length c.as_mut_slice.result.now ≡ buckets_of known.spec =
    ap length (c.as_mut_slice.ensures.value ∙ c.requires.blank) ∙ (keys_of_buckets known c.args.histogram.now.ranges right.lawful c.requires.bucketed right.ranges).1 in
    let few = few_buckets known.spec right.lawful in
    (long, omega (arith, long, few))

pub look_at_buckets-requires-clause-blank : goal.look_at_buckets-requires-clause-blank
look_at_buckets-requires-clause-blank c =
    subst (λ (l : List (ℤ × ℕ)). All (λ total. total.1 ≡ 0) l) (sym (c.as_mut_slice.ensures.value ∙ c.requires.blank)) (no_units c.args.histogram.now.ranges)

pub finish_snapshot-requires-clause-saw : goal.finish_snapshot-requires-clause-saw
finish_snapshot-requires-clause-saw c =
    let known = known_view c.args.histogram.now in
    let all = subst (λ (l : List (ℤ × ℕ)). HasLookedAtAll known c.args.seat.now.me.0 l c.look_at_buckets.new.seat.me.0)
    (sym (with_items_is c.args.totals c.look_at_buckets.new.totals (c.look_at_buckets.auto.totals ∙ c.as_mut_slice.ensures.len)))
    (has_seen_buckets c.requires.ready.right c.requires.bucketed (c.as_mut_slice.ensures.value ∙ c.requires.blank) c.look_at_buckets.ensures.keys c.look_at_buckets.ensures.saw) in
    (c.args.seat.now.me.0, c.requires.ready.rests, c.requires.ready.right.alone, all)

pub returns-clause-answer : goal.returns-clause-answer
returns-clause-answer c =
    let known = known_view c.args.histogram.now in
    let all = subst (λ (l : List (ℤ × ℕ)). HasLookedAtAll known c.args.seat.now.me.0 l c.look_at_buckets.new.seat.me.0)
    (sym (with_items_is c.args.totals c.look_at_buckets.new.totals (c.look_at_buckets.auto.totals ∙ c.as_mut_slice.ensures.len)))
    (has_seen_buckets c.requires.ready.right c.requires.bucketed (c.as_mut_slice.ensures.value ∙ c.requires.blank) c.look_at_buckets.ensures.keys c.look_at_buckets.ensures.saw) in
    c.finish_snapshot.ensures.answer c.args.seat.now.me.0 c.requires.ready.right.alone all

pub returns-clause-few : goal.returns-clause-few
returns-clause-few c =
    let known = known_view c.args.histogram.now in
    let all = subst (λ (l : List (ℤ × ℕ)). HasLookedAtAll known c.args.seat.now.me.0 l c.look_at_buckets.new.seat.me.0)
    (sym (with_items_is c.args.totals c.look_at_buckets.new.totals (c.look_at_buckets.auto.totals ∙ c.as_mut_slice.ensures.len)))
    (has_seen_buckets c.requires.ready.right c.requires.bucketed (c.as_mut_slice.ensures.value ∙ c.requires.blank) c.look_at_buckets.ensures.keys c.look_at_buckets.ensures.saw) in
    few_of_snapshot c.args.self.now known c.args.seat.now.me.0 c.finish_snapshot.result c.finish_snapshot.new.seat.me.0 c.requires.bucketed
    (c.finish_snapshot.ensures.answer c.args.seat.now.me.0 c.requires.ready.right.alone all)
