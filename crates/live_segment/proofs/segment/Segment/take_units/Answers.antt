use Rattle.std.proofs.Common.{ℕ, ℤ, List, [], Option, Some, ◌^◌, sym, subst, arith}
use Rattle.std.proofs.lemmas.Bool.{le-leb}
use Rattle.bucket_ranges.specs.Spec.{buckets_of}
use Rattle.segment_invariant.proofs.Packing.OffForms.{few_buckets}
use Rattle.live_segment.specs.Delta.Outcome.{HasTakenBuckets}
use Rattle.segment_machine.specs.Form.{SaysPacked}
use Rattle.live_segment.specs.Known.{known_view}
use Rattle.live_segment.proofs.lemmas.Delta.AllBuckets.{buckets_long}
use Rattle.live_segment.proofs.lemmas.Add.Attempts.{is_on}
use Rattle.live_segment.proofs.lemmas.Snapshot.BucketsSeen.{free_at}
use Rattle.live_segment.proofs.lemmas.Delta.OneBucket.{takes_then}
use Rattle.live_segment.proofs.lemmas.Delta.OneDelta.{loads_on, takes_at, took_nothing}
use Rattle.live_segment.proofs.segment.Segment.take_units.Goals as goal

pub packed_in-packed-requires : goal.packed_in-packed-requires
packed_in-packed-requires c =
    let most = few_buckets c.args.histogram.now.spec c.requires.right.lawful in
    let long = buckets_long c.args.histogram.now c.args.self.now.setting c.args.seat.now.me.0 c.requires.right c.requires.takes.bucketed _ c.len.ensures in
    record { few = omega (arith, most, long) }

pub take_buckets-requires-clause-takes : goal.take_buckets-requires-clause-takes
take_buckets-requires-clause-takes c =
    takes_at c.args.self.now (known_view c.args.histogram.now) c.args.word c.args.seat.now c.requires.takes (le-leb (2 ^ 63) c.args.word (let off = c.if-word-ge-DISABLED_BIT.true in omega (arith, off))) c.load_counts-counts.result c.load_counts-counts.new.seat c.load_counts-counts.ensures.step _ _ (subst (λ (n : ℕ). SaysPacked c.args.self.now.setting.version n c.args.word c.packed_in-packed.result.0 c.packed_in-packed.result.1) (buckets_long c.args.histogram.now c.args.self.now.setting c.args.seat.now.me.0 c.requires.right c.requires.takes.bucketed _ c.len.ensures) c.packed_in-packed.ensures.says)

pub returns-then-word-ge-DISABLED_BIT-clause-taken : goal.returns-then-word-ge-DISABLED_BIT-clause-taken
returns-then-word-ge-DISABLED_BIT-clause-taken c =
    let known = known_view c.args.histogram.now in
    let mid = c.load_counts-counts.new.seat.me.0 in
    let new = c.take_buckets.new.seat.me.0 in
    let stood = c.take_buckets.ensures.stands in
    let loads = loads_on c.args.self.now known c.args.word c.args.seat.now c.requires.takes (le-leb (2 ^ 63) c.args.word (let off = c.if-word-ge-DISABLED_BIT.true in omega (arith, off))) c.load_counts-counts.result c.load_counts-counts.new.seat c.load_counts-counts.ensures.step in record {
      on = takes_then c.args.seat.now.me.0 mid new [] c.take_buckets.new.taken.items loads c.take_buckets.ensures.on;
      free = free_at new (record { histogram = known.reference; single = Some stood.word; counts = c.load_counts-counts.result }) known stood.stands;
      took = c.take_buckets.ensures.took;
      units = c.take_buckets.ensures.units;
      few = c.take_buckets.ensures.few;
    }

pub returns-in_default-clause-taken : goal.returns-in_default-clause-taken
returns-in_default-clause-taken c =
    subst (λ (l : List (ℤ × ℕ)). HasTakenBuckets (known_view c.args.histogram.now) l c.args.seat.now.me.0 c.args.seat.now.me.0) (sym c.requires.room.0)
    (took_nothing c.args.self.now (known_view c.args.histogram.now) c.args.word c.args.seat.now c.requires.takes (is_on c.args.word (let on = c.if-word-ge-DISABLED_BIT.false in omega (arith, on))) c.packed_in-packed.result.1
    (subst (λ (p : Option ℕ). SaysPacked c.args.self.now.setting.version (buckets_of c.args.histogram.now.spec) c.args.word p c.packed_in-packed.result.1) c.in_default.is
    (subst (λ (n : ℕ). SaysPacked c.args.self.now.setting.version n c.args.word c.packed_in-packed.result.0 c.packed_in-packed.result.1) (buckets_long c.args.histogram.now c.args.self.now.setting c.args.seat.now.me.0 c.requires.right c.requires.takes.bucketed _ c.len.ensures) c.packed_in-packed.ensures.says)))
