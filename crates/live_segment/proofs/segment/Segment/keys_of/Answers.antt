use Rattle.std.proofs.Common.{true≢false, length, ap, sym, arith, ◌∙◌}
use Rattle.segment_machine.specs.Actor.{has_buckets}
use Rattle.segment_promises.proofs.Calls.SpecBuckets.{is_bucketed, split}
use Rattle.live_segment.proofs.segment.Segment.keys_of.Goals as goal

pub returns-else-len-eq0 : goal.returns-else-len-eq0
returns-else-len-eq0 c =
    let right = c.requires.right.2 in
    let bucketed = is_bucketed c.args.histogram.now.spec c.args.histogram.now.ranges right.ranges (λ none. c.if-len-eq0.false (c.len.ensures ∙ none)) in (
      λ has.
          let count = (split c.args.histogram.now.spec right.lawful has).count in
          let long = ap length right.ranges in
          let end = c.len-else-len-eq0.ensures in
          omega (arith, count, long, end),
      λ sparse. absurd (true≢false (sym bucketed ∙ ap has_buckets sparse)),
    )
