use Rattle.std.proofs.Common.{rules, ◌≡◌, ℕ, ℤ, pos, get_or, take, List, subst, IfOk, w32, FitsSigned, to_z, of_z}
use Rattle.std.proofs.lemmas.Int.{to_z-of_z}
use Rattle.std.proofs.lemmas.List.{take_all}
use Rattle.std.proofs.lemmas.Result.{IfOk-weaker}
use Rattle.bucket_ranges.specs.Tally.{AreValueCounts}
use Rattle.bucket_ranges.proofs.Values.{value-bound, counts-more, value_counts-are}
use Rattle.bucket_ranges.proofs.samples.value_counts.Goals as goal

pub add_units-requires-clause-small : goal.add_units-requires-clause-small
add_units-requires-clause-small c =
    value-bound c.loop-value.counts c.args.samples.now c.loop-value.value-index (pos 0, 0) _ 4294967295
    c.loop-value-test.true c.requires c.loop-value.invariant.counted

-- One sample more.
pub loop-value-preserved : goal.loop-value-preserved
loop-value-preserved c =
    let sample : ℤ × ℕ = get_or c.args.samples.now c.loop-value.value-index (pos 0, 0) in
    let value : FitsSigned w32 sample.0 = search rules in
    record {
      counted = counts-more c.loop-value.counts c.add_units.new.counts c.args.samples.now c.loop-value.value-index (pos 0, 0)
          (to_z w32 (of_z w32 sample.0)) c.loop-value-test.true (to_z-of_z w32 sample.0 value) c.in_ok-add_units.ensures.added
          c.loop-value.invariant.counted;
      some = c.in_ok-add_units.ensures.some;
      ordered = c.in_ok-add_units.ensures.ordered;
    }

-- The map's entries are the counts of all samples.
pub returns : goal.returns
returns c =
    let all : IfOk c.collect.result (λ counts. counts.items ≡ c.loop-value.counts.entries) = search rules in
    let whole : take c.loop-value.value-index c.args.samples.now ≡ c.args.samples.now =
    take_all c.loop-value.value-index c.args.samples.now c.loop-value-test.false in
    let are = value_counts-are c.loop-value.counts (take c.loop-value.value-index c.args.samples.now)
    c.loop-value.invariant.ordered c.loop-value.invariant.counted c.loop-value.invariant.some in
    IfOk-weaker c.collect.result (λ counts. counts.items ≡ c.loop-value.counts.entries) _
    (λ counts e. rw e (subst (λ (samples : List (ℤ × ℕ)). AreValueCounts samples c.loop-value.counts.entries) whole are)) all
