use Rattle.std.proofs.Common.{rules, refl, sym, subst, ◌∙◌, ℕ, List}
use Rattle.bucket_ranges.specs.Ranges.{clamped, IsBucketOf}
use Rattle.segment_promises.proofs.Calls.SpecBuckets.{below, count_is, found_is, is_bucketed, key_is}
use Rattle.hist_core.proofs.add.Add.start.Goals as goal

pub returns : goal.returns
returns c =
    let known = c.args.known.now in
    let bucketed = is_bucketed known.spec known.ranges c.requires.ranges (λ none. c.if-len-eq0.false (c.len.ensures ∙ none)) in
    let found = subst (λ (l : List ℕ). IsBucketOf l (clamped c.args.value) c.bucket.result) c.requires.ranges
    (found_is known.ranges c.args.value c.bucket.result c.ranges.value c.bucket.ensures.found) in
    record {
      shaped = refl;
      versioned = refl;
      reference = refl;
      buckets = c.len-2.ensures ∙ count_is known.spec c.requires.lawful bucketed known.ranges c.requires.ranges;
      bucket = λ has. (
        below known.spec c.requires.lawful bucketed c.args.value c.bucket.result found,
        sym (key_is known.spec c.requires.lawful bucketed c.args.value c.bucket.result found),
      );
      counts = search rules;
      holds = refl;
      amounts = search rules;
      opens = bucketed;
    }
