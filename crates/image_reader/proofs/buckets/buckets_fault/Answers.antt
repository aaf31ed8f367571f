-- The checks of the buckets in their order: the first that fails gives the fault.
use Rattle.std.proofs.Common.{not, ◌||◌, ap, sym, ◌∙◌}
use Rattle.std.proofs.lemmas.Bool.{or_from, or_left, or_right}
use Rattle.segment_image.specs.Blocks.{field_at}
use Rattle.bucket_ranges.specs.Reading.{has_counts, has_large, totals_of, record_single, is_bad_single, is_bad_mark}
use Rattle.image_reader.proofs.BucketChecks.{large-found, single-found, mark-found, three-first, three-second, three-third, three-none}
use Rattle.image_reader.proofs.buckets.buckets_fault.Goals as goal
use Rattle.image_reader.proofs.buckets.buckets_fault.Goals.{then-not-has_counts-via-then-not-has_counts, then-not-has_counts-via-else-not-has_counts+then-has_large}

pub returns-then-not-has_counts : goal.returns-then-not-has_counts
returns-then-not-has_counts c =
    sym (three-first _ (is_bad_single (record_single c.args.head.now.version c.args.words.now c.args.at) (field_at c.args.words.now c.args.at 8))
    (is_bad_mark c.args.head.now.version c.args.words.now c.args.at)
    (elim c.then-not-has_counts.branch [
      | then-not-has_counts-via-then-not-has_counts w ↦ or_left _ _ (ap not (sym c.has_counts.ensures.value ∙ w.if-not-has_counts.true))
      | then-not-has_counts-via-else-not-has_counts+then-has_large w ↦
          or_right _ _ (sym (large-found c.args.head.now.version c.args.words.now c.args.at c.args.buckets.now c.requires.buckets)
          ∙ (sym w.has_large.ensures ∙ w.if-has_large.true))
    ]))

pub returns-then-is_bad_single : goal.returns-then-is_bad_single
returns-then-is_bad_single c =
    sym (three-second (not (has_counts c.args.words.now c.args.head.now c.args.at) || has_large (totals_of c.args.head.now.version c.args.words.now c.args.at))
    (is_bad_single (record_single c.args.head.now.version c.args.words.now c.args.at) (field_at c.args.words.now c.args.at 8))
    (is_bad_mark c.args.head.now.version c.args.words.now c.args.at)
    (or_from _ _ (ap not (sym c.has_counts.ensures.value ∙ c.if-not-has_counts.false))
    (sym (large-found c.args.head.now.version c.args.words.now c.args.at c.args.buckets.now c.requires.buckets) ∙ (sym c.has_large.ensures ∙ c.if-has_large.false)))
    (sym (single-found c.args.head.now.version c.args.words.now c.args.at c.args.buckets.now c.requires.buckets)
    ∙ (sym c.is_bad_single.ensures ∙ c.if-is_bad_single.true)))

pub returns-then-is_bad_mark : goal.returns-then-is_bad_mark
returns-then-is_bad_mark c =
    sym (three-third (not (has_counts c.args.words.now c.args.head.now c.args.at) || has_large (totals_of c.args.head.now.version c.args.words.now c.args.at))
    (is_bad_single (record_single c.args.head.now.version c.args.words.now c.args.at) (field_at c.args.words.now c.args.at 8))
    (is_bad_mark c.args.head.now.version c.args.words.now c.args.at)
    (or_from _ _ (ap not (sym c.has_counts.ensures.value ∙ c.if-not-has_counts.false))
    (sym (large-found c.args.head.now.version c.args.words.now c.args.at c.args.buckets.now c.requires.buckets) ∙ (sym c.has_large.ensures ∙ c.if-has_large.false)))
    (sym (single-found c.args.head.now.version c.args.words.now c.args.at c.args.buckets.now c.requires.buckets)
    ∙ (sym c.is_bad_single.ensures ∙ c.if-is_bad_single.false))
    (sym (mark-found c.args.head.now.version c.args.words.now c.args.at c.args.buckets.now c.requires.buckets)
    ∙ (sym c.is_bad_mark.ensures ∙ c.if-is_bad_mark.true)))

pub returns : goal.returns
returns c =
    sym (three-none (not (has_counts c.args.words.now c.args.head.now c.args.at) || has_large (totals_of c.args.head.now.version c.args.words.now c.args.at))
    (is_bad_single (record_single c.args.head.now.version c.args.words.now c.args.at) (field_at c.args.words.now c.args.at 8))
    (is_bad_mark c.args.head.now.version c.args.words.now c.args.at)
    (or_from _ _ (ap not (sym c.has_counts.ensures.value ∙ c.if-not-has_counts.false))
    (sym (large-found c.args.head.now.version c.args.words.now c.args.at c.args.buckets.now c.requires.buckets) ∙ (sym c.has_large.ensures ∙ c.if-has_large.false)))
    (sym (single-found c.args.head.now.version c.args.words.now c.args.at c.args.buckets.now c.requires.buckets)
    ∙ (sym c.is_bad_single.ensures ∙ c.if-is_bad_single.false))
    (sym (mark-found c.args.head.now.version c.args.words.now c.args.at c.args.buckets.now c.requires.buckets)
    ∙ (sym c.is_bad_mark.ensures ∙ c.if-is_bad_mark.false)))
