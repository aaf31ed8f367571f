use Rattle.std.proofs.Common.{arith, sym, ◌∙◌, ap, ◌≤◌, ◌+◌, ◌*◌}
use Rattle.bucket_ranges.specs.Reading.{is_block}
use Rattle.std.proofs.lemmas.Bool.{leb-true, eq-eqb, ne_eqb}
use Rattle.image_reader.proofs.Headers.{block_extent, is_block-from_fault}
use Rattle.image_reader.proofs.BucketChecks.{has_counts-none, has_counts-found, of_type, of_other_type}
use Rattle.image_reader.proofs.buckets.has_counts.Goals as goal

pub returns-then-found-eq-TYPE_COUNTS-clause-room : goal.returns-then-found-eq-TYPE_COUNTS-clause-room
returns-then-found-eq-TYPE_COUNTS-clause-room c long some =
    let lies = block_extent c.args.words.now c.args.head.now c.args.buckets.now.counts c.in-Ok.found c.requires.header
    (sym c.block.ensures ∙ c.in-Ok.is) in
    let enough : 4 + 2 * c.args.buckets.now.number ≤ c.in-Ok.found.size = leb-true _ _ long in
    omega (arith, lies, enough)

pub returns-in-Err-clause-value : goal.returns-in-Err-clause-value
returns-in-Err-clause-value c =
    sym (has_counts-none c.args.words.now c.args.head.now c.args.at
    (λ none. c.if-buckets-eq0.false (c.requires.buckets.counts ∙ none))
    (ap (is_block c.args.words.now c.args.head.now) (sym c.requires.buckets.counts)
    ∙ is_block-from_fault c.args.words.now c.args.head.now c.args.buckets.now.counts c.in-Err.field-0 (sym c.block.ensures ∙ c.in-Err.is)))

-- if there is a block, its type and its size are looked at
pub returns-then-found-eq-TYPE_COUNTS-clause-value : goal.returns-then-found-eq-TYPE_COUNTS-clause-value
returns-then-found-eq-TYPE_COUNTS-clause-value c =
    sym (has_counts-found c.args.words.now c.args.head.now c.args.at c.args.buckets.now.counts c.args.buckets.now.number c.in-Ok.found
    c.requires.buckets.counts c.requires.buckets.number c.if-buckets-eq0.false (sym c.block.ensures ∙ c.in-Ok.is)
    ∙ of_type _ _ (eq-eqb _ 2 c.if-found-eq-TYPE_COUNTS.true))

pub returns-else-found-eq-TYPE_COUNTS-clause-value : goal.returns-else-found-eq-TYPE_COUNTS-clause-value
returns-else-found-eq-TYPE_COUNTS-clause-value c =
    sym (has_counts-found c.args.words.now c.args.head.now c.args.at c.args.buckets.now.counts c.args.buckets.now.number c.in-Ok.found
    c.requires.buckets.counts c.requires.buckets.number c.if-buckets-eq0.false (sym c.block.ensures ∙ c.in-Ok.is)
    ∙ of_other_type _ _ (ne_eqb _ 2 c.if-found-eq-TYPE_COUNTS.false))
