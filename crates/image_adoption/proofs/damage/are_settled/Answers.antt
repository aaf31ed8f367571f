-- Each record lies in the words; one of a histogram is settled, or the list is not.
use Rattle.std.proofs.Common.{ℕ, get_or, arith, refl, ap, subst, ◌∙◌, below_more}
use Rattle.std.proofs.lemmas.List.{get_or_default}
use Rattle.segment_image.specs.Blocks.{field_at}
use Rattle.image_reader.proofs.Headers.{block_in_words}
use Rattle.image_adoption.specs.Conditions.{IsSettled}
use Rattle.image_adoption.proofs.damage.are_settled.Goals as goal

pub overflow_add-at : goal.overflow_add-at
overflow_add-at c =
    let lies = block_in_words c.args.words.now c.args.head.now (get_or c.args.references.now c.loop-reference.reference-index 0) c.requires.header
    (c.requires.faultless c.loop-reference.reference-index 0 c.loop-reference-test.true).block in
    omega arith

pub offset_bounds-words-at : goal.offset_bounds-words-at
offset_bounds-words-at c =
    let lies = block_in_words c.args.words.now c.args.head.now (get_or c.args.references.now c.loop-reference.reference-index 0) c.requires.header
    (c.requires.faultless c.loop-reference.reference-index 0 c.loop-reference-test.true).block in
    omega arith

pub bounds-words-at : goal.bounds-words-at
bounds-words-at c =
    let lies = block_in_words c.args.words.now c.args.head.now (get_or c.args.references.now c.loop-reference.reference-index 0) c.requires.header
    (c.requires.faultless c.loop-reference.reference-index 0 c.loop-reference-test.true).block in
    omega arith

pub loop-reference-preserved-then-words-at-ne-TYPE_HISTOGRAM : goal.loop-reference-preserved-then-words-at-ne-TYPE_HISTOGRAM
loop-reference-preserved-then-words-at-ne-TYPE_HISTOGRAM c =
    below_more _ _ c.loop-reference.invariant (λ one. absurd (c.if-words-at-ne-TYPE_HISTOGRAM.true one))

pub is_settled-requires-clause-lawful : goal.is_settled-requires-clause-lawful
is_settled-requires-clause-lawful c =
    (c.requires.faultless c.loop-reference.reference-index 0 c.loop-reference-test.true).histogram c.if-words-at-ne-TYPE_HISTOGRAM.false

pub loop-reference-preserved : goal.loop-reference-preserved
loop-reference-preserved c = below_more _ _ c.loop-reference.invariant (λ one. c.is_settled.ensures.0 c.if-not-is_settled.false)

pub returns : goal.returns
returns c = (
  λ found at (k, below, is) one.
      let here = get_or_default c.args.references.now k 0 at below ∙ is in
      subst (IsSettled c.args.words.now) here
      (c.loop-reference.invariant k (omega (arith, below)) (ap (λ (at : ℕ). field_at c.args.words.now at 2) here ∙ one)),
  λ all. refl,
)
