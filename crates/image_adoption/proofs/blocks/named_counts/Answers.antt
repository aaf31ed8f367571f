-- A record lies in the words; one of a histogram has all its fields, and the counts that it names are a block.
use Rattle.std.proofs.Common.{arith}
use Rattle.image_reader.proofs.Headers.{block_in_words}
use Rattle.image_adoption.proofs.blocks.named_counts.Goals as goal

pub overflow_add-at : goal.overflow_add-at
overflow_add-at c =
    let lies = block_in_words c.args.words.now c.args.head.now c.args.at c.requires.header c.requires.names.block in
    omega arith

pub offset_bounds-words-at : goal.offset_bounds-words-at
offset_bounds-words-at c =
    let lies = block_in_words c.args.words.now c.args.head.now c.args.at c.requires.header c.requires.names.block in
    omega arith

pub bounds-words-at : goal.bounds-words-at
bounds-words-at c =
    let lies = block_in_words c.args.words.now c.args.head.now c.args.at c.requires.header c.requires.names.block in
    omega arith

pub bounds-words-at-2 : goal.bounds-words-at-2
bounds-words-at-2 c =
    let lies = block_in_words c.args.words.now c.args.head.now c.args.at c.requires.header c.requires.names.block in
    let long = c.requires.names.fields c.if-words-at-ne-TYPE_HISTOGRAM.false in
    omega (arith, lies, long)

pub returns-else-counts-eq0-clause-lawful : goal.returns-else-counts-eq0-clause-lawful
returns-else-counts-eq0-clause-lawful c = c.requires.names.counts c.if-words-at-ne-TYPE_HISTOGRAM.false c.if-counts-eq0.false
